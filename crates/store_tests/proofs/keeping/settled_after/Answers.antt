use Rattle.std.proofs.Common.{◌≡◌, ◌⊎◌, IsTrue, inl, inr, sym, ◌∙◌, ap, arith}
use Rattle.edge_devices.specs.Disks.{disk_bytes}
use Rattle.edge_devices.specs.MemoryDisks.{memory_disk}
use Rattle.agent_offers.specs.Offers.{Offer}
use Rattle.agent_rules.specs.declared.saved.Saved.{Saved}
use Rattle.agent_rules.specs.Codec.{codec}
use Rattle.agent_rules.specs.Laws.{one_value}
use Rattle.agent_rules.specs.Payloads.{FitsTypes, canonical_saved}
use Rattle.agent_rules.specs.Right.{is_right}
use Rattle.store_tests.specs.Keeping.{IsLeft}
use Rattle.store_tests.proofs.KeepingLemmas.{found_is_one}
use Rattle.store_tests.proofs.keeping.settled_after.Given.{Over}
use Rattle.store_tests.proofs.keeping.settled_after.Goals as goal
use Rattle.store_tests.proofs.keeping.settled_after.Goals.{After-read_again-found}

-- what was found is the former part or the tried one
stands : (g : Over) (c : After-read_again-found g) → (c.read_again-found.result ≡ c.args.trying.former) ⊎ (c.read_again-found.result ≡ c.args.trying.tried)
stands g c =
    let last = c.in-Err-Broken.ensures.at_last in
    let left : IsLeft (memory_disk c.args.disk.now) (memory_disk c.commit.new.device) (disk_bytes (memory_disk c.crash.new.self)) = record {
      at = (memory_disk c.commit.new.device).moment;
      from = omega (arith, last.from, last.to);
      to = omega arith;
      left = c.crash.ensures.image;
    } in
    found_is_one (λ (s : Saved). IsTrue (is_right s)) FitsTypes (record { codec = codec; canonical = canonical_saved }) one_value (memory_disk c.crash.new.self)
    c.read_again-found.result c.args.trying.former c.args.trying.tried c.read_again-found.ensures.right c.read_again-found.ensures.typed
    c.read_again-found.ensures.found (c.in-Err-Broken.ensures.any_moment c.crash.new.self left)

pub reopen-requires : goal.reopen-requires
reopen-requires g c =
    let same : c.in-Err-Broken.broken ≡ c.args.trying = rw c.in-Err-Broken.field-0-is at c.in-Err-Broken.ensures.offer in
    elim (stands g (goal.at.reopen-requires g c).After-read_again-found) [
      | inl former ↦ inl (former ∙ ap (λ (o : Offer Saved). o.former) (sym same))
      | inr tried ↦ inr (tried ∙ ap (λ (o : Offer Saved). o.tried) (sym same))
    ]

pub returns-in-Err-Broken : goal.returns-in-Err-Broken
returns-in-Err-Broken g c = record {
  one_of = elim (stands g (goal.at.returns-in-Err-Broken g c).After-read_again-found) [
    | inl former ↦ inl (c.reopen.ensures.active ∙ former)
    | inr tried ↦ inr (c.reopen.ensures.active ∙ tried)
  ];
}
