-- Bytes that come by several calls of the source.
use Rattle.std.proofs.Common.{◌≡◌, ℕ, ◌+◌, ◌*◌, ◌≤◌, ◌<◌, List, [], ◌++◌, length, Option, None, Some, refl, sym, ap, ◌∙◌, append_assoc, append-nil, arith}
use Rattle.std.specs.Io.KnownBytes.{Consumes, IsAtEnd, Keeps}
use Rattle.std.proofs.KnownBytes.{Consumes-kept, Consumes-trans}
use Rattle.std.proofs.lemmas.List.{length-append}
use Rattle.command_streams.specs.declared.TheConstants.{MESSAGE_LIMIT}
use Rattle.command_streams.specs.declared.held.Supply.TheVariants.{More, End, Spent as BudgetSpent}
use Rattle.command_streams.specs.Held.{HeldState, taken_of}
use Rattle.command_streams.specs.Supplies.{Fills, HoldsFew, IsBlockful, TakesMore, TakesNone, TakesWithin}

-- so much came
pub record IsFilling (budget : ℕ) (old new : HeldState) (left left' : Option (List ℕ)) : Type 0 where
  pub count : ℕ
  pub takes : TakesMore old new left left' count
  pub few : IsBlockful count
  pub within : taken_of new ≤ budget

consumes_nothing : (left : Option (List ℕ)) → Consumes left left []
consumes_nothing None = tt
consumes_nothing (Some bytes) = refl

pub IsFilling-start : (budget : ℕ) (held : HeldState) (left : Option (List ℕ)) → taken_of held ≤ budget → IsFilling budget held held left left
IsFilling-start budget held left within = record {
  count = 0;
  takes = ([], refl, refl, sym (append-nil held.bytes), consumes_nothing left);
  few = omega arith;
  within = within;
}

-- more came
pub TakesMore-trans : (a b c : HeldState) (left mid last : Option (List ℕ)) (m n : ℕ) → TakesMore a b left mid m → TakesMore b c mid last n → TakesMore a c left last (m + n)
TakesMore-trans a b c left mid last m n p q = (
  p.0 ++ q.0,
  omega (arith, p.1, q.1, length-append p.0 q.0),
  q.2 ∙ p.2,
  q.3 ∙ ap (λ (t : List ℕ). t ++ q.0) p.3 ∙ append_assoc a.bytes p.0 q.0,
  Consumes-trans left mid last p.0 q.0 p.4 q.4,
)

-- what came is a block at most, and within the budget, also where a call gave nothing more
pub IsFilling-within : (budget : ℕ) (old new : HeldState) (left left' last : Option (List ℕ)) → IsFilling budget old new left left' → Keeps left' last → TakesWithin budget old left last
IsFilling-within budget old new left left' last so_far kept =
    let t = so_far.takes in
    (t.0, omega (arith, so_far.few, t.1), omega (arith, so_far.within, t.2, ap length t.3, length-append old.bytes t.0), Consumes-kept left left' last t.0 t.4 kept)

pub IsFilling-more : (budget n : ℕ) (old held new : HeldState) (left mid last : Option (List ℕ)) → IsFilling budget old held left mid → TakesMore held new mid last n → HoldsFew (4 * (4 + MESSAGE_LIMIT)) new → taken_of new ≤ budget
    → IsFilling budget old new left last
IsFilling-more budget n old held new left mid last so_far takes holds within =
    let all = TakesMore-trans old held new left mid last so_far.count n so_far.takes takes in
    record {
      count = so_far.count + n;
      takes = all;
      few = omega (arith, holds, all.1, ap length all.3, length-append old.bytes all.0);
      within = within;
    }

pub IsFilling-full : (budget : ℕ) (old held : HeldState) (left last : Option (List ℕ)) → IsFilling budget old held left last → 4 * (4 + MESSAGE_LIMIT) ≤ length held.bytes → Fills budget old held left last More
IsFilling-full budget old held left last so_far full = record {
  count = so_far.count;
  last = last;
  takes = so_far.takes;
  few = so_far.few;
  within = so_far.within;
  by = (refl, full);
}

same_takes : (old held new : HeldState) (left mid : Option (List ℕ)) (n : ℕ) → TakesMore old held left mid n → TakesNone held new → TakesMore old new left mid n
same_takes old held new left mid n takes none = (takes.0, takes.1, none.0 ∙ takes.2, none.1 ∙ takes.3, takes.4)

same_taken : (held new : HeldState) → TakesNone held new → taken_of new ≡ taken_of held
same_taken held new none = omega (arith, none.0, ap length none.1)

pub IsFilling-ended : (budget : ℕ) (old held new : HeldState) (left mid left' : Option (List ℕ)) → IsFilling budget old held left mid → TakesNone held new → IsAtEnd mid → taken_of held < budget
    → Fills budget old new left left' End
IsFilling-ended budget old held new left mid left' so_far none ended short = record {
  count = so_far.count;
  last = mid;
  takes = same_takes old held new left mid so_far.count so_far.takes none;
  few = so_far.few;
  within = omega (arith, same_taken held new none, short);
  by = (ended, omega (arith, same_taken held new none, short));
}

pub IsFilling-spent : (budget : ℕ) (old held new : HeldState) (left mid left' : Option (List ℕ)) → IsFilling budget old held left mid → TakesNone held new → taken_of held ≡ budget
    → Fills budget old new left left' BudgetSpent
IsFilling-spent budget old held new left mid left' so_far none spent = record {
  count = so_far.count;
  last = mid;
  takes = same_takes old held new left mid so_far.count so_far.takes none;
  few = so_far.few;
  within = omega (arith, same_taken held new none, spent);
  by = same_taken held new none ∙ spent;
}
