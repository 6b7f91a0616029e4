-- How reads of a disk follow one another.
use Rattle.std.proofs.Common.{◌≡◌, ℕ, ◌<◌, ◌≤◌, inl, inr, refl, sym, ◌∙◌, arith}
use Rattle.std.proofs.lemmas.Bool.{cases_lt}
use Rattle.edge_devices.specs.Disks.{DiskState, medium, Reads}

-- none at all
pub no-reads : (disk : DiskState) → Reads disk disk
no-reads disk = record {
  time = record { told = refl; later = omega arith; past = λ t low. refl; since = λ t high low. absurd (omega (arith, high, low)) };
  same = refl;
  calls = refl;
}

-- one after another
pub reads-then : (old mid new : DiskState) → Reads old mid → Reads mid new → Reads old new
reads-then old mid new first second = record {
  time = record {
    told = second.time.told ∙ first.time.told;
    later = omega (arith, first.time.later, second.time.later);
    past = λ t low. second.time.past t (omega (arith, low, first.time.later)) ∙ first.time.past t low;
    since = since;
  };
  same = second.same ∙ first.same;
  calls = second.calls ∙ first.calls;
}
  where
    since : (t : ℕ) → old.moment < t → t ≤ new.moment → new.history t ≡ medium new
    since t high low = elim (cases_lt mid.moment t) [
      | inl later ↦ second.time.since t later low
      | inr within ↦ second.time.past t within ∙ first.time.since t high within ∙ sym second.same
    ]
