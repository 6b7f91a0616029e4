-- What a save leaves is what a keeper promises.
use Rattle.std.proofs.Common.{◌≡◌, ◌⊎◌, ◌<◌, ◌^◌, ℕ, length, inl, inr, refl, sym, ◌∙◌, ap, subst, arith}
use Rattle.edge_devices.specs.Disks.{DiskState, IsSettled, LeftSince, MayLeave, disk_bytes, medium}
use Rattle.agent_store.specs.Codecs.{IsRight}
use Rattle.agent_store.specs.declared.slots.Layout.{Layout}
use Rattle.agent_store.specs.Slots.{Holds, IsFormerOrNext, reading}
use Rattle.store_tests.specs.Keeping.{HoldsPart, IsLeft, Meaning, large}
use Rattle.store_tests.specs.Holding.{IsTold}

-- the moments before a call and behind it are among those of it
pub left_first : {Q : (ℕ → ℕ) → Type 0} (old new : DiskState) → LeftSince old new Q → IsLeft old new (disk_bytes old)
left_first old new since = record {
  at = old.moment;
  from = omega arith;
  to = since.later;
  left = subst (λ m. MayLeave m (disk_bytes old)) (sym (since.past old.moment (omega arith))) (λ place none. refl);
}

pub left_last : {Q : (ℕ → ℕ) → Type 0} (old new : DiskState) → LeftSince old new Q → IsLeft old new (disk_bytes new)
left_last old new since = record { at = new.moment; from = since.later; to = omega arith; left = λ place none. refl }

-- of a disk of which nothing is pending a crash leaves what it has
still_left : (disk : DiskState) → IsSettled (medium disk) → (image : ℕ → ℕ) → IsLeft disk disk image → image ≡ disk_bytes disk
still_left disk settled image l =
    let same : l.at ≡ disk.moment = omega (arith, l.from, l.to) in
    let may : MayLeave (medium disk) image = subst (λ (t : ℕ). MayLeave (disk.history t) image) same l.left in
    λ i place. may place (settled place) i

module _ {P : Type 0} (right typed : P → Type 0) (meaning : Meaning P) where
  -- a disk that reads as the other holds what the other does
  holds_as : (old new : DiskState) (part : P) → reading meaning.codec large (disk_bytes new) ≡ reading meaning.codec large (disk_bytes old)
      → HoldsPart right typed meaning old part → HoldsPart right typed meaning new part
  holds_as old new part same p = record { right = p.right; typed = p.typed; short = p.short; itself = p.itself; stands = same ∙ p.stands }

  pub holds_still : (old left : DiskState) (part other : P) → IsSettled (medium old) → HoldsPart right typed meaning old part → (new : DiskState) → new ≡ old
      → IsLeft old new (disk_bytes left) → HoldsPart right typed meaning left part ⊎ HoldsPart right typed meaning left other
  holds_still old left part other settled p new same l =
      inl (holds_as old left part (ap (reading meaning.codec large) (still_left old settled (disk_bytes left) (subst (λ n. IsLeft old n (disk_bytes left)) same l))) p)

  module _ (old new : DiskState) (layout : Layout) (is : layout ≡ large) (former value : P)
      (since : LeftSince old new (IsFormerOrNext meaning.codec layout (disk_bytes old) (meaning.canonical value)))
      (p : HoldsPart right typed meaning old former) (r : right value) (t : typed value) (s : length (meaning.canonical value) < 2 ^ 62)
      (i : IsRight meaning.codec (meaning.canonical value)) where
    one_of : (left : DiskState) → IsFormerOrNext meaning.codec large (disk_bytes old) (meaning.canonical value) (disk_bytes left)
        → HoldsPart right typed meaning left former ⊎ HoldsPart right typed meaning left value
    one_of left (inl same) = inl (holds_as old left former same p)
    one_of left (inr stands) = inr (record { right = r; typed = t; short = s; itself = i; stands = stands })

    pub holds_one_of : (left : DiskState) → IsLeft old new (disk_bytes left) → HoldsPart right typed meaning left former ⊎ HoldsPart right typed meaning left value
    holds_one_of left l =
        one_of left (subst (λ (at : Layout). IsFormerOrNext meaning.codec at (disk_bytes old) (meaning.canonical value) (disk_bytes left)) is (since.each l.at (disk_bytes left) l.from l.to l.left))

  -- what a load gives is the part that is held
  pub found_is : IsTold right typed meaning → (disk : DiskState) (found part : P) → right found → typed found
      → reading meaning.codec large (disk_bytes disk) ≡ Holds (meaning.canonical found) → HoldsPart right typed meaning disk part → found ≡ part
  found_is one disk found part r t reads p =
      let e : Holds (meaning.canonical part) ≡ Holds (meaning.canonical found) = sym p.stands ∙ reads in
      let same : meaning.canonical part ≡ meaning.canonical found = cc in
      sym (one part found p.right p.typed r t p.short p.itself same)

  pub found_is_one : IsTold right typed meaning → (disk : DiskState) (found former tried : P) → right found → typed found
      → reading meaning.codec large (disk_bytes disk) ≡ Holds (meaning.canonical found)
      → HoldsPart right typed meaning disk former ⊎ HoldsPart right typed meaning disk tried → (found ≡ former) ⊎ (found ≡ tried)
  found_is_one one disk found former tried r t reads (inl p) = inl (found_is one disk found former r t reads p)
  found_is_one one disk found former tried r t reads (inr p) = inr (found_is one disk found tried r t reads p)
