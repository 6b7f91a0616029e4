-- How runs of calls follow one another.
use Rattle.std.proofs.Common.{◌≡◌, ℕ, ◌<◌, ◌≤◌, ⊎_elim, sym, ◌∙◌, subst, refl, arith}
use Rattle.std.proofs.Common.{Result, Ok, Err, false}
use Rattle.std.specs.Prelude.{OnOk, is_err}
use Rattle.std.proofs.lemmas.Bool.{cases_lt, true≢false}
use Rattle.edge_devices.specs.Disks.{Medium, DiskState, medium, disk_bytes, MayLeave, IsSettled, IsTorn, IsClosing, LeftSince, Elapses, Reads, StaysSettled}

-- before the first call, over a disk with nothing pending
pub starts : (disk : DiskState) (P : (ℕ → ℕ) → Type 0) → IsSettled (medium disk) → P (disk_bytes disk) → LeftSince disk disk P
starts disk P settled here = record {
  told = refl;
  later = omega arith;
  past = λ t le. refl;
  each = λ t image from to left.
      let now : t ≡ disk.moment = omega arith in
      let is : MayLeave (medium disk) image = subst (λ (k : ℕ). MayLeave (disk.history k) image) now left in
      let same : disk_bytes disk ≡ image = λ i k. sym (is k (settled k)) i in
      subst P same here;
}

-- one run after another
pub goes_on : (old mid new : DiskState) (P Q : (ℕ → ℕ) → Type 0) → LeftSince old mid P → LeftSince mid new Q → ((image : ℕ → ℕ) → Q image → P image) → LeftSince old new P
goes_on old mid new P Q first second weaker = record {
  told = second.told ∙ first.told;
  later = omega (arith, first.later, second.later);
  past = λ t le. second.past t (omega (arith, first.later, le)) ∙ first.past t le;
  each = λ t image from to left. ⊎_elim
      (λ (before : t < mid.moment). first.each t image from (omega arith) (subst (λ (m : Medium). MayLeave m image) (second.past t (omega arith)) left))
      (λ (after : mid.moment ≤ t). weaker image (second.each t image after to left))
      (cases_lt t mid.moment);
}

pub weaker : (old new : DiskState) (P Q : (ℕ → ℕ) → Type 0) → LeftSince old new Q → ((image : ℕ → ℕ) → Q image → P image) → LeftSince old new P
weaker old new P Q run below = record { told = run.told; later = run.later; past = run.past; each = λ t image from to left. below image (run.each t image from to left) }

-- images that are torn at one place are closing where the gate was open
pub torn-closing : (at : ℕ) (f g : ℕ → ℕ) → f at ≡ 1 → IsTorn at 1 f g → IsClosing at f g
torn-closing at f g open_before torn = record { elsewhere = torn; gate = λ _. open_before }

pub ok_part : {T E : Type 0} (r : Result T E) (P : Type 0) → is_err r ≡ false → OnOk r P → P
ok_part (Ok x) P fine here = here
ok_part (Err e) P fine here = absurd (true≢false fine)

-- one call
pub step : (old new : DiskState) (P : (ℕ → ℕ) → Type 0) → Elapses old new → ((image : ℕ → ℕ) → MayLeave (medium old) image → P image) → ((image : ℕ → ℕ) → MayLeave (medium new) image → P image) → LeftSince old new P
step old new P time before after = record {
  told = time.told;
  later = time.later;
  past = time.past;
  each = λ t image from to left. ⊎_elim
      (λ (goes : old.moment < t). after image (subst (λ (m : Medium). MayLeave m image) (time.since t goes to) left))
      (λ (still : t ≤ old.moment). let now : t ≡ old.moment = omega arith in
      before image (subst (λ (k : ℕ). MayLeave (old.history k) image) now (subst (λ (m : Medium). MayLeave m image) (time.past t still) left)))
      (cases_lt old.moment t);
}

-- a call that changes nothing
pub step-reads : (old new : DiskState) (P : (ℕ → ℕ) → Type 0) → Reads old new → ((image : ℕ → ℕ) → MayLeave (medium old) image → P image) → LeftSince old new P
step-reads old new P reads before = step old new P reads.time before (λ image left. before image (subst (λ (m : Medium). MayLeave m image) reads.same left))

-- a sync allows no new image
pub sync-images : (old new : DiskState) → disk_bytes new ≡ disk_bytes old → StaysSettled (medium old) (medium new) → (image : ℕ → ℕ) → MayLeave (medium new) image → MayLeave (medium old) image
sync-images old new same kept image left = λ place settled. left place (kept place settled) ∙ (λ i. same i place)
