-- Loads, saves and crashes that leave no damaged image.
use Rattle.std.proofs.Common.{◌≡◌, ℕ, IsTrue, sym, ◌∙◌, ap, subst, refl, arith, List, Bool, true, false, Result, Err}
use Rattle.std.specs.Prelude.{IsErrOf}
use Rattle.std.proofs.lemmas.Bool.{true≢false}
use Rattle.agent_store.specs.Codecs.{Codec}
use Rattle.agent_store.specs.declared.fail.StoreFail.{StoreFail}
use Rattle.agent_store.specs.declared.fail.StoreFail.TheVariants.{DiskFault}
use Rattle.edge_devices.specs.Disks.{DiskState, medium, disk_bytes, MayLeave, IsSettled, LeftSince, Elapses}
use Rattle.edge_devices.proofs.DiskMoments.{starts, goes_on, weaker, step}
use Rattle.agent_store.specs.declared.slots.Layout.{Layout}
use Rattle.agent_store.specs.Slots.{chosen, reading, Nothing, Damaged, NotDamaged, IsFormerOrNext}
use Rattle.agent_store.specs.Store.{StoreState, Fits}
use Rattle.agent_store.specs.Runs.{IsUndamaged}
use Rattle.agent_store.proofs.Saving.{whole, run-whole}

-- what a run has left is undamaged at its end
pub at-end : (codec : Codec) (layout : Layout) (old new : DiskState) → LeftSince old new (NotDamaged codec layout) → IsUndamaged codec layout new
at-end codec layout old new run = λ image left. run.each new.moment image run.later (omega arith) left

pub load-never : (codec : Codec) (layout : Layout) (old new : DiskState) → IsUndamaged codec layout old → LeftSince old new (MayLeave (medium old)) → LeftSince old new (NotDamaged codec layout)
load-never codec layout old new before run = weaker old new (NotDamaged codec layout) (MayLeave (medium old)) run before

-- a store that fits has an undamaged disk
pub fits-never : (codec : Codec) (layout : Layout) (disk : DiskState) (store : StoreState) → store.layout ≡ layout → Fits codec disk store → IsTrue disk.told → LeftSince disk disk (NotDamaged codec layout)
fits-never codec layout disk store is fits told = starts disk (NotDamaged codec layout) fits.settled (subst (λ (l : Layout). NotDamaged codec l (disk_bytes disk)) is (whole codec store (disk_bytes disk) (fits.contents told)))

pub save-never : (codec : Codec) (layout : Layout) (old mid new : DiskState) (store : StoreState) (next : List ℕ) → store.layout ≡ layout → Fits codec mid store → IsTrue mid.told → LeftSince old mid (NotDamaged codec layout)
    → LeftSince mid new (IsFormerOrNext codec store.layout (disk_bytes mid) next) → LeftSince old new (NotDamaged codec layout)
save-never codec layout old mid new store next is fits told before run =
    let after : LeftSince mid new (NotDamaged codec layout) = subst (λ (l : Layout). LeftSince mid new (NotDamaged codec l)) is (run-whole codec store.layout mid new next (whole codec store (disk_bytes mid) (fits.contents told)) run) in
    goes_on old mid new (NotDamaged codec layout) (NotDamaged codec layout) before after (λ image is_whole. is_whole)

pub crash-never : (codec : Codec) (layout : Layout) (old mid new : DiskState) → LeftSince old mid (NotDamaged codec layout) → Elapses mid new → IsSettled (medium new) → MayLeave (medium mid) (disk_bytes new) → LeftSince old new (NotDamaged codec layout)
crash-never codec layout old mid new before time settled left =
    let P = NotDamaged codec layout in
    let whole_before : IsUndamaged codec layout mid = at-end codec layout old mid before in
    goes_on old mid new P P before (step mid new P time whole_before (λ image is.
    let same : disk_bytes new ≡ image = λ i k. sym (is k (settled k)) i in subst P same (whole_before (disk_bytes new) left))) (λ image is_whole. is_whole)

-- a disk never written
pub reading-blank : (codec : Codec) (layout : Layout) → reading codec layout (λ p. 0) ≡ Nothing
unfolding reading chosen
reading-blank codec layout = refl

pub new-never : (codec : Codec) (layout : Layout) (image : ℕ → ℕ) → ((place : ℕ) → image place ≡ 0) → reading codec layout image ≡ Nothing
new-never codec layout image blank =
    let same : image ≡ (λ p. 0) = λ i p. blank p i in
    ap (reading codec layout) same ∙ reading-blank codec layout

nothing-bad : (slot : ℕ) → Nothing ≡ Damaged slot → ⊥
nothing-bad slot clash = cc

pub new-undamaged : (codec : Codec) (layout : Layout) (disk : DiskState) → IsSettled (medium disk) → ((place : ℕ) → disk_bytes disk place ≡ 0) → IsUndamaged codec layout disk
new-undamaged codec layout disk settled blank = λ image left slot bad.
    nothing-bad slot (sym (new-never codec layout image (λ p. left p (settled p) ∙ blank p)) ∙ bad)

-- a store that isn't broken had no fault
pub broken-not : (result : Result Unit StoreFail) (broken : Bool) → broken ≡ false → (IsErrOf result DiskFault → broken ≡ true) → result ≡ Err DiskFault → ⊥
broken-not result broken intact fault is = true≢false (sym (fault is) ∙ intact)
