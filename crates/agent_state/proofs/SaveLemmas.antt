-- What a crash leaves while an agent's call keeps something.
use Rattle.std.proofs.Common.{◌≡◌, ◌≤◌, ◌+◌, ℕ, List, true, Option, None, Some, Result, Ok, Err, IsTrue, IsErrOf, inl, inr, refl, sym, ◌∙◌, ap, subst, arith}
use Rattle.std.specs.Prelude.{IfSome, IfErr, OnOk}
use Rattle.std.specs.Option.{option_map}
use Rattle.edge_devices.specs.Disks.{DiskState, Medium, Countdown, medium, disk_bytes, MayLeave, IsSettled, LeftSince}
use Rattle.edge_devices.specs.DiskCalls.{MadeAll, EndsAmid}
use Rattle.agent_store.specs.declared.slots.Layout.{Layout}
use Rattle.agent_store.specs.Slots.{reading, StandsFor, IsFormerOrNext}
use Rattle.agent_rules.specs.declared.saved.Saved.{Saved}
use Rattle.agent_rules.specs.Codec.{codec}
use Rattle.agent_rules.specs.Payloads.{canonical_saved}
use Rattle.agent_rules.specs.declared.rules.parts.AgentFail.{AgentFail}
use Rattle.agent_rules.specs.declared.rules.parts.AgentFail.TheVariants.{StoreFault}
use Rattle.agent_rules.specs.Half.{kept_part}
use Rattle.agent_rules.specs.Keeping.{Call, kept, kept_by, keeping, fits_room}
use Rattle.edge_devices.proofs.DiskCalls.{none-made}
use Rattle.agent_state.specs.declared.agent.Agent.TheInside.{Inside}
use Rattle.agent_state.specs.Sound.{view_of}
use Rattle.agent_store.specs.Store.{StoreState}
use Rattle.agent_state.specs.declared.changes.Change.{Change}
use Rattle.agent_state.specs.declared.changes.Change.TheVariants.{Limit, Status, Files, Packages, Whole}
use Rattle.agent_state.specs.Changes.{KeepsPart, with_change, former_of}
use Rattle.agent_state.specs.View.{IsSaving, AgentView, HasPart, FitsDisk, StandsBeforeOrAfter, MeansItself, IsSavable, IsOneSave, KeepRefusal, CallRefusal, save_plan}
use Rattle.agent_state.proofs.RightLemmas.{keep_refused}

abbrev pub NoFault : Type 0 → AgentFail → Type 0
NoFault T fail = let r : Result T AgentFail = Err fail in (r ≡ Err StoreFault → ⊥)

-- a failure is a fault whatever was wanted
pub other_fault : (T U : Type 0) (fail : AgentFail) → NoFault U fail → NoFault T fail
other_fault T U fail apart is = let same : fail ≡ StoreFault = cc in apart (ap (λ f. Err f) same)

pub fault_of : (T U : Type 0) (fail : AgentFail) → IsErrOf {T = T} (Err fail) StoreFault → IsErrOf {T = U} (Err fail) StoreFault
fault_of T U fail is = let same : fail ≡ StoreFault = cc in ap (λ f. Err f) same

ok_no_fault : {T : Type 0} (value : T) → IsErrOf {T = T} {E = AgentFail} (Ok value) StoreFault → ⊥
ok_no_fault value is = cc

none≢some : {part : Saved} → None ≡ Some part → ⊥
none≢some is = cc

settled_image : (m : Medium) (image : ℕ → ℕ) → IsSettled m → MayLeave m image → image ≡ m.seen
settled_image m image settled is = λ i place. is place (settled place) i

-- an image that reads as another stands for the same
stands_as : (layout : Layout) (part : Option (List ℕ)) (image former : ℕ → ℕ) → reading codec layout image ≡ reading codec layout former
    → StandsFor codec layout former part → StandsFor codec layout image part
stands_as layout None image former same stands = same ∙ stands
stands_as layout (Some part) image former same stands = same ∙ stands

module _ (old new : DiskState) (c d : Countdown) (a : AgentView) (one_room : a.half.room ≡ a.store.layout.room) (fits : FitsDisk old a.store (kept_part a.half)) where
  crash_nothing : (call : Call) → IsTrue old.told → LeftSince old old (StandsBeforeOrAfter a call)
  crash_nothing call told = record {
    told = refl;
    later = omega arith;
    past = λ t h. refl;
    each = λ t image from to is.
        let now : t ≡ old.moment = omega (arith, from, to) in
        inl (stands_as a.store.layout (option_map canonical_saved (kept_part a.half)) image (disk_bytes old)
        (ap (reading codec a.store.layout) (settled_image (medium old) image fits.store_fits.settled (subst (λ u. MayLeave (old.history u) image) now is)))
        (fits.stands told));
  }

  after_call : (call : Call) (next : Saved) → kept_by a.half call ≡ Some next → kept_part (kept a.half call) ≡ Some next
  after_call call next keeps = ap (λ part. kept_part (keeping part a.half)) keeps

  crash_saved : (call : Call) (next : Saved) → kept_by a.half call ≡ Some next
      → (IsTrue old.told → LeftSince old new (IsFormerOrNext codec a.store.layout (disk_bytes old) (canonical_saved next)))
      → IsTrue old.told → LeftSince old new (StandsBeforeOrAfter a call)
  crash_saved call next keeps moments told = record {
    told = (moments told).told;
    later = (moments told).later;
    past = (moments told).past;
    each = λ t image from to is. cases image ((moments told).each t image from to is);
  }
    where
      cases : (image : ℕ → ℕ) → IsFormerOrNext codec a.store.layout (disk_bytes old) (canonical_saved next) image → StandsBeforeOrAfter a call image
      cases image (inl former) = inl (stands_as a.store.layout (option_map canonical_saved (kept_part a.half)) image (disk_bytes old) former (fits.stands told))
      cases image (inr after) = inr (subst (λ (p : Option Saved). HasPart a.store.layout p image) (sym (after_call call next keeps)) after)

  -- a call that keeps nothing, and leaves the store
  one_save_nothing : {T : Type 0} (b : AgentView) (call : Call) (value : T) → kept_by a.half call ≡ None → b.store ≡ a.store → kept_part b.half ≡ kept_part a.half
      → IsOneSave old old c c a b call (Ok value)
  one_save_nothing b call value keeps same part = record {
    fits = λ apart. subst (λ s. FitsDisk old s (kept_part b.half)) (sym same) (subst (λ p. FitsDisk old a.store p) (sym part) fits);
    crash = crash_nothing call;
    made = λ told. subst (λ (p : Option Saved). MadeAll (save_plan a.store p) old old c c) (sym keeps) (none-made old c);
    made_part = λ is. absurd (ok_no_fault value is);
    once = subst (λ s. s.generation ≤ a.store.generation + 1) (sym same) (omega arith);
    beside = λ none. same;
    layout = ap (λ s. s.layout) same;
    room = one_room;
    told = refl;
    counts = omega arith;
    fault = λ is. absurd (ok_no_fault value is);
    broken = λ is. absurd (ok_no_fault value is);
    unchanged = tt;
    untouched = tt;
    uncounted = tt;
    itself = subst (λ (p : Option Saved). IfSome p MeansItself) (sym keeps) tt;
    savable = λ is. absurd (ok_no_fault value is);
  }

  pub one_save_refused : (T : Type 0) (call : Call) (fail : AgentFail) → (IsErrOf {T = T} (Err fail) StoreFault → ⊥) → IsOneSave {T = T} old old c c a a call (Err fail)
  one_save_refused T call fail no_fault = record {
    fits = λ apart. fits;
    crash = crash_nothing call;
    made = tt;
    made_part = λ is. absurd (no_fault is);
    once = tt;
    beside = tt;
    layout = refl;
    room = one_room;
    told = refl;
    counts = omega arith;
    fault = λ is. absurd (no_fault is);
    broken = λ is. absurd (no_fault is);
    unchanged = λ apart. refl;
    untouched = λ apart. refl;
    uncounted = λ apart. refl;
    itself = tt;
    savable = λ is. absurd (no_fault is);
  }

  one_save_done : {T : Type 0} (b : AgentView) (call : Call) (next : Saved) (value : T) → kept_by a.half call ≡ Some next → kept_part b.half ≡ Some next
      → IsSaving old new c d a.store b.store next (Ok tt) → IsOneSave old new c d a b call (Ok value)
  one_save_done b call next value keeps part saving = record {
    fits = λ apart. record {
      store_fits = saving.fits (λ is. cc);
      stands = λ told. subst (λ (p : Option Saved). HasPart b.store.layout p (disk_bytes new)) (sym part)
          (subst (λ layout. HasPart layout (Some next) (disk_bytes new)) (sym saving.layout) (saving.stands (sym saving.told ∙ told)));
    };
    crash = crash_saved call next keeps saving.moments;
    made = λ told. subst (λ (p : Option Saved). MadeAll (save_plan a.store p) old new c d) (sym keeps) (saving.made told);
    made_part = λ is. absurd (ok_no_fault value is);
    once = saving.once;
    beside = λ none. absurd (none≢some (sym none ∙ keeps));
    layout = saving.layout;
    room = one_room;
    told = saving.told;
    counts = saving.counts;
    fault = λ is. absurd (ok_no_fault value is);
    broken = λ is. absurd (ok_no_fault value is);
    unchanged = tt;
    untouched = tt;
    uncounted = tt;
    itself = subst (λ (p : Option Saved). IfSome p MeansItself) (sym keeps) saving.itself;
    savable = λ is. absurd (ok_no_fault value is);
  }

  one_save_failed : (T : Type 0) (b : AgentView) (call : Call) (next : Saved) (fail : AgentFail) → kept_by a.half call ≡ Some next
      → IsSaving old new c d a.store b.store next (Err fail) → (a.store ≡ b.store → b ≡ a)
      → IsOneSave {T = T} old new c d a b call (Err fail)
  one_save_failed T b call next fail keeps saving same = record {
    fits = λ apart. fits_after (saving.unchanged (other_fault (Unit {0}) T fail apart)) (saving.untouched (other_fault (Unit {0}) T fail apart));
    crash = crash_saved call next keeps saving.moments;
    made = tt;
    made_part = λ is told. subst (λ (p : Option Saved). EndsAmid (save_plan a.store p) old new c d) (sym keeps) (saving.made_part (fault_of T (Unit {0}) fail is) told);
    once = tt;
    beside = tt;
    layout = saving.layout;
    room = one_room;
    told = saving.told;
    counts = saving.counts;
    fault = λ is. saving.fault (fault_of T (Unit {0}) fail is);
    broken = λ is. saving.broken (fault_of T (Unit {0}) fail is);
    unchanged = λ apart. same (sym (saving.unchanged (other_fault (Unit {0}) T fail apart)));
    untouched = λ apart. saving.untouched (other_fault (Unit {0}) T fail apart);
    uncounted = λ apart. saving.uncounted (other_fault (Unit {0}) T fail apart);
    itself = tt;
    savable = λ is. subst (λ (p : Option Saved). IfSome p (IsSavable a.store)) (sym keeps) (saving.savable (fault_of T (Unit {0}) fail is));
  }
    where
      fits_after : b.store ≡ a.store → new ≡ old → FitsDisk new b.store (kept_part b.half)
      fits_after store disk = subst (λ v. FitsDisk new v.store (kept_part v.half)) (sym (same (sym store))) (subst (λ s. FitsDisk s a.store (kept_part a.half)) (sym disk) fits)

-- a call that keeps a part, or nothing, and does no more
pub record KeepsCall (old new : DiskState) (c d : Countdown) (before after : AgentView) (call : Call) (result : Result (Unit {0}) AgentFail) : Type 0 where
  pub kept : OnOk result (after.half ≡ keeping (kept_by before.half call) before.half)
  pub room : OnOk result (fits_room before.half.room (kept_by before.half call) ≡ true)
  pub one_save : IsOneSave old new c d before after call result
  pub refused : IfErr result (CallRefusal before call)

module _ (old new : DiskState) (c d : Countdown) (before after : AgentView) (fits_disk : FitsDisk old before.store (kept_part before.half)) where
  pub keeps_call : (next : Saved) (call : Call) (result : Result (Unit {0}) AgentFail) → kept_by before.half call ≡ Some next
      → KeepsPart old new c d before after next result → KeepsCall old new c d before after call result
  keeps_call next call (Ok value) keeps k = record {
    kept = k.kept ∙ ap (λ part. keeping part before.half) (sym keeps);
    room = ap (fits_room before.half.room) keeps ∙ k.room;
    one_save = one_save_done old new c d before k.one_room fits_disk after call next value keeps (ap kept_part k.kept) k.saving;
    refused = tt;
  }
  keeps_call next call (Err fail) keeps k = record {
    kept = tt;
    room = tt;
    one_save = one_save_failed old new c d before k.one_room fits_disk (Unit {0}) after call next fail keeps k.saving (λ same i. record { half = k.left i; store = sym same i });
    refused = keep_refused before call next (Err fail) keeps k.refused;
  }

  pub keeps_nothing : (call : Call) → before.half.room ≡ before.store.layout.room → kept_by before.half call ≡ None → KeepsCall old old c c before before call (Ok tt)
  keeps_nothing call one_room keeps = record {
    kept = ap (λ part. keeping part before.half) (sym keeps);
    room = ap (fits_room before.half.room) keeps;
    one_save = one_save_nothing old new c d before one_room fits_disk before call tt keeps refl refl;
    refused = tt;
  }

-- what was exchanged twice is as it was
pub put_back : (change : Change) (saved : Saved) → with_change (former_of change saved) (with_change change saved) ≡ saved
put_back (Limit limit) saved = refl
put_back (Status status) saved = refl
put_back (Files files hash status) saved = refl
put_back (Packages statuses) saved = refl
put_back (Whole next) saved = refl

-- a store keeps a part of an agent with these fields, which is then in use, or else what was
module _ (old new : DiskState) (c d : Countdown) (x : Inside) (a : AgentView) (is : view_of x ≡ a) (store : StoreState) (layout : store.layout ≡ x.store.layout)
    (change : Change) (saved : Saved) (put : saved ≡ with_change change x.saved) where
  pub part_in_use : IsSaving old new c d x.store store saved (Ok tt) → fits_room x.store.layout.room (Some saved) ≡ true
      → KeepsPart old new c d a (view_of (record x { store = store; saved = saved; is_kept = true })) (with_change change a.half.saved) (Ok tt)
  part_in_use saving room =
      subst (λ (v : AgentView). KeepsPart old new c d v (view_of (record x { store = store; saved = saved; is_kept = true })) (with_change change v.half.saved) (Ok tt)) is
      (record {
        saving = subst (λ (s : Saved). IsSaving old new c d x.store store s (Ok tt)) put saving;
        kept = λ i. record ((view_of x).half) { saved = put i; is_kept = true; room = (layout i).room };
        left = tt;
        one_room = refl;
        room = subst (λ (s : Saved). fits_room x.store.layout.room (Some s) ≡ true) put room;
        refused = tt;
      })

  pub part_put_back : (fail : AgentFail) (back : Saved) → back ≡ x.saved → IsSaving old new c d x.store store saved (Err fail) → KeepRefusal x.store saved fail
      → KeepsPart old new c d a (view_of (record x { store = store; saved = back })) (with_change change a.half.saved) (Err fail)
  part_put_back fail back same saving why =
      subst (λ (v : AgentView). KeepsPart old new c d v (view_of (record x { store = store; saved = back })) (with_change change v.half.saved) (Err fail)) is
      (record {
        saving = subst (λ (s : Saved). IsSaving old new c d x.store store s (Err fail)) put saving;
        kept = tt;
        left = λ i. record ((view_of x).half) { saved = same i; room = (layout i).room };
        one_room = refl;
        room = tt;
        refused = subst (λ (s : Saved). KeepRefusal x.store s fail) put why;
      })

-- a refusal that is passed on
pub passed_on : (T U : Type 0) (old new : DiskState) (c d : Countdown) (a b : AgentView) (call : Call) (fail : AgentFail)
    → IsOneSave {T = T} old new c d a b call (Err fail) → IsOneSave {T = U} old new c d a b call (Err fail)
passed_on T U old new c d a b call fail one = record {
  fits = λ apart. one.fits (other_fault T U fail apart);
  crash = one.crash;
  made = tt;
  made_part = λ is. one.made_part (fault_of U T fail is);
  once = tt;
  beside = tt;
  layout = one.layout;
  room = one.room;
  told = one.told;
  counts = one.counts;
  fault = λ is. one.fault (fault_of U T fail is);
  broken = λ is. one.broken (fault_of U T fail is);
  unchanged = λ apart. one.unchanged (other_fault T U fail apart);
  untouched = λ apart. one.untouched (other_fault T U fail apart);
  uncounted = λ apart. one.uncounted (other_fault T U fail apart);
  itself = tt;
  savable = λ is. one.savable (fault_of U T fail is);
}

-- the same for the fields of an agent
module _ (old new : DiskState) (c d : Countdown) (x : Inside) (a : AgentView) (is : view_of x ≡ a) (fits : FitsDisk old a.store (kept_part a.half)) where
  fits_fields : FitsDisk old (view_of x).store (kept_part (view_of x).half)
  fits_fields = subst (λ v. FitsDisk old v.store (kept_part v.half)) (sym is) fits

  pub nothing_kept : {T : Type 0} (b : AgentView) (call : Call) (value : T) → kept_by (view_of x).half call ≡ None → b.store ≡ (view_of x).store
      → kept_part b.half ≡ kept_part (view_of x).half → IsOneSave old old c c a b call (Ok value)
  nothing_kept b call value keeps same part =
      subst (λ v. IsOneSave old old c c v b call (Ok value)) is (one_save_nothing old new c d (view_of x) refl fits_fields b call value keeps same part)

  pub nothing_tried : (T : Type 0) (call : Call) (fail : AgentFail) → (IsErrOf {T = T} (Err fail) StoreFault → ⊥) → IsOneSave {T = T} old old c c a a call (Err fail)
  nothing_tried T call fail no_fault =
      subst (λ v. IsOneSave {T = T} old old c c v v call (Err fail)) is (one_save_refused old new c d (view_of x) refl fits_fields T call fail no_fault)

  pub part_kept : {T : Type 0} (b : AgentView) (call : Call) (next : Saved) (value : T) → kept_by (view_of x).half call ≡ Some next → kept_part b.half ≡ Some next
      → IsSaving old new c d x.store b.store next (Ok tt) → IsOneSave old new c d a b call (Ok value)
  part_kept b call next value keeps part saving =
      subst (λ v. IsOneSave old new c d v b call (Ok value)) is (one_save_done old new c d (view_of x) refl fits_fields b call next value keeps part saving)

  pub part_refused : (T : Type 0) (b : AgentView) (call : Call) (next : Saved) (fail : AgentFail) → kept_by (view_of x).half call ≡ Some next
      → IsSaving old new c d x.store b.store next (Err fail) → (x.store ≡ b.store → b ≡ view_of x)
      → IsOneSave {T = T} old new c d a b call (Err fail)
  part_refused T b call next fail keeps saving same =
      subst (λ v. IsOneSave {T = T} old new c d v b call (Err fail)) is (one_save_failed old new c d (view_of x) refl fits_fields T b call next fail keeps saving same)

-- a call that sets fields of the agent's half alone after its save
pub fields_set : {T U : Type 0} (old new : DiskState) (c d : Countdown) (a b after : AgentView) (call : Call) (value : T) (answer : U)
    → IsOneSave old new c d a b call (Ok value) → after.store ≡ b.store → kept_part after.half ≡ kept_part b.half → IsOneSave old new c d a after call (Ok answer)
fields_set old new c d a b after call value answer one same part = record {
  fits = λ apart. subst (λ s. FitsDisk new s (kept_part after.half)) (sym same) (subst (λ p. FitsDisk new b.store p) (sym part) (one.fits (λ is. cc)));
  crash = one.crash;
  made = one.made;
  made_part = λ is. absurd (ok_no_fault answer is);
  once = subst (λ s. s.generation ≤ a.store.generation + 1) (sym same) one.once;
  beside = λ none. same ∙ one.beside none;
  layout = ap (λ s. s.layout) same ∙ one.layout;
  room = one.room;
  told = one.told;
  counts = one.counts;
  fault = λ is. absurd (ok_no_fault answer is);
  broken = λ is. absurd (ok_no_fault answer is);
  unchanged = tt;
  untouched = tt;
  uncounted = tt;
  itself = one.itself;
  savable = λ is. absurd (ok_no_fault answer is);
}
