-- What becomes of an offered configuration.
use Rattle.std.specs.Prelude.{codes, unwrap_or}
use Rattle.std.proofs.Common.{◌≡◌, ℕ, List, [], Bool, true, false, Option, None, Some, Result, Ok, Err, inl, inr, refl, sym, ◌∙◌, ap, subst, arith}
use Rattle.std.proofs.lemmas.Bool.{false≢true}
use Rattle.std.proofs.lemmas.List.{append-nil}
use Rattle.plain_values.specs.declared.memory.NoMemory.{NoMemory as Wanting}
use Rattle.plain_values.specs.declared.files.AgentConfigMap.{AgentConfigMap}
use Rattle.message_values.specs.declared.config.AgentRemoteConfig.{AgentRemoteConfig}
use Rattle.message_values.specs.declared.config.RemoteConfigStatus.{RemoteConfigStatus}
use Rattle.edge_devices.specs.Disks.{DiskState, Countdown}
use Rattle.edge_devices.specs.declared.folders.FolderFail.{FolderFail}
use Rattle.edge_devices.specs.declared.folders.FolderFail.TheVariants as folder
use Rattle.agent_rounds.specs.declared.proving.Trial.{Trial}
use Rattle.edge_devices.specs.Folders.{FolderState, Makes}
use Rattle.agent_config.specs.declared.Outcome.{Outcome}
use Rattle.agent_config.specs.declared.Outcome.TheVariants as outcomes
use Rattle.agent_config.specs.Config.{as_offer, first_bad}
use Rattle.agent_rules.specs.declared.rules.parts.AgentFail.{AgentFail}
use Rattle.agent_rules.specs.declared.rules.parts.AgentFail.TheVariants as fails
use Rattle.agent_rules.specs.Half.{kept_part, no_config}
use Rattle.agent_rules.specs.Keeping.{Call, ConfigDone, fits, fits_room, kept_by}
use Rattle.agent_rules.specs.Calls.{call_after}
use Rattle.agent_rules.specs.Offers.{applied_call, offered_files, status_of}
use Rattle.agent_state.specs.View.{AgentView, CallRefusal, FitsDisk, IsOneSave}
use Rattle.agent_rounds.specs.declared.ends.AgentEnd.{AgentEnd}
use Rattle.agent_rounds.specs.declared.ends.AgentEnd.TheVariants.{NoMemory}
use Rattle.agent_rounds.specs.Status.{HeldView}
use Rattle.agent_rounds.specs.Proving.{NamesTrial, name_of, refusal}
use Rattle.agent_rounds.specs.Stages.{MakesCall, Stage, Then}
use Rattle.agent_rounds.specs.Replies.{AppliesFiles, AppliesTo, Brings, ConfigEnds, Configures, FailsBack, KeepsBy, KeepsFiles, KeepsProved, KeepsUnless, TellsBadName, TriesBy, TriesFor, TriesNamed, WatchesTrial, unsettled}
use Rattle.agent_rounds.specs.Moments.{IsEndOf, RunsPart, with_agent, with_held}
use Rattle.agent_rounds.proofs.RunLemmas.{run_beside}
use Rattle.agent_rounds.proofs.CallLemmas.{call_made, call_refused}

no_calls : (f : FolderState) → Makes f f []
no_calls f = record { told = refl; calls = λ told. sym (append-nil f.calls); count = omega arith; fault = λ is. absurd (false≢true is) }

wanting_back : (offer : AgentRemoteConfig) (text : List ℕ) (s : Stage) → FailsBack offer text s (record s { held = unsettled s.held }) (Err NoMemory)
wanting_back offer text s = inl (record {
  answer = Err folder.NoMemory;
  settles = record { runs = record { seen = []; makes = no_calls s.folder; stops = refl }; files = tt; others = λ area name apart. refl };
  rest = refl;
  end = refl;
})

-- Memory was wanting for the text of a failure.
pub back_wanting : (offer : AgentRemoteConfig) (text : List ℕ) (disk : DiskState) (a : AgentView) (held : HeldView) (s : Stage) → FitsDisk disk a.store (kept_part a.half)
    → RunsPart (FailsBack offer text) disk disk (with_agent a (with_held held s)) (with_agent a (with_held (unsettled held) s)) (Err NoMemory)
back_wanting offer text disk a held s fits_disk =
    run_beside (FailsBack offer text) disk (with_agent a (with_held held s)) (with_agent a (with_held (unsettled held) s)) (Err NoMemory) fits_disk refl refl refl
    (wanting_back offer text (with_agent a (with_held held s)))

-- Memory was wanting: whether the files have room isn't known, and the area is to be settled again.
wanting_keeps : (fit : Bool) (offer : AgentRemoteConfig) (s : Stage) → KeepsBy fit offer s (record s { held = unsettled s.held }) (Err NoMemory)
wanting_keeps true offer s = (tt, refl)
wanting_keeps false offer s = wanting_back offer (codes "too large") s

pub files_wanting : (fit : Bool) (offer : AgentRemoteConfig) (disk : DiskState) (a : AgentView) (held : HeldView) (s : Stage) → FitsDisk disk a.store (kept_part a.half)
    → RunsPart (KeepsBy fit offer) disk disk (with_agent a (with_held held s)) (with_agent a (with_held (unsettled held) s)) (Err NoMemory)
files_wanting fit offer disk a held s fits_disk =
    run_beside (KeepsBy fit offer) disk (with_agent a (with_held held s)) (with_agent a (with_held (unsettled held) s)) (Err NoMemory) fits_disk refl refl refl
    (wanting_keeps fit offer (with_agent a (with_held held s)))

pub wanting_applies : (none : Wanting) (offer : AgentRemoteConfig) (s : Stage) → AppliesFiles offer s (record s { held = unsettled s.held }) (Err NoMemory)
wanting_applies none offer s = record {
  answer = Err none;
  applies = record {
    calls = record { seen = []; makes = no_calls s.folder; ends = tt };
    applied = λ is. absurd (let e : Err none ≡ Ok outcomes.Applied = is in cc);
    back = λ is. absurd (let e : Err none ≡ Ok (outcomes.FolderFault true) = is in cc);
    undone = λ name is. refl;
    others = λ area name apart. refl;
  };
  names = tt;
  rest = refl;
  end = refl;
}

-- The offered files were applied to the area, or not, by what is known of a trial of them from the active configuration.
pub applied_to : (offer : AgentRemoteConfig) (tried former active : AgentConfigMap) (old new : FolderState) (answer : Result Outcome Wanting) → tried ≡ offered_files offer → former ≡ active
    → AppliesTo tried former old new answer → AppliesTo (offered_files offer) active old new answer
applied_to offer tried former active old new answer tried_is former_is applies =
    subst (λ (files : AgentConfigMap). AppliesTo files active old new answer) tried_is (subst (λ (files : AgentConfigMap). AppliesTo tried files old new answer) former_is applies)

no_name : (first : Option (List ℕ)) (answer : Result Outcome Wanting) → ((name : List ℕ) → answer ≡ Ok (outcomes.BadName name) → ⊥)
    → ((name : List ℕ) → first ≡ Some name → answer ≡ Ok (outcomes.BadName name)) → first ≡ None
no_name None answer apart bad = refl
no_name (Some name) answer apart bad = absurd (apart name (bad name refl))

-- the answer of an outcome
abbrev pub answer_of : Outcome → Result Outcome Wanting
answer_of outcome = Ok outcome

-- A bad name is told where the files have one.
told_first : (first : Option (List ℕ)) (offer : AgentRemoteConfig) (outcome : Outcome) → first ≡ first_bad (offered_files offer).config_map
    → ((name : List ℕ) → first ≡ Some name → answer_of outcome ≡ Ok (outcomes.BadName name)) → ((name : List ℕ) → answer_of outcome ≡ Ok (outcomes.BadName name) → first ≡ Some name)
    → TellsBadName offer outcome
told_first first offer (outcomes.BadName name) is bad good = sym is ∙ good name refl
told_first first offer outcomes.Applied is bad good = sym is ∙ no_name first (Ok outcomes.Applied) (λ name told. cc) bad
told_first first offer (outcomes.FolderFault settled) is bad good = sym is ∙ no_name first (Ok (outcomes.FolderFault settled)) (λ name told. cc) bad

pub tells_bad_name : (offer : AgentRemoteConfig) (tried : AgentConfigMap) (outcome : Outcome) → tried ≡ offered_files offer
    → ((name : List ℕ) → first_bad tried.config_map ≡ Some name → answer_of outcome ≡ Ok (outcomes.BadName name))
    → ((name : List ℕ) → answer_of outcome ≡ Ok (outcomes.BadName name) → first_bad tried.config_map ≡ Some name) → TellsBadName offer outcome
tells_bad_name offer tried outcome is bad good = told_first (first_bad tried.config_map) offer outcome (ap (λ (files : AgentConfigMap). first_bad files.config_map) is) bad good

module _ (offer : AgentRemoteConfig) (files : AgentConfigMap) (status : RemoteConfigStatus) (files_are : files ≡ offered_files offer) (status_is : status ≡ status_of offer) where
  abbrev call : Call
  call = ConfigDone (Some files) status

  call_is : call ≡ applied_call offer
  call_is = λ i. ConfigDone (Some (files_are i)) (status_is i)

  module _ (old new : DiskState) (c d : Countdown) (a b : AgentView) (held : HeldView) (s : Stage) (fits_disk : FitsDisk old a.store (kept_part a.half)) where
    by_room : (t : Stage) (r : Result Unit AgentEnd) → fits a.half call ≡ true → RunsPart (KeepsFiles offer) old new (with_agent a (with_held held s)) t r
        → RunsPart (KeepsBy (fits a.half (applied_call offer)) offer) old new (with_agent a (with_held held s)) t r
    by_room t r fit run =
        let room : fits a.half (applied_call offer) ≡ true = subst (λ (call : Call). fits a.half call ≡ true) call_is fit in
        subst (λ (fit : Bool). RunsPart (KeepsBy fit offer) old new (with_agent a (with_held held s)) t r) (sym room) run

    -- they are kept
    pub files_kept : {T : Type 0} (value : T) → fits a.half call ≡ true → b.half ≡ call_after a.half call → IsOneSave old new c d a b call (Ok value)
        → RunsPart (KeepsBy (fits a.half (applied_call offer)) offer) old new (with_agent a (with_held held s)) (with_agent b (with_held held s)) (Ok tt)
    files_kept value fit is one =
        let run : RunsPart (MakesCall (applied_call offer)) old new (with_agent a (with_held held s)) (with_agent b (with_held held s)) (Ok tt) =
        subst (λ (call : Call). RunsPart (MakesCall call) old new (with_agent a (with_held held s)) (with_agent b (with_held held s)) (Ok tt)) call_is
        (call_made call old new c d a b (with_held held s) value fit is one) in
        by_room (with_agent b (with_held held s)) (Ok tt) fit (record { saves = run.saves; does = run.does; images = run.images })

    module _ (T : Type 0) (room : a.half.room ≡ a.store.layout.room) where
      ended : (fail : AgentFail) (end : AgentEnd) → IsEndOf fail end → fits_room a.store.layout.room (kept_by a.half call) ≡ true → IsOneSave {T = T} old new c d a b call (Err fail)
          → CallRefusal a call fail → RunsPart (KeepsBy (fits a.half (applied_call offer)) offer) old new (with_agent a (with_held held s)) (with_agent b (with_held (unsettled held) s)) (Err end)
      ended fail end is fit one why =
          let run : RunsPart (MakesCall (applied_call offer)) old new (with_agent a (with_held (unsettled held) s)) (with_agent b (with_held (unsettled held) s)) (Err end) =
          subst (λ (call : Call). RunsPart (MakesCall call) old new (with_agent a (with_held (unsettled held) s)) (with_agent b (with_held (unsettled held) s)) (Err end)) call_is
          (call_refused call old new c d a b (with_held (unsettled held) s) T fail end is room fits_disk one why) in
          by_room (with_agent b (with_held (unsettled held) s)) (Err end) (ap (λ (r : ℕ). fits_room r (kept_by a.half call)) room ∙ fit) (record { saves = run.saves; does = run.does; images = run.images })

      -- they aren't, for another cause than their length
      pub files_refused : (fail : AgentFail) (end : AgentEnd) → IsEndOf fail end → (fail ≡ fails.TooLarge → ⊥) → IsOneSave {T = T} old new c d a b call (Err fail) → CallRefusal a call fail
          → RunsPart (KeepsBy (fits a.half (applied_call offer)) offer) old new (with_agent a (with_held held s)) (with_agent b (with_held (unsettled held) s)) (Err end)
      files_refused fails.StoreFault end is apart one why = ended fails.StoreFault end is why.0 one why
      files_refused fails.NumbersSpent end is apart one why = ended fails.NumbersSpent end is why.0.0 one why
      files_refused fails.TooLarge end is apart one why = absurd (apart refl)
      files_refused fails.WrongUid end is apart one why = absurd why
      files_refused fails.NoMemory end is apart one why =
          let same : b ≡ a = one.unchanged (λ fault. cc) in
          let still : new ≡ old = one.untouched (λ fault. cc) in
          subst (λ e. RunsPart (KeepsBy (fits a.half (applied_call offer)) offer) old new (with_agent a (with_held held s)) (with_agent b (with_held (unsettled held) s)) (Err e)) (sym is)
          (subst (λ (v : AgentView). RunsPart (KeepsBy (fits a.half (applied_call offer)) offer) old new (with_agent a (with_held held s)) (with_agent v (with_held (unsettled held) s)) (Err NoMemory)) (sym same)
          (subst (λ (disk : DiskState). RunsPart (KeepsBy (fits a.half (applied_call offer)) offer) old disk (with_agent a (with_held held s)) (with_agent a (with_held (unsettled held) s)) (Err NoMemory)) (sym still)
          (files_wanting (fits a.half (applied_call offer)) offer old a held s fits_disk)))

      -- they have no room, and the configuration failed
      pub files_large : (last : DiskState) (t : Stage → Stage) (r : Result Unit AgentEnd) → IsOneSave {T = T} old new c d a b call (Err fails.TooLarge) → CallRefusal a call fails.TooLarge
          → RunsPart (KeepsBy false offer) new last (with_agent b (with_held held s)) (t s) r → RunsPart (KeepsBy (fits a.half (applied_call offer)) offer) old last (with_agent a (with_held held s)) (t s) r
      files_large last t r one why run =
          let same : b ≡ a = one.unchanged (λ fault. cc) in
          let still : new ≡ old = one.untouched (λ fault. cc) in
          let fit : fits a.half call ≡ false = ap (λ (r : ℕ). fits_room r (kept_by a.half call)) room ∙ why.0 in
          let large : fits a.half (applied_call offer) ≡ false = subst (λ (call : Call). fits a.half call ≡ false) call_is fit in
          subst (λ (fit : Bool). RunsPart (KeepsBy fit offer) old last (with_agent a (with_held held s)) (t s) r) (sym large)
          (subst (λ (v : AgentView). RunsPart (KeepsBy false offer) old last (with_agent v (with_held held s)) (t s) r) same
          (subst (λ (disk : DiskState). RunsPart (KeepsBy false offer) disk last (with_agent b (with_held held s)) (t s) r) still run))

not_fault : (let answer : Result Unit FolderFail = Err folder.NoMemory in answer ≡ Err folder.Fault) → ⊥
not_fault is = cc

-- Memory was wanting before anything was done for a trial.
pub wanting_tries : (fit : Bool) (trial : Trial) (offer : AgentRemoteConfig) (s : Stage) → TriesBy fit trial offer s s (Err NoMemory)
wanting_tries false trial offer s = (tt, refl)
wanting_tries true trial offer s = inl (record {
  answer = Err folder.NoMemory;
  call = record { told = refl; calls = λ told. sym (append-nil s.folder.calls); count = omega arith; fault = λ is. absurd (not_fault is) };
  written = tt;
  same = λ other file apart. refl;
  rest = refl;
  given = refl;
})

-- ---- an offer, by its files and its hash

module _ {A B : Type 0} (P P' : Stage → Stage → Result A AgentEnd → Type 0) (Q Q' : A → Stage → Stage → Result B AgentEnd → Type 0)
    (first : (s t : Stage) (result : Result A AgentEnd) → P s t result → P' s t result) (second : (a : A) (s t : Stage) (result : Result B AgentEnd) → Q a s t result → Q' a s t result) where
  then_mapped : (s t : Stage) (result : Result B AgentEnd) → Then P Q s t result → Then P' Q' s t result
  then_mapped s t (Ok value) (m, (a, (begun, done))) = (m, (a, (first s m (Ok a) begun, second a m t (Ok value) done)))
  then_mapped s t (Err end) (inl ended) = inl (first s t (Err end) ended)
  then_mapped s t (Err end) (inr (m, (a, (begun, ended)))) = inr (m, (a, (first s m (Ok a) begun, second a m t (Err end) ended)))

-- an offer without files is one of no files
module _ (hash : List ℕ) where
  abbrev bare : AgentRemoteConfig
  bare = record { config = None; config_hash = hash }

  abbrev empty : AgentRemoteConfig
  empty = as_offer no_config hash

  bare_applies : (s t : Stage) (result : Result Outcome AgentEnd) → AppliesFiles empty s t result → AppliesFiles bare s t result
  bare_applies s t result applied = record { answer = applied.answer; applies = applied.applies; names = applied.names; rest = applied.rest; end = applied.end }

  bare_keeps : (fit : Bool) (s t : Stage) (result : Result Unit AgentEnd) → KeepsBy fit empty s t result → KeepsBy fit bare s t result
  bare_keeps true s t result kept = kept
  bare_keeps false s t result kept = kept

  bare_unless : (text : Option (List ℕ)) (s t : Stage) (result : Result Unit AgentEnd) → KeepsUnless text empty s t result → KeepsUnless text bare s t result
  bare_unless None s t result kept = bare_keeps (fits s.half (applied_call bare)) s t result kept
  bare_unless (Some text) s t result kept = kept

  bare_proved : (watch : Option Trial) (s t : Stage) (result : Result Unit AgentEnd) → KeepsProved watch empty s t result → KeepsProved watch bare s t result
  bare_proved None s t result kept = bare_unless None s t result kept
  bare_proved (Some watch) s t result kept =
      then_mapped (WatchesTrial watch) (WatchesTrial watch) (λ said. KeepsUnless (refusal said) empty) (λ said. KeepsUnless (refusal said) bare)
      (λ s t result watched. watched) (λ said. bare_unless (refusal said)) s t result kept

  bare_ends : (watch : Option Trial) (outcome : Outcome) (s t : Stage) (result : Result Unit AgentEnd) → ConfigEnds watch empty outcome s t result → ConfigEnds watch bare outcome s t result
  bare_ends watch (outcomes.BadName name) s t result ended = ended
  bare_ends watch (outcomes.FolderFault settled) s t result ended = ended
  bare_ends watch outcomes.Applied s t result ended = bare_proved watch s t result ended

  bare_brings : (watch : Option Trial) (s t : Stage) (result : Result Unit AgentEnd) → Brings watch empty s t result → Brings watch bare s t result
  bare_brings watch s t result brought =
      then_mapped (AppliesFiles empty) (AppliesFiles bare) (λ outcome. ConfigEnds watch empty outcome) (λ outcome. ConfigEnds watch bare outcome) bare_applies (bare_ends watch) s t result brought

  bare_named : (watch : Trial) (named : Bool) (s t : Stage) (result : Result Unit AgentEnd) → TriesNamed watch empty named s t result → TriesNamed watch bare named s t result
  bare_named watch true s t result tried = bare_brings (Some watch) s t result tried
  bare_named watch false s t result tried = tried

  bare_tries : (fit : Bool) (watch : Trial) (s t : Stage) (result : Result Unit AgentEnd) → TriesBy fit watch empty s t result → TriesBy fit watch bare s t result
  bare_tries false watch s t result tried = tried
  bare_tries true watch s t result tried =
      then_mapped (NamesTrial watch.name) (NamesTrial watch.name) (λ named. TriesNamed watch empty named) (λ named. TriesNamed watch bare named)
      (λ s t result named. named) (bare_named watch) s t result tried

  bare_tried : (tried : Option ℕ) (s t : Stage) (result : Result Unit AgentEnd) → TriesFor tried empty s t result → TriesFor tried bare s t result
  bare_tried None s t result run = bare_brings None s t result run
  bare_tried (Some seconds) s t result run = bare_tries (fits s.half (applied_call bare)) (record { seconds = seconds; name = name_of s.half bare }) s t result run

pub as_offered : (config : Option AgentConfigMap) (hash : List ℕ) (s t : Stage) (result : Result Unit AgentEnd)
    → Configures (Some (as_offer (unwrap_or config no_config) hash)) s t result → Configures (Some (record { config = config; config_hash = hash })) s t result
as_offered (Some files) hash s t result run = run
as_offered None hash s t result (tried, (is, run)) = (tried, (is, bare_tried hash tried s t result run))
