-- The area of configuration files through the parts of a round.
use Rattle.std.proofs.Common.{◌≡◌, ◌⊎◌, ◌+◌, ◌≤◌, ℕ, zero, suc, List, [], ◌∷◌, Bool, true, false, ◌||◌, Option, None, Some, Result, Ok, Err, inl, inr, refl, sym, ap, subst, ◌∙◌, arith}
use Rattle.std.specs.Prelude.{codes, if◌then◌else◌, is_none, IfOk, IsTrue, OnOk, ◌&&◌}
use Rattle.std.specs.List.{list_any}
use Rattle.std.proofs.lemmas.List.Folds.{list_any-append}
use Rattle.plain_values.specs.declared.memory.NoMemory.{NoMemory as Wanting}
use Rattle.message_values.specs.declared.config.AgentRemoteConfig.{AgentRemoteConfig}
use Rattle.message_values.specs.declared.custom.CustomCapabilities.{CustomCapabilities}
use Rattle.message_values.specs.declared.custom.CustomMessage.{CustomMessage}
use Rattle.message_values.specs.declared.packages.PackagesAvailable.{PackagesAvailable}
use Rattle.message_values.specs.declared.packages.PackageStatuses.{PackageStatuses}
use Rattle.message_values.specs.declared.reply.ServerToAgent.{ServerToAgent}
use Rattle.message_values.specs.declared.state.Settings.{Settings}
use Rattle.edge_devices.specs.declared.dialers.LinkFail.{LinkFail}
use Rattle.edge_devices.specs.declared.folders.Area.TheVariants as areas
use Rattle.edge_devices.specs.declared.folders.FolderCall.{FolderCall}
use Rattle.edge_devices.specs.declared.folders.FolderFail.{FolderFail}
use Rattle.edge_devices.specs.declared.folders.FolderFail.TheVariants as folder
use Rattle.edge_devices.specs.Faults.{HasRisen}
use Rattle.edge_devices.specs.Folders.{EndsInFault, FolderState, Runs, is_fault}
use Rattle.agent_config.specs.declared.Outcome.{Outcome}
use Rattle.agent_config.specs.declared.Outcome.TheVariants as outcomes
use Rattle.agent_config.specs.Config.{AreFiles, files_of}
use Rattle.agent_config.specs.Outcomes.{EndsSo, IsUndone}
use Rattle.agent_packages.specs.Packages.{is_same_offer}
use Rattle.agent_rules.specs.declared.saved.Saved.{Saved}
use Rattle.agent_rules.specs.declared.rules.parts.Next.{Next}
use Rattle.agent_rules.specs.declared.rules.replies.Heard.{Heard}
use Rattle.agent_rules.specs.declared.rules.replies.Heard.TheVariants.{Asked, Commanded, Failed, Plain}
use Rattle.agent_rules.specs.Reports.{where_true}
use Rattle.agent_rules.specs.Half.{AgentHalf}
use Rattle.agent_rules.specs.Keeping.{AbandonTry, BeginTry, Call, Change, CommitTry, ConfigDone, GiveUp, PackagesDone, Report, Say, TakeReply, fits, heard_in, keeping, kept_of_reply}
use Rattle.agent_rules.specs.Calls.{call_after, told_by}
use Rattle.agent_rules.specs.Events.{leaving_calls}
use Rattle.agent_rules.specs.Offers.{applied_call, failed_call, next_of, offered_files, trial_calls}
use Rattle.agent_rounds.specs.declared.ends.AgentEnd.{AgentEnd}
use Rattle.agent_rounds.specs.declared.ends.Pause.{Pause}
use Rattle.agent_rounds.specs.declared.ends.AgentEnd.TheVariants as ends
use Rattle.agent_rounds.specs.declared.held.Settling.{Settling}
use Rattle.agent_rounds.specs.declared.held.Settling.TheVariants as settling
use Rattle.agent_rounds.specs.Area.{FailsBetween, HasConfig, HasConfigOrDue, IsDue, IsFormerOrApplied, LeavesConfig}
use Rattle.agent_rounds.specs.Moments.{Leads, Moment, is_store_fault, nothing_held, stage_at, store_failed, with_saves}
use Rattle.agent_rounds.specs.Parts.{AsksLink, AsksReport, HasLink, LinksBy, MakesReport, ReadsStatus, SettlesArea, SettlesBy, SettlesTo, SettlesWhereDue, TellsLocal, held_asked, idle_link, settled_end, still}
use Rattle.agent_rounds.specs.Replies.{TriesBy, TriesFor, TriesNamed, AppliesFiles, BeginsTrial, Brings, BringsBack, ConfigEnds, Configures, DealsWith, DealsWithNext, DealsWithReply, EndsBy, EndsWith, FailsBack, GivesUpRound, Handles, Installs, KeepsBy, KeepsProved, KeepsUnless, PausesAfter, Says, SyncedBy, Syncs, SyncsSo, back_end, held_after, held_again, unsettled, wanting}
use Rattle.agent_rounds.specs.declared.proving.Trial.{Trial}
use Rattle.agent_rounds.specs.Proving.{NamesTrial, name_of, quarters, refusal}
use Rattle.agent_rounds.proofs.ProvingLemmas.{Beside, watches_beside}
use Rattle.agent_rounds.specs.Rounds.{Asking, AsksServer, Informs, Prepares, RoundBy, RoundsBy, Waiting}
use Rattle.agent_rounds.specs.Stages.{Gives, MakesCall, MakesCalls, Stage, Then}
use Rattle.agent_rounds.specs.Status.{HeldView, local_by, pause_after, pause_of, without_link}

-- ---- calls that leave the configuration as it is

abbrev pub KeepsConfig : Call → Type 0
KeepsConfig (ConfigDone (Some applied) status) = ⊥
KeepsConfig (ConfigDone None status) = Unit {0}
KeepsConfig (Change now) = Unit {0}
KeepsConfig Report = Unit {0}
KeepsConfig (TakeReply reply) = Unit {0}
KeepsConfig GiveUp = Unit {0}
KeepsConfig CommitTry = Unit {0}
KeepsConfig AbandonTry = Unit {0}
KeepsConfig (PackagesDone statuses) = Unit {0}
KeepsConfig (Say message) = Unit {0}
KeepsConfig (BeginTry next) = Unit {0}

same_where : (is : Bool) (a : AgentHalf) (part : Saved) → part.config ≡ a.saved.config → (keeping (where_true is part) a).saved.config ≡ a.saved.config
same_where true a part same = same
same_where false a part same = refl

same_of_reply : (heard : Heard) (a : AgentHalf) (reply : ServerToAgent) → (keeping (kept_of_reply a heard reply) a).saved.config ≡ a.saved.config
same_of_reply Commanded a reply = refl
same_of_reply Failed a reply = refl
same_of_reply Asked a reply = same_where _ a _ refl
same_of_reply Plain a reply = same_where _ a _ refl

same_told : (heard : Heard) (a : AgentHalf) (reply : ServerToAgent) → (told_by heard reply a).saved.config ≡ a.saved.config
same_told Commanded a reply = refl
same_told Failed a reply = refl
same_told Asked a reply = same_of_reply (heard_in reply) a reply
same_told Plain a reply = same_of_reply (heard_in reply) a reply

pub same_config : (call : Call) (a : AgentHalf) → KeepsConfig call → (call_after a call).saved.config ≡ a.saved.config
same_config (ConfigDone (Some applied) status) a keeps = absurd keeps
same_config (ConfigDone None status) a keeps = refl
same_config (Change now) a keeps = refl
same_config Report a keeps = same_where _ a _ refl
same_config (TakeReply reply) a keeps = same_told (heard_in reply) a reply
same_config GiveUp a keeps = refl
same_config CommitTry a keeps = refl
same_config AbandonTry a keeps = refl
same_config (PackagesDone statuses) a keeps = refl
same_config (Say message) a keeps = refl
same_config (BeginTry next) a keeps = refl

-- ---- what holds at a stage, since the round began

-- the configuration is still the former one, as long as no offer was applied
abbrev Changed : Bool → Stage → Stage → Type 0
Changed true from t = t.half.saved.config ≡ from.half.saved.config
Changed false from t = IsFormerOrApplied from t

pub record Stands (early : Bool) (from t : Stage) : Type 0 where
  pub told : IsTrue t.folder.told
  pub count : from.folder.faults ≤ t.folder.faults
  pub area : HasConfig t ⊎ (IsDue t.held.settling × FailsBetween from.folder.faults t.folder.faults)
  pub changed : Changed early from t

pub record Leaves (from t : Stage) : Type 0 where
  pub area : HasConfigOrDue t
  pub changed : IsFormerOrApplied from t

abbrev StandsAt : {T : Type 0} → Bool → Stage → Stage → Result T AgentEnd → Type 0
StandsAt early from t (Ok value) = Stands early from t
StandsAt early from t (Err end) = is_store_fault end ≡ false → Leaves from t

abbrev pub Keeps : {T : Type 0} → Bool → Bool → Stage → (Stage → Stage → Result T AgentEnd → Type 0) → Type 0
Keeps {T = T} before after from P = (s t : Stage) (result : Result T AgentEnd) → Stands before from s → P s t result → StandsAt after from t result

module _ {A B : Type 0} (first second third : Bool) (from : Stage) (P : Stage → Stage → Result A AgentEnd → Type 0) (Q : A → Stage → Stage → Result B AgentEnd → Type 0) where
  pub then_keeps : Keeps first second from P → ((a : A) → Keeps second third from (Q a)) → Keeps first third from (Then P Q)
  then_keeps one two s t (Ok value) stands (m, (a, (begun, done))) = two a m t (Ok value) (one s m (Ok a) stands begun) done
  then_keeps one two s t (Err end) stands (inl ended) = one s t (Err end) stands ended
  then_keeps one two s t (Err end) stands (inr (m, (a, (begun, ended)))) = two a m t (Err end) (one s m (Ok a) stands begun) ended

loosen : (early : Bool) (from t : Stage) → Changed early from t → IsFormerOrApplied from t
loosen true from t changed = inl changed
loosen false from t changed = changed

-- the area, the settling and the configuration are as they were
pub record Same (s t : Stage) : Type 0 where
  pub files : (name : List ℕ) → t.folder.files areas.Config name ≡ s.folder.files areas.Config name
  pub settling : t.held.settling ≡ s.held.settling
  pub config : t.half.saved.config ≡ s.half.saved.config

has_same : (s t : Stage) → Same s t → HasConfig s → HasConfig t
has_same s t same has = λ name. same.files name ∙ (has name ∙ ap (λ config. files_of config.config_map name) (sym same.config))

due_same : (s t : Stage) → Same s t → IsDue s.held.settling → IsDue t.held.settling
due_same s t same due = subst IsDue (sym same.settling) due

changed_same : (early : Bool) (from s t : Stage) → Same s t → Changed early from s → Changed early from t
changed_same true from s t same changed = same.config ∙ changed
changed_same false from s t same (inl former) = inl (same.config ∙ former)
changed_same false from s t same (inr has) = inr (has_same s t same has)

fails_on : (a b c : ℕ) → FailsBetween a b → b ≤ c → FailsBetween a c
fails_on a b c fails more = record { before = fails.before; after = fails.after; begins = fails.begins; rises = fails.rises; ends = omega (arith, fails.ends, more) }

fails_since : (a b c : ℕ) → a ≤ b → FailsBetween b c → FailsBetween a c
fails_since a b c more fails = record { before = fails.before; after = fails.after; begins = omega (arith, fails.begins, more); rises = fails.rises; ends = fails.ends }

fails_now : (a b c : ℕ) → a ≤ b → HasRisen b c → FailsBetween a c
fails_now a b c more risen = record { before = b; after = c; begins = more; rises = risen; ends = omega arith }

stands_on : (early : Bool) (from s t : Stage) → Stands early from s → t.folder.told ≡ s.folder.told → s.folder.faults ≤ t.folder.faults → Same s t → Stands early from t
stands_on early from s t stands told count same = record {
  told = subst IsTrue (sym told) stands.told;
  count = omega (arith, stands.count, count);
  area = elim stands.area [
    | inl has ↦ inl (has_same s t same has)
    | inr due ↦ inr (due_same s t same due.0, fails_on from.folder.faults s.folder.faults t.folder.faults due.1 count)
  ];
  changed = changed_same early from s t same stands.changed;
}

leaves_at : (early : Bool) (from s : Stage) → Stands early from s → Leaves from s
leaves_at early from s stands = record {
  area = elim stands.area [ inl has ↦ inl has | inr due ↦ inr due.0 ];
  changed = loosen early from s stands.changed;
}

leaves_on : (early : Bool) (from s t : Stage) → Stands early from s → Same s t → Leaves from t
leaves_on early from s t stands same = record {
  area = elim stands.area [ inl has ↦ inl (has_same s t same has) | inr due ↦ inr (due_same s t same due.0) ];
  changed = loosen early from t (changed_same early from s t same stands.changed);
}

pub at_either : {T : Type 0} (early : Bool) (from s t : Stage) (result : Result T AgentEnd) → Stands early from s → t.folder.told ≡ s.folder.told → s.folder.faults ≤ t.folder.faults → Same s t
    → StandsAt early from t result
at_either early from s t (Ok value) stands told count same = stands_on early from s t stands told count same
at_either early from s t (Err end) stands told count same = λ other. leaves_on early from s t stands same

-- the folder, the settling and the configuration are as they were
pub same_of : (s t : Stage) → t.folder ≡ s.folder → t.held.settling ≡ s.held.settling → t.half.saved.config ≡ s.half.saved.config → Same s t
same_of s t folder settling config = record { files = λ name. ap (λ (f : FolderState). f.files areas.Config name) folder; settling = settling; config = config }

pub no_fewer : (f g : FolderState) → g ≡ f → f.faults ≤ g.faults
no_fewer f g is = subst (λ (h : FolderState). f.faults ≤ h.faults) (sym is) (omega arith)

stands_apart : (early : Bool) (from s t : Stage) → Stands early from s → t.folder ≡ s.folder → t.held.settling ≡ s.held.settling → t.half.saved.config ≡ s.half.saved.config → Stands early from t
stands_apart early from s t stands folder settling config =
    stands_on early from s t stands (ap (λ (f : FolderState). f.told) folder) (no_fewer s.folder t.folder folder) (same_of s t folder settling config)

stands_still : (early : Bool) (from s t : Stage) → Stands early from s → t ≡ s → Stands early from t
stands_still early from s t stands is = subst (Stands early from) (sym is) stands

leaves_still : (early : Bool) (from s t : Stage) → Stands early from s → t ≡ s → Leaves from t
leaves_still early from s t stands is = subst (Leaves from) (sym is) (leaves_at early from s stands)

pub gives_keep : {T : Type 0} (early : Bool) (from : Stage) (value : T) → Keeps early early from (Gives value)
gives_keep early from value s t (Ok given) stands gives = stands_still early from s t stands gives.0
gives_keep early from value s t (Err end) stands gives = λ other. leaves_still early from s t stands gives.0

-- ---- calls of the agent

call_keeps : (early : Bool) (from : Stage) (call : Call) → KeepsConfig call → Keeps early early from (MakesCall call)
call_keeps early from call keeps s t (Ok done) stands made =
    stands_apart early from s t stands (ap (λ (u : Stage). u.folder) made.1) (ap (λ (u : Stage). u.held.settling) made.1) (ap (λ (u : Stage). u.half.saved.config) made.1 ∙ same_config call s.half keeps)
call_keeps early from call keeps s t (Err ends.StoreFault) stands made = λ other. absurd (let e : true ≡ false = other in cc)
call_keeps early from call keeps s t (Err ends.FolderFault) stands made = λ other. leaves_still early from s t stands made.1
call_keeps early from call keeps s t (Err ends.ClockFault) stands made = λ other. leaves_still early from s t stands made.1
call_keeps early from call keeps s t (Err ends.RoundsSpent) stands made = λ other. leaves_still early from s t stands made.1
call_keeps early from call keeps s t (Err ends.NumbersSpent) stands made = λ other. leaves_still early from s t stands made.1
call_keeps early from call keeps s t (Err ends.TooLarge) stands made = λ other. leaves_still early from s t stands made.1
call_keeps early from call keeps s t (Err ends.NoMemory) stands made = λ other. leaves_still early from s t stands made.1

abbrev pub KeepAll : List Call → Type 0
KeepAll [] = Unit {0}
KeepAll (call ∷ calls) = KeepsConfig call × KeepAll calls

calls_keep : (early : Bool) (from : Stage) (calls : List Call) → KeepAll calls → Keeps early early from (MakesCalls calls)
calls_keep early from [] keep = gives_keep early from tt
calls_keep early from (call ∷ calls) keep =
    then_keeps early early early from (MakesCall call) (λ done. MakesCalls calls) (call_keeps early from call keep.0) (λ done. calls_keep early from calls keep.1)

pub leaving_keep : (none : Bool) → KeepAll (if none then [] else AbandonTry ∷ [])
leaving_keep true = tt
leaving_keep false = (tt, tt)

pub trial_keep : (none proved : Bool) → KeepAll (if none then [] else if proved then CommitTry ∷ [] else AbandonTry ∷ [])
trial_keep true proved = tt
trial_keep false true = (tt, tt)
trial_keep false false = (tt, tt)

-- ---- the folder's faults

or_last : (a b : Bool) → b ≡ true → (a || (b || false)) ≡ true
or_last true b is = refl
or_last false true is = refl
or_last false false is = is

or_first : (a b : Bool) → a ≡ true → (a || b) ≡ true
or_first true b is = refl
or_first false b is = absurd (let e : false ≡ true = is in cc)

ends_faulty : (calls : List FolderCall) → EndsInFault calls → list_any is_fault calls ≡ true
ends_faulty calls ended =
    ap (list_any is_fault) ended.parts ∙ (list_any-append is_fault ended.before (ended.last ∷ []) ∙ or_last (list_any is_fault ended.before) (is_fault ended.last) ended.fault)

undone_faulty : (seen : List FolderCall) (settled : Bool) → IsUndone settled seen → list_any is_fault seen ≡ true
undone_faulty seen settled undone =
    ap (list_any is_fault) undone.parts
    ∙ (list_any-append is_fault undone.applying undone.back ∙ or_first (list_any is_fault undone.applying) (list_any is_fault undone.back) (ends_faulty undone.applying undone.failed))

run_faulty : {T : Type 0} (old new : FolderState) (answer : Result T FolderFail) → Runs old new answer → answer ≡ Err folder.Fault → HasRisen old.faults new.faults
run_faulty old new (Ok value) runs is = absurd (let e : Ok value ≡ Err folder.Fault = is in cc)
run_faulty old new (Err folder.Fault) runs is = runs.makes.fault (ends_faulty runs.seen runs.stops)
run_faulty old new (Err folder.NoMemory) runs is = absurd (let e : Err folder.NoMemory ≡ Err folder.Fault = is in cc)

-- ---- the area is settled

-- the folder tells its files, its count hasn't fallen, and the configuration is the former one
record Begun (from s : Stage) : Type 0 where
  told : IsTrue s.folder.told
  count : from.folder.faults ≤ s.folder.faults
  former : s.half.saved.config ≡ from.half.saved.config

begun_early : (from s : Stage) → Stands true from s → Begun from s
begun_early from s stands = record { told = stands.told; count = stands.count; former = stands.changed }

unchanged : (early : Bool) (from t : Stage) → t.half.saved.config ≡ from.half.saved.config → Changed early from t
unchanged true from t same = same
unchanged false from t same = inl same

relax : (from t : Stage) → Stands true from t → Stands false from t
relax from t stands = record { told = stands.told; count = stands.count; area = stands.area; changed = inl stands.changed }

relax_at : {T : Type 0} (from t : Stage) (result : Result T AgentEnd) → StandsAt true from t result → StandsAt false from t result
relax_at from t (Ok value) stands = relax from t stands
relax_at from t (Err end) stands = stands

-- the area was settled to the configuration, or it is due; where the part goes on it is due only since the folder failed
module _ (early : Bool) (from s t : Stage) (begun : Begun from s) (same : t.half.saved.config ≡ s.half.saved.config) where
  settled_has : (done : Unit) → SettlesTo s.half.saved.config s.folder t.folder (Ok done) → HasConfig t
  settled_has done settles =
      λ name. settles.files (subst IsTrue (sym settles.runs.makes.told) begun.told) name ∙ ap (λ config. files_of config.config_map name) (sym same)

  settled_ends : (answer : Result Unit FolderFail) (result : Result Unit AgentEnd) → SettlesTo s.half.saved.config s.folder t.folder answer
      → ((fail : FolderFail) → answer ≡ Err fail → IsDue t.held.settling)
      → ((done : Unit) → answer ≡ Err folder.NoMemory → result ≡ Ok done → ⊥) → StandsAt early from t result
  settled_ends (Ok done) (Ok given) settles due wants = record {
    told = subst IsTrue (sym settles.runs.makes.told) begun.told;
    count = omega (arith, begun.count, settles.runs.makes.count);
    area = inl (settled_has done settles);
    changed = unchanged early from t (same ∙ begun.former);
  }
  settled_ends (Ok done) (Err end) settles due wants = λ other. record { area = inl (settled_has done settles); changed = inl (same ∙ begun.former) }
  settled_ends (Err folder.Fault) (Ok given) settles due wants = record {
    told = subst IsTrue (sym settles.runs.makes.told) begun.told;
    count = omega (arith, begun.count, settles.runs.makes.count);
    area = inr (due folder.Fault refl, fails_now from.folder.faults s.folder.faults t.folder.faults begun.count (run_faulty s.folder t.folder (Err folder.Fault) settles.runs refl));
    changed = unchanged early from t (same ∙ begun.former);
  }
  settled_ends (Err folder.NoMemory) (Ok given) settles due wants = absurd (wants given refl refl)
  settled_ends (Err fail) (Err end) settles due wants = λ other. record { area = inr (due fail refl); changed = inl (same ∙ begun.former) }

still_due : (now : Settling) (answer : Result Unit FolderFail) (fail : FolderFail) → answer ≡ Err fail → IsDue now → IsDue (still now answer)
still_due now (Ok done) fail is due = absurd (let e : Ok done ≡ Err fail = is in cc)
still_due now (Err other) fail is due = due

settled_goes_on : (now : Settling) (answer : Result Unit FolderFail) (done : Unit) → answer ≡ Err folder.NoMemory → settled_end now answer ≡ Ok done → ⊥
settled_goes_on now (Ok value) done is goes = let e : Ok value ≡ Err folder.NoMemory = is in cc
settled_goes_on now (Err folder.NoMemory) done is goes = let e : Err ends.NoMemory ≡ Ok done = goes in cc
settled_goes_on now (Err folder.Fault) done is goes = let e : Err folder.Fault ≡ Err folder.NoMemory = is in cc

area_settled : (s t : Stage) (result : Result Unit AgentEnd) → IsTrue s.folder.told → IsDue s.held.settling → SettlesArea s t result → StandsAt true s t result
area_settled s t result told due settled =
    settled_ends true s s t (record { told = told; count = omega arith; former = refl }) (ap (λ (u : Stage). u.half.saved.config) settled.rest) settled.answer result settled.settles
    (λ fail is. subst IsDue (sym (ap (λ (u : Stage). u.held.settling) settled.rest)) (still_due s.held.settling settled.answer fail is due))
    (λ done is goes. settled_goes_on s.held.settling settled.answer done is (sym settled.end ∙ goes))

settles_opens : (now : Settling) (s t : Stage) (result : Result Unit AgentEnd) → now ≡ s.held.settling → IsTrue s.folder.told → HasConfigOrDue s → SettlesBy now s t result → StandsAt true s t result
settles_opens settling.Settled s t result is told had settled =
    gives_keep true s tt s t result
    (record {
      told = told;
      count = omega arith;
      area = elim had [ inl has ↦ inl has | inr due ↦ absurd (subst IsDue (sym is) due) ];
      changed = refl;
    })
    settled
settles_opens settling.First s t result is told had settled = area_settled s t result told (subst IsDue is tt) settled
settles_opens settling.Again s t result is told had settled = area_settled s t result told (subst IsDue is tt) settled

again_due : (held : HeldView) (answer : Result Unit FolderFail) (fail : FolderFail) → answer ≡ Err fail → IsDue (held_again answer held).settling
again_due held (Ok done) fail is = absurd (let e : Ok done ≡ Err fail = is in cc)
again_due held (Err other) fail is = tt

back_goes_on : (answer : Result Unit FolderFail) (done : Unit) → answer ≡ Err folder.NoMemory → back_end answer ≡ Ok done → ⊥
back_goes_on (Ok value) done is goes = let e : Ok value ≡ Err folder.NoMemory = is in cc
back_goes_on (Err folder.NoMemory) done is goes = let e : Err ends.NoMemory ≡ Ok done = goes in cc
back_goes_on (Err folder.Fault) done is goes = let e : Err folder.Fault ≡ Err folder.NoMemory = is in cc

brought_back : (from s t : Stage) (result : Result Unit AgentEnd) → Begun from s → BringsBack s t result → StandsAt false from t result
brought_back from s t result begun back =
    settled_ends false from s t begun (ap (λ (u : Stage). u.half.saved.config) back.rest) back.answer result back.settles
    (λ fail is. subst IsDue (sym (ap (λ (u : Stage). u.held.settling) back.rest)) (again_due s.held back.answer fail is))
    (λ done is goes. back_goes_on back.answer done is (sym back.end ∙ goes))

-- ---- an offered configuration

is_answer : {T : Type 0} (answer : Result T Wanting) (value : T) → Ok value ≡ wanting answer → answer ≡ Ok value
is_answer (Ok other) value is = let e : other ≡ value = cc in ap (λ v. Ok v) e
is_answer (Err none) value is = absurd (let e : Ok value ≡ Err ends.NoMemory = is in cc)

wanting_due : (held : HeldView) (answer : Result Outcome Wanting) (end : AgentEnd) → Err end ≡ wanting answer → IsDue (held_after answer held).settling
wanting_due held (Ok outcome) end is = absurd (let e : Err end ≡ Ok outcome = is in cc)
wanting_due held (Err none) end is = tt

module _ (from : Stage) (offer : AgentRemoteConfig) where
  abbrev failed : List ℕ → Call
  failed text = failed_call offer text

  -- the area has the offered files: they are kept, or the area is brought back
  module _ (m t : Stage) (begun : Begun from m) (files : AreFiles (m.folder.files areas.Config) (files_of (offered_files offer).config_map)) where
    kept_files : MakesCall (applied_call offer) m t (Ok tt) → Stands false from t
    kept_files made =
        let has : HasConfig t = λ name. ap (λ (u : Stage). u.folder.files areas.Config name) made.1 ∙ (files name ∙ ap (λ config. files_of config.config_map name) (sym (ap (λ (u : Stage). u.half.saved.config) made.1))) in
        record {
          told = subst IsTrue (sym (ap (λ (u : Stage). u.folder.told) made.1)) begun.told;
          count = subst (λ (u : Stage). from.folder.faults ≤ u.folder.faults) (sym made.1) begun.count;
          area = inl has;
          changed = inr has;
        }

    left_due : t ≡ record m { held = unsettled m.held } → Leaves from t
    left_due is = record {
      area = inr (subst IsDue (sym (ap (λ (u : Stage). u.held.settling) is)) tt);
      changed = inl (ap (λ (u : Stage). u.half.saved.config) is ∙ begun.former);
    }

    kept_out : (end : AgentEnd) → MakesCall (applied_call offer) (record m { held = unsettled m.held }) t (Err end) → is_store_fault end ≡ false → Leaves from t
    kept_out ends.StoreFault made other = absurd (let e : true ≡ false = other in cc)
    kept_out ends.FolderFault made other = left_due made.1
    kept_out ends.ClockFault made other = left_due made.1
    kept_out ends.RoundsSpent made other = left_due made.1
    kept_out ends.NumbersSpent made other = left_due made.1
    kept_out ends.TooLarge made other = left_due made.1
    kept_out ends.NoMemory made other = left_due made.1

    back_ends : (text : List ℕ) (result : Result Unit AgentEnd) → FailsBack offer text m t result → StandsAt false from t result
    back_ends text (Ok done) (n, (back, (brought, made))) = call_keeps false from (failed text) tt n t (Ok done) (brought_back from m n (Ok back) begun brought) made
    back_ends text (Err end) (inl brought) = brought_back from m t (Err end) begun brought
    back_ends text (Err end) (inr (n, (back, (brought, made)))) = call_keeps false from (failed text) tt n t (Err end) (brought_back from m n (Ok back) begun brought) made

    kept_ends : (fit : Bool) (result : Result Unit AgentEnd) → KeepsBy fit offer m t result → StandsAt false from t result
    kept_ends true (Ok done) kept = kept_files kept
    kept_ends true (Err end) kept = kept_out end kept
    kept_ends false result kept = back_ends (codes "too large") result kept

    unless_ends : (text : Option (List ℕ)) (result : Result Unit AgentEnd) → KeepsUnless text offer m t result → StandsAt false from t result
    unless_ends None result kept = kept_ends (fits m.half (applied_call offer)) result kept
    unless_ends (Some text) result kept = back_ends text result kept

  -- the collector's word was watched for
  module _ (m n : Stage) (beside : Beside m n) (begun : Begun from m) where
    begun_beside : Begun from n
    begun_beside = record {
      told = subst IsTrue (sym beside.told) begun.told;
      count = omega (arith, begun.count, beside.count);
      former = ap (λ (u : Stage). u.half.saved.config) beside.rest ∙ begun.former;
    }

    files_beside : AreFiles (m.folder.files areas.Config) (files_of (offered_files offer).config_map) → AreFiles (n.folder.files areas.Config) (files_of (offered_files offer).config_map)
    files_beside files name = beside.files areas.Config name ∙ files name

  module _ (m t : Stage) (begun : Begun from m) (files : AreFiles (m.folder.files areas.Config) (files_of (offered_files offer).config_map)) where
    proved_ends : (watch : Option Trial) (result : Result Unit AgentEnd) → KeepsProved watch offer m t result → StandsAt false from t result
    proved_ends None result kept = unless_ends m t begun files None result kept
    proved_ends (Some watch) (Ok done) (n, (said, (watched, kept))) =
        let beside = watches_beside (quarters watch.seconds) watch.name m n (Ok said) watched in
        unless_ends n t (begun_beside m n beside begun) (files_beside m n beside begun files) (refusal said) (Ok done) kept
    proved_ends (Some watch) (Err end) (inl watched) =
        let beside = watches_beside (quarters watch.seconds) watch.name (record m { held = unsettled m.held }) t (Err end) watched in
        λ other. record {
          area = inr (subst IsDue (sym (ap (λ (u : Stage). u.held.settling) beside.rest)) tt);
          changed = inl (ap (λ (u : Stage). u.half.saved.config) beside.rest ∙ begun.former);
        }
    proved_ends (Some watch) (Err end) (inr (n, (said, (watched, kept)))) =
        let beside = watches_beside (quarters watch.seconds) watch.name m n (Ok said) watched in
        unless_ends n t (begun_beside m n beside begun) (files_beside m n beside begun files) (refusal said) (Err end) kept

  module _ (s m t : Stage) (stands : Stands true from s) where
    module _ (outcome : Outcome) (applied : AppliesFiles offer s m (Ok outcome)) where
      answered : applied.answer ≡ Ok outcome
      answered = is_answer applied.answer outcome applied.end

      begun_applied : Begun from m
      begun_applied = record {
        told = subst IsTrue (sym applied.applies.calls.makes.told) stands.told;
        count = omega (arith, stands.count, applied.applies.calls.makes.count);
        former = ap (λ (u : Stage). u.half.saved.config) applied.rest ∙ stands.changed;
      }

      settling_applied : m.held.settling ≡ (held_after (Ok outcome) s.held).settling
      settling_applied = ap (λ (u : Stage). u.held.settling) applied.rest ∙ ap (λ (a : Result Outcome Wanting). (held_after a s.held).settling) answered

    -- nothing was done for a bad name
    named_stands : (name : List ℕ) → AppliesFiles offer s m (Ok (outcomes.BadName name)) → Stands false from m
    named_stands name applied =
        relax from m
        (stands_apart true from s m stands (applied.applies.undone name (answered (outcomes.BadName name) applied)) (settling_applied (outcomes.BadName name) applied)
        (ap (λ (u : Stage). u.half.saved.config) applied.rest))

    -- the area was brought back
    back_stands : AppliesFiles offer s m (Ok (outcomes.FolderFault true)) → Stands false from m
    back_stands applied =
        let begun = begun_applied (outcomes.FolderFault true) applied in
        let has = applied.applies.back (answered (outcomes.FolderFault true) applied) begun.told in record {
          told = begun.told;
          count = begun.count;
          area = inl (λ name. has name ∙ ap (λ config. files_of config.config_map name) (sym (ap (λ (u : Stage). u.half.saved.config) applied.rest)));
          changed = inl begun.former;
        }

    -- it wasn't
    unsettled_stands : AppliesFiles offer s m (Ok (outcomes.FolderFault false)) → Stands false from m
    unsettled_stands applied =
        let begun = begun_applied (outcomes.FolderFault false) applied in
        let calls = applied.applies.calls in
        let undone : IsUndone false calls.seen = subst (λ (a : Result Outcome Wanting). EndsSo calls.seen a) (answered (outcomes.FolderFault false) applied) calls.ends in record {
          told = begun.told;
          count = begun.count;
          area = inr (
            subst IsDue (sym (settling_applied (outcomes.FolderFault false) applied)) tt,
            fails_now from.folder.faults s.folder.faults m.folder.faults stands.count (calls.makes.fault (undone_faulty calls.seen false undone)),
          );
          changed = inl begun.former;
        }

    config_ends : (watch : Option Trial) (outcome : Outcome) (result : Result Unit AgentEnd) → AppliesFiles offer s m (Ok outcome) → ConfigEnds watch offer outcome m t result → StandsAt false from t result
    config_ends watch (outcomes.BadName name) result applied ended = call_keeps false from (failed (codes "bad name")) tt m t result (named_stands name applied) ended
    config_ends watch (outcomes.FolderFault true) result applied ended = call_keeps false from (failed (codes "folder fault")) tt m t result (back_stands applied) ended
    config_ends watch (outcomes.FolderFault false) result applied ended = call_keeps false from (failed (codes "folder fault")) tt m t result (unsettled_stands applied) ended
    config_ends watch outcomes.Applied result applied ended =
        let begun = begun_applied outcomes.Applied applied in
        proved_ends m t begun (applied.applies.applied (answered outcomes.Applied applied) begun.told) watch result ended

  -- memory was wanting for it
  applied_out : (s t : Stage) (end : AgentEnd) → Stands true from s → AppliesFiles offer s t (Err end) → Leaves from t
  applied_out s t end stands applied = record {
    area = inr (subst IsDue (sym (ap (λ (u : Stage). u.held.settling) applied.rest)) (wanting_due s.held applied.answer end applied.end));
    changed = inl (ap (λ (u : Stage). u.half.saved.config) applied.rest ∙ stands.changed);
  }

brings_keep : (from : Stage) (watch : Option Trial) (offer : AgentRemoteConfig) → Keeps true false from (Brings watch offer)
brings_keep from watch offer s t (Ok done) stands (m, (outcome, (applied, ended))) = config_ends from offer s m t stands watch outcome (Ok done) applied ended
brings_keep from watch offer s t (Err end) stands (inl applied) = λ other. applied_out from offer s t end stands applied
brings_keep from watch offer s t (Err end) stands (inr (m, (outcome, (applied, ended)))) = config_ends from offer s m t stands watch outcome (Err end) applied ended

-- the trial's name is in another area
names_keep : (from : Stage) (name : List ℕ) → Keeps true true from (NamesTrial name)
names_keep from name s t result stands names = at_either true from s t result stands names.call.told names.call.count (record {
  files = λ file. names.same areas.Config file refl;
  settling = ap (λ (u : Stage). u.held.settling) names.rest;
  config = ap (λ (u : Stage). u.half.saved.config) names.rest;
})

fails_keep : (from : Stage) (offer : AgentRemoteConfig) (text : List ℕ) → Keeps true false from (MakesCall (failed_call offer text))
fails_keep from offer text s t result stands made = relax_at from t result (call_keeps true from (failed_call offer text) tt s t result stands made)

named_keeps : (from : Stage) (trial : Trial) (offer : AgentRemoteConfig) (named : Bool) → Keeps true false from (TriesNamed trial offer named)
named_keeps from trial offer true = brings_keep from (Some trial) offer
named_keeps from trial offer false = fails_keep from offer (codes "folder fault")

tried_keeps : (from : Stage) (fit : Bool) (trial : Trial) (offer : AgentRemoteConfig) → Keeps true false from (TriesBy fit trial offer)
tried_keeps from true trial offer =
    then_keeps true true false from (NamesTrial trial.name) (λ named. TriesNamed trial offer named) (names_keep from trial.name) (named_keeps from trial offer)
tried_keeps from false trial offer = fails_keep from offer (codes "too large")

tries_keep : (from : Stage) (tried : Option ℕ) (offer : AgentRemoteConfig) → Keeps true false from (TriesFor tried offer)
tries_keep from None offer = brings_keep from None offer
tries_keep from (Some seconds) offer = λ s t result stands run.
    tried_keeps from (fits s.half (applied_call offer)) (record { seconds = seconds; name = name_of s.half offer }) offer s t result stands run

configures_keep : (from : Stage) (offer : Option AgentRemoteConfig) → Keeps true false from (Configures offer)
configures_keep from None s t result stands given = relax_at from t result (gives_keep true from tt s t result stands given)
configures_keep from (Some offer) s t result stands (tried, (is, run)) = tries_keep from tried offer s t result stands run

-- ---- the other parts

reads_keep : (early : Bool) (from : Stage) → Keeps early early from ReadsStatus
reads_keep early from s t result stands read = at_either early from s t result stands read.call.told read.call.count (record {
  files = λ name. read.files areas.Config name;
  settling = ap (λ (u : Stage). u.held.settling) read.rest;
  config = ap (λ (u : Stage). u.half.saved.config) read.rest;
})

local_keeps : (early : Bool) (from : Stage) (are : CustomCapabilities → Type 0) → Keeps early early from (TellsLocal are)
local_keeps early from are s t (Ok done) stands (names, (is, made)) = call_keeps early from (Change (local_by s.held.status s.half.saved.config names)) tt s t (Ok tt) stands made
local_keeps early from are s t (Err end) stands told = λ other. leaves_still early from s t stands told.1

report_keeps : (early : Bool) (from : Stage) → Keeps early early from MakesReport
report_keeps early from s t (Ok bytes) stands made = call_keeps early from Report tt s t (Ok tt) stands made.2
report_keeps early from s t (Err ends.StoreFault) stands made = λ other. absurd (let e : true ≡ false = other in cc)
report_keeps early from s t (Err ends.FolderFault) stands made = λ other. leaves_still early from s t stands made.1
report_keeps early from s t (Err ends.ClockFault) stands made = λ other. leaves_still early from s t stands made.1
report_keeps early from s t (Err ends.RoundsSpent) stands made = λ other. leaves_still early from s t stands made.1
report_keeps early from s t (Err ends.NumbersSpent) stands made = λ other. leaves_still early from s t stands made.1
report_keeps early from s t (Err ends.TooLarge) stands made = λ other. leaves_still early from s t stands made.1
report_keeps early from s t (Err ends.NoMemory) stands made = λ other. leaves_still early from s t stands made.1

dials_keep : (early : Bool) (from : Stage) → Keeps early early from (LinksBy None)
dials_keep early from s t (Ok link) stands dialled =
    stands_apart early from s t stands (ap (λ (u : Stage). u.folder) dialled.rest) (ap (λ (u : Stage). u.held.settling) dialled.rest) (ap (λ (u : Stage). u.half.saved.config) dialled.rest)
dials_keep early from s t (Err end) stands wanted = λ other. leaves_still early from s t stands wanted.1

pub links_keep : (early : Bool) (from : Stage) (link : Option ℕ) → Keeps early early from (LinksBy link)
links_keep early from (Some number) = gives_keep early from (Some number)
links_keep early from None = λ s t result. dials_keep early from s t result

pub asked_settling : {T : Type 0} (answer : Result T LinkFail) (held : HeldView) → (held_asked answer held).settling ≡ held.settling
asked_settling (Ok value) held = refl
asked_settling (Err fail) held = refl

asks_link_keep : (early : Bool) (from : Stage) (bytes : List ℕ) (number : ℕ) → Keeps early early from (AsksLink bytes number)
asks_link_keep early from bytes number s t result stands asked =
    at_either early from s t result stands (ap (λ (u : Stage). u.folder.told) asked.rest) (no_fewer s.folder t.folder (ap (λ (u : Stage). u.folder) asked.rest))
    (same_of s t (ap (λ (u : Stage). u.folder) asked.rest) (ap (λ (u : Stage). u.held.settling) asked.rest ∙ asked_settling asked.answer s.held) (ap (λ (u : Stage). u.half.saved.config) asked.rest))

pub asks_keep : (early : Bool) (from : Stage) (bytes : List ℕ) (link : Option ℕ) → Keeps early early from (AsksReport bytes link)
asks_keep early from bytes None s t result stands asked = gives_keep early from None s t result stands asked
asks_keep early from bytes (Some number) s t (Ok reply) stands asked = asks_link_keep early from bytes number s t (Ok reply) stands asked
asks_keep early from bytes (Some number) s t (Err end) stands (inl wanted) = λ other. leaves_still early from s t stands wanted.1
asks_keep early from bytes (Some number) s t (Err end) stands (inr asked) = asks_link_keep early from bytes number s t (Err end) stands asked

pub server_keeps : (early : Bool) (from : Stage) (bytes : List ℕ) → Keeps early early from (AsksServer bytes)
server_keeps early from bytes =
    then_keeps early early early from HasLink (AsksReport bytes) (λ s t result stands linked. links_keep early from (idle_link s) s t result stands linked) (asks_keep early from bytes)

synced_folder : (same : Bool) (offer : PackagesAvailable) (s t : Stage) (statuses : PackageStatuses) → SyncedBy same offer s t statuses
    → (t.folder.told ≡ s.folder.told) × (s.folder.faults ≤ t.folder.faults)
synced_folder true offer s t statuses synced = (ap (λ (u : Stage). u.folder.told) synced.1, no_fewer s.folder t.folder (ap (λ (u : Stage). u.folder) synced.1))
synced_folder false offer s t statuses synced = (
  synced.cleared.removed.told ∙ synced.visited.written.told,
  omega (arith, synced.cleared.removed.count, synced.visited.written.count),
)

module _ (from : Stage) (offer : PackagesAvailable) where
  same_synced : (s t : Stage) (result : Result PackageStatuses AgentEnd) → Syncs offer s t result → Same s t
  same_synced s t result ran = record {
    files = λ name. ran.others areas.Config name refl;
    settling = ap (λ (u : Stage). u.held.settling) ran.rest;
    config = ap (λ (u : Stage). u.half.saved.config) ran.rest;
  }

  synced_stands : (s t : Stage) (given : PackageStatuses) (answer : Result PackageStatuses Wanting) → Stands false from s → Same s t → IfOk answer (SyncsSo offer s t)
      → Ok given ≡ wanting answer → Stands false from t
  synced_stands s t given (Ok statuses) stands same synced is =
      let both = synced_folder (is_same_offer s.half.saved.packages offer) offer s t statuses synced.0 in
      stands_on false from s t stands both.0 both.1 same
  synced_stands s t given (Err none) stands same synced is = absurd (let e : Ok given ≡ Err ends.NoMemory = is in cc)

  syncs_keep : Keeps false false from (Syncs offer)
  syncs_keep s t (Ok given) stands ran = synced_stands s t given ran.answer stands (same_synced s t (Ok given) ran) ran.synced ran.end
  syncs_keep s t (Err end) stands ran = λ other. leaves_on false from s t stands (same_synced s t (Err end) ran)

installs_keep : (from : Stage) (offer : Option PackagesAvailable) → Keeps false false from (Installs offer)
installs_keep from None = gives_keep false from tt
installs_keep from (Some offer) =
    then_keeps false false false from (Syncs offer) (λ statuses. MakesCall (PackagesDone statuses)) (syncs_keep from offer) (λ statuses. call_keeps false from (PackagesDone statuses) tt)

says_keep : (from : Stage) (answer : Option CustomMessage) → Keeps false false from (Says answer)
says_keep from None = gives_keep false from tt
says_keep from (Some answer) = call_keeps false from (Say answer) tt

handles_keep : (from : Stage) (may : CustomMessage → Option CustomMessage → Type 0) (message : Option CustomMessage) → Keeps false false from (Handles may message)
handles_keep from may None s t result stands handled = gives_keep false from tt s t result stands handled
handles_keep from may (Some message) s t (Ok done) stands (answer, (allowed, said)) = says_keep from answer s t (Ok tt) stands said
handles_keep from may (Some message) s t (Err end) stands handled = λ other. leaves_still false from s t stands handled.1

begins_keep : (from : Stage) (next : Option Settings) → Keeps false false from (BeginsTrial next)
begins_keep from None = gives_keep false from tt
begins_keep from (Some settings) = call_keeps false from (BeginTry settings) tt

pub ends_keep : (from : Stage) (nanos : Option ℕ) (restart : Bool) → Keeps false false from (EndsBy nanos restart)
ends_keep from None restart s t result stands ended = gives_keep false from restart s t result stands ended
ends_keep from (Some nanos) restart s t result stands ended =
    at_either false from s t result stands (ap (λ (u : Stage). u.folder.told) ended.rest) (no_fewer s.folder t.folder (ap (λ (u : Stage). u.folder) ended.rest))
    (same_of s t (ap (λ (u : Stage). u.folder) ended.rest) (ap (λ (u : Stage). u.held.settling) ended.rest) (ap (λ (u : Stage). u.half.saved.config) ended.rest))

module _ (from : Stage) (may : CustomMessage → Option CustomMessage → Type 0) where
  next_keeps : (next : Next) → Keeps true false from (DealsWithNext may next)
  next_keeps next =
      then_keeps true true false from (λ s. MakesCalls (trial_calls s.half) s)
      (λ _. Then (Configures next.config) (λ _. Then (Installs next.packages) (λ _. Then (Handles may next.message) (λ _. Then (BeginsTrial next.connection) (λ _. PausesAfter next)))))
      (λ s t result stands made. calls_keep true from (trial_calls s.half) (trial_keep (is_none s.half.trial) (s.half.proved && fits s.half CommitTry)) s t result stands made)
      (λ _. then_keeps true false false from (Configures next.config) (λ _. Then (Installs next.packages) (λ _. Then (Handles may next.message) (λ _. Then (BeginsTrial next.connection) (λ _. PausesAfter next))))
      (configures_keep from next.config)
      (λ _. then_keeps false false false from (Installs next.packages) (λ _. Then (Handles may next.message) (λ _. Then (BeginsTrial next.connection) (λ _. PausesAfter next))) (installs_keep from next.packages)
      (λ _. then_keeps false false false from (Handles may next.message) (λ _. Then (BeginsTrial next.connection) (λ _. PausesAfter next)) (handles_keep from may next.message)
      (λ _. then_keeps false false false from (BeginsTrial next.connection) (λ _. PausesAfter next) (begins_keep from next.connection)
      (λ _ s t result stands paused. gives_keep false from (pause_after next s.half.saved.settings.interval) s t result stands paused)))))

  reply_keeps : (reply : ServerToAgent) → Keeps true false from (DealsWithReply may reply)
  reply_keeps reply s t result stands dealt =
      then_keeps true true false from (MakesCall (TakeReply reply)) (λ _. DealsWithNext may (next_of reply s.half)) (call_keeps true from (TakeReply reply) tt) (λ _. next_keeps (next_of reply s.half))
      s t result stands dealt

  give_up_keeps : Keeps true false from GivesUpRound
  give_up_keeps s t result stands given =
      let unlinked : Stage = record s { held = without_link s.held } in
      relax_at from t result
      (then_keeps true true true from (MakesCalls (GiveUp ∷ leaving_calls s.half)) (λ _ m. Gives (record { restart = false; nanos = Some (pause_of m.half.saved.settings.interval None) }) m)
      (calls_keep true from (GiveUp ∷ leaving_calls s.half) (tt, leaving_keep (is_none s.half.trial)))
      (λ _ m u result stands given. gives_keep true from (record { restart = false; nanos = Some (pause_of m.half.saved.settings.interval None) }) m u result stands given)
      unlinked t result (stands_apart true from s unlinked stands refl refl refl) given)

  deals_keep : (reply : Option ServerToAgent) → Keeps true false from (DealsWith may reply)
  deals_keep None = give_up_keeps
  deals_keep (Some reply) = reply_keeps reply

-- ---- a round

-- what a round that begins at this stage leaves behind its first parts
abbrev Opens : {T : Type 0} → Bool → Stage → (Stage → Stage → Result T AgentEnd → Type 0) → Type 0
Opens {T = T} after from P = (t : Stage) (result : Result T AgentEnd) → P from t result → StandsAt after from t result

module _ {A B : Type 0} (second third : Bool) (from : Stage) (P : Stage → Stage → Result A AgentEnd → Type 0) (Q : A → Stage → Stage → Result B AgentEnd → Type 0) where
  then_opens : Opens second from P → ((a : A) → Keeps second third from (Q a)) → Opens third from (Then P Q)
  then_opens one two t (Ok value) (m, (a, (begun, done))) = two a m t (Ok value) (one m (Ok a) begun) done
  then_opens one two t (Err end) (inl ended) = one t (Err end) ended
  then_opens one two t (Err end) (inr (m, (a, (begun, ended)))) = two a m t (Err end) (one m (Ok a) begun) ended

-- nothing is held: the settling is due
pub first_due : (s : Stage) (prove : Option ℕ) → s.held ≡ nothing_held prove → HasConfigOrDue s
first_due s prove is = inr (subst (λ (held : HeldView). IsDue held.settling) (sym is) tt)

-- the wait of a round
pub wait_keeps : (from : Stage) (pause : Pause) → Keeps false false from (EndsWith pause)
wait_keeps from pause = ends_keep from pause.nanos pause.restart

module _ (asks : Asking) (waits : Waiting) (asks_stand : (from : Stage) (bytes : List ℕ) → Keeps true true from (asks bytes))
    (waits_stand : (from : Stage) (pause : Pause) → Keeps false false from (waits pause))
    (may : CustomMessage → Option CustomMessage → Type 0) (are : CustomCapabilities → Type 0) where
  module _ (from : Stage) (told : IsTrue from.folder.told) (had : HasConfigOrDue from) where
    informs_opens : Opens true from (Informs are)
    informs_opens =
        then_opens true true from SettlesWhereDue (λ _. Then ReadsStatus (λ _. TellsLocal are)) (λ t result settled. settles_opens from.held.settling from t result refl told had settled)
        (λ _. then_keeps true true true from ReadsStatus (λ _. TellsLocal are) (reads_keep true from) (λ _. local_keeps true from are))

    prepares_opens : Opens true from (Prepares are)
    prepares_opens = then_opens true true from (Informs are) (λ _. MakesReport) informs_opens (λ _. report_keeps true from)

    pub round_opens : Opens false from (RoundBy asks waits may are)
    round_opens =
        then_opens true false from (Prepares are) (λ bytes. Then (asks bytes) (λ reply. Then (DealsWith may reply) waits)) prepares_opens
        (λ bytes. then_keeps true true false from (asks bytes) (λ reply. Then (DealsWith may reply) waits) (asks_stand from bytes)
        (λ reply. then_keeps true false false from (DealsWith may reply) waits (deals_keep from may reply) (waits_stand from)))

  leaves_config : {T : Type 0} (s t : Stage) (result : Result T AgentEnd) → StandsAt false s t result → LeavesConfig s t result
  leaves_config s t (Ok value) stands = stands.area
  leaves_config s t (Err end) left = λ other. (left other).area

  is_former : {T : Type 0} (s t : Stage) (result : Result T AgentEnd) → store_failed result ≡ false → StandsAt false s t result → IsFormerOrApplied s t
  is_former s t (Ok value) other stands = stands.changed
  is_former s t (Err end) other left = (left other).changed

  pub round_leaves : (s t : Stage) (result : Result Bool AgentEnd) → IsTrue s.folder.told → HasConfigOrDue s → RoundBy asks waits may are s t result → LeavesConfig s t result
  round_leaves s t result told had round = leaves_config s t result (round_opens s told had t result round)

  pub round_former : (s t : Stage) (result : Result Bool AgentEnd) → IsTrue s.folder.told → HasConfigOrDue s → RoundBy asks waits may are s t result → store_failed result ≡ false → IsFormerOrApplied s t
  round_former s t result told had round other = is_former s t result other (round_opens s told had t result round)

  -- ---- so many rounds

  left_area : (s t : Stage) → Stands false s t → HasConfigOrDue t
  left_area s t stands = (leaves_at false s t stands).area

  leaves_since : (s m t : Stage) (result : Result ℕ AgentEnd) → s.folder.faults ≤ m.folder.faults → LeavesConfig m t result → LeavesConfig s t result
  leaves_since s m t (Ok rounds) count (inl has) = inl has
  leaves_since s m t (Ok rounds) count (inr due) = inr (due.0, fails_since s.folder.faults m.folder.faults t.folder.faults count due.1)
  leaves_since s m t (Err end) count left = left

  pub rounds_leave : (left done : ℕ) (s t : Stage) (result : Result ℕ AgentEnd) → IsTrue s.folder.told → HasConfigOrDue s → RoundsBy asks waits may are left done s t result → LeavesConfig s t result
  rounds_leave zero done s t (Ok rounds) told had ran = absurd (let e : Ok rounds ≡ Err ends.RoundsSpent = ran.1 in cc)
  rounds_leave zero done s t (Err end) told had ran = λ other. subst HasConfigOrDue (sym ran.0) had
  rounds_leave (suc left) done s t (Ok rounds) told had (m, (true, (round, given))) = subst (λ (u : Stage). LeavesConfig s u (Ok rounds)) (sym given.0) (round_opens s told had m (Ok true) round).area
  rounds_leave (suc left) done s t (Ok rounds) told had (m, (false, (round, more))) =
      let stands = round_opens s told had m (Ok false) round in
      leaves_since s m t (Ok rounds) stands.count (rounds_leave left (done + 1) m t (Ok rounds) stands.told (left_area s m stands) more)
  rounds_leave (suc left) done s t (Err end) told had (inl ended) = λ other. (round_opens s told had t (Err end) ended other).area
  rounds_leave (suc left) done s t (Err end) told had (inr (m, (true, (round, given)))) = absurd (let e : Err end ≡ Ok (done + 1) = given.1 in cc)
  rounds_leave (suc left) done s t (Err end) told had (inr (m, (false, (round, more)))) =
      let stands = round_opens s told had m (Ok false) round in
      rounds_leave left (done + 1) m t (Err end) stands.told (left_area s m stands) more

  -- ---- from one moment to another

  pub leads_leave : (before after : Moment) (result : Result Bool AgentEnd) → Leads (RoundBy asks waits may are) before after result → IsTrue before.folder.told
      → HasConfigOrDue (stage_at before []) → LeavesConfig (stage_at before []) (stage_at after []) result
  leads_leave before after result leads told had =
      let run = leads [] in
      round_leaves (stage_at before []) (with_saves run.saves (stage_at after [])) result told had run.does

  at_end : (s t : Stage) (result : Result ℕ AgentEnd) → LeavesConfig s t result → OnOk result (HasConfig t ⊎ FailsBetween s.folder.faults t.folder.faults)
  at_end s t (Ok rounds) (inl has) = inl has
  at_end s t (Ok rounds) (inr due) = inr due.1
  at_end s t (Err end) left = tt

  pub leads_to_config : (rounds : ℕ) (before after : Moment) (result : Result ℕ AgentEnd) → Leads (RoundsBy asks waits may are rounds 0) before after result → (prove : Option ℕ) → before.held ≡ nothing_held prove
      → IsTrue before.folder.told → OnOk result (HasConfig (stage_at after []) ⊎ FailsBetween before.folder.faults after.folder.faults)
  leads_to_config rounds before after result leads prove none told =
      let run = leads [] in
      at_end (stage_at before []) (with_saves run.saves (stage_at after [])) result
      (rounds_leave rounds 0 (stage_at before []) (with_saves run.saves (stage_at after [])) result told (first_due (stage_at before []) prove none) run.does)
