-- A round's calls of the agent are those of the world's events.
use Rattle.std.proofs.Common.{inr, inl, ◌≡◌, ℕ, zero, suc, List, [], ◌∷◌, ◌++◌, length, Bool, true, false, not, ◌&&◌, cond, Option, None, Some, Result, Ok, Err, IfOk, IfSome, refl, sym, ◌∙◌, ap, subst}
use Rattle.std.specs.Prelude.{◌+◌, ◌-◌, ◌*◌, ◌==◌, codes, find, if◌then◌else◌}
use Rattle.std.specs.List.{list_all}
use Rattle.std.specs.Option.{option_and_then, option_map, option_map_or, option_to_list}
use Rattle.std.proofs.lemmas.List.{append_assoc, append-nil}
use Rattle.plain_values.specs.declared.memory.NoMemory.{NoMemory as Wanting}
use Rattle.plain_values.specs.declared.maps.Pair.{Pair}
use Rattle.plain_values.specs.declared.files.AgentConfigFile.{AgentConfigFile}
use Rattle.message_values.specs.declared.config.AgentRemoteConfig.{AgentRemoteConfig}
use Rattle.message_values.specs.declared.custom.CustomCapabilities.{CustomCapabilities}
use Rattle.message_values.specs.declared.custom.CustomMessage.{CustomMessage}
use Rattle.message_values.specs.declared.packages.PackageStatuses.{PackageStatuses}
use Rattle.message_values.specs.declared.packages.PackagesAvailable.{PackagesAvailable}
use Rattle.message_values.specs.declared.reply.ServerToAgent.{ServerToAgent}
use Rattle.message_values.specs.declared.state.Settings.{Settings}
use Rattle.edge_devices.specs.declared.dialers.LinkFail.{LinkFail}
use Rattle.edge_devices.specs.Names.{are_good_names, is_good_among}
use Rattle.agent_config.specs.declared.Outcome.{Outcome}
use Rattle.agent_config.specs.declared.Outcome.TheVariants as outcomes
use Rattle.agent_config.specs.Config.{first_bad}
use Rattle.agent_rules.specs.declared.saved.Saved.{Saved}
use Rattle.agent_rules.specs.declared.rules.parts.LocalState.{LocalState}
use Rattle.agent_rules.specs.declared.rules.parts.Next.{Next}
use Rattle.agent_rules.specs.Reports.{where_true}
use Rattle.agent_rules.specs.Half.{AgentHalf, no_packages}
use Rattle.agent_rules.specs.Keeping.{Call, Change, Report, TakeReply, GiveUp, PackagesDone, Say, BeginTry, fits, keeping, kept_by}
use Rattle.agent_rules.specs.Calls.{call_after, calls_after, may_report, saves_of, told}
use Rattle.agent_rules.specs.Offers.{Reactions, applied_call, config_call, failed_call, next_of, offered_files, trial_calls, without_trial}
use Rattle.agent_rules.specs.Events.{AgentEvent, Changes, Reports, Hears, GivesUp, agent_after, agent_run, calls_in, following, leaving_calls, reply_calls, saves_in}
use Rattle.agent_rounds.specs.declared.ends.AgentEnd.{AgentEnd}
use Rattle.agent_rounds.specs.declared.ends.AgentEnd.TheVariants.{NoMemory}
use Rattle.agent_rounds.specs.declared.ends.Pause.{Pause}
use Rattle.agent_rounds.specs.declared.held.Settling.{Settling}
use Rattle.agent_rounds.specs.declared.held.Settling.TheVariants as settling
use Rattle.agent_rounds.specs.declared.listening.Arrival.{Arrival}
use Rattle.agent_rounds.specs.declared.listening.Arrival.TheVariants.{Quiet, Came, Gone}
use Rattle.agent_rounds.specs.Status.{local_by, without_link}
use Rattle.agent_rounds.specs.Stages.{Gives, MakesCall, MakesCalls, Stage, Then}
use Rattle.agent_rounds.specs.Parts.{AsksReport, Hears as HearsAnswer, HasLink, LinksBy, SettlesBy, idle_link}
use Rattle.agent_rounds.specs.Replies.{BeginsTrial, Brings, ConfigEnds, Configures, DealsWith, DealsWithNext, DealsWithReply, EndsBy, EndsWith, FailsBack, GivesUpRound, Handles, Installs, IsTriedFor, KeepsBy, KeepsProved, KeepsUnless, TriesBy, TriesFor, Says, TellsBadName, WaitsFor, wanting}
use Rattle.agent_rounds.specs.declared.proving.Trial.{Trial}
use Rattle.agent_rounds.specs.Proving.{name_of, quarters, refusal}
use Rattle.agent_rounds.proofs.ProvingLemmas.{watches_beside}
use Rattle.agent_rounds.specs.Rounds.{AgentRound, Asking, AsksServer, Informs, Prepares, RoundBy, Waiting}
use Rattle.agent_rounds.specs.Listening.{AsksQuietServer, Drains, DrainsLink, DrainsOn, Listens, ListensBy, ListensWith, LooksOn, PushedRound, WaitsInParts, WaitsOn, longest_part, most_looks, parts_before}
use Rattle.agent_rounds.specs.Moments.{number_held}
use Rattle.agent_rounds.specs.RoundEvents.{HeardReply, Happens, HappensAsRound, HappensBeforeWait, came_of_report, reply_heard, saves_of_events}

-- ---- calls that have room, one after another

abbrev pub AllFit : AgentHalf → List Call → Type 0
AllFit a [] = Unit {0}
AllFit a (call ∷ calls) = (fits a call ≡ true) × AllFit (call_after a call) calls

module _ (ys : List Call) where
  calls-append : (a : AgentHalf) (xs : List Call) → AllFit a xs → calls_after a (xs ++ ys) ≡ calls_after (calls_after a xs) ys
  calls-append a [] fit = refl
  calls-append a (x ∷ xs) fit =
      ap (λ (b : Bool). if b then calls_after (call_after a x) (xs ++ ys) else a) fit.0
      ∙ (calls-append (call_after a x) xs fit.1 ∙ sym (ap (λ (b : Bool). calls_after (if b then calls_after (call_after a x) xs else a) ys) fit.0))

  pub saves-append : (a : AgentHalf) (xs : List Call) → AllFit a xs → saves_of a (xs ++ ys) ≡ saves_of a xs ++ saves_of (calls_after a xs) ys
  saves-append a [] fit = refl
  saves-append a (x ∷ xs) fit =
      ap (λ (b : Bool). if b then option_to_list (kept_by a x) ++ saves_of (call_after a x) (xs ++ ys) else []) fit.0
      ∙ (ap (λ s. option_to_list (kept_by a x) ++ s) (saves-append (call_after a x) xs fit.1)
      ∙ (sym (append_assoc (option_to_list (kept_by a x)) (saves_of (call_after a x) xs) (saves_of (calls_after (call_after a x) xs) ys))
      ∙ sym (ap (λ (b : Bool). (if b then option_to_list (kept_by a x) ++ saves_of (call_after a x) xs else []) ++ saves_of (if b then calls_after (call_after a x) xs else a) ys) fit.0)))

  fit-append : (a : AgentHalf) (xs : List Call) → AllFit a xs → AllFit (calls_after a xs) ys → AllFit a (xs ++ ys)
  fit-append a [] fit more = more
  fit-append a (x ∷ xs) fit more =
      (fit.0, fit-append (call_after a x) xs fit.1 (subst (λ (b : Bool). AllFit (if b then calls_after (call_after a x) xs else a) ys) fit.0 more))

-- These calls were made between two stages.
abbrev pub Made : List Call → Stage → Stage → Type 0
Made calls s t = AllFit s.half calls × ((t.half ≡ calls_after s.half calls) × (t.keeps ≡ s.keeps ++ saves_of s.half calls))

-- no call was made
abbrev pub Still : Stage → Stage → Type 0
Still s t = (t.half ≡ s.half) × (t.keeps ≡ s.keeps)

pub still_at : (s t : Stage) → t ≡ s → Still s t
still_at s t is = (ap (λ (u : Stage). u.half) is, ap (λ (u : Stage). u.keeps) is)

made_none : (s t : Stage) → Still s t → Made [] s t
made_none s t still = (tt, (still.0, still.1 ∙ sym (append-nil s.keeps)))

pub made_one : (call : Call) (s t : Stage) → MakesCall call s t (Ok tt) → Made (call ∷ []) s t
made_one call s t made = (
  (made.0, tt),
  (
    ap (λ (u : Stage). u.half) made.1 ∙ ap (λ (b : Bool). if b then call_after s.half call else s.half) (sym made.0),
    ap (λ (u : Stage). u.keeps) made.1
        ∙ (ap (λ k. s.keeps ++ k) (sym (append-nil (option_to_list (kept_by s.half call))))
        ∙ ap (λ (b : Bool). s.keeps ++ (if b then option_to_list (kept_by s.half call) ++ [] else [])) (sym made.0)),
  ),
)

pub made_both : (xs ys : List Call) (s m t : Stage) → Made xs s m → Made ys m t → Made (xs ++ ys) s t
made_both xs ys s m t first second = (
  fit-append ys s.half xs first.0 (subst (λ (a : AgentHalf). AllFit a ys) first.1.0 second.0),
  (
    second.1.0 ∙ (ap (λ (a : AgentHalf). calls_after a ys) first.1.0 ∙ sym (calls-append ys s.half xs first.0)),
    second.1.1
        ∙ (ap (λ (k : List Saved). k ++ saves_of m.half ys) first.1.1
        ∙ (ap (λ (a : AgentHalf). s.keeps ++ saves_of s.half xs ++ saves_of a ys) first.1.0
        ∙ (append_assoc s.keeps (saves_of s.half xs) (saves_of (calls_after s.half xs) ys) ∙ ap (λ (k : List Saved). s.keeps ++ k) (sym (saves-append ys s.half xs first.0))))),
  ),
)

-- parts between calls
made_from : (xs : List Call) (s m t : Stage) → Still s m → Made xs m t → Made xs s t
made_from xs s m t still made = made_both [] xs s m t (made_none s m still) made

made_to : (xs : List Call) (s m t : Stage) → Made xs s m → Still m t → Made xs s t
made_to xs s m t made still = (made.0, (still.0 ∙ made.1.0, still.1 ∙ made.1.1))

pub made_calls : (calls : List Call) (s t : Stage) (done : Unit {0}) → MakesCalls calls s t (Ok done) → Made calls s t
made_calls [] s t done gives = made_none s t (still_at s t gives.0)
made_calls (call ∷ calls) s t done (m, (over, (first, rest))) = made_both (call ∷ []) calls s m t (made_one call s m first) (made_calls calls m t done rest)

-- ---- parts that make no call

abbrev pub StaysStill : {A : Type 0} → (Stage → Stage → Result A AgentEnd → Type 0) → Type 0
StaysStill {A} P = (s t : Stage) (a : A) → P s t (Ok a) → Still s t

still_both : (s m t : Stage) → Still s m → Still m t → Still s t
still_both s m t first second = (second.0 ∙ first.0, second.1 ∙ first.1)

then_still : {A B : Type 0} (P : Stage → Stage → Result A AgentEnd → Type 0) (Q : A → Stage → Stage → Result B AgentEnd → Type 0) → StaysStill P → ((a : A) → StaysStill (Q a)) → StaysStill (Then P Q)
then_still P Q first second s t b (m, (a, (does, follows))) = still_both s m t (first s m a does) (second a m t b follows)

gives_still : {A : Type 0} (value : A) → StaysStill (Gives value)
gives_still value s t a gives = still_at s t gives.0

pub settles_still : (due : Settling) → StaysStill (SettlesBy due)
settles_still settling.Settled s t a settled = gives_still tt s t a settled
settles_still settling.First s t a settled = (ap (λ (u : Stage). u.half) settled.rest, ap (λ (u : Stage). u.keeps) settled.rest)
settles_still settling.Again s t a settled = (ap (λ (u : Stage). u.half) settled.rest, ap (λ (u : Stage). u.keeps) settled.rest)

links_still : (idle : Option ℕ) → StaysStill (LinksBy idle)
links_still (Some number) s t a linked = gives_still (Some number) s t a linked
links_still None s t a linked = (ap (λ (u : Stage). u.half) linked.rest, ap (λ (u : Stage). u.keeps) linked.rest)

pub link_still : StaysStill HasLink
link_still s t a linked = links_still (idle_link s) s t a linked

asked_still : (bytes : List ℕ) (link : Option ℕ) → StaysStill (AsksReport bytes link)
asked_still bytes None s t a asked = gives_still None s t a asked
asked_still bytes (Some number) s t a asked = (ap (λ (u : Stage). u.half) asked.rest, ap (λ (u : Stage). u.keeps) asked.rest)

looks_still : (link : Option ℕ) → StaysStill (LooksOn link)
looks_still None s t a looked = gives_still Quiet s t a looked
looks_still (Some number) s t a looked = (ap (λ (u : Stage). u.half) looked.rest, ap (λ (u : Stage). u.keeps) looked.rest)

pub listens_still : StaysStill Listens
listens_still s t a listened = looks_still (number_held s.held) s t a listened

drains_on_still : (more : Stage → Stage → Result Bool AgentEnd → Type 0) → StaysStill more → (arrival : Arrival) → StaysStill (DrainsOn more arrival)
drains_on_still more still Quiet s t a drained = gives_still true s t a drained
drains_on_still more still Came s t a drained = still s t a drained
drains_on_still more still Gone s t a drained = gives_still false s t a drained

pub drains_still : (looks : ℕ) → StaysStill (Drains looks)
drains_still zero = gives_still false
drains_still (suc looks) = then_still Listens (DrainsOn (Drains looks)) listens_still (drains_on_still (Drains looks) (drains_still looks))

pub drained_still : (link : Option ℕ) → StaysStill (DrainsLink link)
drained_still None = gives_still None
drained_still (Some number) =
    then_still (Drains most_looks) (λ quiet. Gives (if quiet then Some number else None)) (drains_still most_looks) (λ quiet. gives_still (if quiet then Some number else None))

pub waits_still : (nanos : ℕ) (restart : Bool) → StaysStill (WaitsFor nanos restart)
waits_still nanos restart s t a waited = (ap (λ (u : Stage). u.half) waited.rest, ap (λ (u : Stage). u.keeps) waited.rest)

ends_still : (nanos : Option ℕ) (restart : Bool) → StaysStill (EndsBy nanos restart)
ends_still None restart = gives_still restart
ends_still (Some nanos) restart = waits_still nanos restart

waits_on_still : (restart : Bool) (more : Stage → Stage → Result Bool AgentEnd → Type 0) → StaysStill more → (arrival : Arrival) → StaysStill (WaitsOn restart more arrival)
waits_on_still restart more still Quiet s t a waited = still s t a waited
waits_on_still restart more still Came s t a waited = gives_still restart s t a waited
waits_on_still restart more still Gone s t a waited = still s t a waited

parts_still : (parts last : ℕ) (restart : Bool) → StaysStill (WaitsInParts parts last restart)
parts_still zero last restart =
    then_still (WaitsFor last restart) (λ _. Then Listens (λ _. Gives restart)) (waits_still last restart)
    (λ _. then_still Listens (λ _. Gives restart) listens_still (λ _. gives_still restart))
parts_still (suc parts) last restart =
    then_still (WaitsFor longest_part restart) (λ _. Then Listens (WaitsOn restart (WaitsInParts parts last restart))) (waits_still longest_part restart)
    (λ _. then_still Listens (WaitsOn restart (WaitsInParts parts last restart)) listens_still (waits_on_still restart (WaitsInParts parts last restart) (parts_still parts last restart)))

listening_still : (nanos : Option ℕ) (restart : Bool) → StaysStill (ListensBy nanos restart)
listening_still None restart = gives_still restart
listening_still (Some nanos) restart = parts_still (parts_before nanos) (nanos - parts_before nanos * longest_part) restart

-- ---- names

some_bad : {T : Type 0} (good : T → Bool) (xs : List T) (x : T) → find (λ y. not (good y)) xs ≡ Some x → list_all good xs ≡ false
some_bad good [] x found = absurd (cc found)
some_bad good (y ∷ ys) x found = by_test (λ rest. some_bad good ys x rest) (good y) refl
  where
    by_test : (find (λ z. not (good z)) ys ≡ Some x → list_all good ys ≡ false) → (b : Bool) → good y ≡ b → (good y && list_all good ys) ≡ false
    by_test further true e = ap (λ (t : Bool). t && list_all good ys) e ∙ further (sym (ap (λ (t : Bool). cond (not t) (Some y) (find (λ z. not (good z)) ys)) e) ∙ found)
    by_test further false e = ap (λ (t : Bool). t && list_all good ys) e

none_bad : {T : Type 0} (good : T → Bool) (xs : List T) → find (λ y. not (good y)) xs ≡ None → list_all good xs ≡ true
none_bad good [] found = refl
none_bad good (y ∷ ys) found = by_test (λ rest. none_bad good ys rest) (good y) refl
  where
    by_test : (find (λ z. not (good z)) ys ≡ None → list_all good ys ≡ true) → (b : Bool) → good y ≡ b → (good y && list_all good ys) ≡ true
    by_test further true e = ap (λ (t : Bool). t && list_all good ys) e ∙ further (sym (ap (λ (t : Bool). cond (not t) (Some y) (find (λ z. not (good z)) ys)) e) ∙ found)
    by_test further false e = absurd (cc (sym (ap (λ (t : Bool). cond (not t) (Some y) (find (λ z. not (good z)) ys)) e) ∙ found))

some_key : (o : Option (Pair AgentConfigFile)) (name : List ℕ) → option_map (λ file. file.key) o ≡ Some name → (file : Pair AgentConfigFile) × (o ≡ Some file)
some_key None name is = absurd (cc is)
some_key (Some file) name is = (file, refl)

none_key : (o : Option (Pair AgentConfigFile)) → option_map (λ file. file.key) o ≡ None → o ≡ None
none_key None is = refl
none_key (Some file) is = absurd (cc is)

pub bad_names : (files : List (Pair AgentConfigFile)) (name : List ℕ) → first_bad files ≡ Some name → are_good_names files ≡ false
bad_names files name found = let file = some_key _ name found in some_bad (λ f. is_good_among (length files) f.key) files file.0 file.1

pub good_names : (files : List (Pair AgentConfigFile)) → first_bad files ≡ None → are_good_names files ≡ true
good_names files none = none_bad (λ f. is_good_among (length files) f.key) files (none_key _ none)

-- ---- an offered configuration

abbrev pub call_by : Bool → Option (List ℕ) → Bool → AgentRemoteConfig → Call
call_by good failure fit offer =
    if not good then failed_call offer (codes "bad name")
    else option_map_or (failed_call offer) failure (if fit then applied_call offer else failed_call offer (codes "too large"))

pub is_answer : (answer : Result Outcome Wanting) (value : Outcome) → Ok value ≡ wanting answer → answer ≡ Ok value
is_answer (Ok other) value is = let e : other ≡ value = cc in ap (λ v. Ok v) e
is_answer (Err none) value is = absurd (let e : Ok value ≡ Err NoMemory = is in cc)

pub names_told : (offer : AgentRemoteConfig) (answer : Result Outcome Wanting) (outcome : Outcome) → answer ≡ Ok outcome → IfOk answer (TellsBadName offer) → TellsBadName offer outcome
names_told offer answer outcome is told = subst (λ (r : Result Outcome Wanting). IfOk r (TellsBadName offer)) is told

back_made : (offer : AgentRemoteConfig) (text : List ℕ) (m t : Stage) (done : Unit {0}) → FailsBack offer text m t (Ok done) → Made (failed_call offer text ∷ []) m t
back_made offer text m t done (n, (back, (brought, made))) =
    made_from (failed_call offer text ∷ []) m n t (ap (λ (u : Stage). u.half) brought.rest, ap (λ (u : Stage). u.keeps) brought.rest) (made_one (failed_call offer text) n t made)

keeps_made : (offer : AgentRemoteConfig) (m t : Stage) (done : Unit {0}) (fit : Bool) → KeepsBy fit offer m t (Ok done) → Made (call_by true None fit offer ∷ []) m t
keeps_made offer m t done true made = made_one (applied_call offer) m t made
keeps_made offer m t done false kept = back_made offer (codes "too large") m t done kept

unless_made : (offer : AgentRemoteConfig) (m t : Stage) (done : Unit {0}) (failure : Option (List ℕ)) → KeepsUnless failure offer m t (Ok done)
    → Made (call_by true failure (fits m.half (applied_call offer)) offer ∷ []) m t
unless_made offer m t done None kept = keeps_made offer m t done (fits m.half (applied_call offer)) kept
unless_made offer m t done (Some text) kept = back_made offer text m t done kept

-- why the offered files aren't in use, if the folder or the collector failed, and what was made of them
proved_made : (offer : AgentRemoteConfig) (m t : Stage) (done : Unit {0}) (watch : Option Trial) → KeepsProved watch offer m t (Ok done)
    → (failure : Option (List ℕ)) × Made (call_by true failure (fits m.half (applied_call offer)) offer ∷ []) m t
proved_made offer m t done None kept = (None, unless_made offer m t done None kept)
proved_made offer m t done (Some watch) (n, (said, (watched, kept))) =
    let beside = watches_beside (quarters watch.seconds) watch.name m n (Ok said) watched in
    let half : n.half ≡ m.half = ap (λ (u : Stage). u.half) beside.rest in (
      refusal said,
      made_from (call_by true (refusal said) (fits m.half (applied_call offer)) offer ∷ []) m n t (half, ap (λ (u : Stage). u.keeps) beside.rest)
          (subst (λ (a : AgentHalf). Made (call_by true (refusal said) (fits a (applied_call offer)) offer ∷ []) n t) half (unless_made offer n t done (refusal said) kept)),
    )

abbrev ConfigMade : AgentRemoteConfig → Stage → Stage → Type 0
ConfigMade offer s t = (failure : Option (List ℕ)) × Made (config_call s.half failure offer ∷ []) s t

outcome_made : (offer : AgentRemoteConfig) (m t : Stage) (done : Unit {0}) (watch : Option Trial) (outcome : Outcome) → TellsBadName offer outcome → ConfigEnds watch offer outcome m t (Ok done) → ConfigMade offer m t
outcome_made offer m t done watch (outcomes.BadName name) told ended = (
  None,
  subst (λ (good : Bool). Made (call_by good None (fits m.half (applied_call offer)) offer ∷ []) m t) (sym (bad_names (offered_files offer).config_map name told))
      (made_one (failed_call offer (codes "bad name")) m t ended),
)
outcome_made offer m t done watch (outcomes.FolderFault settled) told ended = (
  Some (codes "folder fault"),
  subst (λ (good : Bool). Made (call_by good (Some (codes "folder fault")) (fits m.half (applied_call offer)) offer ∷ []) m t) (sym (good_names (offered_files offer).config_map told))
      (made_one (failed_call offer (codes "folder fault")) m t ended),
)
outcome_made offer m t done watch outcomes.Applied told ended =
    let proved = proved_made offer m t done watch ended in (
      proved.0,
      subst (λ (good : Bool). Made (call_by good proved.0 (fits m.half (applied_call offer)) offer ∷ []) m t) (sym (good_names (offered_files offer).config_map told)) proved.1,
    )

-- what was made behind a moment of the same half and keeps was made from there
made_behind : (offer : AgentRemoteConfig) (s m t : Stage) → m.half ≡ s.half → m.keeps ≡ s.keeps → ConfigMade offer m t → ConfigMade offer s t
made_behind offer s m t half keeps made = (
  made.0,
  made_from (config_call s.half made.0 offer ∷ []) s m t (half, keeps) (subst (λ (a : AgentHalf). Made (config_call a made.0 offer ∷ []) m t) half made.1),
)

brought_made : (offer : AgentRemoteConfig) (s t : Stage) (done : Unit {0}) (watch : Option Trial) → Brings watch offer s t (Ok done) → ConfigMade offer s t
brought_made offer s t done watch (m, (outcome, (applied, ended))) =
    made_behind offer s m t (ap (λ (u : Stage). u.half) applied.rest) (ap (λ (u : Stage). u.keeps) applied.rest)
    (outcome_made offer m t done watch outcome (names_told offer applied.answer outcome (is_answer applied.answer outcome applied.end) applied.names) ended)

-- before anything was brought the offer failed
early_made : (offer : AgentRemoteConfig) (text : List ℕ) (s t : Stage) (done : Unit {0}) → are_good_names (offered_files offer).config_map ≡ true → MakesCall (failed_call offer text) s t (Ok done) → ConfigMade offer s t
early_made offer text s t done good made = (
  Some text,
  subst (λ (good : Bool). Made (call_by good (Some text) (fits s.half (applied_call offer)) offer ∷ []) s t) (sym good) (made_one (failed_call offer text) s t made),
)

tried_made : (offer : AgentRemoteConfig) (s t : Stage) (done : Unit {0}) (trial : Trial) (fit : Bool) → are_good_names (offered_files offer).config_map ≡ true → TriesBy fit trial offer s t (Ok done) → ConfigMade offer s t
tried_made offer s t done trial false good made = early_made offer (codes "too large") s t done good made
tried_made offer s t done trial true good (k, (true, (names, brought))) =
    made_behind offer s k t (ap (λ (u : Stage). u.half) names.rest) (ap (λ (u : Stage). u.keeps) names.rest) (brought_made offer k t done (Some trial) brought)
tried_made offer s t done trial true good (k, (false, (names, failed))) =
    made_behind offer s k t (ap (λ (u : Stage). u.half) names.rest) (ap (λ (u : Stage). u.keeps) names.rest) (early_made offer (codes "folder fault") k t done good failed)

-- names that aren't bad are good
pub not_bad : (good : Bool) → ((good ≡ false) → ⊥) → good ≡ true
not_bad true not = refl
not_bad false not = absurd (not refl)

tries_made : (offer : AgentRemoteConfig) (s t : Stage) (done : Unit {0}) (tried : Option ℕ) → IsTriedFor s.held.prove s.half.saved.config offer tried → TriesFor tried offer s t (Ok done) → ConfigMade offer s t
tries_made offer s t done None is brought = brought_made offer s t done None brought
tries_made offer s t done (Some seconds) (inl (needs, none)) tried = absurd (let e : Some seconds ≡ None = none in cc)
tries_made offer s t done (Some seconds) (inr (not, prove)) tried =
    tried_made offer s t done (record { seconds = seconds; name = name_of s.half offer }) (fits s.half (applied_call offer))
    (not_bad (are_good_names (offered_files offer).config_map) (λ bad. not (inl bad))) tried

pub config_made : (offer : Option AgentRemoteConfig) (s t : Stage) (done : Unit {0}) → Configures offer s t (Ok done)
    → (failure : Option (List ℕ)) × Made (option_to_list (option_map (config_call s.half failure) offer)) s t
config_made None s t done gives = (None, made_none s t (still_at s t gives.0))
config_made (Some offer) s t done (tried, (is, run)) = tries_made offer s t done tried is run

-- ---- packages, messages, settings

pub packages_made : (offer : Option PackagesAvailable) (s t : Stage) (done : Unit {0}) → Installs offer s t (Ok done)
    → (statuses : PackageStatuses) × Made (option_to_list (option_map (λ o. PackagesDone statuses) offer)) s t
packages_made None s t done gives = (no_packages, made_none s t (still_at s t gives.0))
packages_made (Some offer) s t done (m, (statuses, (synced, made))) = (
  statuses,
  made_from (PackagesDone statuses ∷ []) s m t (ap (λ (u : Stage). u.half) synced.rest, ap (λ (u : Stage). u.keeps) synced.rest) (made_one (PackagesDone statuses) m t made),
)

says_made : (answer : Option CustomMessage) (s t : Stage) → Says answer s t (Ok tt) → Made (option_to_list (option_map (λ a. Say a) answer)) s t
says_made None s t gives = made_none s t (still_at s t gives.0)
says_made (Some answer) s t made = made_one (Say answer) s t made

pub handles_made : (may : CustomMessage → Option CustomMessage → Type 0) (message : Option CustomMessage) (s t : Stage) (done : Unit {0}) → Handles may message s t (Ok done)
    → (answer : Option CustomMessage) × Made (option_to_list (option_and_then (λ m. option_map (λ a. Say a) answer) message)) s t
handles_made may None s t done gives = (None, made_none s t (still_at s t gives.0))
handles_made may (Some message) s t done (answer, (allowed, said)) = (answer, says_made answer s t said)

begins_made : (next : Option Settings) (s t : Stage) (done : Unit {0}) → BeginsTrial next s t (Ok done) → Made (option_to_list (option_map (λ settings. BeginTry settings) next)) s t
begins_made None s t done gives = made_none s t (still_at s t gives.0)
begins_made (Some settings) s t done made = made_one (BeginTry settings) s t made

-- ---- a reply

next_made : (may : CustomMessage → Option CustomMessage → Type 0) (next : Next) (s t : Stage) (pause : Pause) → DealsWithNext may next s t (Ok pause)
    → (r : Reactions) × Made (trial_calls s.half ++ following (without_trial s.half) next r) s t
next_made may next s t pause (m1, (d1, (trial, (m2, (d2, (config, (m3, (d3, (packages, (m4, (d4, (handled, (m5, (d5, (begun, paused))))))))))))))) =
    let ended : Made (trial_calls s.half) s m1 = made_calls (trial_calls s.half) s m1 d1 trial in
    let configured = config_made next.config m1 m2 d2 config in
    let installed = packages_made next.packages m2 m3 d3 packages in
    let said = handles_made may next.message m3 m4 d4 handled in
    let begins = begins_made next.connection m4 m5 d5 begun in
    let r : Reactions = record { failure = configured.0; statuses = installed.0; answer = said.0 } in
    let first : List Call = option_to_list (option_map (config_call m1.half configured.0) next.config) in
    let second : List Call = option_to_list (option_map (λ offer. PackagesDone installed.0) next.packages) in
    let third : List Call = option_to_list (option_and_then (λ message. option_map (λ answer. Say answer) said.0) next.message) in
    let fourth : List Call = option_to_list (option_map (λ settings. BeginTry settings) next.connection) in
    let rest : Made (following m1.half next r) m1 m5 =
    made_both (first ++ second ++ third) fourth m1 m4 m5
    (made_both (first ++ second) third m1 m3 m4 (made_both first second m1 m2 m3 configured.1 installed.1) said.1) begins
    in (
      r,
      made_to (trial_calls s.half ++ following (without_trial s.half) next r) s m5 t
          (made_both (trial_calls s.half) (following (without_trial s.half) next r) s m1 m5 ended (subst (λ (a : AgentHalf). Made (following a next r) m1 m5) ended.1.0 rest))
          (still_at m5 t paused.0),
    )

reply_made : (may : CustomMessage → Option CustomMessage → Type 0) (reply : ServerToAgent) (s t : Stage) (pause : Pause) → DealsWithReply may reply s t (Ok pause)
    → (r : Reactions) × Made (reply_calls s.half reply r) s t
reply_made may reply s t pause (m, (done, (taken, dealt))) =
    let half : m.half ≡ told reply s.half = ap (λ (u : Stage). u.half) taken.1 in
    let made = next_made may (next_of reply s.half) m t pause dealt in (
      made.0,
      made_both (TakeReply reply ∷ []) (trial_calls (told reply s.half) ++ following (without_trial (told reply s.half)) (next_of reply s.half) made.0) s m t (made_one (TakeReply reply) s m taken)
          (subst (λ (a : AgentHalf). Made (trial_calls a ++ following (without_trial a) (next_of reply s.half) made.0) m t) half made.1),
    )

given_up_made : (s t : Stage) (pause : Pause) → GivesUpRound s t (Ok pause) → Made (GiveUp ∷ leaving_calls s.half) s t
given_up_made s t pause (m, (done, (calls, gives))) =
    made_to (GiveUp ∷ leaving_calls s.half) s m t (made_calls (GiveUp ∷ leaving_calls s.half) (record s { held = without_link s.held }) m done calls) (still_at m t gives.0)

-- ---- events

happens_first : (event : AgentEvent) (events : List AgentEvent) (s m t : Stage) → m.half ≡ agent_after s.half event → m.keeps ≡ s.keeps ++ saves_in s.half event → Happens events m t
    → Happens (event ∷ events) s t
happens_first event events s m t half keeps more = record {
  half = more.half ∙ ap (agent_run events) half;
  keeps = more.keeps
      ∙ (ap (λ (k : List Saved). k ++ saves_of_events events m.half) keeps
      ∙ (ap (λ (a : AgentHalf). s.keeps ++ saves_in s.half event ++ saves_of_events events a) half
      ∙ append_assoc s.keeps (saves_in s.half event) (saves_of_events events (agent_after s.half event))));
}

pub happens_none : (s t : Stage) → Still s t → Happens [] s t
happens_none s t still = record { half = still.0; keeps = still.1 ∙ sym (append-nil s.keeps) }

pub change_happens : (now : LocalState) (events : List AgentEvent) (s m t : Stage) → Made (Change now ∷ []) s m → Happens events m t → Happens (Changes now ∷ events) s t
change_happens now events s m t made more = happens_first (Changes now) events s m t made.1.0 made.1.1 more

pub report_happens : (events : List AgentEvent) (s m t : Stage) → may_report s.half ≡ true → Made (Report ∷ []) s m → Happens events m t → Happens (Reports ∷ events) s t
report_happens events s m t due made more =
    let calls : Made (calls_in s.half Reports) s m = subst (λ (b : Bool). Made (if b then Report ∷ [] else []) s m) (sym due) made in
    happens_first Reports events s m t calls.1.0 calls.1.1 more

reply_happens : (reply : ServerToAgent) (r : Reactions) (s m t : Stage) → s.half.awaits ≡ true → Made (reply_calls s.half reply r) s m → Still m t → Happens (Hears reply r ∷ []) s t
reply_happens reply r s m t awaits made still =
    let calls : Made (calls_in s.half (Hears reply r)) s m = subst (λ (b : Bool). Made (if b then reply_calls s.half reply r else []) s m) (sym awaits) made in
    happens_first (Hears reply r) [] s m t calls.1.0 calls.1.1 (happens_none m t still)

give_up_happens : (s m t : Stage) → s.half.awaits ≡ true → Made (GiveUp ∷ leaving_calls s.half) s m → Still m t → Happens (GivesUp ∷ []) s t
give_up_happens s m t awaits made still =
    let calls : Made (calls_in s.half GivesUp) s m = subst (λ (b : Bool). Made (if b then GiveUp ∷ leaving_calls s.half else []) s m) (sym awaits) made in
    happens_first GivesUp [] s m t calls.1.0 calls.1.1 (happens_none m t still)

-- from a stage at which nothing happened
happens_from : (events : List AgentEvent) (s m t : Stage) → Still s m → Happens events m t → Happens events s t
happens_from events s m t still more = record {
  half = more.half ∙ ap (agent_run events) still.0;
  keeps = more.keeps ∙ (λ i. still.1 i ++ saves_of_events events (still.0 i));
}

-- ---- a round

-- what is said of a way to ask: it makes no call, and its reply is to the agent
pub record AsksOf (asks : Asking) : Type 0 where
  pub still : (bytes : List ℕ) → StaysStill (asks bytes)
  pub to_it : (bytes : List ℕ) (s t : Stage) (reply : Option ServerToAgent) → asks bytes s t (Ok reply) → IfSome reply (λ r. r.instance_uid ≡ s.half.saved.uid)

same_uid : (a : AgentHalf) (limit : Bool) (part : Saved) → part.uid ≡ a.saved.uid → (keeping (where_true limit part) a).saved.uid ≡ a.saved.uid
same_uid a true part is = is
same_uid a false part is = refl

pub reported_uid : (a : AgentHalf) → (call_after a Report).saved.uid ≡ a.saved.uid
reported_uid a = same_uid a (a.next == a.saved.limit) (record (a.saved) { limit = a.saved.limit + 1024 }) refl

same_local : (a : AgentHalf) (limit : Bool) (part : Saved) → (keeping (where_true limit part) a).local ≡ a.local
same_local a true part = refl
same_local a false part = refl

reported_local : (a : AgentHalf) → (call_after a Report).local ≡ a.local
reported_local a = same_local a (a.next == a.saved.limit) (record (a.saved) { limit = a.saved.limit + 1024 })

heard_to : (a : AgentHalf) (answer : Result (List ℕ) LinkFail) (reply : Option ServerToAgent) → HearsAnswer a answer (Ok reply) → IfSome reply (λ r. r.instance_uid ≡ a.saved.uid)
heard_to a (Ok bytes) None heard = tt
heard_to a (Ok bytes) (Some reply) heard = heard.1
heard_to a (Err fail) None heard = tt
heard_to a (Err fail) (Some reply) heard = absurd (cc heard)

asked_to : (bytes : List ℕ) (link : Option ℕ) (s t : Stage) (reply : Option ServerToAgent) → AsksReport bytes link s t (Ok reply) → IfSome reply (λ r. r.instance_uid ≡ s.half.saved.uid)
asked_to bytes None s t None asked = tt
asked_to bytes None s t (Some reply) asked = absurd (cc asked.1)
asked_to bytes (Some number) s t reply asked = heard_to s.half asked.answer reply asked.hears

to_same : (s m : Stage) (reply : Option ServerToAgent) → m.half ≡ s.half → IfSome reply (λ r. r.instance_uid ≡ m.half.saved.uid) → IfSome reply (λ r. r.instance_uid ≡ s.half.saved.uid)
to_same s m None half is = tt
to_same s m (Some reply) half is = is ∙ ap (λ (a : AgentHalf). a.saved.uid) half

server_to : (bytes : List ℕ) (s t : Stage) (reply : Option ServerToAgent) → AsksServer bytes s t (Ok reply) → IfSome reply (λ r. r.instance_uid ≡ s.half.saved.uid)
server_to bytes s t reply (m, (link, (linked, asked))) = to_same s m reply (link_still s m link linked).0 (asked_to bytes link m t reply asked)

pub server_asks : AsksOf AsksServer
server_asks = record { still = λ bytes. then_still HasLink (AsksReport bytes) link_still (asked_still bytes); to_it = server_to }

quiet_to : (bytes : List ℕ) (s t : Stage) (reply : Option ServerToAgent) → AsksQuietServer bytes s t (Ok reply) → IfSome reply (λ r. r.instance_uid ≡ s.half.saved.uid)
quiet_to bytes s t reply (m, (link, (linked, (n, (left, (drained, asked)))))) =
    to_same s m reply (link_still s m link linked).0 (to_same m n reply (drained_still link m n left drained).0 (asked_to bytes left n t reply asked))

pub quiet_asks : AsksOf AsksQuietServer
quiet_asks = record {
  still = λ bytes. then_still HasLink (λ link. Then (DrainsLink link) (AsksReport bytes)) link_still
      (λ link. then_still (DrainsLink link) (AsksReport bytes) (drained_still link) (asked_still bytes));
  to_it = quiet_to;
}

module _ (asks : Asking) (waits : Waiting) (asking : AsksOf asks) (waiting : (pause : Pause) → StaysStill (waits pause)) (may : CustomMessage → Option CustomMessage → Type 0) (are : CustomCapabilities → Type 0) where
  dealt_happens : (s m t : Stage) (reply : Option ServerToAgent) (pause : Pause) → s.half.awaits ≡ true → DealsWith may reply s m (Ok pause) → Still m t
      → (uid : List ℕ) → IfSome reply (λ r. r.instance_uid ≡ uid)
      → (heard : Option HeardReply) × (Happens (came_of_report heard ∷ []) s t × (IfSome heard (λ h. h.reply.instance_uid ≡ uid) × (reply_heard heard ≡ reply)))
  dealt_happens s m t None pause awaits dealt still uid is = (None, (give_up_happens s m t awaits (given_up_made s m pause dealt) still, (tt, refl)))
  dealt_happens s m t (Some reply) pause awaits dealt still uid is =
      let made = reply_made may reply s m pause dealt in
      (Some (record { reply = reply; reactions = made.0 }), (reply_happens reply made.0 s m t awaits made.1 still, (is, refl)))

  pub informed : (s t : Stage) (done : Unit {0}) → Informs are s t (Ok done) → (now : LocalState) × (Made (Change now ∷ []) s t × (t.half.local ≡ now))
  informed s t done (m, (settled, (settles, (n, (read, (reads, (names, (is, made)))))))) =
      let now : LocalState = local_by n.held.status n.half.saved.config names in (
        now,
        (
          made_from (Change now ∷ []) s m t (settles_still s.held.settling s m settled settles)
              (made_from (Change now ∷ []) m n t (ap (λ (u : Stage). u.half) reads.rest, ap (λ (u : Stage). u.keeps) reads.rest) (made_one (Change now) n t made)),
          ap (λ (u : Stage). u.half.local) made.1,
        ),
      )

  -- a round up to where its answer was dealt with
  pub dealt_round : (s t : Stage) (bytes : List ℕ) (p : Stage) → Prepares are s p (Ok bytes) → (q : Stage) (reply : Option ServerToAgent) → asks bytes p q (Ok reply)
      → (d : Stage) (pause : Pause) → DealsWith may reply q d (Ok pause) → Still d t → HappensBeforeWait asks may are pause s d t
  dealt_round s t bytes p (i, (done, (informs, reports))) q reply asked d pause dealt still =
      let learned = informed s i done informs in
      let report : Made (Report ∷ []) i p = made_one Report i p reports.2 in
      let half : p.half ≡ call_after i.half Report = ap (λ (u : Stage). u.half) reports.2.1 in
      let quiet : Still p q = asking.still bytes p q reply asked in
      let awaits : q.half.awaits ≡ true = ap (λ (a : AgentHalf). a.awaits) (quiet.0 ∙ half) in
      let uid : p.half.saved.uid ≡ s.half.saved.uid =
      ap (λ (a : AgentHalf). a.saved.uid) half ∙ (reported_uid i.half ∙ ap (λ (a : AgentHalf). a.saved.uid) learned.1.0.1.0) in
      let dealt_with = dealt_happens q d t reply pause awaits dealt still p.half.saved.uid (asking.to_it bytes p q reply asked) in
      let heard : Option ServerToAgent = reply_heard dealt_with.0 in
      let same : reply ≡ heard = sym dealt_with.1.1.1 in
      record {
        now = learned.0;
        heard = dealt_with.0;
        happens = change_happens learned.0 (Reports ∷ came_of_report dealt_with.0 ∷ []) s i t learned.1.0
            (report_happens (came_of_report dealt_with.0 ∷ []) i p t reports.1 report (happens_from (came_of_report dealt_with.0 ∷ []) p q t quiet dealt_with.1.0));
        to_it = subst (λ (u : List ℕ). IfSome dealt_with.0 (λ h. h.reply.instance_uid ≡ u)) uid dealt_with.1.1.0;
        prepared = p;
        bytes = bytes;
        prepares = (i, (done, (informs, reports)));
        known = ap (λ (a : AgentHalf). a.local) half ∙ (reported_local i.half ∙ learned.1.1);
        asked = q;
        asks_it = subst (λ (r : Option ServerToAgent). asks bytes p q (Ok r)) same asked;
        deals = subst (λ (r : Option ServerToAgent). DealsWith may r q d (Ok pause)) same dealt;
      }

  pub round_happens : (s t : Stage) (restart : Bool) → RoundBy asks waits may are s t (Ok restart) → HappensAsRound asks waits may are s t
  round_happens s t restart (p, (bytes, (prepared, (q, (reply, (asked, (d, (pause, (dealt, waited))))))))) = record {
    pause = pause;
    dealt = d;
    round = dealt_round s t bytes p prepared q reply asked d pause dealt (waiting pause d t restart waited);
    restart = restart;
    waited = waited;
  }

pub wait_still : (pause : Pause) → StaysStill (EndsWith pause)
wait_still pause = ends_still pause.nanos pause.restart

pub listen_still : (pause : Pause) → StaysStill (ListensWith pause)
listen_still pause = listening_still pause.nanos pause.restart

pub round_is_events : (may : CustomMessage → Option CustomMessage → Type 0) (are : CustomCapabilities → Type 0) (s t : Stage) (restart : Bool) → AgentRound may are s t (Ok restart) → HappensAsRound AsksServer EndsWith may are s t
round_is_events may are = round_happens AsksServer EndsWith server_asks wait_still may are

pub pushed_is_events : (may : CustomMessage → Option CustomMessage → Type 0) (are : CustomCapabilities → Type 0) (s t : Stage) (restart : Bool) → PushedRound may are s t (Ok restart) → HappensAsRound AsksQuietServer ListensWith may are s t
pushed_is_events may are = round_happens AsksQuietServer ListensWith quiet_asks listen_still may are
