-- Which ends the parts of a round have, and why.
use Rattle.std.proofs.Common.{◌≡◌, ◌⊎◌, ◌+◌, ℕ, zero, suc, List, [], ◌∷◌, Bool, true, false, Option, None, Some, Result, Ok, Err, inl, inr, refl, sym, ◌∙◌, ap, subst, arith}
use Rattle.std.specs.Prelude.{codes, if◌then◌else◌, is_none, is_ok}
use Rattle.std.proofs.lemmas.Bool.{false≢true}
use Rattle.plain_values.specs.declared.memory.NoMemory.{NoMemory as Wanting}
use Rattle.message_values.specs.declared.config.AgentRemoteConfig.{AgentRemoteConfig}
use Rattle.message_values.specs.declared.custom.CustomCapabilities.{CustomCapabilities}
use Rattle.message_values.specs.declared.custom.CustomMessage.{CustomMessage}
use Rattle.message_values.specs.declared.packages.PackagesAvailable.{PackagesAvailable}
use Rattle.message_values.specs.declared.reply.ServerToAgent.{ServerToAgent}
use Rattle.message_values.specs.declared.state.Settings.{Settings}
use Rattle.edge_devices.specs.declared.clocks.ClockFault.{ClockFault as FaultOfClock}
use Rattle.edge_devices.specs.declared.dialers.LinkFail.{LinkFail}
use Rattle.edge_devices.specs.declared.folders.FolderFail.{FolderFail}
use Rattle.edge_devices.specs.declared.folders.FolderFail.TheVariants as folder
use Rattle.agent_config.specs.declared.Outcome.{Outcome}
use Rattle.agent_config.specs.declared.Outcome.TheVariants as outcomes
use Rattle.agent_rules.specs.declared.saved.Saved.{Saved}
use Rattle.agent_rules.specs.Half.{AgentHalf}
use Rattle.agent_rules.specs.Keeping.{AbandonTry, BeginTry, Call, GiveUp, PackagesDone, TakeReply, fits, fits_room, kept_by}
use Rattle.agent_rules.specs.Events.{leaving_calls}
use Rattle.agent_rules.specs.Offers.{applied_call, failed_call, next_of, trial_calls}
use Rattle.agent_rules.specs.declared.rules.parts.Next.{Next}
use Rattle.agent_state.specs.View.{AgentView}
use Rattle.agent_rounds.specs.declared.ends.AgentEnd.{AgentEnd}
use Rattle.agent_rounds.specs.declared.ends.Pause.{Pause}
use Rattle.agent_rounds.specs.declared.ends.AgentEnd.TheVariants as ends
use Rattle.agent_rounds.specs.declared.held.Settling.{Settling}
use Rattle.agent_rounds.specs.declared.held.Settling.TheVariants as settling
use Rattle.agent_rounds.specs.Ends.{ReplyEndsBy, ReportSpent, ReportTooLarge, RoundsDoneBy, RunEndsBy}
use Rattle.agent_rounds.specs.Moments.{Leads, Moment, agent_at, stage_at, with_saves}
use Rattle.agent_rounds.specs.Parts.{AsksReport, Hears, HasLink, LinksBy, MakesReport, ReadsStatus, SettlesBy, SettlesWhereDue, TellsLocal, idle_link, settled_end}
use Rattle.agent_rounds.specs.Replies.{AppliesFiles, BeginsTrial, Brings, BringsBack, ConfigEnds, Configures, DealsWith, DealsWithNext, DealsWithReply, EndsBy, EndsWith, FailsBack, GivesUpRound, Handles, Installs, KeepsBy, KeepsProved, KeepsUnless, PausesAfter, Syncs, TriesBy, TriesFor, TriesNamed, WatchesTrial, back_end, unsettled, waited_end, wanting}
use Rattle.agent_config.specs.declared.word.Said.{Said}
use Rattle.agent_config.specs.declared.word.Said.TheVariants.{Nothing, Taken, Refused}
use Rattle.agent_rounds.specs.declared.proving.Trial.{Trial}
use Rattle.agent_rounds.specs.Proving.{NamesTrial, ReadsWord, named_end, name_of, WaitsQuarter, Watches, WatchesAgain, WatchesOn, quarters, refusal}
use Rattle.agent_rounds.specs.Rounds.{Asking, AsksServer, Informs, Prepares, RoundBy, RoundsBy, Waiting}
use Rattle.agent_rounds.specs.Stages.{Gives, MakesCall, MakesCalls, Stage, Then}
use Rattle.agent_rounds.specs.Status.{pause_after, pause_of, without_link}

-- how a part ends that makes no call of the agent
abbrev pub IsOutsideEnd : AgentEnd → Type 0
IsOutsideEnd ends.FolderFault = Unit {0}
IsOutsideEnd ends.ClockFault = Unit {0}
IsOutsideEnd ends.NoMemory = Unit {0}
IsOutsideEnd ends.StoreFault = ⊥
IsOutsideEnd ends.RoundsSpent = ⊥
IsOutsideEnd ends.NumbersSpent = ⊥
IsOutsideEnd ends.TooLarge = ⊥

-- the parts of a round don't end because no rounds are left
abbrev Cause : AgentEnd → Stage → Type 0
Cause ends.NumbersSpent t = Unit {0}
Cause ends.RoundsSpent t = ⊥
Cause ends.FolderFault t = Unit {0}
Cause ends.ClockFault t = Unit {0}
Cause ends.NoMemory t = Unit {0}
Cause ends.StoreFault t = Unit {0}
Cause ends.TooLarge t = Unit {0}

abbrev pub EndsOutside : {T : Type 0} → (Stage → Stage → Result T AgentEnd → Type 0) → Type 0
EndsOutside P = (s t : Stage) (end : AgentEnd) → P s t (Err end) → IsOutsideEnd end

abbrev HasCauses : {T : Type 0} → (Stage → Stage → Result T AgentEnd → Type 0) → Type 0
HasCauses P = (s t : Stage) (end : AgentEnd) → P s t (Err end) → Cause end t

cause_outside : (t : Stage) (end : AgentEnd) → IsOutsideEnd end → Cause end t
cause_outside t ends.FolderFault is = tt
cause_outside t ends.ClockFault is = tt
cause_outside t ends.NoMemory is = tt
cause_outside t ends.StoreFault is = tt
cause_outside t ends.RoundsSpent is = is
cause_outside t ends.NumbersSpent is = tt
cause_outside t ends.TooLarge is = tt

outside_causes : {T : Type 0} (P : Stage → Stage → Result T AgentEnd → Type 0) → EndsOutside P → HasCauses P
outside_causes P outside s t end ended = cause_outside t end (outside s t end ended)

no_memory_ends : (end : AgentEnd) → end ≡ ends.NoMemory → IsOutsideEnd end
no_memory_ends end is = subst IsOutsideEnd (sym is) tt

module _ {A B : Type 0} (P : Stage → Stage → Result A AgentEnd → Type 0) (Q : A → Stage → Stage → Result B AgentEnd → Type 0) where
  pub then_outside : EndsOutside P → ((a : A) → EndsOutside (Q a)) → EndsOutside (Then P Q)
  then_outside first second s t end (inl ended) = first s t end ended
  then_outside first second s t end (inr (m, (a, (begun, ended)))) = second a m t end ended

  then_causes : HasCauses P → ((a : A) → HasCauses (Q a)) → HasCauses (Then P Q)
  then_causes first second s t end (inl ended) = first s t end ended
  then_causes first second s t end (inr (m, (a, (begun, ended)))) = second a m t end ended

pub never_ok : {T : Type 0} (end : AgentEnd) (value : T) → Err end ≡ Ok value → ⊥
never_ok end value is = cc

same_end : (a b : AgentEnd) (result : Result ℕ AgentEnd) → result ≡ Err a → result ≡ Err b → a ≡ b
same_end a b result one other = cc

pub gives_outside : {T : Type 0} (value : T) → EndsOutside (Gives value)
gives_outside value s t end given = absurd (never_ok end value given.1)

gives_causes : {T : Type 0} (value : T) → HasCauses (Gives value)
gives_causes value = outside_causes (Gives value) (gives_outside value)

-- ---- calls of the agent

call_causes : (call : Call) → HasCauses (MakesCall call)
call_causes call s t ends.StoreFault made = tt
call_causes call s t ends.FolderFault made = tt
call_causes call s t ends.ClockFault made = tt
call_causes call s t ends.RoundsSpent made = made.0
call_causes call s t ends.NumbersSpent made = tt
call_causes call s t ends.TooLarge made = tt
call_causes call s t ends.NoMemory made = tt

calls_causes : (calls : List Call) → HasCauses (MakesCalls calls)
calls_causes [] = gives_causes tt
calls_causes (call ∷ calls) = then_causes (MakesCall call) (λ done. MakesCalls calls) (call_causes call) (λ done. calls_causes calls)

-- ---- a report

settled_outside : (due : Settling) (answer : Result Unit FolderFail) (end : AgentEnd) → Err end ≡ settled_end due answer → IsOutsideEnd end
settled_outside due (Ok done) end is = absurd (never_ok end tt is)
settled_outside due (Err folder.NoMemory) end is = let e : end ≡ ends.NoMemory = cc in subst IsOutsideEnd (sym e) tt
settled_outside settling.First (Err folder.Fault) end is = let e : end ≡ ends.FolderFault = cc in subst IsOutsideEnd (sym e) tt
settled_outside settling.Again (Err folder.Fault) end is = absurd (never_ok end tt is)
settled_outside settling.Settled (Err folder.Fault) end is = absurd (never_ok end tt is)

settles_outside : (due : Settling) → EndsOutside (SettlesBy due)
settles_outside settling.Settled s t end settled = gives_outside tt s t end settled
settles_outside settling.First s t end settled = settled_outside s.held.settling settled.answer end settled.end
settles_outside settling.Again s t end settled = settled_outside s.held.settling settled.answer end settled.end

reads_outside : EndsOutside ReadsStatus
reads_outside s t ends.NoMemory read = tt
reads_outside s t ends.FolderFault read = tt
reads_outside s t ends.ClockFault read = tt
reads_outside s t ends.StoreFault read = read.end
reads_outside s t ends.RoundsSpent read = read.end
reads_outside s t ends.NumbersSpent read = read.end
reads_outside s t ends.TooLarge read = read.end

module _ (are : CustomCapabilities → Type 0) where
  informs_outside : EndsOutside (Informs are)
  informs_outside =
      then_outside SettlesWhereDue (λ _. Then ReadsStatus (λ _. TellsLocal are)) (λ s t end settled. settles_outside s.held.settling s t end settled)
      (λ done. then_outside ReadsStatus (λ _. TellsLocal are) reads_outside (λ done s t end told. no_memory_ends end told.0))

report_causes : HasCauses MakesReport
report_causes s t ends.StoreFault made = tt
report_causes s t ends.FolderFault made = tt
report_causes s t ends.ClockFault made = tt
report_causes s t ends.RoundsSpent made = made.0
report_causes s t ends.NumbersSpent made = tt
report_causes s t ends.TooLarge made = tt
report_causes s t ends.NoMemory made = tt

-- numbers or room are wanting
abbrev pub IsWanting : AgentEnd → Type 0
IsWanting ends.NumbersSpent = Unit {0}
IsWanting ends.TooLarge = Unit {0}
IsWanting ends.FolderFault = ⊥
IsWanting ends.ClockFault = ⊥
IsWanting ends.NoMemory = ⊥
IsWanting ends.StoreFault = ⊥
IsWanting ends.RoundsSpent = ⊥

-- the report for which they are
abbrev pub ReportWants : AgentEnd → AgentView → Type 0
ReportWants ends.NumbersSpent agent = ReportSpent agent
ReportWants ends.TooLarge agent = ReportTooLarge agent
ReportWants ends.FolderFault agent = ⊥
ReportWants ends.ClockFault agent = ⊥
ReportWants ends.NoMemory agent = ⊥
ReportWants ends.StoreFault agent = ⊥
ReportWants ends.RoundsSpent agent = ⊥

outside_apart : (end : AgentEnd) → IsWanting end → IsOutsideEnd end → ⊥
outside_apart ends.NumbersSpent wants is = is
outside_apart ends.TooLarge wants is = is
outside_apart ends.FolderFault wants is = wants
outside_apart ends.ClockFault wants is = wants
outside_apart ends.NoMemory wants is = wants
outside_apart ends.StoreFault wants is = wants
outside_apart ends.RoundsSpent wants is = wants

wanting_apart : (end : AgentEnd) → IsWanting end → end ≡ ends.RoundsSpent → ⊥
wanting_apart end wants is = subst IsWanting is wants

report_wants : (end : AgentEnd) → IsWanting end → (s t : Stage) → MakesReport s t (Err end) → ReportWants end (agent_at t)
report_wants ends.NumbersSpent wants s t made = subst (λ (u : Stage). ReportSpent (agent_at u)) (sym made.1) made.0
report_wants ends.TooLarge wants s t made = subst (λ (u : Stage). ReportTooLarge (agent_at u)) (sym made.1) made.0
report_wants ends.FolderFault wants s t made = absurd wants
report_wants ends.ClockFault wants s t made = absurd wants
report_wants ends.NoMemory wants s t made = absurd wants
report_wants ends.StoreFault wants s t made = absurd wants
report_wants ends.RoundsSpent wants s t made = absurd wants

-- a call that keeps nothing wants nothing
none≢some : {part : Saved} → None ≡ Some part → ⊥
none≢some is = cc

beside_apart : (end : AgentEnd) → IsWanting end → (call : Call) (s t : Stage) → kept_by s.half call ≡ None → MakesCall call s t (Err end) → ⊥
beside_apart ends.NumbersSpent wants call s t nothing made = none≢some (sym nothing ∙ made.0.1)
beside_apart ends.TooLarge wants call s t nothing made = false≢true (sym made.0 ∙ ap (λ k. fits_room s.half.room k) nothing)
beside_apart ends.FolderFault wants call s t nothing made = wants
beside_apart ends.ClockFault wants call s t nothing made = wants
beside_apart ends.NoMemory wants call s t nothing made = wants
beside_apart ends.StoreFault wants call s t nothing made = wants
beside_apart ends.RoundsSpent wants call s t nothing made = wants

-- ---- the server

pub links_outside : (link : Option ℕ) → EndsOutside (LinksBy link)
links_outside (Some number) s t end linked = gives_outside (Some number) s t end linked
links_outside None s t end linked = no_memory_ends end linked.0

hears_outside : (a : AgentHalf) (answer : Result (List ℕ) LinkFail) (end : AgentEnd) → Hears a answer (Err end) → IsOutsideEnd end
hears_outside a (Ok bytes) end heard = no_memory_ends end heard
hears_outside a (Err fail) end heard = absurd (never_ok end None heard)

pub asked_outside : (bytes : List ℕ) (link : Option ℕ) → EndsOutside (AsksReport bytes link)
asked_outside bytes None s t end asked = gives_outside None s t end asked
asked_outside bytes (Some number) s t end (inl wanting) = no_memory_ends end wanting.0
asked_outside bytes (Some number) s t end (inr asked) = hears_outside s.half asked.answer end asked.hears

pub asks_outside : (bytes : List ℕ) → EndsOutside (AsksServer bytes)
asks_outside bytes = then_outside HasLink (AsksReport bytes) (λ s t end linked. links_outside (idle_link s) s t end linked) (asked_outside bytes)

-- ---- its answer

wanting_outside : {T : Type 0} (answer : Result T Wanting) (end : AgentEnd) → Err end ≡ wanting answer → IsOutsideEnd end
wanting_outside (Ok value) end is = absurd (never_ok end value is)
wanting_outside (Err none) end is = let e : end ≡ ends.NoMemory = cc in subst IsOutsideEnd (sym e) tt

back_outside : (answer : Result Unit FolderFail) (end : AgentEnd) → Err end ≡ back_end answer → IsOutsideEnd end
back_outside (Ok done) end is = absurd (never_ok end tt is)
back_outside (Err folder.Fault) end is = absurd (never_ok end tt is)
back_outside (Err folder.NoMemory) end is = let e : end ≡ ends.NoMemory = cc in subst IsOutsideEnd (sym e) tt

pub waited_outside : (restart : Bool) (answer : Result Unit FaultOfClock) (end : AgentEnd) → Err end ≡ waited_end restart answer → IsOutsideEnd end
waited_outside restart (Ok done) end is = absurd (never_ok end restart is)
waited_outside restart (Err fault) end is = let e : end ≡ ends.ClockFault = cc in subst IsOutsideEnd (sym e) tt

pub waits_outside : (nanos : Option ℕ) (restart : Bool) → EndsOutside (EndsBy nanos restart)
waits_outside None restart s t end ended = gives_outside restart s t end ended
waits_outside (Some nanos) restart s t end ended = waited_outside restart ended.answer end ended.end

back_causes : (offer : AgentRemoteConfig) (text : List ℕ) → HasCauses (FailsBack offer text)
back_causes offer text =
    then_causes BringsBack (λ done. MakesCall (failed_call offer text)) (outside_causes BringsBack (λ s t end back. back_outside back.answer end back.end))
    (λ done. call_causes (failed_call offer text))

keeps_causes : (kept : Bool) (offer : AgentRemoteConfig) → HasCauses (KeepsBy kept offer)
keeps_causes true offer = λ s t end kept. call_causes (applied_call offer) (record s { held = unsettled s.held }) t end kept
keeps_causes false offer = back_causes offer (codes "too large")

unless_causes : (text : Option (List ℕ)) (offer : AgentRemoteConfig) → HasCauses (KeepsUnless text offer)
unless_causes None offer = λ s t end kept. keeps_causes (fits s.half (applied_call offer)) offer s t end kept
unless_causes (Some text) offer = back_causes offer text

on_outside : (more : Stage → Stage → Result Said AgentEnd → Type 0) → EndsOutside more → (said : Said) → EndsOutside (WatchesOn more said)
on_outside more rest Nothing = then_outside WaitsQuarter (WatchesAgain more) (λ s t end wait. absurd (never_ok end (is_ok wait.answer) wait.given)) again
  where
    again : (waited : Bool) → EndsOutside (WatchesAgain more waited)
    again true = rest
    again false = gives_outside Nothing
on_outside more rest Taken = gives_outside Taken
on_outside more rest (Refused error) = gives_outside (Refused error)

watched_outside : (waits : ℕ) (name : List ℕ) → EndsOutside (Watches waits name)
watched_outside zero name = λ s t end word. no_memory_ends end word.end
watched_outside (suc waits) name =
    then_outside (ReadsWord name) (WatchesOn (Watches waits name)) (λ s t end word. no_memory_ends end word.end) (on_outside (Watches waits name) (watched_outside waits name))

proved_causes : (watch : Option Trial) (offer : AgentRemoteConfig) → HasCauses (KeepsProved watch offer)
proved_causes None offer = unless_causes None offer
proved_causes (Some watch) offer =
    then_causes (WatchesTrial watch) (λ said. KeepsUnless (refusal said) offer)
    (outside_causes (WatchesTrial watch) (λ s t end watched. watched_outside (quarters watch.seconds) watch.name (record s { held = unsettled s.held }) t end watched))
    (λ said. unless_causes (refusal said) offer)

config_causes : (watch : Option Trial) (offer : AgentRemoteConfig) (outcome : Outcome) → HasCauses (ConfigEnds watch offer outcome)
config_causes watch offer (outcomes.BadName name) = call_causes (failed_call offer (codes "bad name"))
config_causes watch offer (outcomes.FolderFault settled) = call_causes (failed_call offer (codes "folder fault"))
config_causes watch offer outcomes.Applied = proved_causes watch offer

brings_causes : (watch : Option Trial) (offer : AgentRemoteConfig) → HasCauses (Brings watch offer)
brings_causes watch offer =
    then_causes (AppliesFiles offer) (λ outcome. ConfigEnds watch offer outcome) (outside_causes (AppliesFiles offer) (λ s t end applied. wanting_outside applied.answer end applied.end))
    (config_causes watch offer)

named_outside : (answer : Result Unit FolderFail) (end : AgentEnd) → Err end ≡ named_end answer → IsOutsideEnd end
named_outside (Ok done) end is = absurd (never_ok end true is)
named_outside (Err folder.Fault) end is = absurd (never_ok end false is)
named_outside (Err folder.NoMemory) end is = let e : end ≡ ends.NoMemory = cc in subst IsOutsideEnd (sym e) tt

named_causes : (trial : Trial) (offer : AgentRemoteConfig) (named : Bool) → HasCauses (TriesNamed trial offer named)
named_causes trial offer true = brings_causes (Some trial) offer
named_causes trial offer false = call_causes (failed_call offer (codes "folder fault"))

tried_causes : (fit : Bool) (trial : Trial) (offer : AgentRemoteConfig) → HasCauses (TriesBy fit trial offer)
tried_causes true trial offer =
    then_causes (NamesTrial trial.name) (λ named. TriesNamed trial offer named) (outside_causes (NamesTrial trial.name) (λ s t end names. named_outside names.answer end names.given))
    (named_causes trial offer)
tried_causes false trial offer = call_causes (failed_call offer (codes "too large"))

tries_causes : (tried : Option ℕ) (offer : AgentRemoteConfig) → HasCauses (TriesFor tried offer)
tries_causes None offer = brings_causes None offer
tries_causes (Some seconds) offer = λ s t end run. tried_causes (fits s.half (applied_call offer)) (record { seconds = seconds; name = name_of s.half offer }) offer s t end run

configures_causes : (offer : Option AgentRemoteConfig) → HasCauses (Configures offer)
configures_causes None = gives_causes tt
configures_causes (Some offer) = λ s t end run. tries_causes run.0 offer s t end run.1.1

installs_causes : (offer : Option PackagesAvailable) → HasCauses (Installs offer)
installs_causes None = gives_causes tt
installs_causes (Some offer) =
    then_causes (Syncs offer) (λ statuses. MakesCall (PackagesDone statuses)) (outside_causes (Syncs offer) (λ s t end synced. wanting_outside synced.answer end synced.end))
    (λ statuses. call_causes (PackagesDone statuses))

begins_causes : (next : Option Settings) → HasCauses (BeginsTrial next)
begins_causes None = gives_causes tt
begins_causes (Some settings) = call_causes (BeginTry settings)

module _ (may : CustomMessage → Option CustomMessage → Type 0) where
  handles_outside : (message : Option CustomMessage) → EndsOutside (Handles may message)
  handles_outside None s t end handled = gives_outside tt s t end handled
  handles_outside (Some message) s t end handled = no_memory_ends end handled.0

  next_causes : (next : Next) → HasCauses (DealsWithNext may next)
  next_causes next =
      then_causes (λ s. MakesCalls (trial_calls s.half) s)
      (λ _. Then (Configures next.config) (λ _. Then (Installs next.packages) (λ _. Then (Handles may next.message) (λ _. Then (BeginsTrial next.connection) (λ _. PausesAfter next)))))
      (λ s t end made. calls_causes (trial_calls s.half) s t end made)
      (λ _. then_causes (Configures next.config) (λ _. Then (Installs next.packages) (λ _. Then (Handles may next.message) (λ _. Then (BeginsTrial next.connection) (λ _. PausesAfter next))))
      (configures_causes next.config)
      (λ _. then_causes (Installs next.packages) (λ _. Then (Handles may next.message) (λ _. Then (BeginsTrial next.connection) (λ _. PausesAfter next))) (installs_causes next.packages)
      (λ _. then_causes (Handles may next.message) (λ _. Then (BeginsTrial next.connection) (λ _. PausesAfter next)) (outside_causes (Handles may next.message) (handles_outside next.message))
      (λ _. then_causes (BeginsTrial next.connection) (λ _. PausesAfter next) (begins_causes next.connection)
      (λ _ s t end paused. gives_causes (pause_after next s.half.saved.settings.interval) s t end paused)))))

  reply_causes : (reply : ServerToAgent) → HasCauses (DealsWithReply may reply)
  reply_causes reply s t end dealt =
      then_causes (MakesCall (TakeReply reply)) (λ _. DealsWithNext may (next_of reply s.half)) (call_causes (TakeReply reply)) (λ _. next_causes (next_of reply s.half)) s t end dealt

  give_up_causes : HasCauses GivesUpRound
  give_up_causes s t end given =
      then_causes (MakesCalls (GiveUp ∷ leaving_calls s.half)) (λ _ m. Gives (record { restart = false; nanos = Some (pause_of m.half.saved.settings.interval None) }) m)
      (calls_causes (GiveUp ∷ leaving_calls s.half)) (λ _ m u end given. gives_causes (record { restart = false; nanos = Some (pause_of m.half.saved.settings.interval None) }) m u end given)
      (record s { held = without_link s.held }) t end given

  deals_causes : (reply : Option ServerToAgent) → HasCauses (DealsWith may reply)
  deals_causes None = give_up_causes
  deals_causes (Some reply) = reply_causes reply

-- the wait of a round
pub wait_outside : (pause : Pause) → EndsOutside (EndsWith pause)
wait_outside pause = waits_outside pause.nanos pause.restart

module _ (asks : Asking) (waits : Waiting) (asks_out : (bytes : List ℕ) → EndsOutside (asks bytes)) (waits_out : (pause : Pause) → EndsOutside (waits pause))
    (may : CustomMessage → Option CustomMessage → Type 0) (are : CustomCapabilities → Type 0) where
  prepares_causes : HasCauses (Prepares are)
  prepares_causes = then_causes (Informs are) (λ _. MakesReport) (outside_causes (Informs are) (informs_outside are)) (λ _. report_causes)

  pub round_causes : HasCauses (RoundBy asks waits may are)
  round_causes =
      then_causes (Prepares are) (λ bytes. Then (asks bytes) (λ reply. Then (DealsWith may reply) waits)) prepares_causes
      (λ bytes. then_causes (asks bytes) (λ reply. Then (DealsWith may reply) waits) (outside_causes (asks bytes) (asks_out bytes))
      (λ reply. then_causes (DealsWith may reply) waits (deals_causes may reply)
      (λ pause. outside_causes (waits pause) (waits_out pause))))

  -- ---- numbers or room are wanting

  module _ (end : AgentEnd) (wants : IsWanting end) where
    prepared_wants : (s t : Stage) → Prepares are s t (Err end) → ReportWants end (agent_at t)
    prepared_wants s t (inl informed) = absurd (outside_apart end wants (informs_outside are s t end informed))
    prepared_wants s t (inr (m, (done, (informed, made)))) = report_wants end wants m t made

    -- a give up keeps nothing
    left_apart : (trial : Bool) (s t : Stage) → MakesCalls (GiveUp ∷ (if trial then [] else AbandonTry ∷ [])) s t (Err end) → ⊥
    left_apart trial s t (inl given) = beside_apart end wants GiveUp s t refl given
    left_apart true s t (inr (m, (done, (given, none)))) = never_ok end tt none.1
    left_apart false s t (inr (m, (done, (given, inl left)))) = beside_apart end wants AbandonTry m t refl left
    left_apart false s t (inr (m, (done, (given, inr (n, (over, (left, none))))))) = never_ok end tt none.1

    given_apart : (s t : Stage) → GivesUpRound s t (Err end) → ⊥
    given_apart s t (inl left) = left_apart (is_none s.half.trial) (record s { held = without_link s.held }) t left
    given_apart s t (inr (m, (done, (left, given)))) = never_ok end _ given.1

    dealt_wants : (s m n t : Stage) (bytes : List ℕ) (reply : Option ServerToAgent) → Prepares are s m (Ok bytes) → asks bytes m n (Ok reply) → DealsWith may reply n t (Err end)
        → ReplyEndsBy asks end may are s t
    dealt_wants s m n t bytes None prepared asked dealt = absurd (given_apart n t dealt)
    dealt_wants s m n t bytes (Some reply) prepared asked dealt = record { bytes = bytes; prepared = m; prepares = prepared; asked = n; reply = reply; asks = asked; deals = dealt }

    pub round_wants : (s t : Stage) → RoundBy asks waits may are s t (Err end) → ReportWants end (agent_at t) ⊎ ReplyEndsBy asks end may are s t
    round_wants s t (inl prepared) = inl (prepared_wants s t prepared)
    round_wants s t (inr (m, (bytes, (prepared, inl asked)))) = absurd (outside_apart end wants (asks_out bytes m t end asked))
    round_wants s t (inr (m, (bytes, (prepared, inr (n, (reply, (asked, inl dealt))))))) = inr (dealt_wants s m n t bytes reply prepared asked dealt)
    round_wants s t (inr (m, (bytes, (prepared, inr (n, (reply, (asked, inr (o, (pause, (dealt, waited)))))))))) = absurd (outside_apart end wants (waits_out pause o t end waited))

    one_more : (left : ℕ) (s m t : Stage) → RoundBy asks waits may are s m (Ok false) → ReportWants end (agent_at t) ⊎ RunEndsBy asks waits end may are left m t → ReportWants end (agent_at t) ⊎ RunEndsBy asks waits end may are (suc left) s t
    one_more left s m t round (inl report) = inl report
    one_more left s m t round (inr run) = inr (record { done = suc run.done; within = omega (arith, run.within); last = run.last; before = (m, (round, run.before)); reply = run.reply })

    first_wants : (left : ℕ) (s t : Stage) → ReportWants end (agent_at t) ⊎ ReplyEndsBy asks end may are s t → ReportWants end (agent_at t) ⊎ RunEndsBy asks waits end may are (suc left) s t
    first_wants left s t (inl report) = inl report
    first_wants left s t (inr reply) = inr (record { done = zero; within = omega arith; last = s; before = refl; reply = reply })

    pub rounds_want : (left done : ℕ) (s t : Stage) → RoundsBy asks waits may are left done s t (Err end) → ReportWants end (agent_at t) ⊎ RunEndsBy asks waits end may are left s t
    rounds_want zero done s t ran = absurd (wanting_apart end wants (same_end end ends.RoundsSpent (Err end) refl ran.1))
    rounds_want (suc left) done s t (inl ended) = first_wants left s t (round_wants s t ended)
    rounds_want (suc left) done s t (inr (m, (true, (round, ended)))) = absurd (never_ok end (done + 1) ended.1)
    rounds_want (suc left) done s t (inr (m, (false, (round, more)))) = one_more left s m t round (rounds_want left (done + 1) m t more)

  -- ---- so many rounds

  pub rounds_spent : (left done : ℕ) (s t : Stage) → RoundsBy asks waits may are left done s t (Err ends.RoundsSpent) → RoundsDoneBy asks waits may are left s t
  rounds_spent zero done s t ran = ran.0
  rounds_spent (suc left) done s t (inl ended) = absurd (round_causes s t ends.RoundsSpent ended)
  rounds_spent (suc left) done s t (inr (m, (true, (round, ended)))) = absurd (never_ok ends.RoundsSpent (done + 1) ended.1)
  rounds_spent (suc left) done s t (inr (m, (false, (round, more)))) = (m, (round, rounds_spent left (done + 1) m t more))

  -- ---- from one moment to another

  pub leads_wants : (end : AgentEnd) → IsWanting end → (before after : Moment) (result : Result Bool AgentEnd) → Leads (RoundBy asks waits may are) before after result → result ≡ Err end
      → ReportWants end after.agent ⊎ ((saves : List Saved) × ReplyEndsBy asks end may are (stage_at before []) (stage_at after saves))
  leads_wants end wants before after result leads is =
      let run = leads [] in
      elim (round_wants end wants (stage_at before []) (with_saves run.saves (stage_at after []))
      (subst (λ (r : Result Bool AgentEnd). RoundBy asks waits may are (stage_at before []) (with_saves run.saves (stage_at after [])) r) is run.does)) [
        | inl report ↦ inl report
        | inr reply ↦ inr (run.saves, reply)
      ]

  module _ (rounds : ℕ) (before after : Moment) (result : Result ℕ AgentEnd) (leads : Leads (RoundsBy asks waits may are rounds 0) before after result) where
    pub leads_rounds_spent : result ≡ Err ends.RoundsSpent → (saves : List Saved) × RoundsDoneBy asks waits may are rounds (stage_at before []) (stage_at after saves)
    leads_rounds_spent is =
        let run = leads [] in (
          run.saves,
          rounds_spent rounds 0 (stage_at before []) (with_saves run.saves (stage_at after []))
              (subst (λ (r : Result ℕ AgentEnd). RoundsBy asks waits may are rounds 0 (stage_at before []) (with_saves run.saves (stage_at after [])) r) is run.does),
        )

    pub leads_rounds_want : (end : AgentEnd) → IsWanting end → result ≡ Err end → ReportWants end after.agent ⊎ ((saves : List Saved) × RunEndsBy asks waits end may are rounds (stage_at before []) (stage_at after saves))
    leads_rounds_want end wants is =
        let run = leads [] in
        elim (rounds_want end wants rounds 0 (stage_at before []) (with_saves run.saves (stage_at after []))
        (subst (λ (r : Result ℕ AgentEnd). RoundsBy asks waits may are rounds 0 (stage_at before []) (with_saves run.saves (stage_at after [])) r) is run.does)) [
          | inl report ↦ inl report
          | inr reply ↦ inr (run.saves, reply)
        ]
