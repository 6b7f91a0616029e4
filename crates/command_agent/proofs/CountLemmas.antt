-- The folder's count of faults never falls, whatever the answer of a part.
use Rattle.std.proofs.Common.{◌≡◌, ◌≤◌, ◌+◌, ℕ, zero, suc, List, [], ◌∷◌, Bool, true, false, Option, None, Some, Result, Ok, Err, inl, inr, refl, sym, ◌∙◌, ap, subst, arith}
use Rattle.std.specs.Prelude.{◌-◌, ◌*◌, codes, if◌then◌else◌}
use Rattle.message_values.specs.declared.config.AgentRemoteConfig.{AgentRemoteConfig}
use Rattle.message_values.specs.declared.custom.CustomCapabilities.{CustomCapabilities}
use Rattle.message_values.specs.declared.custom.CustomMessage.{CustomMessage}
use Rattle.message_values.specs.declared.packages.PackagesAvailable.{PackagesAvailable}
use Rattle.message_values.specs.declared.reply.ServerToAgent.{ServerToAgent}
use Rattle.message_values.specs.declared.state.Settings.{Settings}
use Rattle.edge_devices.specs.Folders.{FolderState}
use Rattle.agent_config.specs.declared.Outcome.{Outcome}
use Rattle.agent_config.specs.declared.Outcome.TheVariants as outcomes
use Rattle.agent_rules.specs.declared.rules.parts.Next.{Next}
use Rattle.agent_rules.specs.Keeping.{BeginTry, Call, Change, GiveUp, PackagesDone, Report, Say, TakeReply, fits}
use Rattle.agent_rules.specs.Events.{leaving_calls}
use Rattle.agent_rules.specs.Offers.{applied_call, failed_call, next_of, trial_calls}
use Rattle.agent_rounds.specs.declared.ends.AgentEnd.{AgentEnd}
use Rattle.agent_rounds.specs.declared.ends.AgentEnd.TheVariants as ends
use Rattle.agent_rounds.specs.declared.ends.Pause.{Pause}
use Rattle.agent_rounds.specs.declared.held.Settling.{Settling}
use Rattle.agent_rounds.specs.declared.held.Settling.TheVariants as settling
use Rattle.agent_rounds.specs.declared.listening.Arrival.{Arrival}
use Rattle.agent_rounds.specs.declared.listening.Arrival.TheVariants.{Quiet, Came, Gone}
use Rattle.agent_rounds.specs.Listening.{AsksQuietServer, Drains, DrainsLink, DrainsOn, Listens, ListensBy, ListensWith, LooksOn, WaitsInParts, WaitsOn, longest_part, most_looks, parts_before}
use Rattle.agent_rounds.specs.Moments.{number_held}
use Rattle.agent_rounds.specs.Parts.{AsksReport, HasLink, LinksBy, MakesReport, ReadsStatus, SettlesBy, SettlesWhereDue, TellsLocal, idle_link}
use Rattle.agent_rounds.specs.Proving.{NamesTrial, ReadsWord, WaitsQuarter, Watches, WatchesAgain, WatchesOn, refusal}
use Rattle.agent_rounds.specs.Replies.{AppliesFiles, BeginsTrial, Brings, BringsBack, ConfigEnds, Configures, DealsWith, DealsWithNext, EndsBy, EndsWith, FailsBack, Handles, Installs, KeepsBy, KeepsProved, KeepsUnless, PausesAfter, Says, Syncs, TriesBy, TriesFor, TriesNamed, WaitsFor, WatchesTrial, unsettled}
use Rattle.agent_config.specs.declared.word.Said.{Said}
use Rattle.agent_config.specs.declared.word.Said.TheVariants as saids
use Rattle.agent_rounds.specs.declared.proving.Trial.{Trial}
use Rattle.agent_rounds.specs.Rounds.{Asking, AsksServer, GoesOn, Informs, Prepares, RoundBy, RoundsBy, Waiting}
use Rattle.agent_rounds.specs.Stages.{Gives, MakesCall, MakesCalls, Stage, Then}
use Rattle.agent_rounds.specs.Status.{local_by, pause_after, pause_of, without_link}

abbrev pub Grows : {T : Type 0} → (Stage → Stage → Result T AgentEnd → Type 0) → Type 0
Grows {T = T} P = (s t : Stage) (result : Result T AgentEnd) → P s t result → s.folder.faults ≤ t.folder.faults

no_fewer : (f g : FolderState) → g ≡ f → f.faults ≤ g.faults
no_fewer f g is = subst (λ (h : FolderState). f.faults ≤ h.faults) (sym is) (omega arith)

later : (a b c : ℕ) → a ≤ b → b ≤ c → a ≤ c
later a b c first second = omega (arith, first, second)

module _ {A B : Type 0} (P : Stage → Stage → Result A AgentEnd → Type 0) (Q : A → Stage → Stage → Result B AgentEnd → Type 0) where
  pub then_grows : Grows P → ((a : A) → Grows (Q a)) → Grows (Then P Q)
  then_grows one two s t (Ok value) (m, (a, (begun, done))) = later s.folder.faults m.folder.faults t.folder.faults (one s m (Ok a) begun) (two a m t (Ok value) done)
  then_grows one two s t (Err end) (inl ended) = one s t (Err end) ended
  then_grows one two s t (Err end) (inr (m, (a, (begun, ended)))) = later s.folder.faults m.folder.faults t.folder.faults (one s m (Ok a) begun) (two a m t (Err end) ended)

-- the folder is as it was
same_folder : (s t u : Stage) → t ≡ u → u.folder ≡ s.folder → s.folder.faults ≤ t.folder.faults
same_folder s t u is same = no_fewer s.folder t.folder (ap (λ (v : Stage). v.folder) is ∙ same)

gives_grow : {T : Type 0} (value : T) → Grows (Gives value)
gives_grow value s t result gives = same_folder s t s gives.0 refl

call_grows : (call : Call) → Grows (MakesCall call)
call_grows call s t (Ok done) made = no_fewer s.folder t.folder (ap (λ (v : Stage). v.folder) made.1)
call_grows call s t (Err ends.StoreFault) made = no_fewer s.folder t.folder (ap (λ (v : Stage). v.folder) made.1)
call_grows call s t (Err ends.FolderFault) made = same_folder s t s made.1 refl
call_grows call s t (Err ends.ClockFault) made = same_folder s t s made.1 refl
call_grows call s t (Err ends.RoundsSpent) made = same_folder s t s made.1 refl
call_grows call s t (Err ends.NumbersSpent) made = same_folder s t s made.1 refl
call_grows call s t (Err ends.TooLarge) made = same_folder s t s made.1 refl
call_grows call s t (Err ends.NoMemory) made = same_folder s t s made.1 refl

calls_grow : (calls : List Call) → Grows (MakesCalls calls)
calls_grow [] = gives_grow tt
calls_grow (call ∷ calls) = then_grows (MakesCall call) (λ done. MakesCalls calls) (call_grows call) (λ done. calls_grow calls)

-- ---- up to the report

settles_by_grow : (due : Settling) → Grows (SettlesBy due)
settles_by_grow settling.Settled s t result settled = gives_grow tt s t result settled
settles_by_grow settling.First s t result settled = settled.settles.runs.makes.count
settles_by_grow settling.Again s t result settled = settled.settles.runs.makes.count

pub settles_grow : Grows SettlesWhereDue
settles_grow s t result settled = settles_by_grow s.held.settling s t result settled

reads_grow : Grows ReadsStatus
reads_grow s t result read = read.call.count

module _ (are : CustomCapabilities → Type 0) where
  pub local_grows : Grows (TellsLocal are)
  local_grows s t (Ok done) (names, (is, made)) = call_grows (Change (local_by s.held.status s.half.saved.config names)) s t (Ok tt) made
  local_grows s t (Err end) told = same_folder s t s told.1 refl

  pub report_grows : Grows MakesReport
  report_grows s t (Ok bytes) made = call_grows Report s t (Ok tt) made.2
  report_grows s t (Err ends.StoreFault) made = call_grows Report s t (Err ends.StoreFault) made.1
  report_grows s t (Err ends.FolderFault) made = same_folder s t s made.1 refl
  report_grows s t (Err ends.ClockFault) made = same_folder s t s made.1 refl
  report_grows s t (Err ends.RoundsSpent) made = same_folder s t s made.1 refl
  report_grows s t (Err ends.NumbersSpent) made = same_folder s t s made.1 refl
  report_grows s t (Err ends.TooLarge) made = same_folder s t s made.1 refl
  report_grows s t (Err ends.NoMemory) made = same_folder s t s made.1 refl

  informs_grow : Grows (Informs are)
  informs_grow =
      then_grows SettlesWhereDue (λ _. Then ReadsStatus (λ _. TellsLocal are)) settles_grow (λ _. then_grows ReadsStatus (λ _. TellsLocal are) reads_grow (λ _. local_grows))

  pub prepares_grow : Grows (Prepares are)
  prepares_grow = then_grows (Informs are) (λ _. MakesReport) informs_grow (λ _. report_grows)

-- ---- the report's asking

links_by_grow : (idle : Option ℕ) → Grows (LinksBy idle)
links_by_grow (Some number) s t result linked = gives_grow (Some number) s t result linked
links_by_grow None s t (Ok link) dialled = no_fewer s.folder t.folder (ap (λ (v : Stage). v.folder) dialled.rest)
links_by_grow None s t (Err end) wanted = same_folder s t s wanted.1 refl

links_grow : Grows HasLink
links_grow s t result linked = links_by_grow (idle_link s) s t result linked

asks_grow : (bytes : List ℕ) (link : Option ℕ) → Grows (AsksReport bytes link)
asks_grow bytes None s t result asked = gives_grow None s t result asked
asks_grow bytes (Some number) s t (Ok reply) asked = no_fewer s.folder t.folder (ap (λ (v : Stage). v.folder) asked.rest)
asks_grow bytes (Some number) s t (Err end) (inl wanted) = same_folder s t s wanted.1 refl
asks_grow bytes (Some number) s t (Err end) (inr asked) = no_fewer s.folder t.folder (ap (λ (v : Stage). v.folder) asked.rest)

pub server_grows : (bytes : List ℕ) → Grows (AsksServer bytes)
server_grows bytes = then_grows HasLink (AsksReport bytes) links_grow (asks_grow bytes)

looks_grow : (link : Option ℕ) → Grows (LooksOn link)
looks_grow None s t result looked = gives_grow Quiet s t result looked
looks_grow (Some number) s t result looked = no_fewer s.folder t.folder (ap (λ (v : Stage). v.folder) looked.rest)

listens_grow : Grows Listens
listens_grow s t result listened = looks_grow (number_held s.held) s t result listened

drains_on_grow : (more : Stage → Stage → Result Bool AgentEnd → Type 0) → Grows more → (arrival : Arrival) → Grows (DrainsOn more arrival)
drains_on_grow more grows Quiet = gives_grow true
drains_on_grow more grows Came = grows
drains_on_grow more grows Gone = gives_grow false

drains_grow : (looks : ℕ) → Grows (Drains looks)
drains_grow zero = gives_grow false
drains_grow (suc looks) = then_grows Listens (DrainsOn (Drains looks)) listens_grow (drains_on_grow (Drains looks) (drains_grow looks))

link_drains_grow : (link : Option ℕ) → Grows (DrainsLink link)
link_drains_grow None = gives_grow None
link_drains_grow (Some number) =
    then_grows (Drains most_looks) (λ quiet. Gives (if quiet then Some number else None)) (drains_grow most_looks) (λ quiet. gives_grow (if quiet then Some number else None))

pub quiet_grows : (bytes : List ℕ) → Grows (AsksQuietServer bytes)
quiet_grows bytes =
    then_grows HasLink (λ link. Then (DrainsLink link) (AsksReport bytes)) links_grow
    (λ link. then_grows (DrainsLink link) (AsksReport bytes) (link_drains_grow link) (asks_grow bytes))

-- ---- waits

waits_grow : (nanos : ℕ) (restart : Bool) → Grows (WaitsFor nanos restart)
waits_grow nanos restart s t result waited = no_fewer s.folder t.folder (ap (λ (v : Stage). v.folder) waited.rest)

ends_by_grow : (nanos : Option ℕ) (restart : Bool) → Grows (EndsBy nanos restart)
ends_by_grow None restart = gives_grow restart
ends_by_grow (Some nanos) restart = waits_grow nanos restart

pub wait_grows : (pause : Pause) → Grows (EndsWith pause)
wait_grows pause = ends_by_grow pause.nanos pause.restart

waits_on_grow : (restart : Bool) (more : Stage → Stage → Result Bool AgentEnd → Type 0) → Grows more → (arrival : Arrival) → Grows (WaitsOn restart more arrival)
waits_on_grow restart more grows Quiet = grows
waits_on_grow restart more grows Came = gives_grow restart
waits_on_grow restart more grows Gone = grows

parts_grow : (parts last : ℕ) (restart : Bool) → Grows (WaitsInParts parts last restart)
parts_grow zero last restart =
    then_grows (WaitsFor last restart) (λ _. Then Listens (λ _. Gives restart)) (waits_grow last restart)
    (λ _. then_grows Listens (λ _. Gives restart) listens_grow (λ _. gives_grow restart))
parts_grow (suc parts) last restart =
    then_grows (WaitsFor longest_part restart) (λ _. Then Listens (WaitsOn restart (WaitsInParts parts last restart))) (waits_grow longest_part restart)
    (λ _. then_grows Listens (WaitsOn restart (WaitsInParts parts last restart)) listens_grow (waits_on_grow restart (WaitsInParts parts last restart) (parts_grow parts last restart)))

listens_by_grow : (nanos : Option ℕ) (restart : Bool) → Grows (ListensBy nanos restart)
listens_by_grow None restart = gives_grow restart
listens_by_grow (Some nanos) restart = parts_grow (parts_before nanos) (nanos - parts_before nanos * longest_part) restart

pub listen_grows : (pause : Pause) → Grows (ListensWith pause)
listen_grows pause = listens_by_grow pause.nanos pause.restart

-- ---- the answer

brings_grow : Grows BringsBack
brings_grow s t result back = back.settles.runs.makes.count

keeps_by_grow : (fit : Bool) (offer : AgentRemoteConfig) → Grows (KeepsBy fit offer)
keeps_by_grow true offer s t (Ok done) made = call_grows (applied_call offer) s t (Ok tt) made
keeps_by_grow true offer s t (Err end) made = call_grows (applied_call offer) (record s { held = unsettled s.held }) t (Err end) made
keeps_by_grow false offer s t result made =
    then_grows BringsBack (λ done. MakesCall (failed_call offer (codes "too large"))) brings_grow (λ done. call_grows (failed_call offer (codes "too large"))) s t result made

fails_back_grow : (offer : AgentRemoteConfig) (text : List ℕ) → Grows (FailsBack offer text)
fails_back_grow offer text = then_grows BringsBack (λ done. MakesCall (failed_call offer text)) brings_grow (λ done. call_grows (failed_call offer text))

unless_grows : (why : Option (List ℕ)) (offer : AgentRemoteConfig) → Grows (KeepsUnless why offer)
unless_grows None offer = λ s t result made. keeps_by_grow (fits s.half (applied_call offer)) offer s t result made
unless_grows (Some text) offer = fails_back_grow offer text

-- ---- the collector's word

word_grows : (name : List ℕ) → Grows (ReadsWord name)
word_grows name s t result read = read.call.count

quarter_grows : Grows WaitsQuarter
quarter_grows s t result waited = no_fewer s.folder t.folder (ap (λ (v : Stage). v.folder) waited.rest)

again_grows : (more : Stage → Stage → Result Said AgentEnd → Type 0) → Grows more → (waited : Bool) → Grows (WatchesAgain more waited)
again_grows more grows true = grows
again_grows more grows false = gives_grow saids.Nothing

watches_on_grow : (more : Stage → Stage → Result Said AgentEnd → Type 0) → Grows more → (said : Said) → Grows (WatchesOn more said)
watches_on_grow more grows saids.Nothing = then_grows WaitsQuarter (WatchesAgain more) quarter_grows (again_grows more grows)
watches_on_grow more grows saids.Taken = gives_grow saids.Taken
watches_on_grow more grows (saids.Refused error) = gives_grow (saids.Refused error)

watches_grow : (waits : ℕ) (name : List ℕ) → Grows (Watches waits name)
watches_grow zero name = word_grows name
watches_grow (suc waits) name = then_grows (ReadsWord name) (WatchesOn (Watches waits name)) (word_grows name) (watches_on_grow (Watches waits name) (watches_grow waits name))

trial_grows : (watch : Trial) → Grows (WatchesTrial watch)
trial_grows watch s t (Ok said) made = watches_grow _ _ s t (Ok said) made
trial_grows watch s t (Err end) made = watches_grow _ _ (record s { held = unsettled s.held }) t (Err end) made

proved_grows : (watch : Option Trial) (offer : AgentRemoteConfig) → Grows (KeepsProved watch offer)
proved_grows None offer = unless_grows None offer
proved_grows (Some watch) offer = then_grows (WatchesTrial watch) (λ said. KeepsUnless (refusal said) offer) (trial_grows watch) (λ said. unless_grows (refusal said) offer)

config_grows : (watch : Option Trial) (offer : AgentRemoteConfig) (outcome : Outcome) → Grows (ConfigEnds watch offer outcome)
config_grows watch offer (outcomes.BadName name) = call_grows (failed_call offer (codes "bad name"))
config_grows watch offer (outcomes.FolderFault settled) = call_grows (failed_call offer (codes "folder fault"))
config_grows watch offer outcomes.Applied = proved_grows watch offer

files_grow : (watch : Option Trial) (offer : AgentRemoteConfig) → Grows (Brings watch offer)
files_grow watch offer = then_grows (AppliesFiles offer) (λ outcome. ConfigEnds watch offer outcome) (λ s t result applied. applied.applies.calls.makes.count) (config_grows watch offer)

names_grow : (name : List ℕ) → Grows (NamesTrial name)
names_grow name s t result names = names.call.count

named_grows : (watch : Trial) (offer : AgentRemoteConfig) (named : Bool) → Grows (TriesNamed watch offer named)
named_grows watch offer true = files_grow (Some watch) offer
named_grows watch offer false = call_grows (failed_call offer (codes "folder fault"))

tries_by_grow : (fit : Bool) (watch : Trial) (offer : AgentRemoteConfig) → Grows (TriesBy fit watch offer)
tries_by_grow true watch offer = then_grows (NamesTrial watch.name) (λ named. TriesNamed watch offer named) (names_grow watch.name) (named_grows watch offer)
tries_by_grow false watch offer = call_grows (failed_call offer (codes "too large"))

tries_for_grow : (tried : Option ℕ) (offer : AgentRemoteConfig) → Grows (TriesFor tried offer)
tries_for_grow None offer = files_grow None offer
tries_for_grow (Some seconds) offer = λ s t result made. tries_by_grow (fits s.half (applied_call offer)) _ offer s t result made

configures_grow : (offer : Option AgentRemoteConfig) → Grows (Configures offer)
configures_grow None = gives_grow tt
configures_grow (Some offer) = λ s t result tried. tries_for_grow tried.0 offer s t result tried.1.1

installs_grow : (offer : Option PackagesAvailable) → Grows (Installs offer)
installs_grow None = gives_grow tt
installs_grow (Some offer) = then_grows (Syncs offer) (λ statuses. MakesCall (PackagesDone statuses)) (λ s t result synced. synced.only.made.count) (λ statuses. call_grows (PackagesDone statuses))

says_grow : (answer : Option CustomMessage) → Grows (Says answer)
says_grow None = gives_grow tt
says_grow (Some answer) = call_grows (Say answer)

begins_grow : (next : Option Settings) → Grows (BeginsTrial next)
begins_grow None = gives_grow tt
begins_grow (Some settings) = call_grows (BeginTry settings)

module _ (may : CustomMessage → Option CustomMessage → Type 0) where
  handles_grow : (message : Option CustomMessage) → Grows (Handles may message)
  handles_grow None s t result handled = gives_grow tt s t result handled
  handles_grow (Some message) s t (Ok done) (answer, (allowed, said)) = says_grow answer s t (Ok tt) said
  handles_grow (Some message) s t (Err end) handled = same_folder s t s handled.1 refl

  next_grows : (next : Next) → Grows (DealsWithNext may next)
  next_grows next =
      then_grows (λ s. MakesCalls (trial_calls s.half) s)
      (λ _. Then (Configures next.config) (λ _. Then (Installs next.packages) (λ _. Then (Handles may next.message) (λ _. Then (BeginsTrial next.connection) (λ _. PausesAfter next)))))
      (λ s t result made. calls_grow (trial_calls s.half) s t result made)
      (λ _. then_grows (Configures next.config) (λ _. Then (Installs next.packages) (λ _. Then (Handles may next.message) (λ _. Then (BeginsTrial next.connection) (λ _. PausesAfter next)))) (configures_grow next.config)
      (λ _. then_grows (Installs next.packages) (λ _. Then (Handles may next.message) (λ _. Then (BeginsTrial next.connection) (λ _. PausesAfter next))) (installs_grow next.packages)
      (λ _. then_grows (Handles may next.message) (λ _. Then (BeginsTrial next.connection) (λ _. PausesAfter next)) (handles_grow next.message)
      (λ _. then_grows (BeginsTrial next.connection) (λ _. PausesAfter next) (begins_grow next.connection)
      (λ _ s t result paused. gives_grow (pause_after next s.half.saved.settings.interval) s t result paused)))))

  deals_grow : (reply : Option ServerToAgent) → Grows (DealsWith may reply)
  deals_grow None s t result given =
      then_grows (MakesCalls (GiveUp ∷ leaving_calls s.half)) (λ _ m. Gives (record { restart = false; nanos = Some (pause_of m.half.saved.settings.interval None) }) m)
      (calls_grow (GiveUp ∷ leaving_calls s.half)) (λ _ m u result given. gives_grow (record { restart = false; nanos = Some (pause_of m.half.saved.settings.interval None) }) m u result given)
      (record s { held = without_link s.held }) t result given
  deals_grow (Some reply) s t result dealt =
      then_grows (MakesCall (TakeReply reply)) (λ _. DealsWithNext may (next_of reply s.half)) (call_grows (TakeReply reply)) (λ _. next_grows (next_of reply s.half)) s t result dealt

  -- ---- rounds

  module _ (asks : Asking) (waits : Waiting) (asking : (bytes : List ℕ) → Grows (asks bytes)) (waiting : (pause : Pause) → Grows (waits pause)) where
    -- what follows a report
    pub answers_grow : (bytes : List ℕ) → Grows (Then (asks bytes) (λ reply. Then (DealsWith may reply) waits))
    answers_grow bytes = then_grows (asks bytes) (λ reply. Then (DealsWith may reply) waits) (asking bytes) (λ reply. then_grows (DealsWith may reply) waits (deals_grow reply) waiting)

    module _ (are : CustomCapabilities → Type 0) where
      pub round_grows : Grows (RoundBy asks waits may are)
      round_grows = then_grows (Prepares are) (λ bytes. Then (asks bytes) (λ reply. Then (DealsWith may reply) waits)) (prepares_grow are) answers_grow

      pub goes_grow : (done : ℕ) (more : Stage → Stage → Result ℕ AgentEnd → Type 0) → Grows more → (restart : Bool) → Grows (GoesOn done more restart)
      goes_grow done more grows true = gives_grow (done + 1)
      goes_grow done more grows false = grows

      pub rounds_grow : (left done : ℕ) → Grows (RoundsBy asks waits may are left done)
      rounds_grow zero done s t result ran = same_folder s t s ran.0 refl
      rounds_grow (suc left) done s t result ran =
          then_grows (RoundBy asks waits may are) (GoesOn done (RoundsBy asks waits may are left (done + 1))) round_grows
          (goes_grow done (RoundsBy asks waits may are left (done + 1)) (rounds_grow left (done + 1))) s t result ran
