-- The parts of a round from the answer on.
use Rattle.std.specs.Prelude.{◌≡◌, ◌⊎◌, ℕ, List, [], ◌∷◌, Bool, true, false, Option, None, Some, Result, Ok, Err, codes, IfOk, IsTrue}
use Rattle.plain_values.specs.declared.memory.NoMemory.{NoMemory as Wanting}
use Rattle.plain_values.specs.declared.files.AgentConfigMap.{AgentConfigMap}
use Rattle.message_values.specs.declared.config.AgentRemoteConfig.{AgentRemoteConfig}
use Rattle.message_values.specs.declared.custom.CustomMessage.{CustomMessage}
use Rattle.message_values.specs.declared.packages.PackageStatuses.{PackageStatuses}
use Rattle.message_values.specs.declared.packages.PackagesAvailable.{PackagesAvailable}
use Rattle.message_values.specs.declared.reply.ServerToAgent.{ServerToAgent}
use Rattle.message_values.specs.declared.state.Settings.{Settings}
use Rattle.edge_devices.specs.declared.clocks.ClockFault.{ClockFault as FaultOfClock}
use Rattle.edge_devices.specs.declared.folders.FolderFail.{FolderFail}
use Rattle.edge_devices.specs.declared.folders.FolderFail.TheVariants as folder
use Rattle.edge_devices.specs.Clocks.{Waits}
use Rattle.edge_devices.specs.declared.folders.Area.TheVariants as areas
use Rattle.edge_devices.specs.Folders.{FolderState, SameAreas}
use Rattle.agent_config.specs.declared.Outcome.{Outcome}
use Rattle.agent_config.specs.declared.Outcome.TheVariants as outcomes
use Rattle.agent_config.specs.Outcomes.{Applies}
use Rattle.agent_config.specs.Config.{AreFiles, files_of, first_bad}
use Rattle.agent_packages.specs.Due.{AsksOnly, IsDue, IsDueFetch, MakesOnly}
use Rattle.agent_packages.specs.Packages.{is_same_offer}
use Rattle.agent_packages.specs.Touched.{KeepsOthers, is_touched}
use Rattle.agent_packages.specs.Visits.{IsSynced}
use Rattle.agent_rules.specs.declared.rules.parts.Next.{Next}
use Rattle.agent_rules.specs.Keeping.{TakeReply, GiveUp, PackagesDone, Say, BeginTry, fits}
use Rattle.agent_rules.specs.Offers.{next_of, trial_calls, applied_call, failed_call, offered_files}
use Rattle.agent_rules.specs.Events.{leaving_calls}
use Rattle.agent_rounds.specs.declared.ends.AgentEnd.{AgentEnd}
use Rattle.agent_rounds.specs.declared.ends.AgentEnd.TheVariants.{ClockFault, NoMemory}
use Rattle.agent_rounds.specs.declared.ends.Pause.{Pause}
use Rattle.agent_rounds.specs.declared.held.Settling.TheVariants.{Again}
use Rattle.agent_config.specs.declared.word.Said.{Said}
use Rattle.agent_rounds.specs.Parts.{SettlesTo}
use Rattle.agent_rounds.specs.Proving.{NamesTrial, Watches, name_of, quarters, refusal}
use Rattle.agent_rounds.specs.declared.proving.Trial.{Trial}
use Rattle.edge_devices.specs.Names.{are_good_names}
use Rattle.agent_rounds.specs.Status.{HeldView, without_link, pause_of, pause_after}
use Rattle.agent_rounds.specs.Stages.{Stage, Then, Gives, MakesCall, MakesCalls}

-- what is held once the area is to be settled again
abbrev pub unsettled : HeldView → HeldView
unsettled held = record held { settling = Again }

-- the area after an offer that ended so
abbrev pub held_after : Result Outcome Wanting → HeldView → HeldView
held_after (Ok outcomes.Applied) held = held
held_after (Ok (outcomes.BadName name)) held = held
held_after (Ok (outcomes.FolderFault true)) held = held
held_after (Ok (outcomes.FolderFault false)) held = unsettled held
held_after (Err wanting) held = unsettled held

-- want of memory ends the round
abbrev pub wanting : {T : Type 0} → Result T Wanting → Result T AgentEnd
wanting (Ok value) = Ok value
wanting (Err none) = Err NoMemory

-- a bad name is told exactly where the offer has one, with the first
abbrev pub TellsBadName : AgentRemoteConfig → Outcome → Type 0
TellsBadName offer (outcomes.BadName name) = first_bad (offered_files offer).config_map ≡ Some name
TellsBadName offer other = first_bad (offered_files offer).config_map ≡ None

-- Files are applied to the area: it has them and no others; or, where the folder failed and the area was brought back, those of the former configuration.
-- For a bad name nothing is done. The other areas stay as they were.
pub record AppliesTo (tried former : AgentConfigMap) (old new : FolderState) (answer : Result Outcome Wanting) : Type 0 where
  pub calls : Applies old new answer
  pub applied : answer ≡ Ok outcomes.Applied → IsTrue new.told → AreFiles (new.files areas.Config) (files_of tried.config_map)
  pub back : answer ≡ Ok (outcomes.FolderFault true) → IsTrue new.told → AreFiles (new.files areas.Config) (files_of former.config_map)
  pub undone : (name : List ℕ) → answer ≡ Ok (outcomes.BadName name) → new ≡ old
  pub others : SameAreas areas.Config old.files new.files

-- The offered files are applied to the area, or not.
pub record AppliesFiles (offer : AgentRemoteConfig) (s t : Stage) (result : Result Outcome AgentEnd) : Type 0 where
  pub answer : Result Outcome Wanting
  pub applies : AppliesTo (offered_files offer) s.half.saved.config s.folder t.folder answer
  pub names : IfOk answer (TellsBadName offer)
  pub rest : t ≡ record s { folder = t.folder; held = held_after answer s.held }
  pub end : result ≡ wanting answer

abbrev pub held_again : Result Unit FolderFail → HeldView → HeldView
held_again (Ok _) held = held
held_again (Err fail) held = unsettled held

abbrev pub back_end : Result Unit FolderFail → Result Unit AgentEnd
back_end (Err folder.NoMemory) = Err NoMemory
back_end (Err folder.Fault) = Ok tt
back_end (Ok _) = Ok tt

-- The area is brought back to the active configuration; where that fails it stays due.
pub record BringsBack (s t : Stage) (result : Result Unit AgentEnd) : Type 0 where
  pub answer : Result Unit FolderFail
  pub settles : SettlesTo s.half.saved.config s.folder t.folder answer
  pub rest : t ≡ record s { folder = t.folder; held = held_again answer s.held }
  pub end : result ≡ back_end answer

-- The applied files are kept; where the round ends here the area is to be settled again.
abbrev pub KeepsFiles : AgentRemoteConfig → Stage → Stage → Result Unit AgentEnd → Type 0
KeepsFiles offer s t (Ok _) = MakesCall (applied_call offer) s t (Ok tt)
KeepsFiles offer s t (Err end) = MakesCall (applied_call offer) (record s { held = unsettled s.held }) t (Err end)

-- The area is brought back, and the offer failed with this text.
abbrev pub FailsBack : AgentRemoteConfig → List ℕ → Stage → Stage → Result Unit AgentEnd → Type 0
FailsBack offer text = Then BringsBack (λ done. MakesCall (failed_call offer text))

-- Where there is no room for them the area is brought back, and the offer failed.
abbrev pub KeepsBy : Bool → AgentRemoteConfig → Stage → Stage → Result Unit AgentEnd → Type 0
KeepsBy true offer = KeepsFiles offer
KeepsBy false offer = FailsBack offer (codes "too large")

-- Files against which nothing was said are kept, and others are brought back, and the offer failed with what was said.
abbrev pub KeepsUnless : Option (List ℕ) → AgentRemoteConfig → Stage → Stage → Result Unit AgentEnd → Type 0
KeepsUnless None offer = λ s. KeepsBy (fits s.half (applied_call offer)) offer s
KeepsUnless (Some text) offer = FailsBack offer text

-- The collector's word on the trial is watched for; where the round ends here the area is to be settled again.
abbrev pub WatchesTrial : Trial → Stage → Stage → Result Said AgentEnd → Type 0
WatchesTrial watch s t (Ok said) = Watches (quarters watch.seconds) watch.name s t (Ok said)
WatchesTrial watch s t (Err end) = Watches (quarters watch.seconds) watch.name (record s { held = unsettled s.held }) t (Err end)

-- The applied files are kept: at once, or once the collector took them.
abbrev pub KeepsProved : Option Trial → AgentRemoteConfig → Stage → Stage → Result Unit AgentEnd → Type 0
KeepsProved None offer = KeepsUnless None offer
KeepsProved (Some watch) offer = Then (WatchesTrial watch) (λ said. KeepsUnless (refusal said) offer)

abbrev pub ConfigEnds : Option Trial → AgentRemoteConfig → Outcome → Stage → Stage → Result Unit AgentEnd → Type 0
ConfigEnds watch offer (outcomes.BadName name) = MakesCall (failed_call offer (codes "bad name"))
ConfigEnds watch offer (outcomes.FolderFault settled) = MakesCall (failed_call offer (codes "folder fault"))
ConfigEnds watch offer outcomes.Applied = KeepsProved watch offer

-- The files are brought, and what became of them is kept.
abbrev pub Brings : Option Trial → AgentRemoteConfig → Stage → Stage → Result Unit AgentEnd → Type 0
Brings watch offer = Then (AppliesFiles offer) (λ outcome. ConfigEnds watch offer outcome)

-- With its name written the trial begins; else the folder failed with the offer.
abbrev pub TriesNamed : Trial → AgentRemoteConfig → Bool → Stage → Stage → Result Unit AgentEnd → Type 0
TriesNamed watch offer true = Brings (Some watch) offer
TriesNamed watch offer false = MakesCall (failed_call offer (codes "folder fault"))

-- Files that can be kept are tried, once the trial's name is written; of others nothing is brought.
abbrev pub TriesBy : Bool → Trial → AgentRemoteConfig → Stage → Stage → Result Unit AgentEnd → Type 0
TriesBy true watch offer = Then (NamesTrial watch.name) (λ named. TriesNamed watch offer named)
TriesBy false watch offer = MakesCall (failed_call offer (codes "too large"))

-- An offer is tried for so many seconds, or its files are the proof.
abbrev pub TriesFor : Option ℕ → AgentRemoteConfig → Stage → Stage → Result Unit AgentEnd → Type 0
TriesFor None offer = Brings None offer
TriesFor (Some seconds) offer = λ s. TriesBy (fits s.half (applied_call offer)) (record { seconds = seconds; name = name_of s.half offer }) offer s

-- files that need no trial: those with a bad name, and those of the active configuration
abbrev pub NeedsNone : AgentConfigMap → AgentRemoteConfig → Type 0
NeedsNone active offer = (are_good_names (offered_files offer).config_map ≡ false) ⊎ (offered_files offer ≡ active)

-- in how many seconds the collector has to take an offer, if it is tried
abbrev pub IsTriedFor : Option ℕ → AgentConfigMap → AgentRemoteConfig → Option ℕ → Type 0
IsTriedFor prove active offer tried = (NeedsNone active offer × (tried ≡ None)) ⊎ ((¬ NeedsNone active offer) × (tried ≡ prove))

-- An offered configuration is tried or brought, and what became of it is kept.
abbrev pub Configures : Option AgentRemoteConfig → Stage → Stage → Result Unit AgentEnd → Type 0
Configures None = Gives tt
Configures (Some offer) = λ s t result. (tried : Option ℕ) × (IsTriedFor s.held.prove s.half.saved.config offer tried × TriesFor tried offer s t result)

-- These are the statuses after an offer: those held where it is the one held, and else what became of each package.
abbrev pub SyncedBy : Bool → PackagesAvailable → Stage → Stage → PackageStatuses → Type 0
SyncedBy true offer s t statuses = (statuses.packages ≡ s.half.saved.packages.packages) × (t ≡ s)
SyncedBy false offer s t statuses =
    IsSynced s.dialer t.dialer s.folder t.folder s.half.saved.packages offer statuses.packages

abbrev pub SyncsSo : PackagesAvailable → Stage → Stage → PackageStatuses → Type 0
SyncsSo offer s t statuses = SyncedBy (is_same_offer s.half.saved.packages offer) offer s t statuses
    × (statuses.server_provided_all_packages_hash ≡ offer.all_packages_hash) × (statuses.error_message ≡ [])

-- Offered packages are seen to. The files of packages that the offer leaves as they are stay as they were, and so do the other areas. Whatever the answer, a
-- file is written only for a package to fetch, with content of the offered hash, and removed only for one that isn't offered any more, and the dialer is asked
-- for nothing but files of packages to fetch.
pub record Syncs (offer : PackagesAvailable) (s t : Stage) (result : Result PackageStatuses AgentEnd) : Type 0 where
  pub answer : Result PackageStatuses Wanting
  pub synced : IfOk answer (SyncsSo offer s t)
  pub kept : KeepsOthers (is_touched s.half.saved.packages offer) s.folder t.folder
  pub others : SameAreas areas.Packages s.folder.files t.folder.files
  pub only : MakesOnly (IsDue s.half.saved.packages offer) s.folder t.folder
  pub fetches : AsksOnly (IsDueFetch s.half.saved.packages.packages offer.packages) s.dialer t.dialer
  pub rest : t ≡ record s { folder = t.folder; dialer = t.dialer }
  pub end : result ≡ wanting answer

abbrev pub Installs : Option PackagesAvailable → Stage → Stage → Result Unit AgentEnd → Type 0
Installs None = Gives tt
Installs (Some offer) = Then (Syncs offer) (λ statuses. MakesCall (PackagesDone statuses))

abbrev pub Says : Option CustomMessage → Stage → Stage → Result Unit AgentEnd → Type 0
Says None = Gives tt
Says (Some answer) = MakesCall (Say answer)

-- A custom message is handed to its handler, whose answer, one that it may give, rides on the next report.
abbrev pub Handles : (CustomMessage → Option CustomMessage → Type 0) → Option CustomMessage → Stage → Stage → Result Unit AgentEnd → Type 0
Handles may None s t result = Gives tt s t result
Handles may (Some message) s t (Ok _) = (answer : Option CustomMessage) × (may message answer × Says answer s t (Ok tt))
Handles may (Some message) s t (Err end) = (end ≡ NoMemory) × (t ≡ s)

abbrev pub BeginsTrial : Option Settings → Stage → Stage → Result Unit AgentEnd → Type 0
BeginsTrial None = Gives tt
BeginsTrial (Some settings) = MakesCall (BeginTry settings)

abbrev pub PausesAfter : Next → Stage → Stage → Result Pause AgentEnd → Type 0
PausesAfter next s t result = Gives (pause_after next s.half.saved.settings.interval) s t result

-- What a reply asks is dealt with: a trial ends, and then come configuration, packages, message and settings, in this order.
abbrev pub DealsWithNext : (CustomMessage → Option CustomMessage → Type 0) → Next → Stage → Stage → Result Pause AgentEnd → Type 0
DealsWithNext may next =
    Then (λ s. MakesCalls (trial_calls s.half) s)
    (λ _. Then (Configures next.config)
    (λ _. Then (Installs next.packages)
    (λ _. Then (Handles may next.message)
    (λ _. Then (BeginsTrial next.connection)
    (λ _. PausesAfter next)))))

-- The reply is taken, and what it asks is dealt with.
abbrev pub DealsWithReply : (CustomMessage → Option CustomMessage → Type 0) → ServerToAgent → Stage → Stage → Result Pause AgentEnd → Type 0
DealsWithReply may reply s t result = Then (MakesCall (TakeReply reply)) (λ _. DealsWithNext may (next_of reply s.half)) s t result

-- The link is dropped, the report is given up, and a trial is abandoned.
abbrev pub GivesUpRound : Stage → Stage → Result Pause AgentEnd → Type 0
GivesUpRound s t result =
    Then (MakesCalls (GiveUp ∷ leaving_calls s.half))
    (λ _ m. Gives (record { restart = false; nanos = Some (pause_of m.half.saved.settings.interval None) }) m)
    (record s { held = without_link s.held }) t result

abbrev pub DealsWith : (CustomMessage → Option CustomMessage → Type 0) → Option ServerToAgent → Stage → Stage → Result Pause AgentEnd → Type 0
DealsWith may None = GivesUpRound
DealsWith may (Some reply) = DealsWithReply may reply

-- a clock that failed ends the round
abbrev pub waited_end : Bool → Result Unit FaultOfClock → Result Bool AgentEnd
waited_end restart (Ok _) = Ok restart
waited_end restart (Err fault) = Err ClockFault

-- The clock waits.
pub record WaitsFor (nanos : ℕ) (restart : Bool) (s t : Stage) (result : Result Bool AgentEnd) : Type 0 where
  pub answer : Result Unit FaultOfClock
  pub waits : Waits s.clock t.clock nanos answer
  pub rest : t ≡ record s { clock = t.clock }
  pub end : result ≡ waited_end restart answer

abbrev pub EndsBy : Option ℕ → Bool → Stage → Stage → Result Bool AgentEnd → Type 0
EndsBy None restart = Gives restart
EndsBy (Some nanos) restart = WaitsFor nanos restart

-- The round ends with its wait, if it has one.
abbrev pub EndsWith : Pause → Stage → Stage → Result Bool AgentEnd → Type 0
EndsWith pause = EndsBy pause.nanos pause.restart
