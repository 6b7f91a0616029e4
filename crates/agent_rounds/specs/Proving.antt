-- The trial of a configuration: its name, and the collector's word on it in the status file.
use Rattle.std.specs.Prelude.{◌≡◌, ◌≢◌, ◌⊎◌, ℕ, zero, suc, ◌++◌, ◌*◌, ◌-◌, ◌^◌, ◌≤◌, List, [], ◌∷◌, length, Bool, true, false, min, nat_le, if◌then◌else◌, Option, None, Some, Result, Ok, Err, codes, IsTrue, IfErr, IfOk, Contains, is_ok, is_some, OnOk}
use Rattle.std.specs.Fmt.{decimal}
use Rattle.hex.specs.Hex.{encode_lower}
use Rattle.plain_values.specs.declared.files.AgentConfigMap.{AgentConfigMap}
use Rattle.message_values.specs.declared.config.AgentRemoteConfig.{AgentRemoteConfig}
use Rattle.agent_rules.specs.Half.{AgentHalf, kept_part}
use Rattle.agent_rules.specs.Offers.{offered_files}
use Rattle.message_values.specs.declared.report.AgentToServer.{AgentToServer}
use Rattle.message_codec.specs.declared.wire.field.Why.{Why}
use Rattle.message_reports.specs.Reports.{MeansReport, ReportFault}
use Rattle.edge_devices.specs.declared.clocks.ClockFault.{ClockFault as FaultOfClock}
use Rattle.edge_devices.specs.declared.folders.Area.TheVariants as areas
use Rattle.edge_devices.specs.declared.folders.FolderCall.{FolderCall}
use Rattle.edge_devices.specs.declared.folders.FolderCall.TheVariants.{Read, Write}
use Rattle.edge_devices.specs.declared.folders.FolderFail.{FolderFail}
use Rattle.edge_devices.specs.declared.folders.FolderFail.TheVariants as folder
use Rattle.edge_devices.specs.Clocks.{Waits}
use Rattle.edge_devices.specs.Disks.{DiskState, LeftSince}
use Rattle.edge_devices.specs.Folders.{Calls, FolderState, SameFiles, SameOthers}
use Rattle.agent_rules.specs.declared.saved.Saved.{Saved}
use Rattle.agent_rounds.specs.declared.ends.AgentEnd.{AgentEnd}
use Rattle.agent_rounds.specs.declared.ends.AgentEnd.TheVariants.{NoMemory}
use Rattle.agent_config.specs.declared.word.Said.{Said}
use Rattle.agent_config.specs.declared.word.Said.TheVariants.{Nothing, Taken, Refused}
use Rattle.agent_config.specs.Word.{SaysOfTrial}
use Rattle.agent_state.specs.View.{HasPart}
use Rattle.agent_rounds.specs.Moments.{Moment, stage_at}
use Rattle.agent_rounds.specs.Stages.{Stage, Then, Gives}

-- a hash in lower-case hexadecimal digits, and `-` for an empty one
abbrev pub hash_word : List ℕ → List ℕ
hash_word [] = codes "-"
hash_word (byte ∷ hash) = encode_lower (byte ∷ hash)

-- The name of a trial: the number of the agent's last report in decimal, a blank, and the offer's hash.
abbrev pub trial_name : ℕ → List ℕ → List ℕ
trial_name number hash = decimal number ++ 32 ∷ hash_word hash

-- the name of an agent's trial of this offer; the number of its next report is one above that of its last
abbrev pub name_of : AgentHalf → AgentRemoteConfig → List ℕ
name_of a offer = trial_name (a.next - 1) offer.config_hash

-- the one line of the file `trial`
abbrev pub trial_line : List ℕ → List ℕ
trial_line name = name ++ 10 ∷ []

-- What a reading of the status file says: what its status does; nothing where it isn't there or is refused, or the folder fails.
abbrev pub Tells : List ℕ → Result (Option (List ℕ)) FolderFail → Said → Type 0
Tells name (Ok (Some body)) said = ((status : AgentToServer) × MeansReport body status × SaysOfTrial name status said)
    ⊎ ((at : ℕ) × (why : Why) × ReportFault body at why × (said ≡ Nothing))
Tells name (Ok None) said = said ≡ Nothing
Tells name (Err fail) said = said ≡ Nothing

-- The status file is read for its word on the trial, and all files are as they were. Want of memory alone ends the round.
pub record ReadsWord (name : List ℕ) (s t : Stage) (result : Result Said AgentEnd) : Type 0 where
  pub answer : Result (Option (List ℕ)) FolderFail
  pub call : Calls s.folder t.folder (Read areas.Status (codes "status.pb")) answer
  pub body : IfOk answer (λ body. IsTrue t.folder.told → body ≡ s.folder.files areas.Status (codes "status.pb"))
  pub same : SameFiles s.folder.files t.folder.files
  pub rest : t ≡ record s { folder = t.folder }
  pub told : IfOk result (λ said. (answer ≢ Err folder.NoMemory) × Tells name answer said)
  pub end : IfErr result (λ end. end ≡ NoMemory)

-- whether there is a trial, by how the writing of its name ended
abbrev pub named_end : Result Unit FolderFail → Result Bool AgentEnd
named_end (Ok _) = Ok true
named_end (Err folder.Fault) = Ok false
named_end (Err folder.NoMemory) = Err NoMemory

-- The trial's name is written as the file `trial` of the area Status, and all other files are as they were.
pub record NamesTrial (name : List ℕ) (s t : Stage) (result : Result Bool AgentEnd) : Type 0 where
  pub answer : Result Unit FolderFail
  pub call : Calls s.folder t.folder (λ done. Write areas.Status (codes "trial") (trial_line name) (is_some done)) answer
  pub written : OnOk answer (IsTrue t.folder.told → t.folder.files areas.Status (codes "trial") ≡ Some (trial_line name))
  pub same : SameOthers areas.Status (codes "trial") s.folder.files t.folder.files
  pub rest : t ≡ record s { folder = t.folder }
  pub given : result ≡ named_end answer

-- a quarter of a second, in nanoseconds
abbrev pub quarter : ℕ
quarter = 250000000

-- the quarters of so many seconds, as far as 64 bits go
abbrev pub quarters : ℕ → ℕ
quarters seconds = min (seconds * 4) (2 ^ 64 - 1)

-- The clock waits a quarter of a second, or it fails.
pub record WaitsQuarter (s t : Stage) (result : Result Bool AgentEnd) : Type 0 where
  pub answer : Result Unit FaultOfClock
  pub waits : Waits s.clock t.clock quarter answer
  pub rest : t ≡ record s { clock = t.clock }
  pub given : result ≡ Ok (is_ok answer)

-- behind a wait the watching goes on; where the clock failed there is no word
abbrev pub WatchesAgain : (Stage → Stage → Result Said AgentEnd → Type 0) → Bool → Stage → Stage → Result Said AgentEnd → Type 0
WatchesAgain more true = more
WatchesAgain more false = Gives Nothing

-- a word ends the watching, and without one the clock waits
abbrev pub WatchesOn : (Stage → Stage → Result Said AgentEnd → Type 0) → Said → Stage → Stage → Result Said AgentEnd → Type 0
WatchesOn more Nothing = Then WaitsQuarter (WatchesAgain more)
WatchesOn more Taken = Gives Taken
WatchesOn more (Refused error) = Gives (Refused error)

-- The status file is read until it has a word on the trial, with a wait of a quarter of a second before each further reading, and so many waits at most.
abbrev pub Watches : ℕ → List ℕ → Stage → Stage → Result Said AgentEnd → Type 0
Watches zero name = ReadsWord name
Watches (suc waits) name = Then (ReadsWord name) (WatchesOn (Watches waits name))

-- the text of a failure that the collector told; an error message of more than 1,000 bytes is left out
abbrev pub refused_text : List ℕ → List ℕ
refused_text error = if nat_le (length error) 1000 then codes "refused: " ++ error else codes "refused"

-- why files aren't kept of which this was said
abbrev pub refusal : Said → Option (List ℕ)
refusal Taken = None
refusal Nothing = Some (codes "not taken")
refusal (Refused error) = Some (refused_text error)

-- The trial of this name is proved: between these moments of the folder the status file was read, and it said of this trial that the collector applied it.
pub record IsProvedBy (name : List ℕ) (old new : FolderState) : Type 0 where
  pub body : List ℕ
  pub status : AgentToServer
  pub means : MeansReport body status
  pub word : SaysOfTrial name status Taken
  pub read : IsTrue new.told → (before : List FolderCall) × ((after : List FolderCall)
      × (new.calls ≡ (old.calls ++ before) ++ Read areas.Status (codes "status.pb") (Some (Some body)) ∷ after))

-- Each part that is kept while an offer is dealt with has the former configuration, or the offered one, whose trial the collector proved meanwhile; and so has
-- the agent behind it, unless the round ends.
pub record KeepsWhatIsProved (offer : AgentRemoteConfig) (s t : Stage) (result : Result Unit AgentEnd) : Type 0 where
  pub more : List Saved
  pub joins : t.keeps ≡ s.keeps ++ more
  pub each : (part : Saved) → Contains more part
      → (part.config ≡ s.half.saved.config) ⊎ ((part.config ≡ offered_files offer) × IsProvedBy (name_of s.half offer) s.folder t.folder)
  pub now : OnOk result ((t.half.saved.config ≡ s.half.saved.config) ⊎ ((t.half.saved.config ≡ offered_files offer) × IsProvedBy (name_of s.half offer) s.folder t.folder))

-- The files are those of an offer whose trial the collector proved between these moments of the folder; its name has the number of a report, which isn't below
-- this one.
pub record IsProvedConfig (first : ℕ) (config : AgentConfigMap) (old new : FolderState) : Type 0 where
  pub offer : AgentRemoteConfig
  pub files : config ≡ offered_files offer
  pub number : ℕ
  pub since : first ≤ number
  pub proved : IsProvedBy (trial_name number offer.config_hash) old new

-- A configuration is the one at this stage, or the collector proved it since, under the number of a report that was made since.
abbrev pub IsFormerOrProved : Stage → FolderState → AgentConfigMap → Type 0
IsFormerOrProved s new config = (config ≡ s.half.saved.config) ⊎ IsProvedConfig s.half.next config s.folder new

-- Each part that is kept between two stages of a run has the first one's configuration, or one that the collector proved in between; and so has the agent at
-- the second one, unless the run ends there.
pub record KeepsFormerOrProved {T : Type 0} (s t : Stage) (result : Result T AgentEnd) : Type 0 where
  pub more : List Saved
  pub joins : t.keeps ≡ s.keeps ++ more
  pub each : (part : Saved) → Contains more part → IsFormerOrProved s t.folder part.config
  pub now : OnOk result (IsFormerOrProved s t.folder t.half.saved.config)

-- The image stands for what was kept at this moment, or for a part with that configuration or with one that the collector proved since.
abbrev pub HasFormerOrProved : Moment → FolderState → (ℕ → ℕ) → Type 0
HasFormerOrProved before folder image = HasPart before.agent.store.layout (kept_part before.agent.half) image
    ⊎ ((part : Saved) × HasPart before.agent.store.layout (Some part) image × IsFormerOrProved (stage_at before []) folder part.config)

-- Whatever a crash leaves of the disk from this moment on stands for that.
abbrev pub LeavesFormerOrProved : Moment → DiskState → FolderState → Type 0
LeavesFormerOrProved before disk folder = IsTrue before.disk.told → LeftSince before.disk disk (HasFormerOrProved before folder)
