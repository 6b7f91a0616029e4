-- What contracts see of all that a run is lent.
use Rattle.std.specs.Prelude.{ℕ, List, Bool, Option}
use Rattle.message_values.specs.declared.custom.CustomMessage.{CustomMessage}
use Rattle.edge_devices.specs.Clocks.{ClockState, EntropyState}
use Rattle.edge_devices.specs.Dialers.{DialerState}
use Rattle.edge_devices.specs.Disks.{DiskState}
use Rattle.edge_devices.specs.Folders.{FolderState}
use Rattle.edge_devices.specs.Streams.{SinkView, SourceView}
use Rattle.server_core.specs.declared.rows.Record.{Record}
use Rattle.server_sessions.specs.Wiring.{WireView}
use Rattle.world_lab.specs.Labs.{LabState}

-- what is seen at a moment
pub record Seen : Type 0 where
  pub source : SourceView
  pub sink : SinkView
  pub disk : DiskState
  pub folder : FolderState
  pub wire : WireView
  pub dialer : DialerState
  pub clock : ClockState
  pub entropy : EntropyState
  pub lab : LabState

-- for each object the fact that it is as it was when the run began
pub record Unchanged : Type 1 where
  pub source : Type 0
  pub sink : Type 0
  pub disk : Type 0
  pub folder : Type 0
  pub wire : Type 0
  pub dialer : Type 0
  pub clock : Type 0
  pub entropy : Type 0
  pub lab : Type 0

-- what `agent` alone uses is as it was
pub record AgentsKept (unchanged : Unchanged) : Type 0 where
  pub disk : unchanged.disk
  pub folder : unchanged.folder
  pub dialer : unchanged.dialer
  pub clock : unchanged.clock

-- the names of the capabilities that have a handler, what may be answered to a message, and which agents the judge finds fine
pub record HandlersView : Type 1 where
  pub names : List (List ℕ)
  pub answers : CustomMessage → Option CustomMessage → Type 0
  pub fine : Record → Bool
