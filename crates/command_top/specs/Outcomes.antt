-- What comes of each command: what its own crate promises of it, and what it leaves alone of all that a run is lent. `opamp_main` promises this of the
-- command that its words name, and beside it what holds of every command.
use Rattle.std.specs.Prelude.{◌≡◌, ◌⊎◌, ℕ}
use Rattle.command_words.specs.declared.commands.AgentOptions.{AgentOptions}
use Rattle.command_words.specs.declared.commands.Command.{Command}
use Rattle.command_words.specs.declared.commands.Command.TheVariants.{Agent, Answer, Canon, Check, Fleet, Rollout, Serve, Show, Simulate, Storm}
use Rattle.command_words.specs.declared.commands.Family.TheVariants.{Report, Reply}
use Rattle.command_words.specs.declared.commands.RolloutOptions.{RolloutOptions}
use Rattle.command_words.specs.declared.commands.ServeOptions.{ServeOptions}
use Rattle.command_frames.specs.declared.commands.StreamCommand.{StreamCommand}
use Rattle.command_frames.specs.declared.commands.StreamCommand.TheVariants as stream
use Rattle.command_frames.specs.Outcomes.{StreamEnds, StreamOutcome}
use Rattle.command_frames.specs.declared.running.TheConstants.{BUDGET}
use Rattle.command_scripts.specs.Outcomes.{ScriptEnds, SimulateOutcome, StormEnds, StormOutcome}
use Rattle.command_serve.specs.Outcomes.{RolloutOutcome, ServeEnds, ServeOutcome}
use Rattle.command_agent.specs.Outcomes.{AgentEnds, AgentOutcome}
use Rattle.command_agent.specs.Statuses.{IsSilentStatus}
use Rattle.command_fleet.specs.Outcomes.{FleetEnds, FleetOutcome}
use Rattle.command_top.specs.Seen.{AgentsKept, HandlersView, Seen, Unchanged}

abbrev pub stream_ends : Seen → StreamEnds
stream_ends seen = record { source = seen.source; sink = seen.sink }

abbrev pub script_ends : Seen → ScriptEnds
script_ends seen = record { source = seen.source; sink = seen.sink; lab = seen.lab }

abbrev pub storm_ends : Seen → StormEnds
storm_ends seen = record { sink = seen.sink; lab = seen.lab }

abbrev pub serve_ends : Seen → ServeEnds
serve_ends seen = record { sink = seen.sink; wire = seen.wire; entropy = seen.entropy }

abbrev pub agent_ends : Seen → AgentEnds
agent_ends seen = record {
  sink = seen.sink;
  around = record { disk = seen.disk; folder = seen.folder; dialer = seen.dialer; clock = seen.clock; entropy = seen.entropy };
}

abbrev pub fleet_ends : Seen → FleetEnds
fleet_ends seen = record { source = seen.source; sink = seen.sink }

-- `answer`, `canon`, `show` and `check`
pub record RunsStreams (command : StreamCommand) (before after : Seen) (unchanged : Unchanged) (status : ℕ) : Type 0 where
  pub outcome : StreamOutcome command (stream_ends before) (stream_ends after) status
  -- Wire, random bytes, lab and what `agent` uses stay.
  pub agents_kept : AgentsKept unchanged
  pub wire_kept : unchanged.wire
  pub entropy_kept : unchanged.entropy
  pub lab_kept : unchanged.lab

-- `simulate`
pub record RunsSimulate (before after : Seen) (unchanged : Unchanged) (status : ℕ) : Type 0 where
  pub outcome : SimulateOutcome (script_ends before) (script_ends after) status
  -- Wire, random bytes and what `agent` uses stay.
  pub agents_kept : AgentsKept unchanged
  pub wire_kept : unchanged.wire
  pub entropy_kept : unchanged.entropy

-- `storm`
pub record RunsStorm (start count : ℕ) (before after : Seen) (unchanged : Unchanged) (status : ℕ) : Type 0 where
  pub outcome : StormOutcome start count (storm_ends before) (storm_ends after) status
  -- For want of memory nothing was written.
  pub silent : status ≡ 5 → unchanged.sink
  -- Source, wire, random bytes and what `agent` uses stay.
  pub agents_kept : AgentsKept unchanged
  pub source_kept : unchanged.source
  pub wire_kept : unchanged.wire
  pub entropy_kept : unchanged.entropy

-- `serve`
pub record RunsServe (handlers : HandlersView) (options : ServeOptions) (before after : Seen) (unchanged : Unchanged) (status : ℕ) : Type 0 where
  pub outcome : ServeOutcome handlers.names handlers.answers handlers.fine options (serve_ends before) (serve_ends after) status
  -- Where the wire failed or memory was wanting nothing was written.
  pub silent : (status ≡ 8) ⊎ (status ≡ 5) → unchanged.sink
  -- Source, lab and what `agent` uses stay.
  pub agents_kept : AgentsKept unchanged
  pub source_kept : unchanged.source
  pub lab_kept : unchanged.lab

-- `serve --rollout`
pub record RunsRollout (handlers : HandlersView) (options : ServeOptions) (told : RolloutOptions) (before after : Seen) (unchanged : Unchanged) (status : ℕ) : Type 0 where
  pub outcome : RolloutOutcome handlers.names handlers.answers handlers.fine options told (serve_ends before) (serve_ends after) status
  -- Where the offer is too large nothing was done; where the wire failed or memory was wanting nothing was written.
  pub untouched : status ≡ 11 → unchanged.sink × unchanged.wire × unchanged.entropy
  pub silent : (status ≡ 8) ⊎ (status ≡ 5) → unchanged.sink
  -- Source, lab and what `agent` uses stay.
  pub agents_kept : AgentsKept unchanged
  pub source_kept : unchanged.source
  pub lab_kept : unchanged.lab

-- `agent`
pub record RunsAgent (handlers : HandlersView) (options : AgentOptions) (before after : Seen) (unchanged : Unchanged) (status : ℕ) : Type 0 where
  pub outcome : AgentOutcome handlers.names handlers.answers options (agent_ends before) (agent_ends after) status
  -- Beside the lines that tell a restart, all rounds done and a damaged store nothing is ever written.
  pub silent : IsSilentStatus status → unchanged.sink
  -- Source, wire and lab stay.
  pub source_kept : unchanged.source
  pub wire_kept : unchanged.wire
  pub lab_kept : unchanged.lab

-- `fleet`, within the budget of bytes of the commands over framed messages
pub record RunsFleet (desks : ℕ) (before after : Seen) (unchanged : Unchanged) (status : ℕ) : Type 0 where
  pub outcome : FleetOutcome desks BUDGET (fleet_ends before) (fleet_ends after) status
  -- Where the source failed nothing was written.
  pub silent : status ≡ 3 → unchanged.sink
  -- Wire, random bytes, lab and what `agent` uses stay.
  pub agents_kept : AgentsKept unchanged
  pub wire_kept : unchanged.wire
  pub entropy_kept : unchanged.entropy
  pub lab_kept : unchanged.lab

-- what comes of a command
abbrev pub Outcome : HandlersView → Command → Seen → Seen → Unchanged → ℕ → Type 0
Outcome handlers Answer = RunsStreams stream.Answer
Outcome handlers (Canon Report) = RunsStreams stream.CanonReport
Outcome handlers (Canon Reply) = RunsStreams stream.CanonReply
Outcome handlers (Show Report) = RunsStreams stream.ShowReport
Outcome handlers (Show Reply) = RunsStreams stream.ShowReply
Outcome handlers Check = RunsStreams stream.Check
Outcome handlers Simulate = RunsSimulate
Outcome handlers (Storm start count) = RunsStorm start count
Outcome handlers (Serve options) = RunsServe handlers options
Outcome handlers (Rollout options told) = RunsRollout handlers options told
Outcome handlers (Agent options) = RunsAgent handlers options
Outcome handlers (Fleet desks) = RunsFleet desks
