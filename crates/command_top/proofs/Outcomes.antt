-- What comes of each command, by what its run promises, and of want of memory before anything is done.
use Rattle.std.proofs.Common.{◌≡◌, ◌∙◌, ◌≤◌, ◌⊎◌, ℕ, List, length, Option, None, Some, IsSome, inl, inr, refl, sym, ap, subst, arith, length-append}
use Rattle.std.proofs.lemmas.Bool.{false≢true}
use Rattle.std.specs.Io.KnownBytes.{Appends}
use Rattle.edge_devices.specs.Disks.{DiskState, LeftSince, MayLeave, medium}
use Rattle.command_words.specs.declared.commands.AgentOptions.{AgentOptions}
use Rattle.command_words.specs.declared.commands.Command.{Command}
use Rattle.command_words.specs.declared.commands.Command.TheVariants as word
use Rattle.command_words.specs.declared.commands.Family.TheVariants.{Report, Reply}
use Rattle.command_words.specs.declared.commands.RolloutOptions.{RolloutOptions}
use Rattle.command_words.specs.declared.commands.ServeOptions.{ServeOptions}
use Rattle.world_lab.specs.Labs.{unplayed}
use Rattle.command_frames.specs.declared.commands.StreamCommand.{StreamCommand}
use Rattle.command_frames.specs.declared.commands.StreamCommand.TheVariants.{Answer, CanonReport, CanonReply, Check, ShowReport, ShowReply}
use Rattle.command_frames.specs.Outcomes.{StreamEnds, StreamOutcome}
use Rattle.command_frames.specs.declared.running.TheConstants.{BUDGET}
use Rattle.command_fleet.specs.Outcomes.{FleetEnds, FleetOutcome}
use Rattle.command_scripts.specs.Outcomes.{ScriptEnds, SimulateOutcome, StormEnds, StormOutcome}
use Rattle.command_serve.specs.Outcomes.{RolloutOutcome, ServeOutcome}
use Rattle.command_agent.specs.declared.endings.Ending.TheVariants as endings
use Rattle.command_agent.specs.declared.lines.Line.TheVariants as lines
use Rattle.command_agent.specs.declared.status.AgentStatus.TheVariants as statuses
use Rattle.command_agent.specs.Lines.{text_of}
use Rattle.command_agent.specs.Outcomes.{AgentOutcome}
use Rattle.command_agent.specs.Starting.{IsUnwritten}
use Rattle.command_top.specs.Outcomes.{Outcome, RunsAgent, RunsFleet, RunsRollout, RunsServe, RunsSimulate, RunsStorm, RunsStreams, agent_ends, serve_ends}
use Rattle.command_top.specs.Seen.{AgentsKept, HandlersView, Seen, Unchanged}
use Rattle.command_top.specs.Words.{asked_by, command_of, named_stream}
use Rattle.command_top.specs.declared.commands.Job.{Job}
use Rattle.command_top.specs.declared.commands.Job.TheVariants as job
use Rattle.command_top.specs.declared.commands.Task.{Task}

-- of a command over framed messages, whichever it is
pub stream_outcome : (handlers : HandlersView) (command : StreamCommand) (before after : Seen) (unchanged : Unchanged) (status : ℕ) → RunsStreams command before after unchanged status
    → Outcome handlers (named_stream command) before after unchanged status
stream_outcome handlers Answer before after unchanged status runs = runs
stream_outcome handlers CanonReport before after unchanged status runs = runs
stream_outcome handlers CanonReply before after unchanged status runs = runs
stream_outcome handlers ShowReport before after unchanged status runs = runs
stream_outcome handlers ShowReply before after unchanged status runs = runs
stream_outcome handlers Check before after unchanged status runs = runs

-- ---- what comes of the command that words name, by what they ask for

module _ (handlers : HandlersView) (asked : Job) (command : Command) (before after : Seen) (unchanged : Unchanged) (status : ℕ) (same : asked_by asked ≡ command) where
  pub fleet_outcome : (desks : ℕ) → asked ≡ job.Fleet desks → RunsFleet desks before after unchanged status → Outcome handlers command before after unchanged status
  fleet_outcome desks is runs = subst (λ (c : Command). Outcome handlers c before after unchanged status) (ap asked_by (sym is) ∙ same) runs

  pub task_outcome : (one : Task) → asked ≡ job.Task one → Outcome handlers (command_of one) before after unchanged status → Outcome handlers command before after unchanged status
  task_outcome one is runs = subst (λ (c : Command). Outcome handlers c before after unchanged status) (ap asked_by (sym is) ∙ same) runs

-- ---- want of memory before anything is done

pub record AllUnchanged (unchanged : Unchanged) : Type 0 where
  pub source : unchanged.source
  pub sink : unchanged.sink
  pub disk : unchanged.disk
  pub folder : unchanged.folder
  pub wire : unchanged.wire
  pub dialer : unchanged.dialer
  pub clock : unchanged.clock
  pub entropy : unchanged.entropy
  pub lab : unchanged.lab

-- The laws of the crates below: it is an ending of each of these commands.
pub record EndsUnbegun : Type 0 where
  pub stream : (command : StreamCommand) (ends : StreamEnds) → StreamOutcome command ends ends 5
  pub simulate : (ends : ScriptEnds) → ends.lab ≡ unplayed → SimulateOutcome ends ends 5
  pub storm : (start count : ℕ) (ends : StormEnds) → StormOutcome start count ends ends 5
  pub fleet : (desks budget : ℕ) (ends : FleetEnds) → FleetOutcome desks budget ends ends 5

all_agents : (unchanged : Unchanged) → AllUnchanged unchanged → AgentsKept unchanged
all_agents unchanged all = record { disk = all.disk; folder = all.folder; dialer = all.dialer; clock = all.clock }

module _ (laws : EndsUnbegun) (seen : Seen) (unchanged : Unchanged) (all : AllUnchanged unchanged) where
  unread : (command : StreamCommand) → RunsStreams command seen seen unchanged 5
  unread command = record {
    outcome = laws.stream command _;
    agents_kept = all_agents unchanged all;
    wire_kept = all.wire;
    entropy_kept = all.entropy;
    lab_kept = all.lab;
  }

  unsimulated : seen.lab ≡ unplayed → RunsSimulate seen seen unchanged 5
  unsimulated still = record {
    outcome = laws.simulate _ still;
    agents_kept = all_agents unchanged all;
    wire_kept = all.wire;
    entropy_kept = all.entropy;
  }

  undrawn : (start count : ℕ) → RunsStorm start count seen seen unchanged 5
  undrawn start count = record {
    outcome = laws.storm start count _;
    silent = λ is. all.sink;
    agents_kept = all_agents unchanged all;
    source_kept = all.source;
    wire_kept = all.wire;
    entropy_kept = all.entropy;
  }

  unhandled : (desks : ℕ) → RunsFleet desks seen seen unchanged 5
  unhandled desks = record {
    outcome = laws.fleet desks BUDGET _;
    silent = λ is. all.sink;
    agents_kept = all_agents unchanged all;
    wire_kept = all.wire;
    entropy_kept = all.entropy;
    lab_kept = all.lab;
  }

none_served : (handlers : HandlersView) (options : ServeOptions) (seen : Seen) → ServeOutcome handlers.names handlers.answers handlers.fine options (serve_ends seen) (serve_ends seen) 5
none_served handlers options seen = record {
  too_large = λ is. absurd (omega (arith, is));
  large = λ too. inr refl;
  stopped = λ is. absurd (omega (arith, is));
  spent = λ is. absurd (omega (arith, is));
  spent_told = λ kept all told. inr (inr (inl refl));
  wire_fails = λ is. absurd (omega (arith, is));
  wire_fault = λ is. absurd (omega (arith, is));
  cut = λ is. absurd (omega (arith, is));
  write_fault = λ is. absurd (omega (arith, is));
  wanting = λ is. inl (inl (refl, refl));
  complete = λ fits no_wire no_write unspent. inr refl;
  statuses = inr (inr (inr (inl refl)));
}

unserved : (handlers : HandlersView) (options : ServeOptions) (seen : Seen) (unchanged : Unchanged) → AllUnchanged unchanged → RunsServe handlers options seen seen unchanged 5
unserved handlers options seen unchanged all = record {
  outcome = none_served handlers options seen;
  silent = λ either. all.sink;
  agents_kept = all_agents unchanged all;
  source_kept = all.source;
  lab_kept = all.lab;
}

none_rolled : (handlers : HandlersView) (options : ServeOptions) (told : RolloutOptions) (seen : Seen) → RolloutOutcome handlers.names handlers.answers handlers.fine options told (serve_ends seen) (serve_ends seen) 5
none_rolled handlers options told seen = record {
  too_large = λ is. absurd (omega (arith, is));
  large = λ too. inr refl;
  stopped = λ is. absurd (omega (arith, is));
  spent = λ is. absurd (omega (arith, is));
  spent_told = λ kept all told. inr (inr (inl refl));
  wire_fails = λ is. absurd (omega (arith, is));
  wire_fault = λ is. absurd (omega (arith, is));
  cut = λ is. absurd (omega (arith, is));
  write_fault = λ is. absurd (omega (arith, is));
  wanting = λ is. inl (inl (refl, refl));
  complete = λ fits no_wire no_write unspent. inr refl;
  statuses = inr (inr (inr (inl refl)));
}

unrolled : (handlers : HandlersView) (options : ServeOptions) (told : RolloutOptions) (seen : Seen) (unchanged : Unchanged) → AllUnchanged unchanged → RunsRollout handlers options told seen seen unchanged 5
unrolled handlers options told seen unchanged all = record {
  outcome = none_rolled handlers options told seen;
  untouched = λ is. absurd (omega (arith, is));
  silent = λ either. all.sink;
  agents_kept = all_agents unchanged all;
  source_kept = all.source;
  lab_kept = all.lab;
}

still_left : (disk : DiskState) → LeftSince disk disk (MayLeave (medium disk))
still_left disk = record {
  told = refl;
  later = omega arith;
  past = λ t before. refl;
  each = λ t image from to may. let same : t ≡ disk.moment = omega (arith, from, to) in subst (λ (at : ℕ). MayLeave (disk.history at) image) same may;
}

still_unwritten : (disk : DiskState) → IsUnwritten disk disk
still_unwritten disk = record { bytes = refl; moments = still_left disk }

-- where nothing was taken no line was
untaken : (taken : Option (List ℕ)) (rounds : ℕ) → IsSome taken → Appends taken taken (text_of (lines.Rounds rounds)) → ⊥
unfolding text_of
untaken None rounds some took = false≢true some
untaken (Some row) rounds some took = omega (arith, ap length took, length-append row (text_of (lines.Rounds rounds)))

none_reported : (handlers : HandlersView) (options : AgentOptions) (seen : Seen) → AgentOutcome handlers.names handlers.answers options (agent_ends seen) (agent_ends seen) 5
none_reported handlers options seen = record {
  ended = (endings.NoMemory, statuses.NoMemory, inl (record { unwritten = still_unwritten seen.disk; rest = refl }), (refl, refl), refl);
  restarted = λ is. absurd (omega (arith, is));
  write_fault = λ is. absurd (omega (arith, is));
  store_fault = λ is. absurd (omega (arith, is));
  damaged = λ is. absurd (omega (arith, is));
  damage_told = λ slot tells found. inr (inr (inl refl));
  outside_fault = λ is. absurd (omega (arith, is));
  spent = λ is. absurd (omega (arith, is));
  spent_told = λ rounds some took. absurd (untaken seen.sink.taken rounds some took);
  numbers_spent = λ is. absurd (omega (arith, is));
  numbers_told = λ keeps some. inr (inr (inr (inr refl)));
  too_large = λ is. absurd (omega (arith, is));
  size_told = λ keeps told some. inr (inr (inr (inl refl)));
  complete = λ no_write no_store no_folder no_clock no_entropy sound left numbers small. inr refl;
  statuses = inr (inr (inl refl));
}

not_begun : (handlers : HandlersView) (options : AgentOptions) (seen : Seen) (unchanged : Unchanged) → AllUnchanged unchanged → RunsAgent handlers options seen seen unchanged 5
not_begun handlers options seen unchanged all = record {
  outcome = none_reported handlers options seen;
  silent = λ is. all.sink;
  source_kept = all.source;
  wire_kept = all.wire;
  lab_kept = all.lab;
}

pub nothing_done : EndsUnbegun → (handlers : HandlersView) (command : Command) (seen : Seen) (unchanged : Unchanged) → seen.lab ≡ unplayed → AllUnchanged unchanged → Outcome handlers command seen seen unchanged 5
nothing_done laws handlers word.Answer seen unchanged still all = unread laws seen unchanged all Answer
nothing_done laws handlers (word.Canon Report) seen unchanged still all = unread laws seen unchanged all CanonReport
nothing_done laws handlers (word.Canon Reply) seen unchanged still all = unread laws seen unchanged all CanonReply
nothing_done laws handlers (word.Show Report) seen unchanged still all = unread laws seen unchanged all ShowReport
nothing_done laws handlers (word.Show Reply) seen unchanged still all = unread laws seen unchanged all ShowReply
nothing_done laws handlers word.Check seen unchanged still all = unread laws seen unchanged all Check
nothing_done laws handlers word.Simulate seen unchanged still all = unsimulated laws seen unchanged all still
nothing_done laws handlers (word.Storm start count) seen unchanged still all = undrawn laws seen unchanged all start count
nothing_done laws handlers (word.Serve options) seen unchanged still all = unserved handlers options seen unchanged all
nothing_done laws handlers (word.Rollout options told) seen unchanged still all = unrolled handlers options told seen unchanged all
nothing_done laws handlers (word.Agent options) seen unchanged still all = not_begun handlers options seen unchanged all
nothing_done laws handlers (word.Fleet desks) seen unchanged still all = unhandled laws seen unchanged all desks
