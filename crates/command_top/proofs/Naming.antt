-- A command that words name can be run.
use Rattle.std.proofs.Common.{◌≡◌, ◌<◌, ◌≤◌, ℕ, List, true}
use Rattle.edge_devices.specs.Endpoints.{is_endpoint}
use Rattle.command_words.specs.declared.commands.AgentOptions.{AgentOptions}
use Rattle.command_words.specs.declared.commands.Command.TheVariants.{Agent, Fleet, Rollout, Storm}
use Rattle.command_words.specs.declared.commands.RolloutOptions.{RolloutOptions}
use Rattle.command_words.specs.declared.commands.ServeOptions.{ServeOptions}
use Rattle.edge_devices.specs.Names.{is_good_name}
use Rattle.command_words.specs.Meaning.{AreWords}
use Rattle.command_top.specs.declared.commands.Job.{Job}
use Rattle.command_top.specs.declared.commands.Job.TheVariants as job
use Rattle.command_top.specs.declared.commands.Task.{Task}
use Rattle.command_top.specs.declared.commands.Task.TheVariants as task
use Rattle.command_top.specs.Words.{CanBegin, CanRun, asked_by, command_of}

-- the laws on the values that words name
pub record AreNamed : Type 0 where
  pub count : (words : List (List ℕ)) (start count : ℕ) → AreWords words (Storm start count) → (1 ≤ count) × (count ≤ 100000)
  pub server : (words : List (List ℕ)) (options : AgentOptions) → AreWords words (Agent options) → is_endpoint options.server ≡ true
  pub rollout : (words : List (List ℕ)) (options : ServeOptions) (told : RolloutOptions) → AreWords words (Rollout options told) → (told.allowed < told.width) × (is_good_name told.name ≡ true)
  pub desks : (words : List (List ℕ)) (desks : ℕ) → AreWords words (Fleet desks) → (1 ≤ desks) × (desks ≤ 64)

can_run : AreNamed → (words : List (List ℕ)) (named : Task) → AreWords words (command_of named) → CanRun named
can_run laws words (task.Stream command) said = tt
can_run laws words task.Simulate said = tt
can_run laws words (task.Storm start count) said = (laws.count words start count said).1
can_run laws words (task.Serve options) said = tt
can_run laws words (task.Rollout options told) said = (laws.rollout words options told said).0
can_run laws words (task.Agent options) said = laws.server words options said

pub can_begin : AreNamed → (words : List (List ℕ)) (named : Job) → AreWords words (asked_by named) → CanBegin named
can_begin laws words (job.Fleet desks) said = laws.desks words desks said
can_begin laws words (job.Task one) said = can_run laws words one said
