-- The commands that words name, by what is to be done.
use Rattle.std.specs.Prelude.{◌<◌, ◌≤◌, IsTrue}
use Rattle.edge_devices.specs.Endpoints.{is_endpoint}
use Rattle.command_words.specs.declared.commands.Command.{Command}
use Rattle.command_words.specs.declared.commands.Command.TheVariants.{Agent, Answer, Canon, Check, Fleet, Rollout, Serve, Show, Simulate, Storm}
use Rattle.command_words.specs.declared.commands.Family.TheVariants.{Report, Reply}
use Rattle.command_frames.specs.declared.commands.StreamCommand.{StreamCommand}
use Rattle.command_frames.specs.declared.commands.StreamCommand.TheVariants as stream
use Rattle.command_top.specs.declared.commands.Job.{Job}
use Rattle.command_top.specs.declared.commands.Job.TheVariants as job
use Rattle.command_top.specs.declared.commands.Task.{Task}
use Rattle.command_top.specs.declared.commands.Task.TheVariants as task

abbrev pub named_stream : StreamCommand → Command
named_stream stream.Answer = Answer
named_stream stream.CanonReport = Canon Report
named_stream stream.CanonReply = Canon Reply
named_stream stream.ShowReport = Show Report
named_stream stream.ShowReply = Show Reply
named_stream stream.Check = Check

abbrev pub command_of : Task → Command
command_of (task.Stream command) = named_stream command
command_of task.Simulate = Simulate
command_of (task.Storm start count) = Storm start count
command_of (task.Serve options) = Serve options
command_of (task.Rollout options told) = Rollout options told
command_of (task.Agent options) = Agent options

-- the command of words that ask for this
abbrev pub asked_by : Job → Command
asked_by (job.Fleet desks) = Fleet desks
asked_by (job.Task one) = command_of one

-- a storm has 100,000 lines at most, a rollout allows fewer failures than its width, and the endpoint of an agent's server is of the grammar of
-- endpoints
abbrev pub CanRun : Task → Type 0
CanRun (task.Stream command) = Unit {0}
CanRun task.Simulate = Unit {0}
CanRun (task.Storm start count) = count ≤ 100000
CanRun (task.Serve options) = Unit {0}
CanRun (task.Rollout options told) = told.allowed < told.width
CanRun (task.Agent options) = IsTrue (is_endpoint options.server)

-- a fleet has from 1 to 64 desks
abbrev pub CanBegin : Job → Type 0
CanBegin (job.Fleet desks) = (1 ≤ desks) × (desks ≤ 64)
CanBegin (job.Task one) = CanRun one
