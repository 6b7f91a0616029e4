-- What is noted of the command that words name, by what they ask for, and of want of memory before anything is done.
use Rattle.std.proofs.Common.{◌≡◌, ◌∙◌, ℕ, Option, Some, inr, refl, sym, ap, subst}
use Rattle.message_values.specs.declared.custom.CustomMessage.{CustomMessage}
use Rattle.edge_devices.specs.Streams.{SinkView}
use Rattle.edge_notes.specs.Noted.{NotedIf}
use Rattle.edge_notes.specs.declared.notes.Note.TheVariants.{NoMemory}
use Rattle.command_words.specs.declared.commands.Command.{Command}
use Rattle.command_words.specs.declared.commands.Command.TheVariants as word
use Rattle.command_frames.specs.declared.commands.StreamCommand.{StreamCommand}
use Rattle.command_frames.specs.declared.commands.StreamCommand.TheVariants.{Answer, CanonReport, CanonReply, Check, ShowReport, ShowReply}
use Rattle.command_serve.specs.Notes.{ServeNotes}
use Rattle.command_serve.specs.declared.status.RolloutStatus.TheVariants.{Served}
use Rattle.command_serve.specs.declared.status.ServeStatus.TheVariants as serving
use Rattle.command_words.specs.declared.commands.ServeOptions.{ServeOptions}
use Rattle.server_sessions.specs.Wiring.{WireView}
use Rattle.command_top.specs.Notes.{Noted, input_note}
use Rattle.command_top.specs.Words.{asked_by, command_of, named_stream}
use Rattle.command_top.specs.declared.commands.Job.{Job}
use Rattle.command_top.specs.declared.commands.Job.TheVariants as job
use Rattle.command_top.specs.declared.commands.Task.{Task}

module _ (answers : CustomMessage → Option CustomMessage → Type 0) (old new : WireView) (status : ℕ) (before after : SinkView) where
  -- of a command over framed messages, whichever it is
  pub stream_noted : (command : StreamCommand) → NotedIf (input_note status) before after → Noted answers (named_stream command) old new status before after
  stream_noted Answer noted = noted
  stream_noted CanonReport noted = noted
  stream_noted CanonReply noted = noted
  stream_noted ShowReport noted = noted
  stream_noted ShowReply noted = noted
  stream_noted Check noted = noted

  -- of the command that words name, by what they ask for
  pub fleet_noted : (asked : Job) (command : Command) (desks : ℕ) → asked_by asked ≡ command → asked ≡ job.Fleet desks → NotedIf (input_note status) before after → Noted answers command old new status before after
  fleet_noted asked command desks same is noted = subst (λ (c : Command). Noted answers c old new status before after) (ap asked_by (sym is) ∙ same) noted

  pub task_noted : (asked : Job) (command : Command) (one : Task) → asked_by asked ≡ command → asked ≡ job.Task one → Noted answers (command_of one) old new status before after → Noted answers command old new status before after
  task_noted asked command one same is noted = subst (λ (c : Command). Noted answers c old new status before after) (ap asked_by (sym is) ∙ same) noted

unserved_noted : (answers : CustomMessage → Option CustomMessage → Type 0) (options : ServeOptions) (wire : WireView) (before after : SinkView) → NotedIf (Some NoMemory) before after → ServeNotes answers options wire wire 5 before after
unserved_noted answers options wire before after noted = (Served serving.NoMemory, refl, inr (inr (refl, noted)))

pub nothing_noted : (answers : CustomMessage → Option CustomMessage → Type 0) (command : Command) (wire : WireView) (before after : SinkView) → NotedIf (Some NoMemory) before after → Noted answers command wire wire 5 before after
nothing_noted answers word.Answer wire before after noted = noted
nothing_noted answers (word.Canon family) wire before after noted = noted
nothing_noted answers (word.Show family) wire before after noted = noted
nothing_noted answers word.Check wire before after noted = noted
nothing_noted answers word.Simulate wire before after noted = noted
nothing_noted answers (word.Storm start count) wire before after noted = noted
nothing_noted answers (word.Fleet desks) wire before after noted = noted
nothing_noted answers (word.Serve options) wire before after noted = unserved_noted answers options wire before after noted
nothing_noted answers (word.Rollout options told) wire before after noted = unserved_noted answers options wire before after noted
nothing_noted answers (word.Agent options) wire before after noted = noted
