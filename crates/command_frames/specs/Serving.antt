-- What the handlers make of a message: the server told by its table, and each outcome alone.
use Rattle.std.specs.Prelude.{◌≡◌, ℕ, List, ◌++◌, None}
use Rattle.message_values.specs.declared.report.AgentToServer.{AgentToServer}
use Rattle.message_codec.specs.declared.reader.items.ReadFail.{ReadFail}
use Rattle.message_codec.specs.declared.reader.items.ReadFail.TheVariants as fails
use Rattle.message_reports.specs.Reports.{MeansReport, ReportFault}
use Rattle.message_replies.specs.Canonical.{canonical_reply}
use Rattle.server_core.specs.History.{Event}
use Rattle.server_core.specs.Table.{table_of, table_reply, table_after_report}
use Rattle.server_core.specs.Served.{Served}
use Rattle.command_streams.specs.declared.handler.Handled.{Handled}
use Rattle.command_streams.specs.declared.handler.Handled.TheVariants.{Written, Refused, TooLong}
use Rattle.command_streams.specs.Framing.{frame_of}
use Rattle.command_streams.specs.Made.{Writes, HasFault, IsTooLong, Gives}
use Rattle.command_frames.specs.Families.{Family}
use Rattle.command_frames.specs.Answering.{answering}
use Rattle.command_frames.specs.Rewriting.{IsWritable, IsUnwritable}

abbrev pub server_after : Served → AgentToServer → Served
server_after server report = record server { table = table_after_report server.table report }

-- behind the output before it stands the frame of the reply to the report
abbrev pub IsRepliedTo : Served → AgentToServer → List ℕ → List ℕ → Type 0
IsRepliedTo server report old new = new ≡ old ++ frame_of (canonical_reply (table_reply server.profile server.table report None))

abbrev pub ServerReplies : Gives Served
ServerReplies before message (Writes output) after =
    (report : AgentToServer) × MeansReport message report × (output ≡ frame_of (canonical_reply (table_reply before.profile before.table report None))) × (after ≡ server_after before report)
ServerReplies before message (HasFault at why) after = ReportFault message at why × (after ≡ before)
ServerReplies before message IsTooLong after = ⊥

-- the server was reached by these reports
abbrev pub IsReachedBy : Served → List Event → Type 0
IsReachedBy server history = (server.profile ≡ answering) × (server.table ≡ table_of history)

-- what is made of a message that isn't read as a report
abbrev pub IsRefusal : ReadFail → Handled → Type 0
IsRefusal (fails.Refused e) handled = handled ≡ Refused e.at e.why
IsRefusal fails.NoMemory handled = ⊥

-- what is made of a message that is rewritten, with these bytes of output before it and behind it
abbrev pub IsRewritten : {Message : Type 0} → Family Message → Message → List ℕ → List ℕ → Handled → Type 0
IsRewritten family message old new Written = IsWritable family message × (new ≡ old ++ frame_of (family.canonical message))
IsRewritten family message old new (Refused at why) = ⊥
IsRewritten family message old new TooLong = IsUnwritable family message × (new ≡ old)
