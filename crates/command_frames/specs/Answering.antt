-- What `answer` writes for a stream of reports.
use Rattle.std.specs.Prelude.{◌≡◌, ℕ, List, [], ◌∷◌, ◌++◌, None}
use Rattle.message_values.specs.declared.report.AgentToServer.{AgentToServer}
use Rattle.message_reports.specs.Reports.{MeansReport, ReportFault}
use Rattle.message_replies.specs.Canonical.{canonical_reply}
use Rattle.server_core.specs.declared.replies.Profile.{Profile}
use Rattle.server_core.specs.declared.replies.TheConstants.{CONNECTION_LIMIT}
use Rattle.server_core.specs.History.{Event, Reported, due_reply}
use Rattle.server_core.specs.Table.{empty_table}
use Rattle.server_core.specs.Served.{Served}
use Rattle.command_streams.specs.Framing.{frame_of}
use Rattle.command_streams.specs.Made.{Writes, HasFault, IsTooLong, Gives}

-- What the server says of itself: the capabilities AcceptsStatus and AcceptsEffectiveConfig (OpAMP specification, "ServerToAgent.capabilities"), and no
-- custom ones. It has no connections, so the number of them is the default.
abbrev pub answering : Profile
answering = record { capabilities = 5; custom = record { capabilities = [] }; connections = CONNECTION_LIMIT }

-- a server that no report has reached
abbrev pub empty_server : Served
empty_server = record { profile = answering; table = empty_table }

-- the frame of the reply that is due to a report after a history, in canonical form
abbrev pub framed_reply : List Event → AgentToServer → List ℕ
framed_reply history report = frame_of (canonical_reply (due_reply answering history report None))

-- What is made of a message after a history of reports: the framed reply to the report that it means, which then belongs to the history; or its first
-- fault.
abbrev pub Replies : Gives (List Event)
Replies history message (Writes output) after = (report : AgentToServer) × MeansReport message report × (output ≡ framed_reply history report) × (after ≡ history ++ Reported report ∷ [])
Replies history message (HasFault at why) after = ReportFault message at why × (after ≡ history)
Replies history message IsTooLong after = ⊥
