-- The two families of whole messages: reports of agents and replies of servers (OpAMP specification, "AgentToServer Message", "ServerToAgent Message").
use Rattle.std.specs.Prelude.{ℕ, List, codes}
use Rattle.message_codec.specs.declared.wire.field.Why.{Why}
use Rattle.message_values.specs.declared.report.AgentToServer.{AgentToServer}
use Rattle.message_values.specs.declared.reply.ServerToAgent.{ServerToAgent}
use Rattle.message_codec.specs.Levels.{levels}
use Rattle.message_reports.specs.Reports.{MeansReport, ReportFault, canonical_report, report_levels}
use Rattle.message_replies.specs.Replies.{MeansReply, ReplyFault}
use Rattle.message_replies.specs.ReplyColumns.{server_to_agent_columns}
use Rattle.message_replies.specs.Canonical.{canonical_reply}
use Rattle.message_texts.specs.Texts.{text_of_report, text_of_reply}

-- What bytes mean, and where they fail; how a message is written, how deep it is, and how it is shown, behind which word.
pub record Family (Message : Type 0) : Type 1 where
  pub means : List ℕ → Message → Type 0
  pub fault : List ℕ → ℕ → Why → Type 0
  pub canonical : Message → List ℕ
  pub depth : Message → ℕ
  pub text : Message → List ℕ
  pub word : List ℕ

abbrev pub reports : Family AgentToServer
reports = record { means = MeansReport; fault = ReportFault; canonical = canonical_report; depth = report_levels; text = text_of_report; word = codes "report" }

abbrev pub replies : Family ServerToAgent
replies = record { means = MeansReply; fault = ReplyFault; canonical = canonical_reply; depth = λ reply. levels (server_to_agent_columns reply); text = text_of_reply; word = codes "reply" }
