use Rattle.std.proofs.Common.{[]}
use Rattle.message_codec.specs.Tables as tables
use Rattle.message_reports.specs.ReportColumns.{agent_to_server_columns}
use Rattle.message_reports.proofs.Injective.{report_columns_tell}
use Rattle.message_replies.specs.ReplyColumns.{server_to_agent_columns}
use Rattle.message_replies.proofs.Injective.{reply_columns_tell}
use Rattle.message_texts.specs.Texts.{text_of_report, text_of_reply}
use Rattle.message_texts.proofs.Told.{shown_tells}
use Rattle.message_texts.proofs.laws.texts_tell.Goals as goal

pub returns : goal.returns
unfolding text_of_report text_of_reply
returns c = record {
  messages = shown_tells;
  reports = λ m n f g e. report_columns_tell m n (shown_tells [] [] tables.AgentToServer (agent_to_server_columns m) (agent_to_server_columns n) f g e);
  replies = λ m n f g e. reply_columns_tell m n (shown_tells [] [] tables.ServerToAgent (server_to_agent_columns m) (server_to_agent_columns n) f g e);
}
