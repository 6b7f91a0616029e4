use Rattle.std.proofs.Common.{inl, inr}
use Rattle.message_codec.specs.Tables as tables
use Rattle.message_codec.specs.Values.{Values}
use Rattle.message_codec.specs.Means.{Means}
use Rattle.message_codec.proofs.WholeMessages.{whole_decided}
use Rattle.message_attributes.proofs.Made.{value_or_fault}
use Rattle.message_replies.specs.ReplyColumns.{server_to_agent_columns}
use Rattle.message_replies.proofs.Made.{reply_made}
use Rattle.message_replies.proofs.laws.reply_or_fault.Goals as goal

pub returns : goal.returns
returns c = record { either = value_or_fault tables.ServerToAgent server_to_agent_columns (reply_made 100) }
