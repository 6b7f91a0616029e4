-- What bytes say as the reply of a server (OpAMP specification, "ServerToAgent Message"), and which bytes are none.
use Rattle.std.specs.Prelude.{ℕ, List, length, ◌≤◌}
use Rattle.message_codec.specs.declared.wire.field.Why.{Why}
use Rattle.message_values.specs.declared.reply.ServerToAgent.{ServerToAgent}
use Rattle.message_codec.specs.Tables as tables
use Rattle.message_codec.specs.Means.{Means}
use Rattle.message_codec.specs.Faults.{WholeFault}
use Rattle.message_replies.specs.ReplyColumns.{server_to_agent_columns}

-- the bytes, at most 4,194,304, mean this reply, with messages at most 100 deep
abbrev pub MeansReply : List ℕ → ServerToAgent → Type 0
MeansReply bytes reply = (length bytes ≤ 4194304) × Means 100 tables.ServerToAgent bytes (server_to_agent_columns reply)

-- the bytes are no reply: this is their first fault, or they are too many
abbrev pub ReplyFault : List ℕ → ℕ → Why → Type 0
ReplyFault bytes at why = WholeFault tables.ServerToAgent bytes at why
