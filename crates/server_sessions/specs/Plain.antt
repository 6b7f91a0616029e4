-- A report whose reply tells the server's capabilities alone, as most do.
use Rattle.std.specs.Prelude.{◌≡◌, ℕ, List, false, Option, None, Some}
use Rattle.message_values.specs.declared.report.AgentToServer.{AgentToServer}
use Rattle.server_core.specs.declared.replies.Profile.{Profile}
use Rattle.server_core.specs.Replies.{plain_reply}
use Rattle.server_core.specs.Table.{Table}
use Rattle.server_sessions.specs.Reports.{asks_uid, reply_at, table_with, uid_in}

-- The server takes a report that asks for nothing, and replies with its capabilities alone to this agent.
pub record IsRepliedPlainly (profile : Profile) (m : AgentToServer) (old new : Table) (uid : List ℕ) : Type 0 where
  pub unasked : asks_uid m ≡ false
  pub silent : m.custom_message ≡ None
  pub named : uid_in m.instance_uid ≡ Some uid
  pub table : new ≡ table_with old m
  pub reply : (fresh : Option (List ℕ)) → reply_at profile old m fresh ≡ plain_reply profile uid
