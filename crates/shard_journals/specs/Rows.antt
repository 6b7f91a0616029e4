-- Rows as contracts see them, and the replies that stand in them by their parts.
use Rattle.std.specs.Prelude.{ℕ, [], if◌then◌else◌, None}
use Rattle.std.specs.Option.{option_map}
use Rattle.message_values.specs.declared.reply.ServerErrorResponse.{ServerErrorResponse}
use Rattle.message_values.specs.declared.reply.ServerToAgent.{ServerToAgent}
use Rattle.message_values.specs.declared.report.AgentToServer.{AgentToServer}
use Rattle.shard_journals.specs.declared.replies.PlainError.{PlainError}
use Rattle.shard_journals.specs.declared.replies.PlainReply.{PlainReply}
use Rattle.shard_journals.specs.PlainReplies.{error_text}

-- what one handled report leaves in a journal
pub record JournalRow : Type 0 where
  pub desk : ℕ
  pub item : ℕ
  pub report : AgentToServer
  pub reply : ServerToAgent

-- the error of a reply to the report
abbrev pub error_of : AgentToServer → PlainError → ServerErrorResponse
error_of m error = record {
  kind = error.kind;
  error_message = error_text m;
  retry_info = option_map (λ n. record { retry_after_nanoseconds = n }) error.retry_after_nanoseconds;
}

-- the reply to the report that these are the parts of: it offers and orders nothing
abbrev pub reply_of : AgentToServer → PlainReply → ServerToAgent
reply_of m parts = record {
  instance_uid = if parts.named then m.instance_uid else [];
  error_response = option_map (error_of m) parts.error;
  remote_config = None;
  connection_settings = None;
  packages_available = None;
  flags = parts.flags;
  capabilities = parts.capabilities;
  agent_identification = None;
  command = None;
  custom_capabilities = None;
  custom_message = None;
}
