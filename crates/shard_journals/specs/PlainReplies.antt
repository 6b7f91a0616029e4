-- Replies that offer and order nothing. Sections are those of the OpAMP specification.
use Rattle.std.specs.Prelude.{◌≡◌, ◌⊎◌, ℕ, List, [], if◌then◌else◌, codes, None, IfSome}
use Rattle.message_values.specs.declared.reply.ServerToAgent.{ServerToAgent}
use Rattle.message_values.specs.declared.report.AgentToServer.{AgentToServer}
use Rattle.server_core.specs.History.{is_uid}

-- the text of the error that there may be ("ServerErrorResponse.error_message")
abbrev pub error_text : AgentToServer → List ℕ
error_text m = if is_uid m.instance_uid then codes "too many agents" else codes "bad instance_uid"

-- it names the report's agent or none, has an error of that text or none, and carries nothing else than bits
pub record IsPlainTo (m : AgentToServer) (reply : ServerToAgent) : Type 0 where
  pub identifier : (reply.instance_uid ≡ m.instance_uid) ⊎ (reply.instance_uid ≡ [])
  pub error : IfSome reply.error_response (λ e. e.error_message ≡ error_text m)
  pub config : reply.remote_config ≡ None
  pub connection : reply.connection_settings ≡ None
  pub packages : reply.packages_available ≡ None
  pub identification : reply.agent_identification ≡ None
  pub command : reply.command ≡ None
  pub capabilities : reply.custom_capabilities ≡ None
  pub message : reply.custom_message ≡ None
