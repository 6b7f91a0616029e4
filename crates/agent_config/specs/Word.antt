-- The collector's word on a trial: what a status says of it, by the trial's name.
use Rattle.std.specs.Prelude.{◌≡◌, ◌≢◌, ◌⊎◌, ℕ, List, if◌then◌else◌, Some}
use Rattle.std.specs.Ordering.{int_eq}
use Rattle.message_values.specs.declared.config.RemoteConfigStatus.{RemoteConfigStatus}
use Rattle.message_values.specs.declared.profile.TheConstants.{APPLIED, FAILED}
use Rattle.message_values.specs.declared.report.AgentToServer.{AgentToServer}
use Rattle.agent_config.specs.declared.word.Said.{Said}
use Rattle.agent_config.specs.declared.word.Said.TheVariants.{Nothing, Taken, Refused}

-- the collector's word on a configuration: APPLIED, FAILED with its error message, anything else is none
abbrev pub word_of : RemoteConfigStatus → Said
word_of remote = if int_eq remote.status APPLIED then Taken else if int_eq remote.status FAILED then Refused remote.error_message else Nothing

-- What a status says on the trial of this name: its word, where its remote_config_status has the name as its last hash; else nothing.
abbrev pub SaysOfTrial : List ℕ → AgentToServer → Said → Type 0
SaysOfTrial name status said = ((remote : RemoteConfigStatus) × ((status.remote_config_status ≡ Some remote) × ((remote.last_remote_config_hash ≡ name) × (said ≡ word_of remote))))
    ⊎ (((remote : RemoteConfigStatus) → status.remote_config_status ≡ Some remote → remote.last_remote_config_hash ≢ name) × (said ≡ Nothing))
