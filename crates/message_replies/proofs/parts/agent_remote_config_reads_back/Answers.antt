use Rattle.message_codec.specs.Tables as tables
use Rattle.message_attributes.proofs.ReadBack.{reads_same, never_refused}
use Rattle.message_replies.specs.Canonical.{canonical_agent_remote_config}
use Rattle.message_replies.specs.ReplyColumns.{remote_config_columns}
use Rattle.message_replies.proofs.Injective.{config_columns_tell}
use Rattle.message_replies.proofs.Shallow.{remote_config_levels}
use Rattle.message_replies.proofs.Written.{agent_remote_config_is}
use Rattle.message_replies.proofs.parts.agent_remote_config_reads_back.Goals as goal

pub returns-clause-same : goal.returns-clause-same
returns-clause-same c = reads_same tables.AgentRemoteConfig remote_config_columns canonical_agent_remote_config (agent_remote_config_is) config_columns_tell

pub returns-clause-never_refused : goal.returns-clause-never_refused
returns-clause-never_refused c = never_refused tables.AgentRemoteConfig remote_config_columns canonical_agent_remote_config (agent_remote_config_is)

pub returns-clause-shallow : goal.returns-clause-shallow
returns-clause-shallow c = remote_config_levels
