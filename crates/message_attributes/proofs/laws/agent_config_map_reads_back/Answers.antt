use Rattle.std.proofs.Common.{refl}
use Rattle.message_codec.specs.Tables as tables
use Rattle.message_attributes.specs.PartColumns.{config_map_columns}
use Rattle.message_attributes.specs.ReadBack.{canonical_of}
use Rattle.message_attributes.proofs.Injective.{config_map_columns_tell}
use Rattle.message_attributes.proofs.ReadBack.{reads_same, never_refused}
use Rattle.message_attributes.proofs.Shallow.{config_map_levels}
use Rattle.message_attributes.proofs.laws.agent_config_map_reads_back.Goals as goal

pub returns-clause-same : goal.returns-clause-same
returns-clause-same c = reads_same tables.AgentConfigMap config_map_columns (canonical_of tables.AgentConfigMap config_map_columns) (λ m. refl) config_map_columns_tell

pub returns-clause-never_refused : goal.returns-clause-never_refused
returns-clause-never_refused c = never_refused tables.AgentConfigMap config_map_columns (canonical_of tables.AgentConfigMap config_map_columns) (λ m. refl)

pub returns-clause-shallow : goal.returns-clause-shallow
returns-clause-shallow c = config_map_levels
