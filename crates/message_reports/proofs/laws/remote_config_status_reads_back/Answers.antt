use Rattle.std.proofs.Common.{refl, arith}
use Rattle.message_codec.specs.Tables as tables
use Rattle.message_attributes.specs.ReadBack.{canonical_of}
use Rattle.message_attributes.proofs.ReadBack.{reads_same, never_refused}
use Rattle.message_reports.specs.Columns.{remote_config_status_columns}
use Rattle.message_reports.proofs.Injective.{remote_config_status_columns_tell}
use Rattle.message_reports.proofs.laws.remote_config_status_reads_back.Goals as goal

pub returns-clause-same : goal.returns-clause-same
returns-clause-same c = reads_same tables.RemoteConfigStatus remote_config_status_columns (canonical_of tables.RemoteConfigStatus remote_config_status_columns) (λ m. refl) remote_config_status_columns_tell

pub returns-clause-never_refused : goal.returns-clause-never_refused
returns-clause-never_refused c = never_refused tables.RemoteConfigStatus remote_config_status_columns (canonical_of tables.RemoteConfigStatus remote_config_status_columns) (λ m. refl)

pub returns-clause-shallow : goal.returns-clause-shallow
returns-clause-shallow c = λ m. omega arith
