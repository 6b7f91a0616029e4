use Rattle.std.proofs.Common.{refl}
use Rattle.message_codec.specs.Tables as tables
use Rattle.message_attributes.specs.ReadBack.{canonical_of}
use Rattle.message_attributes.proofs.ReadBack.{reads_same, never_refused}
use Rattle.message_reports.specs.Columns.{package_statuses_columns}
use Rattle.message_reports.proofs.Injective.{package_statuses_columns_tell}
use Rattle.message_reports.proofs.Shallow.{package_statuses_levels}
use Rattle.message_reports.proofs.laws.package_statuses_reads_back.Goals as goal

pub returns-clause-same : goal.returns-clause-same
returns-clause-same c = reads_same tables.PackageStatuses package_statuses_columns (canonical_of tables.PackageStatuses package_statuses_columns) (λ m. refl) package_statuses_columns_tell

pub returns-clause-never_refused : goal.returns-clause-never_refused
returns-clause-never_refused c = never_refused tables.PackageStatuses package_statuses_columns (canonical_of tables.PackageStatuses package_statuses_columns) (λ m. refl)

pub returns-clause-shallow : goal.returns-clause-shallow
returns-clause-shallow c = package_statuses_levels
