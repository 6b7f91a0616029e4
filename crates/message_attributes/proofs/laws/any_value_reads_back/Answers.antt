use Rattle.std.proofs.Common.{refl}
use Rattle.message_codec.specs.Tables as tables
use Rattle.message_attributes.specs.AnyColumns.{any_columns}
use Rattle.message_attributes.specs.ReadBack.{canonical_of}
use Rattle.message_attributes.proofs.Injective.{any_columns_tell}
use Rattle.message_attributes.proofs.ReadBack.{reads_same, never_refused}
use Rattle.message_attributes.proofs.laws.any_value_reads_back.Goals as goal

pub returns-clause-same : goal.returns-clause-same
returns-clause-same c = reads_same tables.AnyValue any_columns (canonical_of tables.AnyValue any_columns) (λ m. refl) any_columns_tell

pub returns-clause-never_refused : goal.returns-clause-never_refused
returns-clause-never_refused c = never_refused tables.AnyValue any_columns (canonical_of tables.AnyValue any_columns) (λ m. refl)
