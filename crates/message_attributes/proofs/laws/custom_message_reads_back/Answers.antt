use Rattle.std.proofs.Common.{refl, arith}
use Rattle.message_codec.specs.Tables as tables
use Rattle.message_attributes.specs.PartColumns.{custom_message_columns}
use Rattle.message_attributes.specs.ReadBack.{canonical_of}
use Rattle.message_attributes.proofs.Injective.{custom_message_columns_tell}
use Rattle.message_attributes.proofs.ReadBack.{reads_same, never_refused}
use Rattle.message_attributes.proofs.laws.custom_message_reads_back.Goals as goal

pub returns-clause-same : goal.returns-clause-same
returns-clause-same c = reads_same tables.CustomMessage custom_message_columns (canonical_of tables.CustomMessage custom_message_columns) (λ m. refl) custom_message_columns_tell

pub returns-clause-never_refused : goal.returns-clause-never_refused
returns-clause-never_refused c = never_refused tables.CustomMessage custom_message_columns (canonical_of tables.CustomMessage custom_message_columns) (λ m. refl)

pub returns-clause-shallow : goal.returns-clause-shallow
returns-clause-shallow c = λ m. omega arith
