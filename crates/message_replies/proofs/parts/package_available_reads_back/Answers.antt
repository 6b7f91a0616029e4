use Rattle.message_codec.specs.Tables as tables
use Rattle.message_attributes.proofs.ReadBack.{reads_same, never_refused}
use Rattle.message_replies.specs.Canonical.{canonical_package_available}
use Rattle.message_replies.specs.ReplyColumns.{package_available_columns}
use Rattle.message_replies.proofs.Injective.{package_columns_tell}
use Rattle.message_replies.proofs.Shallow.{package_levels}
use Rattle.message_replies.proofs.Written.{package_available_is}
use Rattle.message_replies.proofs.parts.package_available_reads_back.Goals as goal

pub returns-clause-same : goal.returns-clause-same
returns-clause-same c = reads_same tables.PackageAvailable package_available_columns canonical_package_available (package_available_is) package_columns_tell

pub returns-clause-never_refused : goal.returns-clause-never_refused
returns-clause-never_refused c = never_refused tables.PackageAvailable package_available_columns canonical_package_available (package_available_is)

pub returns-clause-shallow : goal.returns-clause-shallow
returns-clause-shallow c = package_levels
