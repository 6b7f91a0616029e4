use Rattle.message_codec.specs.Tables as tables
use Rattle.message_attributes.proofs.ReadBack.{reads_same, never_refused}
use Rattle.message_replies.specs.Canonical.{canonical_packages_available}
use Rattle.message_replies.specs.ReplyColumns.{packages_available_columns}
use Rattle.message_replies.proofs.Injective.{packages_columns_tell}
use Rattle.message_replies.proofs.Shallow.{packages_levels}
use Rattle.message_replies.proofs.Written.{packages_available_is}
use Rattle.message_replies.proofs.parts.packages_available_reads_back.Goals as goal

pub returns-clause-same : goal.returns-clause-same
returns-clause-same c = reads_same tables.PackagesAvailable packages_available_columns canonical_packages_available (packages_available_is) packages_columns_tell

pub returns-clause-never_refused : goal.returns-clause-never_refused
returns-clause-never_refused c = never_refused tables.PackagesAvailable packages_available_columns canonical_packages_available (packages_available_is)

pub returns-clause-shallow : goal.returns-clause-shallow
returns-clause-shallow c = packages_levels
