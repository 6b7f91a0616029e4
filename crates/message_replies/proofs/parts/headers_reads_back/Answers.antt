use Rattle.message_codec.specs.Tables as tables
use Rattle.message_attributes.proofs.ReadBack.{reads_same, never_refused}
use Rattle.message_replies.specs.Canonical.{canonical_headers}
use Rattle.message_replies.specs.ReplyColumns.{headers_columns}
use Rattle.message_replies.proofs.Injective.{headers_columns_tell}
use Rattle.message_replies.proofs.Shallow.{headers_levels}
use Rattle.message_replies.proofs.Written.{headers_is}
use Rattle.message_replies.proofs.parts.headers_reads_back.Goals as goal

pub returns-clause-same : goal.returns-clause-same
returns-clause-same c = reads_same tables.Headers headers_columns canonical_headers (headers_is) headers_columns_tell

pub returns-clause-never_refused : goal.returns-clause-never_refused
returns-clause-never_refused c = never_refused tables.Headers headers_columns canonical_headers (headers_is)

pub returns-clause-shallow : goal.returns-clause-shallow
returns-clause-shallow c = headers_levels
