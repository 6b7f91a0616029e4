use Rattle.message_codec.specs.Tables as tables
use Rattle.message_attributes.proofs.ReadBack.{reads_same, never_refused}
use Rattle.message_replies.specs.Canonical.{canonical_connection_settings_offers}
use Rattle.message_replies.specs.ReplyColumns.{connection_offers_columns}
use Rattle.message_replies.proofs.Injective.{offers_columns_tell}
use Rattle.message_replies.proofs.Shallow.{connection_offers_levels}
use Rattle.message_replies.proofs.Written.{connection_settings_offers_is}
use Rattle.message_replies.proofs.parts.connection_settings_offers_reads_back.Goals as goal

pub returns-clause-same : goal.returns-clause-same
returns-clause-same c = reads_same tables.ConnectionSettingsOffers connection_offers_columns canonical_connection_settings_offers (connection_settings_offers_is) offers_columns_tell

pub returns-clause-never_refused : goal.returns-clause-never_refused
returns-clause-never_refused c = never_refused tables.ConnectionSettingsOffers connection_offers_columns canonical_connection_settings_offers (connection_settings_offers_is)

pub returns-clause-shallow : goal.returns-clause-shallow
returns-clause-shallow c = connection_offers_levels
