-- Replies and parts of them in canonical form.
use Rattle.std.specs.Prelude.{◌≡◌, ℕ, ◌<◌, ◌≤◌, List, length}
use Rattle.message_values.specs.declared.config.AgentRemoteConfig.{AgentRemoteConfig}
use Rattle.message_values.specs.declared.connection.ConnectionSettingsOffers.{ConnectionSettingsOffers}
use Rattle.plain_values.specs.declared.headers.Headers.{Headers}
use Rattle.message_values.specs.declared.packages.PackageAvailable.{PackageAvailable}
use Rattle.message_values.specs.declared.packages.PackagesAvailable.{PackagesAvailable}
use Rattle.message_values.specs.declared.reply.ServerToAgent.{ServerToAgent}
use Rattle.message_codec.specs.Tables as tables
use Rattle.message_codec.specs.declared.writer.encoding.WriteFail.{WriteFail}
use Rattle.message_codec.specs.declared.writer.encoding.WriteFail.TheVariants.{TooLarge, TooDeep, NoMemory}
use Rattle.message_codec.specs.Canonical.{canonical}
use Rattle.message_codec.specs.Levels.{most_bytes}
use Rattle.message_replies.specs.ReplyColumns.{headers_columns, connection_offers_columns, package_available_columns, packages_available_columns, remote_config_columns, server_to_agent_columns}

-- the canonical bytes of a reply
unfoldable pub canonical_reply : ServerToAgent → List ℕ
canonical_reply reply = canonical tables.ServerToAgent (server_to_agent_columns reply)

-- the bytes are those of a reply that isn't too large
pub record IsWrittenReply (reply : ServerToAgent) (bytes : List ℕ) : Type 0 where
  pub bytes_are : bytes ≡ canonical_reply reply
  pub fits : length bytes ≤ most_bytes

-- Why a reply isn't written: no message of a reply nests deeper than a few levels, so it is never too deep.
abbrev pub ReplyFails : ServerToAgent → WriteFail → Type 0
ReplyFails reply TooLarge = most_bytes < length (canonical_reply reply)
ReplyFails reply TooDeep = ⊥
ReplyFails reply NoMemory = Unit {0}

-- the canonical bytes of parts of a reply
unfoldable pub canonical_headers : Headers → List ℕ
canonical_headers headers = canonical tables.Headers (headers_columns headers)

unfoldable pub canonical_agent_remote_config : AgentRemoteConfig → List ℕ
canonical_agent_remote_config config = canonical tables.AgentRemoteConfig (remote_config_columns config)

unfoldable pub canonical_package_available : PackageAvailable → List ℕ
canonical_package_available offer = canonical tables.PackageAvailable (package_available_columns offer)

unfoldable pub canonical_packages_available : PackagesAvailable → List ℕ
canonical_packages_available packages = canonical tables.PackagesAvailable (packages_available_columns packages)

unfoldable pub canonical_connection_settings_offers : ConnectionSettingsOffers → List ℕ
canonical_connection_settings_offers offers = canonical tables.ConnectionSettingsOffers (connection_offers_columns offers)
