-- The canonical bytes of parts, by their columns.
use Rattle.std.proofs.Common.{◌≡◌, refl}
use Rattle.message_values.specs.declared.config.AgentRemoteConfig.{AgentRemoteConfig}
use Rattle.message_values.specs.declared.connection.ConnectionSettingsOffers.{ConnectionSettingsOffers}
use Rattle.plain_values.specs.declared.headers.Headers.{Headers}
use Rattle.message_values.specs.declared.packages.PackageAvailable.{PackageAvailable}
use Rattle.message_values.specs.declared.packages.PackagesAvailable.{PackagesAvailable}
use Rattle.message_codec.specs.Tables as tables
use Rattle.message_codec.specs.Canonical.{canonical}
use Rattle.message_replies.specs.Canonical.{canonical_agent_remote_config, canonical_connection_settings_offers, canonical_headers, canonical_package_available, canonical_packages_available}
use Rattle.message_replies.specs.ReplyColumns.{connection_offers_columns, headers_columns, package_available_columns, packages_available_columns, remote_config_columns}

pub headers_is : (m : Headers) → canonical_headers m ≡ canonical tables.Headers (headers_columns m)
unfolding canonical_headers
headers_is m = refl

pub agent_remote_config_is : (m : AgentRemoteConfig) → canonical_agent_remote_config m ≡ canonical tables.AgentRemoteConfig (remote_config_columns m)
unfolding canonical_agent_remote_config
agent_remote_config_is m = refl

pub package_available_is : (m : PackageAvailable) → canonical_package_available m ≡ canonical tables.PackageAvailable (package_available_columns m)
unfolding canonical_package_available
package_available_is m = refl

pub packages_available_is : (m : PackagesAvailable) → canonical_packages_available m ≡ canonical tables.PackagesAvailable (packages_available_columns m)
unfolding canonical_packages_available
packages_available_is m = refl

pub connection_settings_offers_is : (m : ConnectionSettingsOffers) → canonical_connection_settings_offers m ≡ canonical tables.ConnectionSettingsOffers (connection_offers_columns m)
unfolding canonical_connection_settings_offers
connection_settings_offers_is m = refl
