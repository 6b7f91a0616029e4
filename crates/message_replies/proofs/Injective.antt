-- The columns of a reply tell the reply: no two replies have the same columns.
use Rattle.std.proofs.Common.{◌≡◌, ap}
use Rattle.message_values.specs.declared.config.AgentRemoteConfig.{AgentRemoteConfig}
use Rattle.message_values.specs.declared.connection.ConnectionSettingsOffers.{ConnectionSettingsOffers}
use Rattle.plain_values.specs.declared.headers.Header.{Header}
use Rattle.plain_values.specs.declared.headers.Headers.{Headers}
use Rattle.message_values.specs.declared.connection.OpAMPConnectionSettings.{OpAMPConnectionSettings}
use Rattle.message_values.specs.declared.packages.DownloadableFile.{DownloadableFile}
use Rattle.message_values.specs.declared.packages.PackageAvailable.{PackageAvailable}
use Rattle.message_values.specs.declared.packages.PackagesAvailable.{PackagesAvailable}
use Rattle.message_values.specs.declared.reply.AgentIdentification.{AgentIdentification}
use Rattle.message_values.specs.declared.reply.RetryInfo.{RetryInfo}
use Rattle.message_values.specs.declared.reply.ServerErrorResponse.{ServerErrorResponse}
use Rattle.message_values.specs.declared.reply.ServerToAgent.{ServerToAgent}
use Rattle.message_values.specs.declared.reply.ServerToAgentCommand.{ServerToAgentCommand}
use Rattle.message_attributes.specs.PartColumns.{config_map_columns, custom_capabilities_columns, custom_message_columns}
use Rattle.message_attributes.proofs.Injective.{column_at, number_tells, integer_tells, content_tells, raw_tells, one_tells, list_tells, map_tells, config_map_columns_tell, custom_capabilities_columns_tell, custom_message_columns_tell}
use Rattle.message_replies.specs.ReplyColumns.{header_columns, headers_columns, connection_settings_columns, connection_offers_columns, downloadable_file_columns, package_available_columns, packages_available_columns, remote_config_columns, retry_info_columns, error_response_columns, identification_columns, command_columns, server_to_agent_columns}

header_columns_tell : (g h : Header) → header_columns g ≡ header_columns h → g ≡ h
header_columns_tell g h e = λ i. record { key = content_tells _ _ (ap (column_at 0) e) i; value = content_tells _ _ (ap (column_at 1) e) i }

pub headers_columns_tell : (g h : Headers) → headers_columns g ≡ headers_columns h → g ≡ h
headers_columns_tell g h e = λ i. record { headers = list_tells header_columns header_columns_tell _ _ (ap (column_at 0) e) i }

settings_columns_tell : (s t : OpAMPConnectionSettings) → connection_settings_columns s ≡ connection_settings_columns t → s ≡ t
settings_columns_tell s t e = λ i. record {
  destination_endpoint = content_tells _ _ (ap (column_at 0) e) i;
  headers = one_tells headers_columns headers_columns_tell _ _ (ap (column_at 1) e) i;
  certificate = raw_tells _ _ (ap (column_at 2) e) i;
  heartbeat_interval_seconds = number_tells _ _ (ap (column_at 3) e) i;
}

pub offers_columns_tell : (o p : ConnectionSettingsOffers) → connection_offers_columns o ≡ connection_offers_columns p → o ≡ p
offers_columns_tell o p e = λ i. record {
  hash = content_tells _ _ (ap (column_at 0) e) i;
  opamp = one_tells connection_settings_columns settings_columns_tell _ _ (ap (column_at 1) e) i;
}

file_columns_tell : (f g : DownloadableFile) → downloadable_file_columns f ≡ downloadable_file_columns g → f ≡ g
file_columns_tell f g e = λ i. record {
  download_url = content_tells _ _ (ap (column_at 0) e) i;
  content_hash = content_tells _ _ (ap (column_at 1) e) i;
  signature = content_tells _ _ (ap (column_at 2) e) i;
}

pub package_columns_tell : (p q : PackageAvailable) → package_available_columns p ≡ package_available_columns q → p ≡ q
package_columns_tell p q e = λ i. record {
  kind = integer_tells _ _ (ap (column_at 0) e) i;
  version = content_tells _ _ (ap (column_at 1) e) i;
  file = one_tells downloadable_file_columns file_columns_tell _ _ (ap (column_at 2) e) i;
  hash = content_tells _ _ (ap (column_at 3) e) i;
}

pub packages_columns_tell : (p q : PackagesAvailable) → packages_available_columns p ≡ packages_available_columns q → p ≡ q
packages_columns_tell p q e = λ i. record {
  packages = map_tells package_available_columns package_columns_tell _ _ (ap (column_at 0) e) i;
  all_packages_hash = content_tells _ _ (ap (column_at 1) e) i;
}

pub config_columns_tell : (c d : AgentRemoteConfig) → remote_config_columns c ≡ remote_config_columns d → c ≡ d
config_columns_tell c d e = λ i. record {
  config = one_tells config_map_columns config_map_columns_tell _ _ (ap (column_at 0) e) i;
  config_hash = content_tells _ _ (ap (column_at 1) e) i;
}

retry_columns_tell : (r s : RetryInfo) → retry_info_columns r ≡ retry_info_columns s → r ≡ s
retry_columns_tell r s e = λ i. record { retry_after_nanoseconds = number_tells _ _ (ap (column_at 0) e) i }

error_columns_tell : (d f : ServerErrorResponse) → error_response_columns d ≡ error_response_columns f → d ≡ f
error_columns_tell d f e = λ i. record {
  kind = integer_tells _ _ (ap (column_at 0) e) i;
  error_message = content_tells _ _ (ap (column_at 1) e) i;
  retry_info = one_tells retry_info_columns retry_columns_tell _ _ (ap (column_at 2) e) i;
}

identification_columns_tell : (a b : AgentIdentification) → identification_columns a ≡ identification_columns b → a ≡ b
identification_columns_tell a b e = λ i. record { new_instance_uid = content_tells _ _ (ap (column_at 0) e) i }

command_columns_tell : (c d : ServerToAgentCommand) → command_columns c ≡ command_columns d → c ≡ d
command_columns_tell c d e = λ i. record { kind = integer_tells _ _ (ap (column_at 0) e) i }

pub reply_columns_tell : (m n : ServerToAgent) → server_to_agent_columns m ≡ server_to_agent_columns n → m ≡ n
reply_columns_tell m n e = λ i. record {
  instance_uid = content_tells _ _ (ap (column_at 0) e) i;
  error_response = one_tells error_response_columns error_columns_tell _ _ (ap (column_at 1) e) i;
  remote_config = one_tells remote_config_columns config_columns_tell _ _ (ap (column_at 2) e) i;
  connection_settings = one_tells connection_offers_columns offers_columns_tell _ _ (ap (column_at 3) e) i;
  packages_available = one_tells packages_available_columns packages_columns_tell _ _ (ap (column_at 4) e) i;
  flags = number_tells _ _ (ap (column_at 5) e) i;
  capabilities = number_tells _ _ (ap (column_at 6) e) i;
  agent_identification = one_tells identification_columns identification_columns_tell _ _ (ap (column_at 7) e) i;
  command = one_tells command_columns command_columns_tell _ _ (ap (column_at 8) e) i;
  custom_capabilities = one_tells custom_capabilities_columns custom_capabilities_columns_tell _ _ (ap (column_at 9) e) i;
  custom_message = one_tells custom_message_columns custom_message_columns_tell _ _ (ap (column_at 10) e) i;
}
