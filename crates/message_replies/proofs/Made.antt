-- Replies that bytes mean are values.
use Rattle.std.proofs.Common.{◌≡◌, ℕ, zero, suc}
use Rattle.message_values.specs.declared.config.AgentRemoteConfig.{AgentRemoteConfig}
use Rattle.message_values.specs.declared.connection.ConnectionSettingsOffers.{ConnectionSettingsOffers}
use Rattle.plain_values.specs.declared.headers.Header.{Header}
use Rattle.plain_values.specs.declared.headers.Headers.{Headers}
use Rattle.message_values.specs.declared.connection.OpAMPConnectionSettings.{OpAMPConnectionSettings}
use Rattle.message_values.specs.declared.packages.DownloadableFile.{DownloadableFile}
use Rattle.message_values.specs.declared.packages.PackageAvailable.{PackageAvailable}
use Rattle.message_values.specs.declared.packages.PackagesAvailable.{PackagesAvailable}
use Rattle.message_values.specs.declared.reply.AgentIdentification.{AgentIdentification}
use Rattle.message_values.specs.declared.reply.RetryInfo.{RetryInfo}
use Rattle.message_values.specs.declared.reply.ServerErrorResponse.{ServerErrorResponse}
use Rattle.message_values.specs.declared.reply.ServerToAgent.{ServerToAgent}
use Rattle.message_values.specs.declared.reply.ServerToAgentCommand.{ServerToAgentCommand}
use Rattle.message_codec.specs.Tables as tables
use Rattle.message_codec.specs.Tables.{rows_of}
use Rattle.message_codec.specs.Means.{Means}
use Rattle.message_attributes.specs.PartColumns.{config_map_columns, custom_capabilities_columns, custom_message_columns}
use Rattle.message_attributes.proofs.Made.{IsMade, Columns, in_columns, with_column, raw_made, one_made, many_made, keyed_made, any_entry_made}
use Rattle.message_attributes.proofs.PartsMade.{config_map_made, custom_capabilities_made, custom_message_made}
use Rattle.message_replies.specs.ReplyColumns.{header_columns, headers_columns, connection_settings_columns, connection_offers_columns, downloadable_file_columns, package_available_columns, packages_available_columns, remote_config_columns, retry_info_columns, error_response_columns, identification_columns, command_columns, server_to_agent_columns}

header_made : (levels : ℕ) → IsMade levels tables.Header header_columns
header_made zero bytes vs h = absurd h
header_made (suc below) bytes vs (fs, f, right, h) = of (in_columns (Means below) (rows_of tables.Header) fs vs h)
  where
    of : Columns (Means below) (rows_of tables.Header) fs vs → (m : Header) × (vs ≡ header_columns m)
    of (v1, r1, e1, h1, (v2, r2, e2, h2, end)) =
        (record { key = _; value = _ }, with_column vs r1 _ v1 _ e1 h1 (with_column r1 r2 _ v2 _ e2 h2 end))

headers_made : (levels : ℕ) → IsMade levels tables.Headers headers_columns
headers_made zero bytes vs h = absurd h
headers_made (suc below) bytes vs (fs, f, right, h) = of (in_columns (Means below) (rows_of tables.Headers) fs vs h)
  where
    of : Columns (Means below) (rows_of tables.Headers) fs vs → (m : Headers) × (vs ≡ headers_columns m)
    of (v1, r1, e1, h1, end) =
        let m1 = many_made below tables.Header header_columns (header_made below) _ v1 h1 in
        (record { headers = m1.0 }, with_column vs r1 _ v1 _ e1 m1.1 end)

settings_made : (levels : ℕ) → IsMade levels tables.OpAMPConnectionSettings connection_settings_columns
settings_made zero bytes vs h = absurd h
settings_made (suc below) bytes vs (fs, f, right, h) = of (in_columns (Means below) (rows_of tables.OpAMPConnectionSettings) fs vs h)
  where
    of : Columns (Means below) (rows_of tables.OpAMPConnectionSettings) fs vs → (m : OpAMPConnectionSettings) × (vs ≡ connection_settings_columns m)
    of (v1, r1, e1, h1, (v2, r2, e2, h2, (v3, r3, e3, h3, (v4, r4, e4, h4, end)))) =
        let m2 = one_made below tables.Headers headers_columns (headers_made below) _ v2 h2 in
        let m3 = raw_made _ v3 h3 in
        (record { destination_endpoint = _; headers = m2.0; certificate = m3.0; heartbeat_interval_seconds = _ }, with_column vs r1 _ v1 _ e1 h1 (with_column r1 r2 _ v2 _ e2 m2.1 (with_column r2 r3 _ v3 _ e3 m3.1 (with_column r3 r4 _ v4 _ e4 h4 end))))

offers_made : (levels : ℕ) → IsMade levels tables.ConnectionSettingsOffers connection_offers_columns
offers_made zero bytes vs h = absurd h
offers_made (suc below) bytes vs (fs, f, right, h) = of (in_columns (Means below) (rows_of tables.ConnectionSettingsOffers) fs vs h)
  where
    of : Columns (Means below) (rows_of tables.ConnectionSettingsOffers) fs vs → (m : ConnectionSettingsOffers) × (vs ≡ connection_offers_columns m)
    of (v1, r1, e1, h1, (v2, r2, e2, h2, end)) =
        let m2 = one_made below tables.OpAMPConnectionSettings connection_settings_columns (settings_made below) _ v2 h2 in
        (record { hash = _; opamp = m2.0 }, with_column vs r1 _ v1 _ e1 h1 (with_column r1 r2 _ v2 _ e2 m2.1 end))

file_made : (levels : ℕ) → IsMade levels tables.DownloadableFile downloadable_file_columns
file_made zero bytes vs h = absurd h
file_made (suc below) bytes vs (fs, f, right, h) = of (in_columns (Means below) (rows_of tables.DownloadableFile) fs vs h)
  where
    of : Columns (Means below) (rows_of tables.DownloadableFile) fs vs → (m : DownloadableFile) × (vs ≡ downloadable_file_columns m)
    of (v1, r1, e1, h1, (v2, r2, e2, h2, (v3, r3, e3, h3, end))) =
        (record { download_url = _; content_hash = _; signature = _ }, with_column vs r1 _ v1 _ e1 h1 (with_column r1 r2 _ v2 _ e2 h2 (with_column r2 r3 _ v3 _ e3 h3 end)))

package_made : (levels : ℕ) → IsMade levels tables.PackageAvailable package_available_columns
package_made zero bytes vs h = absurd h
package_made (suc below) bytes vs (fs, f, right, h) = of (in_columns (Means below) (rows_of tables.PackageAvailable) fs vs h)
  where
    of : Columns (Means below) (rows_of tables.PackageAvailable) fs vs → (m : PackageAvailable) × (vs ≡ package_available_columns m)
    of (v1, r1, e1, h1, (v2, r2, e2, h2, (v3, r3, e3, h3, (v4, r4, e4, h4, end)))) =
        let m3 = one_made below tables.DownloadableFile downloadable_file_columns (file_made below) _ v3 h3 in
        (record { kind = _; version = _; file = m3.0; hash = _ }, with_column vs r1 _ v1 _ e1 h1 (with_column r1 r2 _ v2 _ e2 h2 (with_column r2 r3 _ v3 _ e3 m3.1 (with_column r3 r4 _ v4 _ e4 h4 end))))

packages_made : (levels : ℕ) → IsMade levels tables.PackagesAvailable packages_available_columns
packages_made zero bytes vs h = absurd h
packages_made (suc below) bytes vs (fs, f, right, h) = of (in_columns (Means below) (rows_of tables.PackagesAvailable) fs vs h)
  where
    of : Columns (Means below) (rows_of tables.PackagesAvailable) fs vs → (m : PackagesAvailable) × (vs ≡ packages_available_columns m)
    of (v1, r1, e1, h1, (v2, r2, e2, h2, end)) =
        let m1 = keyed_made below tables.PackageAvailable package_available_columns (any_entry_made tables.PackageAvailable package_available_columns package_made below) _ v1 h1 in
        (record { packages = m1.0; all_packages_hash = _ }, with_column vs r1 _ v1 _ e1 m1.1 (with_column r1 r2 _ v2 _ e2 h2 end))

remote_config_made : (levels : ℕ) → IsMade levels tables.AgentRemoteConfig remote_config_columns
remote_config_made zero bytes vs h = absurd h
remote_config_made (suc below) bytes vs (fs, f, right, h) = of (in_columns (Means below) (rows_of tables.AgentRemoteConfig) fs vs h)
  where
    of : Columns (Means below) (rows_of tables.AgentRemoteConfig) fs vs → (m : AgentRemoteConfig) × (vs ≡ remote_config_columns m)
    of (v1, r1, e1, h1, (v2, r2, e2, h2, end)) =
        let m1 = one_made below tables.AgentConfigMap config_map_columns (config_map_made below) _ v1 h1 in
        (record { config = m1.0; config_hash = _ }, with_column vs r1 _ v1 _ e1 m1.1 (with_column r1 r2 _ v2 _ e2 h2 end))

retry_made : (levels : ℕ) → IsMade levels tables.RetryInfo retry_info_columns
retry_made zero bytes vs h = absurd h
retry_made (suc below) bytes vs (fs, f, right, h) = of (in_columns (Means below) (rows_of tables.RetryInfo) fs vs h)
  where
    of : Columns (Means below) (rows_of tables.RetryInfo) fs vs → (m : RetryInfo) × (vs ≡ retry_info_columns m)
    of (v1, r1, e1, h1, end) =
        (record { retry_after_nanoseconds = _ }, with_column vs r1 _ v1 _ e1 h1 end)

error_made : (levels : ℕ) → IsMade levels tables.ServerErrorResponse error_response_columns
error_made zero bytes vs h = absurd h
error_made (suc below) bytes vs (fs, f, right, h) = of (in_columns (Means below) (rows_of tables.ServerErrorResponse) fs vs h)
  where
    of : Columns (Means below) (rows_of tables.ServerErrorResponse) fs vs → (m : ServerErrorResponse) × (vs ≡ error_response_columns m)
    of (v1, r1, e1, h1, (v2, r2, e2, h2, (v3, r3, e3, h3, end))) =
        let m3 = one_made below tables.RetryInfo retry_info_columns (retry_made below) _ v3 h3 in
        (record { kind = _; error_message = _; retry_info = m3.0 }, with_column vs r1 _ v1 _ e1 h1 (with_column r1 r2 _ v2 _ e2 h2 (with_column r2 r3 _ v3 _ e3 m3.1 end)))

identification_made : (levels : ℕ) → IsMade levels tables.AgentIdentification identification_columns
identification_made zero bytes vs h = absurd h
identification_made (suc below) bytes vs (fs, f, right, h) = of (in_columns (Means below) (rows_of tables.AgentIdentification) fs vs h)
  where
    of : Columns (Means below) (rows_of tables.AgentIdentification) fs vs → (m : AgentIdentification) × (vs ≡ identification_columns m)
    of (v1, r1, e1, h1, end) =
        (record { new_instance_uid = _ }, with_column vs r1 _ v1 _ e1 h1 end)

command_made : (levels : ℕ) → IsMade levels tables.ServerToAgentCommand command_columns
command_made zero bytes vs h = absurd h
command_made (suc below) bytes vs (fs, f, right, h) = of (in_columns (Means below) (rows_of tables.ServerToAgentCommand) fs vs h)
  where
    of : Columns (Means below) (rows_of tables.ServerToAgentCommand) fs vs → (m : ServerToAgentCommand) × (vs ≡ command_columns m)
    of (v1, r1, e1, h1, end) =
        (record { kind = _ }, with_column vs r1 _ v1 _ e1 h1 end)

pub reply_made : (levels : ℕ) → IsMade levels tables.ServerToAgent server_to_agent_columns
reply_made zero bytes vs h = absurd h
reply_made (suc below) bytes vs (fs, f, right, h) = of (in_columns (Means below) (rows_of tables.ServerToAgent) fs vs h)
  where
    of : Columns (Means below) (rows_of tables.ServerToAgent) fs vs → (m : ServerToAgent) × (vs ≡ server_to_agent_columns m)
    of (v1, r1, e1, h1, (v2, r2, e2, h2, (v3, r3, e3, h3, (v4, r4, e4, h4, (v5, r5, e5, h5, (v6, r6, e6, h6, (v7, r7, e7, h7, (v8, r8, e8, h8, (v9, r9, e9, h9, (v10, r10, e10, h10, (v11, r11, e11, h11, end))))))))))) =
        let m2 = one_made below tables.ServerErrorResponse error_response_columns (error_made below) _ v2 h2 in
        let m3 = one_made below tables.AgentRemoteConfig remote_config_columns (remote_config_made below) _ v3 h3 in
        let m4 = one_made below tables.ConnectionSettingsOffers connection_offers_columns (offers_made below) _ v4 h4 in
        let m5 = one_made below tables.PackagesAvailable packages_available_columns (packages_made below) _ v5 h5 in
        let m8 = one_made below tables.AgentIdentification identification_columns (identification_made below) _ v8 h8 in
        let m9 = one_made below tables.ServerToAgentCommand command_columns (command_made below) _ v9 h9 in
        let m10 = one_made below tables.CustomCapabilities custom_capabilities_columns (custom_capabilities_made below) _ v10 h10 in
        let m11 = one_made below tables.CustomMessage custom_message_columns (custom_message_made below) _ v11 h11 in
        (record { instance_uid = _; error_response = m2.0; remote_config = m3.0; connection_settings = m4.0; packages_available = m5.0; flags = _; capabilities = _; agent_identification = m8.0; command = m9.0; custom_capabilities = m10.0; custom_message = m11.0 }, with_column vs r1 _ v1 _ e1 h1 (with_column r1 r2 _ v2 _ e2 m2.1 (with_column r2 r3 _ v3 _ e3 m3.1 (with_column r3 r4 _ v4 _ e4 m4.1 (with_column r4 r5 _ v5 _ e5 m5.1 (with_column r5 r6 _ v6 _ e6 h6 (with_column r6 r7 _ v7 _ e7 h7 (with_column r7 r8 _ v8 _ e8 m8.1 (with_column r8 r9 _ v9 _ e9 m9.1 (with_column r9 r10 _ v10 _ e10 m10.1 (with_column r10 r11 _ v11 _ e11 m11.1 end)))))))))))
