-- Reports that bytes mean are values.
use Rattle.std.proofs.Common.{◌≡◌, ℕ, zero, suc, false, [], sym, ◌∙◌}
use Rattle.message_values.specs.declared.attributes.AgentDescription.{AgentDescription}
use Rattle.message_values.specs.declared.components.AvailableComponents.{AvailableComponents}
use Rattle.message_values.specs.declared.components.ComponentDetails.{ComponentDetails, roll-ComponentDetails}
use Rattle.message_values.specs.declared.config.EffectiveConfig.{EffectiveConfig}
use Rattle.message_values.specs.declared.config.RemoteConfigStatus.{RemoteConfigStatus}
use Rattle.message_values.specs.declared.health.ComponentHealth.{ComponentHealth, roll-ComponentHealth}
use Rattle.message_values.specs.declared.packages.PackageStatus.{PackageStatus}
use Rattle.message_values.specs.declared.packages.PackageStatuses.{PackageStatuses}
use Rattle.message_values.specs.declared.report.AgentToServer.{AgentToServer}
use Rattle.message_codec.specs.Tables as tables
use Rattle.message_codec.specs.Tables.{rows_of}
use Rattle.message_codec.specs.Means.{Means, entry_of, empty_of}
use Rattle.message_attributes.specs.AnyColumns.{pair_columns}
use Rattle.message_attributes.specs.PartColumns.{config_map_columns, custom_capabilities_columns, custom_message_columns}
use Rattle.message_attributes.proofs.Made.{IsMade, Columns, in_columns, with_column, one_made, many_made, keyed_made, entry_made, any_entry_made}
use Rattle.message_attributes.proofs.PartsMade.{pair_made, config_map_made, custom_capabilities_made, custom_message_made}
use Rattle.message_reports.specs.HealthColumns.{health_columns}
use Rattle.message_reports.specs.ComponentColumns.{details_columns, available_components_columns}
use Rattle.message_reports.specs.Columns.{effective_config_columns, remote_config_status_columns, package_status_columns, package_statuses_columns}
use Rattle.message_reports.specs.ReportColumns.{agent_description_columns, agent_disconnect_columns, agent_to_server_columns}
use Rattle.message_reports.proofs.HealthLaws.{health_roll}
use Rattle.message_reports.proofs.ComponentLaws.{details_roll}

-- ---- the health of a component

empty_health : ComponentHealth
empty_health = roll-ComponentHealth (record { healthy = false; start_time_unix_nano = 0; last_error = []; status = []; status_time_unix_nano = 0; component_health_map = [] })

empty_columns : health_columns empty_health ≡ empty_of tables.ComponentHealth
unfolding empty_health
empty_columns = health_roll _

-- healths and the entries that hold them, so many levels deep
record HealthMade (levels : ℕ) : Type 0 where
  health : IsMade levels tables.ComponentHealth health_columns
  entry : IsMade levels (tables.Entry tables.ComponentHealth) (entry_of health_columns)

health_step : (below : ℕ) → HealthMade below → IsMade (suc below) tables.ComponentHealth health_columns
health_step below made bytes vs (fs, f, right, h) = of (in_columns (Means below) (rows_of tables.ComponentHealth) fs vs h)
  where
    of : Columns (Means below) (rows_of tables.ComponentHealth) fs vs → (m : ComponentHealth) × (vs ≡ health_columns m)
    of (v1, r1, e1, h1, (v2, r2, e2, h2, (v3, r3, e3, h3, (v4, r4, e4, h4, (v5, r5, e5, h5, (v6, r6, e6, h6, end)))))) =
        let m6 = keyed_made below tables.ComponentHealth health_columns made.entry _ v6 h6 in (
          roll-ComponentHealth (record { healthy = _; start_time_unix_nano = _; last_error = _; status = _; status_time_unix_nano = _; component_health_map = m6.0 }),
          with_column vs r1 _ v1 _ e1 h1 (with_column r1 r2 _ v2 _ e2 h2 (with_column r2 r3 _ v3 _ e3 h3 (with_column r3 r4 _ v4 _ e4 h4 (with_column r4 r5 _ v5 _ e5 h5 (with_column r5 r6 _ v6 _ e6 m6.1 end))))) ∙ sym (health_roll _),
        )

healths_made : (levels : ℕ) → HealthMade levels
healths_made zero = record { health = λ bytes vs h. absurd h; entry = λ bytes vs h. absurd h }
healths_made (suc below) =
    let made = healths_made below in
    record { health = health_step below made; entry = entry_made below tables.ComponentHealth health_columns made.health empty_health empty_columns }

health_made : (levels : ℕ) → IsMade levels tables.ComponentHealth health_columns
health_made levels = (healths_made levels).health

-- ---- the components of an agent

empty_details : ComponentDetails
empty_details = roll-ComponentDetails (record { metadata = []; sub_component_map = [] })

empty_details_columns : details_columns empty_details ≡ empty_of tables.ComponentDetails
unfolding empty_details
empty_details_columns = details_roll _

-- components and the entries that hold them, so many levels deep
record DetailsMade (levels : ℕ) : Type 0 where
  details : IsMade levels tables.ComponentDetails details_columns
  entry : IsMade levels (tables.Entry tables.ComponentDetails) (entry_of details_columns)

details_step : (below : ℕ) → DetailsMade below → IsMade (suc below) tables.ComponentDetails details_columns
details_step below made bytes vs (fs, f, right, h) = of (in_columns (Means below) (rows_of tables.ComponentDetails) fs vs h)
  where
    of : Columns (Means below) (rows_of tables.ComponentDetails) fs vs → (m : ComponentDetails) × (vs ≡ details_columns m)
    of (v1, r1, e1, h1, (v2, r2, e2, h2, end)) =
        let m1 = many_made below tables.KeyValue pair_columns (pair_made below) _ v1 h1 in
        let m2 = keyed_made below tables.ComponentDetails details_columns made.entry _ v2 h2 in
        (roll-ComponentDetails (record { metadata = m1.0; sub_component_map = m2.0 }), with_column vs r1 _ v1 _ e1 m1.1 (with_column r1 r2 _ v2 _ e2 m2.1 end) ∙ sym (details_roll _))

details_made : (levels : ℕ) → DetailsMade levels
details_made zero = record { details = λ bytes vs h. absurd h; entry = λ bytes vs h. absurd h }
details_made (suc below) =
    let made = details_made below in
    record { details = details_step below made; entry = entry_made below tables.ComponentDetails details_columns made.details empty_details empty_details_columns }

available_components_made : (levels : ℕ) → IsMade levels tables.AvailableComponents available_components_columns
available_components_made zero bytes vs h = absurd h
available_components_made (suc below) bytes vs (fs, f, right, h) = of (in_columns (Means below) (rows_of tables.AvailableComponents) fs vs h)
  where
    of : Columns (Means below) (rows_of tables.AvailableComponents) fs vs → (m : AvailableComponents) × (vs ≡ available_components_columns m)
    of (v1, r1, e1, h1, (v2, r2, e2, h2, end)) =
        let m1 = keyed_made below tables.ComponentDetails details_columns (details_made below).entry _ v1 h1 in
        (record { components = m1.0; hash = _ }, with_column vs r1 _ v1 _ e1 m1.1 (with_column r1 r2 _ v2 _ e2 h2 end))

-- ---- the other parts of a report

agent_description_made : (levels : ℕ) → IsMade levels tables.AgentDescription agent_description_columns
agent_description_made zero bytes vs h = absurd h
agent_description_made (suc below) bytes vs (fs, f, right, h) = of (in_columns (Means below) (rows_of tables.AgentDescription) fs vs h)
  where
    of : Columns (Means below) (rows_of tables.AgentDescription) fs vs → (m : AgentDescription) × (vs ≡ agent_description_columns m)
    of (v1, r1, e1, h1, (v2, r2, e2, h2, end)) =
        let m1 = many_made below tables.KeyValue pair_columns (pair_made below) _ v1 h1 in
        let m2 = many_made below tables.KeyValue pair_columns (pair_made below) _ v2 h2 in
        (record { identifying_attributes = m1.0; non_identifying_attributes = m2.0 }, with_column vs r1 _ v1 _ e1 m1.1 (with_column r1 r2 _ v2 _ e2 m2.1 end))

effective_config_made : (levels : ℕ) → IsMade levels tables.EffectiveConfig effective_config_columns
effective_config_made zero bytes vs h = absurd h
effective_config_made (suc below) bytes vs (fs, f, right, h) = of (in_columns (Means below) (rows_of tables.EffectiveConfig) fs vs h)
  where
    of : Columns (Means below) (rows_of tables.EffectiveConfig) fs vs → (m : EffectiveConfig) × (vs ≡ effective_config_columns m)
    of (v1, r1, e1, h1, end) =
        let m1 = one_made below tables.AgentConfigMap config_map_columns (config_map_made below) _ v1 h1 in
        (record { config_map = m1.0 }, with_column vs r1 _ v1 _ e1 m1.1 end)

remote_config_status_made : (levels : ℕ) → IsMade levels tables.RemoteConfigStatus remote_config_status_columns
remote_config_status_made zero bytes vs h = absurd h
remote_config_status_made (suc below) bytes vs (fs, f, right, h) = of (in_columns (Means below) (rows_of tables.RemoteConfigStatus) fs vs h)
  where
    of : Columns (Means below) (rows_of tables.RemoteConfigStatus) fs vs → (m : RemoteConfigStatus) × (vs ≡ remote_config_status_columns m)
    of (v1, r1, e1, h1, (v2, r2, e2, h2, (v3, r3, e3, h3, end))) =
        (record { last_remote_config_hash = _; status = _; error_message = _ }, with_column vs r1 _ v1 _ e1 h1 (with_column r1 r2 _ v2 _ e2 h2 (with_column r2 r3 _ v3 _ e3 h3 end)))

package_status_made : (levels : ℕ) → IsMade levels tables.PackageStatus package_status_columns
package_status_made zero bytes vs h = absurd h
package_status_made (suc below) bytes vs (fs, f, right, h) = of (in_columns (Means below) (rows_of tables.PackageStatus) fs vs h)
  where
    of : Columns (Means below) (rows_of tables.PackageStatus) fs vs → (m : PackageStatus) × (vs ≡ package_status_columns m)
    of (v1, r1, e1, h1, (v2, r2, e2, h2, (v3, r3, e3, h3, (v4, r4, e4, h4, (v5, r5, e5, h5, (v6, r6, e6, h6, (v7, r7, e7, h7, end))))))) =
        (record { name = _; agent_has_version = _; agent_has_hash = _; server_offered_version = _; server_offered_hash = _; status = _; error_message = _ }, with_column vs r1 _ v1 _ e1 h1 (with_column r1 r2 _ v2 _ e2 h2 (with_column r2 r3 _ v3 _ e3 h3 (with_column r3 r4 _ v4 _ e4 h4 (with_column r4 r5 _ v5 _ e5 h5 (with_column r5 r6 _ v6 _ e6 h6 (with_column r6 r7 _ v7 _ e7 h7 end)))))))

package_statuses_made : (levels : ℕ) → IsMade levels tables.PackageStatuses package_statuses_columns
package_statuses_made zero bytes vs h = absurd h
package_statuses_made (suc below) bytes vs (fs, f, right, h) = of (in_columns (Means below) (rows_of tables.PackageStatuses) fs vs h)
  where
    of : Columns (Means below) (rows_of tables.PackageStatuses) fs vs → (m : PackageStatuses) × (vs ≡ package_statuses_columns m)
    of (v1, r1, e1, h1, (v2, r2, e2, h2, (v3, r3, e3, h3, end))) =
        let m1 = keyed_made below tables.PackageStatus package_status_columns (any_entry_made tables.PackageStatus package_status_columns package_status_made below) _ v1 h1 in
        (record { packages = m1.0; server_provided_all_packages_hash = _; error_message = _ }, with_column vs r1 _ v1 _ e1 m1.1 (with_column r1 r2 _ v2 _ e2 h2 (with_column r2 r3 _ v3 _ e3 h3 end)))

agent_disconnect_made : (levels : ℕ) → IsMade levels tables.AgentDisconnect agent_disconnect_columns
agent_disconnect_made zero bytes vs h = absurd h
agent_disconnect_made (suc below) bytes vs (fs, f, right, h) = (record {}, in_columns (Means below) (rows_of tables.AgentDisconnect) fs vs h)

-- ---- the report

pub report_made : (levels : ℕ) → IsMade levels tables.AgentToServer agent_to_server_columns
report_made zero bytes vs h = absurd h
report_made (suc below) bytes vs (fs, f, right, h) = of (in_columns (Means below) (rows_of tables.AgentToServer) fs vs h)
  where
    of : Columns (Means below) (rows_of tables.AgentToServer) fs vs → (m : AgentToServer) × (vs ≡ agent_to_server_columns m)
    of (v1, r1, e1, h1, (v2, r2, e2, h2, (v3, r3, e3, h3, (v4, r4, e4, h4, (v5, r5, e5, h5, (v6, r6, e6, h6, (v7, r7, e7, h7, (v8, r8, e8, h8, (v9, r9, e9, h9, (v10, r10, e10, h10, (v11, r11, e11, h11, (v12, r12, e12, h12, (v13, r13, e13, h13, end))))))))))))) =
        let m3 = one_made below tables.AgentDescription agent_description_columns (agent_description_made below) _ v3 h3 in
        let m5 = one_made below tables.ComponentHealth health_columns (health_made below) _ v5 h5 in
        let m6 = one_made below tables.EffectiveConfig effective_config_columns (effective_config_made below) _ v6 h6 in
        let m7 = one_made below tables.RemoteConfigStatus remote_config_status_columns (remote_config_status_made below) _ v7 h7 in
        let m8 = one_made below tables.PackageStatuses package_statuses_columns (package_statuses_made below) _ v8 h8 in
        let m9 = one_made below tables.AgentDisconnect agent_disconnect_columns (agent_disconnect_made below) _ v9 h9 in
        let m11 = one_made below tables.CustomCapabilities custom_capabilities_columns (custom_capabilities_made below) _ v11 h11 in
        let m12 = one_made below tables.CustomMessage custom_message_columns (custom_message_made below) _ v12 h12 in
        let m13 = one_made below tables.AvailableComponents available_components_columns (available_components_made below) _ v13 h13 in
        (record { instance_uid = _; sequence_num = _; agent_description = m3.0; capabilities = _; health = m5.0; effective_config = m6.0; remote_config_status = m7.0; package_statuses = m8.0; agent_disconnect = m9.0; flags = _; custom_capabilities = m11.0; custom_message = m12.0; available_components = m13.0 }, with_column vs r1 _ v1 _ e1 h1 (with_column r1 r2 _ v2 _ e2 h2 (with_column r2 r3 _ v3 _ e3 m3.1 (with_column r3 r4 _ v4 _ e4 h4 (with_column r4 r5 _ v5 _ e5 m5.1 (with_column r5 r6 _ v6 _ e6 m6.1 (with_column r6 r7 _ v7 _ e7 m7.1 (with_column r7 r8 _ v8 _ e8 m8.1 (with_column r8 r9 _ v9 _ e9 m9.1 (with_column r9 r10 _ v10 _ e10 h10 (with_column r10 r11 _ v11 _ e11 m11.1 (with_column r11 r12 _ v12 _ e12 m12.1 (with_column r12 r13 _ v13 _ e13 m13.1 end)))))))))))))
