-- The columns of a report tell the report: no two reports have the same columns.
use Rattle.std.proofs.Common.{◌≡◌, List, [], ◌∷◌, map, refl, ap, sym, ◌∙◌, subst}
use Rattle.std.specs.List.{AllByRecursion}
use Rattle.plain_values.specs.declared.maps.Pair.{Pair}
use Rattle.plain_values.specs.Pairs.{on_value}
use Rattle.message_values.specs.declared.attributes.AgentDescription.{AgentDescription}
use Rattle.message_values.specs.declared.components.AvailableComponents.{AvailableComponents}
use Rattle.message_values.specs.declared.components.ComponentDetails.{ComponentDetails, ComponentDetails-F, out-ComponentDetails, roll-ComponentDetails, roll-out-ComponentDetails, map-ComponentDetails, fold-roll-ComponentDetails, fold_out-ComponentDetails, ind-ComponentDetails}
use Rattle.message_values.specs.declared.config.EffectiveConfig.{EffectiveConfig}
use Rattle.message_values.specs.declared.config.RemoteConfigStatus.{RemoteConfigStatus}
use Rattle.message_values.specs.declared.health.ComponentHealth.{ComponentHealth, ComponentHealth-F, out-ComponentHealth, roll-ComponentHealth, roll-out-ComponentHealth, map-ComponentHealth, fold-roll-ComponentHealth, fold_out-ComponentHealth, ind-ComponentHealth}
use Rattle.message_values.specs.declared.packages.PackageStatus.{PackageStatus}
use Rattle.message_values.specs.declared.packages.PackageStatuses.{PackageStatuses}
use Rattle.message_values.specs.declared.report.AgentDisconnect.{AgentDisconnect}
use Rattle.message_values.specs.declared.report.AgentToServer.{AgentToServer}
use Rattle.message_codec.specs.Values.{Values}
use Rattle.message_codec.specs.Means.{entries_of}
use Rattle.message_codec.proofs.Reading.{entries_seen}
use Rattle.message_attributes.specs.AnyColumns.{pair_columns}
use Rattle.message_attributes.specs.PartColumns.{config_map_columns, custom_capabilities_columns, custom_message_columns}
use Rattle.message_attributes.proofs.Injective.{Tells, inside, column_at, number_tells, integer_tells, flag_tells, content_tells, one_tells, list_tells, map_tells, entries_tell, pair_columns_tell, config_map_columns_tell, custom_capabilities_columns_tell, custom_message_columns_tell}
use Rattle.message_reports.specs.HealthColumns.{health_layer, health_columns}
use Rattle.message_reports.specs.ComponentColumns.{details_layer, details_columns, available_components_columns}
use Rattle.message_reports.specs.Columns.{effective_config_columns, remote_config_status_columns, package_status_columns, package_statuses_columns}
use Rattle.message_reports.specs.ReportColumns.{agent_description_columns, agent_disconnect_columns, agent_to_server_columns}

-- ---- the health of a component

-- the components of a health, each with the proof that its columns tell it
abbrev Known : Type 0
Known = (h : ComponentHealth) × Tells health_columns h

abbrev firsts : ComponentHealth-F Known → ComponentHealth-F ComponentHealth
firsts = map-ComponentHealth Known ComponentHealth (λ k. k.0)

known : (ps : List (Pair Known)) → AllByRecursion (λ p. Tells health_columns p.value) (map (on_value (λ (k : Known). k.0)) ps)
known [] = tt
known (p ∷ ps) = (p.value.1, known ps)

-- the columns of a layer, seen through those of the components
abbrev shown : ComponentHealth-F ComponentHealth → Values
shown x = health_layer (map-ComponentHealth ComponentHealth Values health_columns x)

components_tell : (ps : List (Pair Known)) (qs : List (Pair ComponentHealth)) → entries_of (λ vs. vs) (map (on_value health_columns) (map (on_value (λ (k : Known). k.0)) ps)) ≡ entries_of (λ vs. vs) (map (on_value health_columns) qs)
    → map (on_value (λ (k : Known). k.0)) ps ≡ qs
components_tell ps qs e = entries_tell health_columns _ qs (known ps) (entries_seen health_columns _ ∙ e ∙ sym (entries_seen health_columns qs))

layer_tells : (y : ComponentHealth-F Known) (x : ComponentHealth-F ComponentHealth) → shown (firsts y) ≡ shown x → firsts y ≡ x
layer_tells y x e = λ i. record {
  healthy = flag_tells _ _ (ap (column_at 0) e) i;
  start_time_unix_nano = number_tells _ _ (ap (column_at 1) e) i;
  last_error = content_tells _ _ (ap (column_at 2) e) i;
  status = content_tells _ _ (ap (column_at 3) e) i;
  status_time_unix_nano = number_tells _ _ (ap (column_at 4) e) i;
  component_health_map = components_tell y.component_health_map x.component_health_map (ap (λ (vs : Values). inside (column_at 5 vs)) e) i;
}

health_step : (x : ComponentHealth-F ComponentHealth) (y : ComponentHealth-F Known) → firsts y ≡ x → Tells health_columns (roll-ComponentHealth x)
health_step x y is h e =
    let told = subst (λ z. shown z ≡ shown (out-ComponentHealth h) → z ≡ out-ComponentHealth h) is (layer_tells y (out-ComponentHealth h)) in
    ap roll-ComponentHealth (told (sym (fold-roll-ComponentHealth Values health_layer x) ∙ e ∙ fold_out-ComponentHealth Values health_layer h)) ∙ roll-out-ComponentHealth h

pub health_columns_tell : (g h : ComponentHealth) → health_columns g ≡ health_columns h → g ≡ h
health_columns_tell = ind-ComponentHealth (Tells health_columns) health_step

-- ---- the components of an agent

-- the components of a component, each with the proof that its columns tell it
abbrev KnownDetails : Type 0
KnownDetails = (d : ComponentDetails) × Tells details_columns d

abbrev details_firsts : ComponentDetails-F KnownDetails → ComponentDetails-F ComponentDetails
details_firsts = map-ComponentDetails KnownDetails ComponentDetails (λ k. k.0)

details_known : (ps : List (Pair KnownDetails)) → AllByRecursion (λ p. Tells details_columns p.value) (map (on_value (λ (k : KnownDetails). k.0)) ps)
details_known [] = tt
details_known (p ∷ ps) = (p.value.1, details_known ps)

-- the columns of a layer, seen through those of the components
abbrev details_shown : ComponentDetails-F ComponentDetails → Values
details_shown x = details_layer (map-ComponentDetails ComponentDetails Values details_columns x)

details_tell : (ps : List (Pair KnownDetails)) (qs : List (Pair ComponentDetails)) → entries_of (λ vs. vs) (map (on_value details_columns) (map (on_value (λ (k : KnownDetails). k.0)) ps)) ≡ entries_of (λ vs. vs) (map (on_value details_columns) qs)
    → map (on_value (λ (k : KnownDetails). k.0)) ps ≡ qs
details_tell ps qs e = entries_tell details_columns _ qs (details_known ps) (entries_seen details_columns _ ∙ e ∙ sym (entries_seen details_columns qs))

details_layer_tells : (y : ComponentDetails-F KnownDetails) (x : ComponentDetails-F ComponentDetails) → details_shown (details_firsts y) ≡ details_shown x → details_firsts y ≡ x
details_layer_tells y x e = λ i. record {
  metadata = list_tells pair_columns pair_columns_tell y.metadata x.metadata (ap (column_at 0) e) i;
  sub_component_map = details_tell y.sub_component_map x.sub_component_map (ap (λ (vs : Values). inside (column_at 1 vs)) e) i;
}

details_step : (x : ComponentDetails-F ComponentDetails) (y : ComponentDetails-F KnownDetails) → details_firsts y ≡ x → Tells details_columns (roll-ComponentDetails x)
details_step x y is d e =
    let told = subst (λ z. details_shown z ≡ details_shown (out-ComponentDetails d) → z ≡ out-ComponentDetails d) is (details_layer_tells y (out-ComponentDetails d)) in
    ap roll-ComponentDetails (told (sym (fold-roll-ComponentDetails Values details_layer x) ∙ e ∙ fold_out-ComponentDetails Values details_layer d)) ∙ roll-out-ComponentDetails d

details_columns_tell : (c d : ComponentDetails) → details_columns c ≡ details_columns d → c ≡ d
details_columns_tell = ind-ComponentDetails (Tells details_columns) details_step

pub available_components_columns_tell : (c d : AvailableComponents) → available_components_columns c ≡ available_components_columns d → c ≡ d
available_components_columns_tell c d e = λ i. record {
  components = map_tells details_columns details_columns_tell _ _ (ap (column_at 0) e) i;
  hash = content_tells _ _ (ap (column_at 1) e) i;
}

-- ---- the other parts of a report

pub agent_description_columns_tell : (c d : AgentDescription) → agent_description_columns c ≡ agent_description_columns d → c ≡ d
agent_description_columns_tell c d e = λ i. record {
  identifying_attributes = list_tells pair_columns pair_columns_tell _ _ (ap (column_at 0) e) i;
  non_identifying_attributes = list_tells pair_columns pair_columns_tell _ _ (ap (column_at 1) e) i;
}

pub effective_config_columns_tell : (c d : EffectiveConfig) → effective_config_columns c ≡ effective_config_columns d → c ≡ d
effective_config_columns_tell c d e = λ i. record { config_map = one_tells config_map_columns config_map_columns_tell _ _ (ap (column_at 0) e) i }

pub remote_config_status_columns_tell : (r s : RemoteConfigStatus) → remote_config_status_columns r ≡ remote_config_status_columns s → r ≡ s
remote_config_status_columns_tell r s e = λ i. record {
  last_remote_config_hash = content_tells _ _ (ap (column_at 0) e) i;
  status = integer_tells _ _ (ap (column_at 1) e) i;
  error_message = content_tells _ _ (ap (column_at 2) e) i;
}

pub package_status_columns_tell : (p q : PackageStatus) → package_status_columns p ≡ package_status_columns q → p ≡ q
package_status_columns_tell p q e = λ i. record {
  name = content_tells _ _ (ap (column_at 0) e) i;
  agent_has_version = content_tells _ _ (ap (column_at 1) e) i;
  agent_has_hash = content_tells _ _ (ap (column_at 2) e) i;
  server_offered_version = content_tells _ _ (ap (column_at 3) e) i;
  server_offered_hash = content_tells _ _ (ap (column_at 4) e) i;
  status = integer_tells _ _ (ap (column_at 5) e) i;
  error_message = content_tells _ _ (ap (column_at 6) e) i;
}

pub package_statuses_columns_tell : (p q : PackageStatuses) → package_statuses_columns p ≡ package_statuses_columns q → p ≡ q
package_statuses_columns_tell p q e = λ i. record {
  packages = map_tells package_status_columns package_status_columns_tell _ _ (ap (column_at 0) e) i;
  server_provided_all_packages_hash = content_tells _ _ (ap (column_at 1) e) i;
  error_message = content_tells _ _ (ap (column_at 2) e) i;
}

pub agent_disconnect_columns_tell : (c d : AgentDisconnect) → agent_disconnect_columns c ≡ agent_disconnect_columns d → c ≡ d
agent_disconnect_columns_tell c d e = refl

-- ---- the report

pub report_columns_tell : (m n : AgentToServer) → agent_to_server_columns m ≡ agent_to_server_columns n → m ≡ n
report_columns_tell m n e = λ i. record {
  instance_uid = content_tells _ _ (ap (column_at 0) e) i;
  sequence_num = number_tells _ _ (ap (column_at 1) e) i;
  agent_description = one_tells agent_description_columns agent_description_columns_tell _ _ (ap (column_at 2) e) i;
  capabilities = number_tells _ _ (ap (column_at 3) e) i;
  health = one_tells health_columns health_columns_tell _ _ (ap (column_at 4) e) i;
  effective_config = one_tells effective_config_columns effective_config_columns_tell _ _ (ap (column_at 5) e) i;
  remote_config_status = one_tells remote_config_status_columns remote_config_status_columns_tell _ _ (ap (column_at 6) e) i;
  package_statuses = one_tells package_statuses_columns package_statuses_columns_tell _ _ (ap (column_at 7) e) i;
  agent_disconnect = one_tells agent_disconnect_columns agent_disconnect_columns_tell _ _ (ap (column_at 8) e) i;
  flags = number_tells _ _ (ap (column_at 9) e) i;
  custom_capabilities = one_tells custom_capabilities_columns custom_capabilities_columns_tell _ _ (ap (column_at 10) e) i;
  custom_message = one_tells custom_message_columns custom_message_columns_tell _ _ (ap (column_at 11) e) i;
  available_components = one_tells available_components_columns available_components_columns_tell _ _ (ap (column_at 12) e) i;
}
