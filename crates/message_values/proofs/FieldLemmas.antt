-- A value that leads back to itself is its fields.
use Rattle.std.proofs.Common.{◌≡◌, sym, ◌∙◌}
use Rattle.message_values.specs.declared.components.ComponentDetails.{ComponentDetails, out-ComponentDetails, roll-ComponentDetails, roll-out-ComponentDetails}
use Rattle.message_values.specs.declared.health.ComponentHealth.{ComponentHealth, out-ComponentHealth, roll-ComponentHealth, roll-out-ComponentHealth}

pub equal_component_health : (a b : ComponentHealth)
    → (out-ComponentHealth a).healthy ≡ (out-ComponentHealth b).healthy
    → (out-ComponentHealth a).start_time_unix_nano ≡ (out-ComponentHealth b).start_time_unix_nano
    → (out-ComponentHealth a).last_error ≡ (out-ComponentHealth b).last_error
    → (out-ComponentHealth a).status ≡ (out-ComponentHealth b).status
    → (out-ComponentHealth a).status_time_unix_nano ≡ (out-ComponentHealth b).status_time_unix_nano
    → (out-ComponentHealth a).component_health_map ≡ (out-ComponentHealth b).component_health_map
    → a ≡ b
equal_component_health a b healthy start error status time components =
    sym (roll-out-ComponentHealth a)
    ∙ (λ i. roll-ComponentHealth
    (record {
      healthy = healthy i;
      start_time_unix_nano = start i;
      last_error = error i;
      status = status i;
      status_time_unix_nano = time i;
      component_health_map = components i;
    }))
    ∙ roll-out-ComponentHealth b

pub equal_component_details : (a b : ComponentDetails)
    → (out-ComponentDetails a).metadata ≡ (out-ComponentDetails b).metadata
    → (out-ComponentDetails a).sub_component_map ≡ (out-ComponentDetails b).sub_component_map
    → a ≡ b
equal_component_details a b metadata components =
    sym (roll-out-ComponentDetails a) ∙ (λ i. roll-ComponentDetails (record { metadata = metadata i; sub_component_map = components i })) ∙ roll-out-ComponentDetails b
