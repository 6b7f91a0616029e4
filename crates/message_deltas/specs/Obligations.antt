-- What an agent's capabilities oblige it to report, and which reports are full (OpAMP specification, "Agent Status
-- Compression" and "AgentToServer.capabilities"). That an absent part counts as left out, and not as none, exactly
-- where the capabilities don't oblige to it is this project's reading.
use Rattle.std.specs.Prelude.{◌≡◌, ℕ, Bool, not, ◌&&◌, ◌||◌, ◌==◌, bit_and, IsTrue, is_some}
use Rattle.message_values.specs.declared.report.AgentToServer.{AgentToServer}
use Rattle.message_values.specs.declared.state.State.{State}
use Rattle.message_values.specs.declared.profile.TheConstants.{REPORTS_AVAILABLE_COMPONENTS, REPORTS_EFFECTIVE_CONFIG, REPORTS_HEALTH, REPORTS_PACKAGE_STATUSES, REPORTS_REMOTE_CONFIG}
use Rattle.message_deltas.specs.declared.fields.Obliged.{Obliged}
use Rattle.message_deltas.specs.declared.missing.Missing.{Missing}

-- the set of bits has this one
abbrev pub has_bit : ℕ → ℕ → Bool
has_bit bits bit = not (bit_and bits bit == 0)

-- what the capabilities oblige to, beside the description
abbrev pub obliged : ℕ → Obliged
obliged capabilities = record {
  health = has_bit capabilities REPORTS_HEALTH;
  effective = has_bit capabilities REPORTS_EFFECTIVE_CONFIG;
  remote = has_bit capabilities REPORTS_REMOTE_CONFIG;
  packages = has_bit capabilities REPORTS_PACKAGE_STATUSES;
  components = has_bit capabilities REPORTS_AVAILABLE_COMPONENTS;
}

-- each optional part is there exactly where it is obliged
pub record IsValidState (s : State) : Type 0 where
  pub health : is_some s.health ≡ (obliged s.capabilities).health
  pub effective : is_some s.effective ≡ (obliged s.capabilities).effective
  pub remote : is_some s.remote ≡ (obliged s.capabilities).remote
  pub packages : is_some s.packages ≡ (obliged s.capabilities).packages
  pub components : is_some s.components ≡ (obliged s.capabilities).components

-- where the part is obliged it is there
abbrev pub is_met : Bool → Bool → Bool
is_met is_obliged is_there = not is_obliged || is_there

-- the description and each obliged part are there
abbrev pub is_full : AgentToServer → Bool
is_full m =
    is_some m.agent_description
    && (is_met (obliged m.capabilities).health (is_some m.health)
    && (is_met (obliged m.capabilities).effective (is_some m.effective_config)
    && (is_met (obliged m.capabilities).remote (is_some m.remote_config_status)
    && (is_met (obliged m.capabilities).packages (is_some m.package_statuses)
    && is_met (obliged m.capabilities).components (is_some m.available_components)))))

abbrev pub IsFull : AgentToServer → Type 0
IsFull m = IsTrue (is_full m)

-- what it lacks of that
abbrev pub missing_fields : AgentToServer → Missing
missing_fields m = record {
  agent_description = not (is_some m.agent_description);
  health = not (is_met (obliged m.capabilities).health (is_some m.health));
  effective_config = not (is_met (obliged m.capabilities).effective (is_some m.effective_config));
  remote_config_status = not (is_met (obliged m.capabilities).remote (is_some m.remote_config_status));
  package_statuses = not (is_met (obliged m.capabilities).packages (is_some m.package_statuses));
  available_components = not (is_met (obliged m.capabilities).components (is_some m.available_components));
}

abbrev pub misses_nothing : Missing → Bool
misses_nothing missed =
    not missed.agent_description
    && (not missed.health
    && (not missed.effective_config
    && (not missed.remote_config_status
    && (not missed.package_statuses
    && not missed.available_components))))
