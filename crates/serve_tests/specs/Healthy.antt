-- Whom the tests' judge finds fine.
use Rattle.std.specs.Prelude.{Bool, true, MatchBool, Option, None, Some}
use Rattle.message_values.specs.declared.health.ComponentHealth.{ComponentHealth, out-ComponentHealth}
use Rattle.server_core.specs.declared.rows.Record.{Record}

abbrev pub is_up : Option ComponentHealth → Bool
is_up None = true
is_up (Some health) = (out-ComponentHealth health).healthy

abbrev pub is_healthy : Record → Bool
is_healthy agent = is_up agent.state.health
