-- Which agents the program's own judge finds fine (OpAMP specification, "ComponentHealth Message").
use Rattle.std.specs.Prelude.{Bool, true, Option, None, Some}
use Rattle.message_values.specs.declared.health.ComponentHealth.{ComponentHealth, out-ComponentHealth}
use Rattle.server_core.specs.declared.rows.Record.{Record}

abbrev pub is_up : Option ComponentHealth → Bool
is_up None = true
is_up (Some health) = (out-ComponentHealth health).healthy

-- its record has no health or a healthy one
abbrev pub is_fine : Record → Bool
is_fine agent = is_up agent.state.health
