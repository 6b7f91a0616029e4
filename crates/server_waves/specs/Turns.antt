-- What an operator does to a rollout, by its kind.
use Rattle.server_waves.specs.Waves.{Waves, resumed, with_halt}
use Rattle.server_waves.specs.declared.register.Turn.{Turn}
use Rattle.server_waves.specs.declared.register.Turn.TheVariants.{Halt, Resume}

abbrev pub turned : Turn → Waves → Waves
turned Halt waves = with_halt waves
turned Resume waves = resumed waves
