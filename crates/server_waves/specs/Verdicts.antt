-- Verdicts as Booleans.
use Rattle.std.specs.Prelude.{Bool, true, false}
use Rattle.server_waves.specs.declared.verdicts.Verdict.{Verdict}
use Rattle.server_waves.specs.declared.verdicts.Verdict.TheVariants.{Open, Applied, Failed}

abbrev pub is_applied : Verdict → Bool
is_applied Open = false
is_applied Applied = true
is_applied Failed = false

abbrev pub is_failed : Verdict → Bool
is_failed Open = false
is_failed Applied = false
is_failed Failed = true
