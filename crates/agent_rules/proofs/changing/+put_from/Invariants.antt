use Rattle.std.proofs.Common.{◌-◌}
use Rattle.agent_rules.proofs.changing.+put_from.Given as goal

abbrev pub decreases-put_from : goal.decreases-put_from
decreases-put_from l = 13 - l.number
