use Rattle.std.proofs.Common.{◌-◌}
use Rattle.agent_rules.proofs.changing.+count_from.Given as goal

abbrev pub decreases-count_from : goal.decreases-count_from
decreases-count_from l = 13 - l.number
