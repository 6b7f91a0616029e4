use Rattle.std.proofs.Common.{◌≤◌, ◌-◌, length, drop}
use Rattle.plain_values.specs.Pairs.{IsAscending}
use Rattle.message_reports.proofs.maps.ascends.Given as goal

abbrev pub decreases-loop-at : goal.decreases-loop-at
decreases-loop-at g l = l.at

abbrev pub invariant-loop-at : goal.invariant-loop-at
invariant-loop-at g l = record { within : l.at ≤ length l.entries; ascend : IsAscending (drop (l.at - 1) l.entries) }
