use Rattle.std.proofs.Common.{◌-◌, ◌≤◌, length}
use Rattle.edge_heads.specs.declared.TheConstants.{HEAD_LIMIT}
use Rattle.edge_heads.proofs.Lines.{IsCounted}
use Rattle.edge_heads.proofs.limits.head_end.Given as goal

abbrev pub invariant-bytes : goal.invariant-bytes
invariant-bytes l = record { counted : IsCounted l.bytes l.begun l.lines_left l.end; within : l.end ≤ length l.bytes; least : l.end ≤ HEAD_LIMIT }

abbrev pub decreases-bytes : goal.decreases-bytes
decreases-bytes l = length l.initial.bytes - l.end
