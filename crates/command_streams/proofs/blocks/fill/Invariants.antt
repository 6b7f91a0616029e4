use Rattle.std.proofs.Common.{◌-◌, ◌≤◌}
use Rattle.command_streams.specs.Held.{taken_of}
use Rattle.command_streams.proofs.Filling.{IsFilling}
use Rattle.command_streams.proofs.blocks.fill.Given as goal

abbrev pub invariant-fills : goal.invariant-fills
invariant-fills g l =
    IsFilling l.budget l.fn.held l.held (g.S.Source.left l.fn.source) (g.S.Source.left l.source)
    × (g.S.Source.faults l.fn.source ≤ g.S.Source.faults l.source)

abbrev pub decreases-fills : goal.decreases-fills
decreases-fills g l = l.budget - taken_of l.held
