use Rattle.std.proofs.Common.{◌≤◌}
use Rattle.command_fleet.specs.Blocks.{IsReadOn, TakesFewBehind}
use Rattle.command_fleet.proofs.Blocks.{rounds_of}
use Rattle.command_fleet.proofs.reading.read_blocks.Given as goal

abbrev pub invariant-blocks-2 : goal.invariant-blocks-2
invariant-blocks-2 g l =
    IsReadOn l.budget l.held l.reports (g.S.Source.left l.fn.source) (g.S.Source.left l.source) l.supply
    × (g.S.Source.faults l.fn.source ≤ g.S.Source.faults l.source)
    × TakesFewBehind l.budget (g.S.Source.left l.fn.source) (g.S.Source.left l.source)

abbrev pub decreases-blocks-2 : goal.decreases-blocks-2
decreases-blocks-2 g l = rounds_of l.budget l.held l.supply
