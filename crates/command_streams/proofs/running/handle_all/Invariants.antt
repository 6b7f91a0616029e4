use Rattle.std.proofs.Common.{◌-◌, ◌≤◌}
use Rattle.command_streams.specs.Held.{taken_of}
use Rattle.command_streams.proofs.Steps.{IsAt}
use Rattle.command_streams.proofs.Turns.{IsAsked}
use Rattle.command_streams.proofs.running.handle_all.Given as goal

abbrev pub invariant-rounds : goal.invariant-rounds
invariant-rounds g l =
    IsAt g.H.Handler.gives l.fn.handler l.budget l.held l.handler (g.S.Source.left l.fn.source) (g.S.Source.left l.source) (g.K.Sink.taken l.fn.sink) (g.K.Sink.taken l.sink)
    × (g.S.Source.faults l.fn.source ≤ g.S.Source.faults l.source)
    × (g.K.Sink.faults l.fn.sink ≤ g.K.Sink.faults l.sink)
    × IsAsked l.held.bytes

abbrev pub decreases-rounds : goal.decreases-rounds
decreases-rounds g l = l.budget - taken_of l.held
