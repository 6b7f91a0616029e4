use Rattle.std.proofs.lemmas.Result.{IfOk-weaker}
use Rattle.std.proofs.Common.{refl}
use Rattle.command_streams.specs.Reading.{state_after}
use Rattle.command_fleet.proofs.blockwise.handle_block.Goals as goal

pub returns : goal.returns
returns c =
    let handled = c.handle_held.ensures.handles in
    let state = state_after c.take_parts.new.reports handled.0 in
    let passes = c.frames_pass.ensures.behind c.args.reports.now c.take_parts.new.reports state c.args.held.now c.take_parts.new.held c.handle_held.new.held c.in_ok-take_parts.ensures.passes (handled.0, handled.1, refl) in
    record { halts = IfOk-weaker c.handle_held.result _ _ (λ halt is. (state, passes, is)) handled.2 }
