use Rattle.std.proofs.Common.{refl, length, arith, ◌≤◌}
use Rattle.edge_devices.specs.declared.wires.WireCall.TheVariants.{Gave}
use Rattle.edge_devices.specs.declared.wires.WireEvent.TheVariants as event
use Rattle.std.proofs.lemmas.Grind.{common_steps}
use Rattle.edge_devices.proofs.OpenOnes.{others_within, open_ended}
use Rattle.edge_devices.proofs.call_log.CallLog.note_closed.Goals as goal

pub invariant_of-self-2 : goal.invariant_of-self-2
invariant_of-self-2 c =
    let was = c.self.invariant in
    let kept = others_within c.args.conn c.self.inside.open_ones.items in
    let short : length c.leave.new.open_ones.items ≤ length c.self.inside.open_ones.items = rw c.leave.ensures kept in (
      search (arith, was.0, short, common_steps),
      rw (c.leave.ensures, c.put_last.ensures.items, c.in_ok-try_reserve.ensures.items) (open_ended c.self.inside.calls.items c.self.inside.open_ones.items was.1 (Gave c.args.at (event.Closed c.args.conn)) c.args.conn (λ conn before. refl)),
    )
