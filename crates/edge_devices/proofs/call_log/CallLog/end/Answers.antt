use Rattle.std.proofs.Common.{◌≡◌, ◌∙◌, true, length, sym, ap, arith, ◌≤◌, ◌+◌}
use Rattle.edge_devices.specs.WireLogs.{is_in}
use Rattle.edge_devices.proofs.OpenOnes.{others_fewer, open_ended}
use Rattle.edge_devices.proofs.call_log.CallLog.end.Goals as goal

pub invariant_of-self : goal.invariant_of-self
invariant_of-self c =
    let was = c.self.invariant in
    let there : is_in c.args.conn c.self.inside.open_ones.items ≡ true = ap (is_in c.args.conn) (sym c.deref.ensures.value) ∙ sym c.contains.ensures.value ∙ c.if-not-contains.false in
    let fewer = others_fewer c.args.conn c.self.inside.open_ones.items there in
    let short : length c.leave.new.open_ones.items + 1 ≤ length c.self.inside.open_ones.items = rw c.leave.ensures fewer in (
      omega (arith, was.0, short, c.put_last.ensures.len, c.put_last.ensures.capacity),
      rw (c.leave.ensures, c.put_last.ensures.items) (open_ended c.self.inside.calls.items c.self.inside.open_ones.items was.1 c.args.call c.args.conn c.requires.ends),
    )
