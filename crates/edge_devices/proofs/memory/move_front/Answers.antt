use Rattle.std.proofs.Common.{◌+◌, ◌≤◌, length, arith}
use Rattle.std.proofs.lemmas.Grind.{common_steps}
use Rattle.edge_devices.proofs.Lists.{taken_front}
use Rattle.edge_devices.proofs.memory.move_front.Goals as goal

pub returns-clause-front : goal.returns-clause-front
returns-clause-front c =
    let fits : c.args.at + c.min-count.result ≤ length c.args.bytes.now = grind (arith, common_steps) in
    taken_front c.args.bytes.now c.copy_from_slice.new.self _ c.args.at c.min-count.result fits (grind (arith, common_steps))
