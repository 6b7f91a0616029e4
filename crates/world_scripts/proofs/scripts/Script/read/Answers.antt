use Rattle.std.proofs.Common.{arith}
use Rattle.world_scripts.proofs.LineCounts.{few_lines}
use Rattle.world_scripts.proofs.scripts.Script.read.Goals as goal

pub invariant_of-result : goal.invariant_of-result
invariant_of-result c =
    let few = few_lines c.args.bytes.now c.in_ok-lines.lines.items c.in_ok-lines.ensures.read in
    omega (arith, few)
