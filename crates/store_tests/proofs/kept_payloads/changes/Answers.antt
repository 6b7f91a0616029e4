use Rattle.std.proofs.Common.{arith}
use Rattle.agent_rules.specs.Spelled.{change}
use Rattle.agent_rules.proofs.Steps.{counted_few}
use Rattle.store_tests.proofs.kept_payloads.changes.Goals as goal

pub put_change-requires : goal.put_change-requires
put_change-requires c = record { few = counted_few c.change_len-len.result (change c.args.former.now c.args.next.now) c.change_len-len.ensures.counts (omega (arith, c.if-len-gt1000.false)) }
