use Rattle.std.proofs.Common.{arith}
use Rattle.agent_rules.specs.Payloads.{canonical_saved}
use Rattle.agent_rules.proofs.Steps.{counted_few}
use Rattle.store_tests.proofs.kept_payloads.is_written.Goals as goal

pub put_saved-requires : goal.put_saved-requires
put_saved-requires c = record { few = counted_few c.saved_len-len.result (canonical_saved c.args.saved.now) c.saved_len-len.ensures.counts (omega (arith, c.if-len-gt1000.false)) }
