use Rattle.std.proofs.Common.{arith}
use Rattle.message_reports.proofs.Ascending.{last_ascends, pair_before, all_ascend}
use Rattle.message_reports.proofs.maps.ascends.Goals as goal

pub loop-at-init : goal.loop-at-init
loop-at-init g c = record { within = omega arith; ascend = last_ascends c.args.entries.now }

pub loop-at-preserved : goal.loop-at-preserved
loop-at-preserved g c = record {
  within = omega (arith, c.loop-at.invariant.within);
  ascend = pair_before c.args.entries.now c.loop-at.at _ _ c.index-entries-first.result c.index-entries-next.result c.loop-at-test.true c.loop-at.invariant.within (omega arith) (omega arith) c.index-entries-first.is c.index-entries-next.is (cc) c.loop-at.invariant.ascend;
}

pub returns : goal.returns
returns g c = record { order = λ t. all_ascend c.args.entries.now c.loop-at.at c.loop-at-test.false c.loop-at.invariant.ascend }
