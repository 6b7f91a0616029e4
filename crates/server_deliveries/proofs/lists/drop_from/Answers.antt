use Rattle.server_deliveries.specs.Lists.{conns_at}
use Rattle.server_deliveries.proofs.Keyed.{dropped_more}
use Rattle.server_deliveries.proofs.lists.drop_from.Goals as goal

pub loop-uid-preserved : goal.loop-uid-preserved
loop-uid-preserved c = (
  λ u.
      dropped_more c.args.conn (conns_at c.args.conns.now u) (conns_at c.loop-uid.conns u) (conns_at c.drop_at.new.conns u) c.args.uids.now c.loop-uid.uid-index u c.loop-uid-test.true
      (c.loop-uid.invariant.0 u) (c.drop_at.ensures.dropped u),
  λ whole. c.drop_at.ensures.filled (c.loop-uid.invariant.1 whole),
)
