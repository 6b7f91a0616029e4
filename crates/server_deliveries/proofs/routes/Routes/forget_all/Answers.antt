use Rattle.server_deliveries.proofs.Tying.{ended_next}
use Rattle.server_deliveries.proofs.routes.Routes.forget_all.Goals as goal

pub loop-conn-preserved : goal.loop-conn-preserved
loop-conn-preserved c = λ uid.
    ended_next c.forget.new.self c.loop-conn.self c.args.self.now c.args.ended.now c.loop-conn.conn-index uid c.loop-conn-test.true (c.forget.ensures.forgets uid) (c.loop-conn.invariant uid)
