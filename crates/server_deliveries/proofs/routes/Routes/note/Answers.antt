use Rattle.server_deliveries.proofs.Tying.{noted_next}
use Rattle.server_deliveries.proofs.routes.Routes.note.Goals as goal

pub loop-one-preserved : goal.loop-one-preserved
loop-one-preserved c = λ uid.
    noted_next c.note_one.new.self c.loop-one.self c.args.self.now c.args.handled.now c.loop-one.one-index c.one-item.result uid c.loop-one-test.true c.one-item.is
    (c.in_ok-note_one.ensures.noted uid) (c.loop-one.invariant uid)
