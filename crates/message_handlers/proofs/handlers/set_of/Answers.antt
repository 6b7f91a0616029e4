use Rattle.message_handlers.proofs.Ordering.{gathers_more}
use Rattle.message_handlers.proofs.handlers.set_of.Goals as goal

pub loop-name-preserved : goal.loop-name-preserved
loop-name-preserved c =
    gathers_more _ _ c.name-item.result _ _ c.requires.short c.loop-name.invariant c.loop-name-test.true c.name-item.is c.in_ok-add.ensures.set c.in_ok-add.ensures.found
