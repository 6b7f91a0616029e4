use Rattle.opamp_tests.proofs.lent.run_over.Goals as goal

pub opamp_main-status-requires-clause-unplayed : goal.opamp_main-status-requires-clause-unplayed
opamp_main-status-requires-clause-unplayed g c = λ κs lives. c.new-lab.ensures.unplayed
