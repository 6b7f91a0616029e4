use Rattle.server_waves.specs.Waves.{resumed, with_halt}
use Rattle.server_waves.proofs.WithinLemmas.{begun_within, changed_within, finished_within, halted_less, left_within, points_within, resumed_less}
use Rattle.server_waves.proofs.laws.rollouts_keep_width.Goals as goal

pub returns-clause-begun : goal.returns-clause-begun
returns-clause-begun c = λ records id sought terms rollouts within. begun_within records id sought terms rollouts within

pub returns-clause-halted : goal.returns-clause-halted
returns-clause-halted c = λ id rollouts within. changed_within with_halt halted_less id rollouts within

pub returns-clause-resumed : goal.returns-clause-resumed
returns-clause-resumed c = λ id rollouts within. changed_within resumed resumed_less id rollouts within

pub returns-clause-finished : goal.returns-clause-finished
returns-clause-finished c = λ id rollouts within. finished_within id rollouts within

pub returns-clause-left : goal.returns-clause-left
returns-clause-left c = λ uid rollouts within. left_within uid rollouts within

pub returns-clause-points : goal.returns-clause-points
returns-clause-points c = λ fine heard rollouts table within. points_within fine heard rollouts table within
