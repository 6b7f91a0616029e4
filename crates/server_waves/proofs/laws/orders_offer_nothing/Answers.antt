use Rattle.std.proofs.Common.{refl}
use Rattle.server_waves.specs.Waves.{resumed, with_halt}
use Rattle.server_waves.proofs.OfferedLemmas.{begun_offers, changed_offers, finished_offers, left_offers}
use Rattle.server_waves.proofs.laws.orders_offer_nothing.Goals as goal

pub returns-clause-begun : goal.returns-clause-begun
returns-clause-begun c = λ records id sought terms rollouts. begun_offers records id sought terms rollouts

pub returns-clause-halted : goal.returns-clause-halted
returns-clause-halted c = λ id rollouts. changed_offers with_halt (λ w. refl) id rollouts

pub returns-clause-resumed : goal.returns-clause-resumed
returns-clause-resumed c = λ id rollouts. changed_offers resumed (λ w. refl) id rollouts

pub returns-clause-finished : goal.returns-clause-finished
returns-clause-finished c = λ id rollouts. finished_offers id rollouts

pub returns-clause-left : goal.returns-clause-left
returns-clause-left c = λ uid rollouts. left_offers uid rollouts
