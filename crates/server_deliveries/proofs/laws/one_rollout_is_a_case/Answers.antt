use Rattle.server_deliveries.proofs.DeliveryLemmas.{alone_point, alone_rest}
use Rattle.server_deliveries.proofs.laws.one_rollout_is_a_case.Goals as goal

pub returns-clause-point : goal.returns-clause-point
returns-clause-point c = λ profile ended fine end last kept rolling alone delivers. alone_point fine profile ended end last kept rolling alone delivers

pub returns-clause-rest : goal.returns-clause-rest
returns-clause-rest c = λ profile ended fine end last kept rolling alone delivers. alone_rest fine profile ended end last kept rolling alone delivers
