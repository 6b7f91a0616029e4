use Rattle.std.proofs.Common.{ap}
use Rattle.agent_offers.proofs.states.Trying.into_tried.Goals as goal

pub returns : goal.returns
returns g c = record { tried = ap (λ o. o.tried) c.self.view_is }
