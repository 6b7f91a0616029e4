use Rattle.std.proofs.Common.{ap}
use Rattle.agent_offers.proofs.states.Trying.abandon.Goals as goal

pub returns : goal.returns
returns g c = record { former = ap (λ o. o.former) c.self.view_is }
