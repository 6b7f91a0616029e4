use Rattle.agent_offers.proofs.states.Trying.into_broken.Goals as goal

pub returns : goal.returns
returns g c = record { offer = c.self.view_is }
