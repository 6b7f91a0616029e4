use Rattle.std.proofs.Common.{◌∙◌, ap}
use Rattle.server_deliveries.specs.Routes.{without}
use Rattle.server_deliveries.specs.Views.{Entries, reach_of}
use Rattle.server_deliveries.proofs.Tying.{forgotten, tied_forgotten}
use Rattle.server_deliveries.proofs.routes.Routes.forget.Goals as goal

pub invariant_of-self : goal.invariant_of-self
invariant_of-self c = record {
  tied = tied_forgotten c.self.inside.conns c.drop_from.new.conns c.self.inside.agents c.take_agents-uids.new.agents c.args.conn c.deref.result.now c.self.invariant.tied
      (c.deref.ensures.value ∙ c.take_agents-uids.ensures.taken) c.drop_from.ensures.dropped c.take_agents-uids.ensures.others;
  filled = c.drop_from.ensures.filled c.self.invariant.filled;
  owned = c.take_agents-uids.ensures.owned c.self.invariant.owned;
}

pub returns : goal.returns
returns c = record {
  forgets = λ uid. forgotten c.self.inside.conns c.drop_from.new.conns c.self.inside.agents c.take_agents-uids.new.agents c.args.conn c.deref.result.now c.self.invariant.tied
      (c.deref.ensures.value ∙ c.take_agents-uids.ensures.taken) c.drop_from.ensures.dropped uid
      ∙ ap (λ (entries : Entries). without c.args.conn (reach_of entries uid)) c.self.view_is;
}
