use Rattle.std.proofs.Common.{◌∙◌, sym, ap}
use Rattle.world_lab.proofs.GivingUp.{leaves_trial, waits_no_longer, tried_endpoint, no_trial}
use Rattle.world_lab.proofs.agents.stop_waiting.Goals as goal

pub returns : goal.returns
returns c =
    let a = c.args.agent.now.half in
    let some = sym c.if-not-trying.ensures.trying in
    record {
      left = leaves_trial a c.give_up-2.new.self.half c.abandon_try.new.self.half c.requires.awaits some c.give_up-2.ensures.given_up c.abandon_try.ensures.left;
      store = c.abandon_try.ensures.store ∙ c.give_up-2.ensures.store;
      abandoned = tried_endpoint a _ some (c.in_ok-endpoint.ensures.copied ∙ ap (λ t. t.endpoint) c.target.ensures.target);
    }

pub returns-then-not-trying : goal.returns-then-not-trying
returns-then-not-trying c =
    let a = c.args.agent.now.half in
    let none = sym c.if-not-trying.ensures.trying in
    record {
      left = waits_no_longer a c.give_up.new.self.half c.requires.awaits none c.give_up.ensures.given_up;
      store = c.give_up.ensures.store;
      abandoned = no_trial a none;
    }
