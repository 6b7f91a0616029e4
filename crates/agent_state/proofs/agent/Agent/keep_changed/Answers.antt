use Rattle.std.proofs.Common.{◌≡◌, IsTrue, sym, subst, ◌∙◌}
use Rattle.agent_rules.specs.declared.saved.Saved.{Saved}
use Rattle.agent_rules.specs.Right.{is_right}
use Rattle.agent_state.specs.Sound.{IsSoundAgent}
use Rattle.agent_state.specs.View.{AgentView}
use Rattle.agent_state.specs.Changes.{with_change}
use Rattle.agent_state.proofs.SaveLemmas.{put_back}
use Rattle.agent_state.proofs.agent.Agent.keep_changed.Goals as goal

pub keep-requires-clause-right : goal.keep-requires-clause-right
keep-requires-clause-right g c =
    subst (λ (s : Saved). IsTrue (is_right s)) (sym c.exchange.ensures.put)
    (subst (λ (v : AgentView). IsTrue (is_right v.half.saved) → IsTrue (is_right (with_change c.args.change v.half.saved))) (sym c.self.view_is) c.requires.right c.self.invariant.right)

pub invariant_of-self-in-Err : goal.invariant_of-self-in-Err
invariant_of-self-in-Err g c =
    let back : c.exchange-in-Err.new.saved ≡ c.self.inside.saved =
    c.exchange-in-Err.ensures.put ∙ (λ i. with_change (c.exchange.ensures.taken i) (c.exchange.ensures.put i)) ∙ put_back c.args.change c.self.inside.saved in
    subst (λ (s : Saved). IsSoundAgent (record (c.self.inside) { store = c.keep.new.store; saved = s })) (sym back)
    (record { reserved = c.self.invariant.reserved; right = c.self.invariant.right; tried = c.self.invariant.tried })
