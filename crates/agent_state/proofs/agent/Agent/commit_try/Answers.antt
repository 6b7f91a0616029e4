use Rattle.std.proofs.Common.{IsTrue, Some, subst, sym, ◌∙◌, ap, unwrap_or, refl}
use Rattle.edge_devices.specs.Endpoints.{is_endpoint}
use Rattle.message_values.specs.declared.state.Settings.{Settings}
use Rattle.agent_rules.specs.Keeping.{CommitTry}
use Rattle.agent_state.proofs.RightLemmas.{right_settings}
use Rattle.agent_state.specs.Sound.{view_of}
use Rattle.agent_state.proofs.SaveLemmas.{part_kept, part_refused}
use Rattle.agent_state.proofs.agent.Agent.commit_try.Goals as goal

pub returns-in-Ok-clause-one_save : goal.returns-in-Ok-clause-one_save
returns-in-Ok-clause-one_save g c =
    part_kept _ _ _ _ c.self.inside _ c.self.view_is c.requires.fits _ CommitTry _ _
    (ap (λ t. Some (record (c.self.inside.saved) { settings = unwrap_or t c.self.inside.saved.settings })) (sym c.take.ensures.value ∙ c.in-Some.is)
    ∙ ap (λ s. Some (record (c.self.inside.saved) { settings = s })) (sym c.replace-former.ensures.after))
    refl c.in-Ok.ensures.saving

pub returns-in-Err-clause-one_save : goal.returns-in-Err-clause-one_save
returns-in-Err-clause-one_save g c =
    part_refused _ _ _ _ c.self.inside _ c.self.view_is c.requires.fits _ _ CommitTry _ _
    (ap (λ t. Some (record (c.self.inside.saved) { settings = unwrap_or t c.self.inside.saved.settings })) (sym c.take.ensures.value ∙ c.in-Some.is)
    ∙ ap (λ s. Some (record (c.self.inside.saved) { settings = s })) (sym c.replace-former.ensures.after))
    c.in-Err.ensures.saving
    (λ same i. view_of (record (c.self.inside) {
      store = sym same i;
      saved = record (c.self.inside.saved) { settings = (c.replace.ensures.after ∙ c.replace-former.ensures.value) i };
      trial = (ap (λ t. Some t) (c.replace.ensures.value ∙ c.replace-former.ensures.after) ∙ sym c.in-Some.is ∙ c.take.ensures.value) i;
    }))

pub keep-requires-clause-right : goal.keep-requires-clause-right
keep-requires-clause-right g c =
    right_settings c.self.inside.saved c.replace-former.new.dest c.self.invariant.right
    (subst (λ (t : Settings). IsTrue (is_endpoint t.endpoint)) (sym c.replace-former.ensures.after)
    (c.self.invariant.tried c.in-Some.tried (sym c.take.ensures.value ∙ c.in-Some.is)))
