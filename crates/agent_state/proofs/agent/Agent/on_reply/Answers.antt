use Rattle.std.proofs.Common.{sym, ap, ◌∙◌}
use Rattle.agent_rules.specs.Half.{kept_part}
use Rattle.agent_rules.specs.Keeping.{TakeReply, kept_of_reply}
use Rattle.agent_state.specs.Sound.{view_of}
use Rattle.agent_state.specs.View.{AgentView}
use Rattle.agent_state.proofs.SaveLemmas.{nothing_kept, nothing_tried}
use Rattle.agent_state.proofs.agent.Agent.on_reply.Goals as goal

pub returns-then-not-is_to-clause-one_save : goal.returns-then-not-is_to-clause-one_save
returns-then-not-is_to-clause-one_save g c = nothing_tried _ (g.D.Disk.state c.args.disk.now) _ (g.D.Disk.countdown c.args.disk.now) c.self.inside _ c.self.view_is c.requires.fits _ (TakeReply c.args.reply.now) _ (λ is. cc)

pub returns-in-Err-clause-one_save : goal.returns-in-Err-clause-one_save
returns-in-Err-clause-one_save g c = nothing_tried _ (g.D.Disk.state c.args.disk.now) _ (g.D.Disk.countdown c.args.disk.now) c.self.inside _ c.self.view_is c.requires.fits _ (TakeReply c.args.reply.now) _ (λ is. cc)

pub returns-in-Commanded-clause-one_save : goal.returns-in-Commanded-clause-one_save
returns-in-Commanded-clause-one_save g c =
    nothing_kept _ (g.D.Disk.state c.args.disk.now) _ (g.D.Disk.countdown c.args.disk.now) c.self.inside _ c.self.view_is c.requires.fits c.prove_nothing.new.self (TakeReply c.args.reply.now) _
    (ap (λ h. kept_of_reply (view_of c.self.inside).half h c.args.reply.now) (sym c.heard_in.ensures.heard ∙ c.in-Commanded.is)) (c.prove_nothing.ensures.store ∙ sym (ap (λ (v : AgentView). v.store) c.self.view_is)) (ap kept_part c.prove_nothing.ensures.heard ∙ sym (ap (λ (v : AgentView). kept_part v.half) c.self.view_is))

pub returns-in-Ok-clause-one_save : goal.returns-in-Ok-clause-one_save
returns-in-Ok-clause-one_save g c =
    nothing_kept _ (g.D.Disk.state c.args.disk.now) _ (g.D.Disk.countdown c.args.disk.now) c.self.inside _ c.self.view_is c.requires.fits c.prove_nothing-in-Failed-2.new.self (TakeReply c.args.reply.now) _
    (ap (λ h. kept_of_reply (view_of c.self.inside).half h c.args.reply.now) (sym c.heard_in.ensures.heard ∙ c.in-Failed.is)) (c.prove_nothing-in-Failed-2.ensures.store ∙ sym (ap (λ (v : AgentView). v.store) c.self.view_is)) (ap kept_part c.prove_nothing-in-Failed-2.ensures.heard ∙ sym (ap (λ (v : AgentView). kept_part v.half) c.self.view_is))
