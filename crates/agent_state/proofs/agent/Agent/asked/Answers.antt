use Rattle.agent_rules.specs.Keeping.{TakeReply}
use Rattle.agent_state.proofs.SaveLemmas.{one_save_refused, passed_on}
use Rattle.agent_state.proofs.agent.Agent.asked.Goals as goal

pub returns-in-Err-clause-one_save : goal.returns-in-Err-clause-one_save
returns-in-Err-clause-one_save g c = one_save_refused _ (g.D.Disk.state c.args.disk.now) _ (g.D.Disk.countdown c.args.disk.now) c.args.self.now c.requires.one_room c.requires.fits _ (TakeReply c.args.reply.now) _ (λ is. cc)

pub returns-in-Err-learn-clause-one_save : goal.returns-in-Err-learn-clause-one_save
returns-in-Err-learn-clause-one_save g c = passed_on _ _ _ _ _ _ _ _ _ _ c.in-Err-learn.ensures.one_save
