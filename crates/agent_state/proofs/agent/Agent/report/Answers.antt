use Rattle.agent_rules.specs.Keeping.{Report}
use Rattle.agent_state.proofs.SaveLemmas.{nothing_tried, passed_on, fault_of}
use Rattle.agent_state.proofs.agent.Agent.report.Goals as goal

pub returns-in-Err-clause-one_save : goal.returns-in-Err-clause-one_save
returns-in-Err-clause-one_save g c = nothing_tried _ (g.D.Disk.state c.args.disk.now) _ (g.D.Disk.countdown c.args.disk.now) c.self.inside _ c.self.view_is c.requires.fits _ Report _ (λ is. c.in-Err.ensures.no_fault (fault_of _ _ c.in-Err.fail is))

pub returns-in-Err-reserve-clause-one_save : goal.returns-in-Err-reserve-clause-one_save
returns-in-Err-reserve-clause-one_save g c = passed_on _ _ _ _ _ _ _ _ _ _ c.in-Err-reserve.ensures.one_save
