use Rattle.std.proofs.Common.{Ok, Err, refl, subst}
use Rattle.message_values.specs.declared.config.RemoteConfigStatus.{RemoteConfigStatus}
use Rattle.std.specs.Prelude.{None}
use Rattle.agent_rules.specs.Keeping.{ConfigDone}
use Rattle.agent_rules.specs.Offers.{failed_call}
use Rattle.agent_config.specs.Config.{as_offer}
use Rattle.agent_rules.specs.Half.{no_config}
use Rattle.agent_rounds.specs.declared.ends.AgentEnd.TheVariants.{NoMemory}
use Rattle.agent_rounds.specs.Moments.{RunsPart, with_agent}
use Rattle.agent_rounds.specs.Stages.{MakesCall}
use Rattle.agent_rounds.proofs.CallLemmas.{call_made, call_refused}
use Rattle.agent_rounds.proofs.RunLemmas.{run_beside}
use Rattle.agent_rounds.proofs.configuring.keep_failure.Goals as goal

pub returns-in-Err-clause-does : goal.returns-in-Err-clause-does
returns-in-Err-clause-does g c = λ s.
    run_beside (MakesCall (failed_call (as_offer no_config c.args.hash.now) c.args.reason.now)) (g.D.Disk.state c.args.disk.now) (with_agent c.args.agent.now s) (with_agent c.args.agent.now s) (Err NoMemory)
    c.requires.fits refl refl refl (tt, refl)

pub returns-in-Ok-config_done-clause-does : goal.returns-in-Ok-config_done-clause-does
returns-in-Ok-config_done-clause-does g c = λ s.
    subst (λ (status : RemoteConfigStatus). RunsPart (MakesCall (ConfigDone None status)) (g.D.Disk.state c.args.disk.now) (g.D.Disk.state c.config_done.new.disk) (with_agent c.args.agent.now s) (with_agent c.config_done.new.self s) (Ok tt))
    c.in-Ok.ensures
    (call_made (ConfigDone None c.in-Ok.status) (g.D.Disk.state c.args.disk.now) (g.D.Disk.state c.config_done.new.disk) (g.D.Disk.countdown c.args.disk.now) (g.D.Disk.countdown c.config_done.new.disk)
    c.args.agent.now c.config_done.new.self s tt c.in-Ok-config_done.ensures.room c.in-Ok-config_done.ensures.kept c.in-Ok-config_done.ensures.one_save)

pub returns-in-Err-config_done-clause-does : goal.returns-in-Err-config_done-clause-does
returns-in-Err-config_done-clause-does g c = λ s.
    subst (λ (status : RemoteConfigStatus). RunsPart (MakesCall (ConfigDone None status)) (g.D.Disk.state c.args.disk.now) (g.D.Disk.state c.config_done.new.disk) (with_agent c.args.agent.now s) (with_agent c.config_done.new.self s) (Err c.end_of.result))
    c.in-Ok.ensures
    (call_refused (ConfigDone None c.in-Ok.status) (g.D.Disk.state c.args.disk.now) (g.D.Disk.state c.config_done.new.disk) (g.D.Disk.countdown c.args.disk.now) (g.D.Disk.countdown c.config_done.new.disk)
    c.args.agent.now c.config_done.new.self s (Unit {0}) c.in-Err-config_done.fail c.end_of.result c.end_of.ensures.end c.in-Err-config_done.ensures.one_save.room c.requires.fits c.in-Err-config_done.ensures.one_save c.in-Err-config_done.ensures.refused)
