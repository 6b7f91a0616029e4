use Rattle.agent_rules.specs.Keeping.{PackagesDone}
use Rattle.agent_rounds.proofs.CallLemmas.{call_made, call_refused}
use Rattle.agent_rounds.proofs.installing.keep_statuses.Goals as goal

pub returns-in-Ok-clause-does : goal.returns-in-Ok-clause-does
returns-in-Ok-clause-does g c = λ s.
    call_made (PackagesDone c.args.statuses) (g.D.Disk.state c.args.disk.now) (g.D.Disk.state c.packages_done.new.disk) (g.D.Disk.countdown c.args.disk.now) (g.D.Disk.countdown c.packages_done.new.disk)
    c.args.agent.now c.packages_done.new.self s tt c.in-Ok.ensures.room c.in-Ok.ensures.kept c.in-Ok.ensures.one_save

pub returns-in-Err-clause-does : goal.returns-in-Err-clause-does
returns-in-Err-clause-does g c = λ s.
    call_refused (PackagesDone c.args.statuses) (g.D.Disk.state c.args.disk.now) (g.D.Disk.state c.packages_done.new.disk) (g.D.Disk.countdown c.args.disk.now) (g.D.Disk.countdown c.packages_done.new.disk)
    c.args.agent.now c.packages_done.new.self s (Unit {0}) c.in-Err.fail c.end_of.result c.end_of.ensures.end c.in-Err.ensures.one_save.room c.requires.fits c.in-Err.ensures.one_save c.in-Err.ensures.refused
