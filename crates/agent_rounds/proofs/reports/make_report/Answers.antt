use Rattle.std.proofs.Common.{Err, ap}
use Rattle.agent_rules.specs.declared.rules.parts.Prepared.{Prepared}
use Rattle.agent_rounds.proofs.ReportLemmas.{report_made, report_refused}
use Rattle.agent_rounds.proofs.reports.make_report.Goals as goal

pub returns-in-Ok-clause-runs : goal.returns-in-Ok-clause-runs
returns-in-Ok-clause-runs g c =
    λ s. report_made _ _ _ _ c.args.agent.now c.report.new.self s c.in-Ok.prepared c.in-Ok.prepared.bytes c.in-Ok.ensures.prepared.bytes c.in-Ok.ensures.due c.in-Ok.ensures.reported
    c.in-Ok.ensures.one_save

pub returns-in-Err-clause-runs : goal.returns-in-Err-clause-runs
returns-in-Err-clause-runs g c =
    λ s. report_refused _ _ _ _ c.args.agent.now c.report.new.self s Prepared c.in-Err.fail c.end_of.result c.end_of.ensures.end c.in-Err.ensures.one_save.room c.requires.fits
    c.in-Err.ensures.one_save c.in-Err.ensures.refused (λ is. c.in-Err.ensures.fault_due (ap Err is))

pub returns-in-Ok-clause-fits : goal.returns-in-Ok-clause-fits
returns-in-Ok-clause-fits g c = c.in-Ok.ensures.one_save.fits (λ is. cc)
