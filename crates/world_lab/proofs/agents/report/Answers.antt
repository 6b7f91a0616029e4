use Rattle.std.proofs.Common.{refl}
use Rattle.world_lab.proofs.Reporting.{is_reported, is_unreported, numbers_spent, report_stops, too_large}
use Rattle.world_lab.proofs.agents.report.Goals as goal

pub returns-in-Ok-clause-sent : goal.returns-in-Ok-clause-sent
returns-in-Ok-clause-sent c =
    is_reported c.args.host.now c.report.new.agent c.report.new.disk c.in-Ok.prepared c.requires.hosted c.in-Ok.ensures.due c.in-Ok.ensures.reported c.in-Ok.ensures.prepared c.in-Ok.ensures.played

pub returns-in-Err-TooLarge-clause-sent : goal.returns-in-Err-TooLarge-clause-sent
returns-in-Err-TooLarge-clause-sent c =
    is_unreported c.args.host.now c.report.new.agent c.report.new.disk _ (λ e. cc e, λ e. cc e) c.requires.hosted
    (too_large c.args.host.now c.requires.hosted (rw c.in-Err-TooLarge.field-0-is at c.in-Err-TooLarge.ensures.refused))
    (rw c.in-Err-TooLarge.field-0-is at c.in-Err-TooLarge.ensures.played)

pub returns-in-Err-NumbersSpent-clause-sent : goal.returns-in-Err-NumbersSpent-clause-sent
returns-in-Err-NumbersSpent-clause-sent c =
    is_unreported c.args.host.now c.report.new.agent c.report.new.disk _ (λ e. cc e, λ e. cc e) c.requires.hosted
    (numbers_spent c.args.host.now c.requires.generations (rw c.in-Err-NumbersSpent.field-0-is at c.in-Err-NumbersSpent.ensures.refused))
    (rw c.in-Err-NumbersSpent.field-0-is at c.in-Err-NumbersSpent.ensures.played)

pub returns-in-Err-StoreFault-clause-stopped : goal.returns-in-Err-StoreFault-clause-stopped
returns-in-Err-StoreFault-clause-stopped c = λ is.
    report_stops c.args.host.now c.report.new.agent c.report.new.disk c.requires.hosted (rw c.in-Err-StoreFault.field-0-is at c.in-Err-StoreFault.ensures.played)

pub returns-in-Err-StoreFault-clause-due : goal.returns-in-Err-StoreFault-clause-due
returns-in-Err-StoreFault-clause-due c = λ is. (rw c.in-Err-StoreFault.field-0-is at c.in-Err-StoreFault.ensures.fault_due) refl
