use Rattle.command_fleet.proofs.reports.ReportsHandler.handle.Goals as goal

pub returns-in-Err-Refused-clause-place : goal.returns-in-Err-Refused-clause-place
returns-in-Err-Refused-clause-place c =
    let fault = rw c.in-Err-Refused.field-0-is at c.in-Err-Refused.ensures.refused in
    c.report_fault.ensures.within c.args.message.now c.in-Err-Refused.e.at c.in-Err-Refused.e.why fault
