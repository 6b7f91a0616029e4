use Rattle.std.proofs.Common.{sym, ◌∙◌}
use Rattle.command_frames.proofs.Endings.{read_fault_ending}
use Rattle.command_frames.proofs.running.run_by.Goals as goal

pub returns-clause-framed : goal.returns-clause-framed
returns-clause-framed g c = (c.run.result, c.status.ensures.status, c.run.ensures.answers)

pub returns-clause-before_read_fault : goal.returns-clause-before_read_fault
returns-clause-before_read_fault g c three = c.run.ensures.before_read_fault (read_fault_ending c.run.result (sym c.status.ensures.status ∙ three))
