use Rattle.edge_wire.proofs.Resting.{resting-looks}
use Rattle.edge_wire.proofs.connection.Connection.step.Goals as goal

pub returns-then-not-flush_waiting-clause-names : goal.returns-then-not-flush_waiting-clause-names
returns-then-not-flush_waiting-clause-names c = c.broken.ensures.names _

pub returns-then-not-flush_waiting-clause-looks : goal.returns-then-not-flush_waiting-clause-looks
returns-then-not-flush_waiting-clause-looks c waits = absurd (c.broken.ensures.goes_on waits)

pub returns-then-not-flush_waiting-clause-rests : goal.returns-then-not-flush_waiting-clause-rests
returns-then-not-flush_waiting-clause-rests c _ waits = absurd (c.broken.ensures.goes_on waits)

pub returns-in-Open-clause-looks : goal.returns-in-Open-clause-looks
returns-in-Open-clause-looks c waits = resting-looks c.open_step.new.self (c.open_step.ensures.rests waits)
