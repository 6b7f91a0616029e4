use Rattle.server_core.specs.History.{Reported}
use Rattle.server_core.specs.Table.{table_after}
use Rattle.server_sessions.proofs.Plainly.{replied_plainly, same_profile}
use Rattle.server_sessions.proofs.answers.replying.take_plainly.Goals as goal

pub returns-clause-plain : goal.returns-clause-plain
returns-clause-plain c =
    replied_plainly c.args.server.now c.take_plainly.new.self c.args.report.now c.take_plainly.result
    (c.asks_nothing.ensures.unasked c.if-not-asks_nothing.false) (c.asks_nothing.ensures.silent c.if-not-asks_nothing.false) c.take_plainly.ensures.reply c.take_plainly.ensures.table

pub returns-clause-profile : goal.returns-clause-profile
returns-clause-profile c =
    same_profile c.args.server.now c.take_plainly.new.self (table_after c.args.server.now.table (Reported c.args.report.now)) c.take_plainly.result c.take_plainly.ensures.table c.take_plainly.ensures.none
