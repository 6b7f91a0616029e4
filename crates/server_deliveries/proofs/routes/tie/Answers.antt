use Rattle.server_deliveries.proofs.Tying.{tied_or_not}
use Rattle.server_deliveries.proofs.routes.tie.Goals as goal

pub returns-clause-tied : goal.returns-clause-tied
returns-clause-tied c = λ ties. (tied_or_not c.args.conns.now c.args.agents.now c.add_agent.new.agents c.args.conn c.args.uid.now c.add_agent.result c.add_agent.ensures.added c.add_agent.ensures.err ties).0

pub returns-clause-own : goal.returns-clause-own
returns-clause-own c = λ ties. (tied_or_not c.args.conns.now c.args.agents.now c.add_agent.new.agents c.args.conn c.args.uid.now c.add_agent.result c.add_agent.ensures.added c.add_agent.ensures.err ties).1
