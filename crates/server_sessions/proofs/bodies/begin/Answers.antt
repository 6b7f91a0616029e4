use Rattle.server_sessions.proofs.RequestLemmas.{begun_read, begun_refused}
use Rattle.server_sessions.proofs.bodies.begin.Goals as goal

pub returns-in-Some : goal.returns-in-Some
returns-in-Some c = record { begun = begun_refused c.args.head.now c.in-Some.status c.in-Some.ensures.status }

pub returns-in-None : goal.returns-in-None
returns-in-None c = record { begun = begun_read c.args.head.now c.new.result c.in-None.ensures.status c.new.ensures.nothing }
