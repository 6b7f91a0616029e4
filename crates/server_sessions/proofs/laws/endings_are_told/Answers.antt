use Rattle.server_sessions.specs.Reports.{host_of}
use Rattle.server_sessions.proofs.BehindLemmas.{risen_by, spent_by, stop_by}
use Rattle.server_sessions.proofs.laws.endings_are_told.Goals as goal

pub returns-clause-fault : goal.returns-clause-fault
returns-clause-fault g c = λ n old new fails. risen_by g.B.Behind.follows g.B.Behind.part (host_of (λ b. (goal.Handler-dyn g b).answers b.1) c.args.server.now.profile c.args.handlers.now) n old new n fails

pub returns-clause-spent : goal.returns-clause-spent
returns-clause-spent g c = λ turns old new other result ends all calls told. spent_by g.B.Behind.follows g.B.Behind.part (host_of (λ b. (goal.Handler-dyn g b).answers b.1) c.args.server.now.profile c.args.handlers.now) turns old new result ends other all calls told

pub returns-clause-stop : goal.returns-clause-stop
returns-clause-stop g c = λ turns n old new result ends all told. stop_by g.B.Behind.follows g.B.Behind.part (host_of (λ b. (goal.Handler-dyn g b).answers b.1) c.args.server.now.profile c.args.handlers.now) turns old new result ends n all told
