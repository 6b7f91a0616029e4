use Rattle.server_sessions.specs.Reports.{host_of}
use Rattle.server_deliveries.proofs.TurnLemmas.{session_case, session_only}
use Rattle.server_deliveries.proofs.laws.pushing_sessions_are_cases.Goals as goal

pub returns-clause-case : goal.returns-clause-case
returns-clause-case g c = λ events old new stop session. session_case (host_of (λ b. (goal.Handler-dyn g b).answers b.1) c.args.server.now.profile c.args.handlers.now) events old new stop session

pub returns-clause-only : goal.returns-clause-only
returns-clause-only g c = λ events old new stop session. session_only (host_of (λ b. (goal.Handler-dyn g b).answers b.1) c.args.server.now.profile c.args.handlers.now) events old new stop session
