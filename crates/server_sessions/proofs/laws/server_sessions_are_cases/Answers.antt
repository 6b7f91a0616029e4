use Rattle.server_sessions.specs.Reports.{host_of}
use Rattle.server_sessions.proofs.BehindLemmas.{session_alone, session_from}
use Rattle.server_sessions.proofs.laws.server_sessions_are_cases.Goals as goal

pub returns-clause-case : goal.returns-clause-case
returns-clause-case g c = λ events old new stop session. session_from (host_of (λ b. (goal.Handler-dyn g b).answers b.1) c.args.server.now.profile c.args.handlers.now) events old new stop session

pub returns-clause-only : goal.returns-clause-only
returns-clause-only g c = λ events old new stop session. session_alone (host_of (λ b. (goal.Handler-dyn g b).answers b.1) c.args.server.now.profile c.args.handlers.now) events old new stop session
