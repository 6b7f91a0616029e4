use Rattle.server_sessions.specs.Reports.{host_of}
use Rattle.server_sessions.proofs.StepLemmas.{half_gives}
use Rattle.server_sessions.proofs.ToldLemmas.{session_gives}
use Rattle.server_sessions.proofs.laws.sessions_tell_their_events.Goals as goal

pub returns-clause-given : goal.returns-clause-given
returns-clause-given g c = session_gives (host_of (λ b. (goal.Handler-dyn g b).answers b.1) c.args.server.now.profile c.args.handlers.now)

pub returns-clause-half : goal.returns-clause-half
returns-clause-half g c = λ seen e s wire desk half.
    half_gives (host_of (λ b. (goal.Handler-dyn g b).answers b.1) c.args.server.now.profile c.args.handlers.now) seen e s.streams s.wire wire s.desk desk half
