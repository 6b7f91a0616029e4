use Rattle.server_sessions.specs.Reports.{host_of}
use Rattle.server_deliveries.proofs.DeliveryLemmas.{session_within}
use Rattle.server_deliveries.proofs.laws.sessions_keep_width.Goals as goal

pub returns : goal.returns
returns g c =
    let law = c.rollouts_keep_width.ensures in
    record {
      width = session_within (host_of (λ b. (goal.Handler-dyn g b).answers b.1) c.args.server.now.profile c.args.handlers.now) law.begun law.halted law.resumed law.finished law.left law.points;
    }
