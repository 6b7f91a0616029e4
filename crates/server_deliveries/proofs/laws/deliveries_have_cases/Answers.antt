use Rattle.server_sessions.specs.Reports.{host_of}
use Rattle.server_deliveries.proofs.DeliveryLemmas.{none_case, none_only, pushes_case, pushes_only}
use Rattle.server_deliveries.proofs.laws.deliveries_have_cases.Goals as goal

pub returns : goal.returns
returns g c = record {
  nothing = λ fine events old new stop session. none_case fine (host_of (λ b. (goal.Handler-dyn g b).answers b.1) c.args.server.now.profile c.args.handlers.now) events stop old new session;
  nothing_only = λ fine events old new stop session. none_only fine (host_of (λ b. (goal.Handler-dyn g b).answers b.1) c.args.server.now.profile c.args.handlers.now) events stop old new session;
  pushes = λ fine events old new stop session. pushes_case fine (host_of (λ b. (goal.Handler-dyn g b).answers b.1) c.args.server.now.profile c.args.handlers.now) events stop old new session;
  pushes_only = λ fine events old new stop session. pushes_only fine (host_of (λ b. (goal.Handler-dyn g b).answers b.1) c.args.server.now.profile c.args.handlers.now) events stop old new session;
}
