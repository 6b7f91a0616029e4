use Rattle.server_sessions.specs.Reports.{host_of}
use Rattle.server_sessions.proofs.HistoryLemmas.{keeps_session_by}
use Rattle.server_sessions.proofs.laws.all_sessions_are_histories.Goals as goal

pub returns : goal.returns
returns g c = record {
  session = λ limit history events old new stop is session.
      keeps_session_by c.table_follows_history.ensures.follows (host_of (λ b. (goal.Handler-dyn g b).answers b.1) c.args.server.now.profile c.args.handlers.now) g.B.Behind.follows g.B.Behind.offers g.met.B.Behind.changes events old new stop session limit history is;
}
