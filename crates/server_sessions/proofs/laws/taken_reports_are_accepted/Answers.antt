use Rattle.server_sessions.specs.Reports.{host_of}
use Rattle.server_sessions.proofs.HistoryLemmas.{replies_due}
use Rattle.server_sessions.proofs.Taken.{taken_accepted}
use Rattle.server_sessions.proofs.laws.taken_reports_are_accepted.Goals as goal

pub returns : goal.returns
returns g c = record {
  accepted = λ limit history m old new reply conn ws uid is replies none.
      taken_accepted c.asks_where_not_accepted.ensures.asked limit c.args.server.now.profile history m replies.fresh replies.answer reply conn ws uid
      (replies_due c.table_follows_history.ensures.follows (host_of (λ b. (goal.Handler-dyn g b).answers b.1) c.args.server.now.profile c.args.handlers.now)
      c.table_follows_history.ensures.replies limit history m old new reply is replies).0 none;
}
