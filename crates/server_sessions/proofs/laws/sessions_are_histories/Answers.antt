use Rattle.std.proofs.Common.{refl}
use Rattle.server_sessions.specs.Reports.{host_of}
use Rattle.server_sessions.proofs.HistoryLemmas.{keeps_items, keeps_session, replies_due}
use Rattle.server_sessions.proofs.laws.sessions_are_histories.Goals as goal

pub returns-clause-session : goal.returns-clause-session
returns-clause-session g c = λ limit history events old new stop is session.
    keeps_session c.table_follows_history.ensures.follows (host_of (λ b. (goal.Handler-dyn g b).answers b.1) c.args.server.now.profile c.args.handlers.now)
    events old new stop session limit history is

pub returns-clause-items : goal.returns-clause-items
returns-clause-items g c = λ limit history kind conn items old new end is served.
    keeps_items c.table_follows_history.ensures.follows (host_of (λ b. (goal.Handler-dyn g b).answers b.1) c.args.server.now.profile c.args.handlers.now)
    conn kind items old new end served limit history is

pub returns-clause-replies : goal.returns-clause-replies
returns-clause-replies g c = λ limit history m old new reply is replies.
    replies_due c.table_follows_history.ensures.follows (host_of (λ b. (goal.Handler-dyn g b).answers b.1) c.args.server.now.profile c.args.handlers.now)
    c.table_follows_history.ensures.replies limit history m old new reply is replies

pub returns-clause-first : goal.returns-clause-first
returns-clause-first g c = λ limit. refl
