use Rattle.std.proofs.Common.{refl}
use Rattle.server_sessions.proofs.behind.NothingBehind.follow.Goals as goal

pub returns-clause-follows : goal.returns-clause-follows
returns-clause-follows g c = λ entropy streams. (streams, refl, (λ stands. stands), (λ keyed. keyed))
