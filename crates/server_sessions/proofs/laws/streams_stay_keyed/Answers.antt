use Rattle.std.specs.Ordering.{nat_cmp}
use Rattle.std.specs.BTreeMap.{is_at}
use Rattle.server_sessions.proofs.Keyed.{keyed_without}
use Rattle.server_sessions.proofs.laws.streams_stay_keyed.Goals as goal

pub returns : goal.returns
returns c = record { keyed = λ conn streams keyed. keyed_without (is_at (nat_cmp conn)) streams keyed }
