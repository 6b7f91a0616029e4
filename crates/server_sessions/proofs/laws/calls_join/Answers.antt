use Rattle.std.proofs.Common.{refl}
use Rattle.edge_devices.specs.declared.wires.WireCall.TheVariants.{Closed, LostOn, Sent}
use Rattle.server_sessions.proofs.ToldLemmas.{done_gives, done_none, gives_more, gives_none}
use Rattle.server_sessions.proofs.laws.calls_join.Goals as goal

pub returns-clause-none : goal.returns-clause-none
returns-clause-none c = gives_none

pub returns-clause-joined : goal.returns-clause-joined
returns-clause-joined c = gives_more

pub returns-clause-given : goal.returns-clause-given
returns-clause-given c = done_gives

pub returns-clause-sent : goal.returns-clause-sent
returns-clause-sent c = λ a b conn bytes done. done_none (Sent conn bytes) a b refl done

pub returns-clause-lost : goal.returns-clause-lost
returns-clause-lost c = λ a b conn lost. done_none (LostOn conn) a b refl (record { told = lost.told; count = lost.count })

pub returns-clause-closed : goal.returns-clause-closed
returns-clause-closed c = λ a b conn done. done_none (Closed conn) a b refl done
