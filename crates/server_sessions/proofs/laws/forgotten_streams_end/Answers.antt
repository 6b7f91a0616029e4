use Rattle.server_sessions.proofs.LoopLemmas.{forgets_stands}
use Rattle.server_sessions.proofs.laws.forgotten_streams_end.Goals as goal

pub returns : goal.returns
returns c = record { stands = forgets_stands }
