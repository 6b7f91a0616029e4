use Rattle.server_sessions.proofs.ReadLemmas.{nothing_read}
use Rattle.server_sessions.proofs.bodies.RequestReader.new.Goals as goal

pub returns : goal.returns
returns c = record { nothing = nothing_read c.requests.result c.requests.ensures.kind c.requests.ensures.nothing c.requests.ensures.empty c.requests.ensures.unfailed }
