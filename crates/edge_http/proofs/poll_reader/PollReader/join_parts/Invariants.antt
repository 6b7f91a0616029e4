use Rattle.std.proofs.Common.{length}
use Rattle.edge_http.proofs.Polling.{IsJoining}
use Rattle.edge_http.proofs.poll_reader.PollReader.join_parts.Given as goal

abbrev pub invariant-parts : goal.invariant-parts
invariant-parts l = IsJoining l.initial.self l.self

abbrev pub decreases-parts : goal.decreases-parts
decreases-parts l = length l.self.parts.ready
