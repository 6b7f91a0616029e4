use Rattle.std.proofs.Common.{length}
use Rattle.command_fleet.specs.Decoding.{AreDecodedIn}
use Rattle.command_fleet.proofs.Blocks.{IsTaken}
use Rattle.command_fleet.proofs.blockwise.take_parts.Given as goal

abbrev pub invariant-parts : goal.invariant-parts
invariant-parts l = AreDecodedIn l.fn.held.bytes l.parts.items × IsTaken l.fn.reports l.fn.held l.passed l.reports l.held

abbrev pub decreases-parts : goal.decreases-parts
decreases-parts l = length l.parts.items
