use Rattle.std.proofs.Common.{◌-◌, length}
use Rattle.command_fleet.proofs.Blocks.{IsDecodedTo}
use Rattle.command_fleet.proofs.decoding.decode_from.Given as goal

abbrev pub invariant-frames : goal.invariant-frames
invariant-frames l = IsDecodedTo l.block l.from l.at l.reports.items

abbrev pub decreases-frames : goal.decreases-frames
decreases-frames l = length l.block - l.at
