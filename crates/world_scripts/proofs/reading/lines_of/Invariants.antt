use Rattle.std.proofs.Common.{◌≡◌, ◌≤◌, ◌+◌, ◌-◌, ◌++◌, map, length, Some}
use Rattle.std.specs.Option.{option_map}
use Rattle.world_scripts.specs.Cuts.{lines_in}
use Rattle.world_scripts.specs.Lines.{line_in}
use Rattle.world_scripts.specs.Scripts.{first_bad_line}
use Rattle.world_scripts.proofs.reading.lines_of.Given as goal

abbrev pub invariant-loop-rest : goal.invariant-loop-rest
invariant-loop-rest l = record {
  within : length l.rest ≤ length l.bytes;
  read : map line_in (lines_in l.bytes) ≡ map Some l.lines.items ++ map line_in (lines_in l.rest);
  bad : first_bad_line (lines_in l.bytes) ≡ option_map (λ n. length l.bytes - length l.rest + n) (first_bad_line (lines_in l.rest));
}

abbrev pub decreases-loop-rest : goal.decreases-loop-rest
decreases-loop-rest l = length l.rest
