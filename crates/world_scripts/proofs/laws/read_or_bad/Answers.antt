use Rattle.std.proofs.Common.{◌∙◌, sym}
use Rattle.world_scripts.specs.Cuts.{lines_in}
use Rattle.world_scripts.proofs.ScriptLaws.{either, one, apart}
use Rattle.world_scripts.proofs.laws.read_or_bad.Goals as goal

pub returns : goal.returns
returns c = record {
  either = λ bytes. either (lines_in bytes);
  one = λ bytes lines others read again. one lines others (sym read ∙ again);
  apart = λ bytes lines at read bad. apart (lines_in bytes) lines at read bad;
}
