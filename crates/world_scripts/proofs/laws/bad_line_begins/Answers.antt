use Rattle.std.proofs.Common.{refl}
use Rattle.world_scripts.specs.Cuts.{lines_in}
use Rattle.world_scripts.proofs.PlaceLemmas.{bad_line_begins}
use Rattle.world_scripts.proofs.laws.bad_line_begins.Goals as goal

pub returns : goal.returns
returns c = record { begins = λ bytes at bad. bad_line_begins (lines_in bytes) bytes at refl bad }
