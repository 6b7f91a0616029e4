use Rattle.std.proofs.Common.{◌≡◌, length}
use Rattle.server_lines.specs.Words.{files_in}
use Rattle.server_lines.proofs.ArgumentLemmas.{words}
use Rattle.server_lines.proofs.FieldLemmas.{with_rest}
use Rattle.server_lines.proofs.fields.files_in.Given as goal

abbrev pub invariant-loop-rest : goal.invariant-loop-rest
invariant-loop-rest l = files_in (words l.words) ≡ with_rest files_in l.files.items l.rest

abbrev pub decreases-loop-rest : goal.decreases-loop-rest
decreases-loop-rest l = length l.rest
