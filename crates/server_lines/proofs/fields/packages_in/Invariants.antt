use Rattle.std.proofs.Common.{◌≡◌, length}
use Rattle.server_lines.specs.Words.{packages_in}
use Rattle.server_lines.proofs.ArgumentLemmas.{words}
use Rattle.server_lines.proofs.FieldLemmas.{with_rest}
use Rattle.server_lines.proofs.fields.packages_in.Given as goal

abbrev pub invariant-loop-rest : goal.invariant-loop-rest
invariant-loop-rest l = packages_in (words l.words) ≡ with_rest packages_in l.entries.items l.rest

abbrev pub decreases-loop-rest : goal.decreases-loop-rest
decreases-loop-rest l = length l.rest
