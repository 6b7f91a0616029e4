use Rattle.std.proofs.Common.{◌≡◌}
use Rattle.std.specs.List.{flat_map}
use Rattle.std.specs.String.{string_bytes}
use Rattle.server_lines.specs.Answers.{rollout_line}
use Rattle.server_lines.proofs.ListLemmas.{with_each}
use Rattle.server_lines.proofs.telling.rollouts_text.Given as goal

abbrev pub invariant-loop-rollout : goal.invariant-loop-rollout
invariant-loop-rollout l = with_each rollout_line (string_bytes l.text) l.rollout-index l.rollouts ≡ flat_map rollout_line l.rollouts
