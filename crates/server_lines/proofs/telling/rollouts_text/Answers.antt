use Rattle.std.specs.String.{string_bytes}
use Rattle.server_lines.specs.Answers.{rollout_line}
use Rattle.server_lines.proofs.ListLemmas.{each_more}
use Rattle.server_lines.proofs.telling.rollouts_text.Goals as goal

pub loop-rollout-preserved : goal.loop-rollout-preserved
loop-rollout-preserved c =
    each_more rollout_line (string_bytes c.loop-rollout.text) (string_bytes c.put_rollout.new.text) c.loop-rollout.rollout-index c.rollout-item.result c.args.rollouts.now c.loop-rollout-test.true c.rollout-item.is c.in_ok-put_rollout.ensures.ok c.loop-rollout.invariant
