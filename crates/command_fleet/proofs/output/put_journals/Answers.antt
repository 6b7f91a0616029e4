use Rattle.std.proofs.Common.{◌++◌, List, ap, ◌∙◌}
use Rattle.shard_journals.specs.declared.rows.Row.{Row}
use Rattle.command_fleet.specs.Output.{journal_frames}
use Rattle.command_fleet.proofs.Frames.{one_more}
use Rattle.command_fleet.proofs.output.put_journals.Goals as goal

pub loop-shard-preserved : goal.loop-shard-preserved
loop-shard-preserved c =
    let n = c.loop-shard.shard in
    let rows = c.index-journals-shard.result in
    c.in_ok-put_journal.ensures.added
    ∙ ap (λ (rs : List Row). c.loop-shard.output.bytes ++ journal_frames n rs) c.as_slice.ensures.value
    ∙ one_more c.args.journals.now n rows c.loop-shard-test.true c.index-journals-shard.is c.args.output.now.bytes c.loop-shard.output.bytes c.loop-shard.invariant
