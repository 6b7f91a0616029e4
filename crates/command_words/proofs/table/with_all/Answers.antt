use Rattle.command_words.proofs.TableLemmas.{all_more}
use Rattle.command_words.proofs.table.with_all.Goals as goal

pub loop-given-preserved : goal.loop-given-preserved
loop-given-preserved c =
    all_more _ _ _ _ _ _ _ c.loop-given.invariant (c.in_ok-program.ensures.shape c.in_ok-subcommand_of.ensures.local) c.in_ok-subcommand_of.ensures.shape c.loop-given-test.true
