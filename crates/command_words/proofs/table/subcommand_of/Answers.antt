use Rattle.std.proofs.Common.{◌∙◌, ap₂, ◌||◌}
use Rattle.command_words.proofs.TableLemmas.{rules_more}
use Rattle.command_words.proofs.table.subcommand_of.Goals as goal

pub loop-given-preserved : goal.loop-given-preserved
loop-given-preserved c = record {
  shape = rules_more _ _ _ _ _ _ _ c.loop-given.invariant.shape (c.in_ok-command.ensures.shape c.argument_of.ensures.local) c.argument_of.ensures.rule c.loop-given-test.true;
  local = c.in_ok-command.ensures.globals ∙ ap₂ (λ a b. a || b) c.loop-given.invariant.local c.argument_of.ensures.local;
}
