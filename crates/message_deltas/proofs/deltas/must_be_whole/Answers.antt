use Rattle.std.proofs.Common.{sym, ◌∙◌}
use Rattle.message_deltas.proofs.ExactLemmas.{must_be_whole-at_same, exact_if_test}
use Rattle.message_deltas.proofs.deltas.must_be_whole.Goals as goal

pub returns-else-before-now-clause-exactly : goal.returns-else-before-now-clause-exactly
returns-else-before-now-clause-exactly c =
    exact_if_test c.args.before.now c.args.now.now c.args.detailed c.differ_in_all.result (c.differ_in_all.ensures ∙ sym (must_be_whole-at_same c.args.before.now c.args.now.now c.args.detailed c.if-before-now.false))

pub returns-else-before-now-clause-whole : goal.returns-else-before-now-clause-whole
returns-else-before-now-clause-whole c = c.differ_in_all.ensures ∙ sym (must_be_whole-at_same c.args.before.now c.args.now.now c.args.detailed c.if-before-now.false)
