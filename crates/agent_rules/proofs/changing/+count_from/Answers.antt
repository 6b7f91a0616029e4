use Rattle.std.proofs.Common.{◌∙◌}
use Rattle.agent_rules.proofs.Steps.{Walks, count_end, count_step}
use Rattle.agent_rules.proofs.changing.+count_from.Goals as goal

pub returns-then-number-gt-LAST_FIELD-clause-counts : goal.returns-then-number-gt-LAST_FIELD-clause-counts
returns-then-number-gt-LAST_FIELD-clause-counts t c = count_end c.args.total c.args.number c.args.former.now c.args.next.now c.requires.total c.if-number-gt-LAST_FIELD.true

pub returns-clause-counts : goal.returns-clause-counts
returns-clause-counts t c =
    let walks : Walks c.args.number c.args.former.now c.args.next.now c.split_at.result.0.now c.split_at.result.1.now c.split_at-2.result.0.now c.split_at-2.result.1.now = record { front_is = c.split_at.ensures.front ∙ c.field_len.ensures.piece; former_is = c.split_at.ensures.back ∙ c.field_len.ensures.rest; back_is = c.split_at-2.ensures.front ∙ c.field_len-2.ensures.piece; next_is = c.split_at-2.ensures.back ∙ c.field_len-2.ensures.rest } in
    count_step c.args.total c.count_difference-total.result c.count_from.result c.args.number c.args.former.now c.args.next.now c.split_at.result.0.now c.split_at.result.1.now c.split_at-2.result.0.now c.split_at-2.result.1.now walks c.if-number-gt-LAST_FIELD.false c.count_difference-total.ensures.counts c.count_from.ensures.counts
