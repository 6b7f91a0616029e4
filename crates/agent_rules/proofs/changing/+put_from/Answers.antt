use Rattle.std.proofs.Common.{◌∙◌}
use Rattle.std.proofs.lemmas.Result.{err_from_is_err_and}
use Rattle.agent_rules.proofs.Steps.{Walks, puts_end, puts_short, puts_step}
use Rattle.agent_rules.proofs.changing.+put_from.Goals as goal

pub returns-then-number-gt-LAST_FIELD : goal.returns-then-number-gt-LAST_FIELD
returns-then-number-gt-LAST_FIELD t c = record { puts = puts_end c.args.out.now c.args.number c.args.former.now c.args.next.now c.if-number-gt-LAST_FIELD.true }

pub returns-in_err-put_difference : goal.returns-in_err-put_difference
returns-in_err-put_difference t c =
    let walks : Walks c.args.number c.args.former.now c.args.next.now c.split_at.result.0.now c.split_at.result.1.now c.split_at-2.result.0.now c.split_at-2.result.1.now = record { front_is = c.split_at.ensures.front ∙ c.field_len.ensures.piece; former_is = c.split_at.ensures.back ∙ c.field_len.ensures.rest; back_is = c.split_at-2.ensures.front ∙ c.field_len-2.ensures.piece; next_is = c.split_at-2.ensures.back ∙ c.field_len-2.ensures.rest } in
    let p = err_from_is_err_and c.from_residual.result c.from_residual.ensures.1 in
    rw p.1 (record { puts = puts_short p.0 c.args.out.now c.put_difference.new.out c.args.number c.args.former.now c.args.next.now c.split_at.result.0.now c.split_at.result.1.now c.split_at-2.result.0.now c.split_at-2.result.1.now walks c.if-number-gt-LAST_FIELD.false c.in_err-put_difference.ensures.puts.short })

pub returns : goal.returns
returns t c =
    let walks : Walks c.args.number c.args.former.now c.args.next.now c.split_at.result.0.now c.split_at.result.1.now c.split_at-2.result.0.now c.split_at-2.result.1.now = record { front_is = c.split_at.ensures.front ∙ c.field_len.ensures.piece; former_is = c.split_at.ensures.back ∙ c.field_len.ensures.rest; back_is = c.split_at-2.ensures.front ∙ c.field_len-2.ensures.piece; next_is = c.split_at-2.ensures.back ∙ c.field_len-2.ensures.rest } in
    record { puts = puts_step c.put_from.result c.args.out.now c.put_difference.new.out c.put_from.new.out c.args.number c.args.former.now c.args.next.now c.split_at.result.0.now c.split_at.result.1.now c.split_at-2.result.0.now c.split_at-2.result.1.now walks c.if-number-gt-LAST_FIELD.false c.in_ok-put_difference.ensures.puts.ok c.put_from.ensures.puts }
