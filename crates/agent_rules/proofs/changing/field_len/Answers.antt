use Rattle.agent_rules.proofs.Steps.{no_bytes, cut_empty, field_found, field_other, field_refused}
use Rattle.agent_rules.proofs.changing.field_len.Goals as goal

pub returns-then-is_empty-clause-piece : goal.returns-then-is_empty-clause-piece
returns-then-is_empty-clause-piece c = (cut_empty c.args.number c.args.bytes.now (no_bytes c.is_empty.result c.args.bytes.now c.is_empty.ensures c.if-is_empty.true)).piece

pub returns-then-is_empty-clause-rest : goal.returns-then-is_empty-clause-rest
returns-then-is_empty-clause-rest c = (cut_empty c.args.number c.args.bytes.now (no_bytes c.is_empty.result c.args.bytes.now c.is_empty.ensures c.if-is_empty.true)).rest

pub returns-then-field-number-clause-piece : goal.returns-then-field-number-clause-piece
returns-then-field-number-clause-piece c = (field_found c.args.bytes.now c.in-Ok.field c.args.number c.in-Ok.ensures.found.ends c.in-Ok.ensures.exact c.if-field-number.true).piece

pub returns-then-field-number-clause-rest : goal.returns-then-field-number-clause-rest
returns-then-field-number-clause-rest c = (field_found c.args.bytes.now c.in-Ok.field c.args.number c.in-Ok.ensures.found.ends c.in-Ok.ensures.exact c.if-field-number.true).rest

pub returns-else-field-number-clause-piece : goal.returns-else-field-number-clause-piece
returns-else-field-number-clause-piece c = (field_other c.args.bytes.now _ c.in-Ok.field c.args.number c.in-Ok.ensures.exact c.if-field-number.false).piece

pub returns-else-field-number-clause-rest : goal.returns-else-field-number-clause-rest
returns-else-field-number-clause-rest c = (field_other c.args.bytes.now _ c.in-Ok.field c.args.number c.in-Ok.ensures.exact c.if-field-number.false).rest

pub returns-in-Err-clause-piece : goal.returns-in-Err-clause-piece
returns-in-Err-clause-piece c = (field_refused c.args.bytes.now c.args.number _ _ c.in-Err.ensures.exact).piece

pub returns-in-Err-clause-rest : goal.returns-in-Err-clause-rest
returns-in-Err-clause-rest c = (field_refused c.args.bytes.now c.args.number _ _ c.in-Err.ensures.exact).rest
