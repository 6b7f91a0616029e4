use Rattle.std.proofs.Common.{rules}
use Rattle.agent_rules.proofs.Steps.{never_taken}
use Rattle.agent_rules.proofs.applying.take_field.Goals as goal

pub returns-in_err-read_parts-clause-refused : goal.returns-in_err-read_parts-clause-refused
returns-in_err-read_parts-clause-refused g c =
    let h = never_taken c.in_err-read_parts.field-0.0 g.F.Field.place c.args.change.now c.in-Some.bytes c.as_slice.result.now (g.F.Field.value c.args.field.now) c.in-Some.is c.as_slice.ensures.value c.in_err-read_parts.ensures.refused in
    search rules
