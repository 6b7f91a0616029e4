use Rattle.std.proofs.Common.{rules}
use Rattle.agent_rules.proofs.Steps.{no_fields}
use Rattle.agent_rules.proofs.reading.read_parts.Goals as goal

pub returns-in_err-draft-clause-refused : goal.returns-in_err-draft-clause-refused
returns-in_err-draft-clause-refused c = let h = no_fields c.in_err-draft.field-0.0 c.args.bytes.now c.in_err-draft.ensures.refused in search rules
