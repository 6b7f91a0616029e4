use Rattle.std.proofs.Common.{◌∙◌, ap, sym, length}
use Rattle.agent_rules.specs.Columns.{parts_columns}
use Rattle.agent_rules.proofs.Steps.{wrong_uid, wrong_saved, kept_saved}
use Rattle.agent_rules.proofs.reading.settle.Goals as goal

pub returns-in_default-clause-kept : goal.returns-in_default-clause-kept
returns-in_default-clause-kept c = sym (wrong_uid c.args.parts (λ e. c.in_default.ensures.variant.1 (ap length c.as_slice.ensures.value ∙ e)))

pub returns-then-not-is_right-clause-kept : goal.returns-then-not-is_right-clause-kept
returns-then-not-is_right-clause-kept c = wrong_saved c.saved_of-saved.result (parts_columns c.args.parts) c.saved_of-saved.ensures.columns (sym c.is_right.ensures.right ∙ c.if-not-is_right.true)

pub returns-clause-kept : goal.returns-clause-kept
returns-clause-kept c = kept_saved c.saved_of-saved.result (parts_columns c.args.parts) c.saved_of-saved.ensures.columns c.saved_len.ensures.typed.uid (sym c.is_right.ensures.right ∙ c.if-not-is_right.false)
