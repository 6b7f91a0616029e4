use Rattle.std.proofs.Common.{rules}
use Rattle.agent_rules.specs.Columns.{saved_columns, parts_columns, change_columns}
use Rattle.agent_rules.proofs.Steps.{no_change, changes_lead, changes_fail}
use Rattle.agent_rules.proofs.applying.read_change.Goals as goal

pub returns-in_err-change-clause-refused : goal.returns-in_err-change-clause-refused
returns-in_err-change-clause-refused c = let h = no_change c.in_err-change.field-0.0 c.args.fields.now (saved_columns c.args.former) c.in_err-change.ensures.refused in search rules

pub returns-clause-leads : goal.returns-clause-leads
returns-clause-leads c = changes_lead c.change_parts.result c.args.fields.now (change_columns c.in_ok-change.change) (parts_columns c.in_ok-former.former) (saved_columns c.args.former) c.in_ok-change.ensures.means c.in_ok-former.ensures.columns c.change_parts.ensures.takes

pub returns-clause-refused : goal.returns-clause-refused
returns-clause-refused c = changes_fail c.change_parts.result c.args.fields.now (change_columns c.in_ok-change.change) (parts_columns c.in_ok-former.former) (saved_columns c.args.former) c.in_ok-change.ensures.means c.in_ok-former.ensures.columns c.change_parts.ensures.refused
