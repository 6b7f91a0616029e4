use Rattle.std.proofs.Common.{◌<◌, ◌^◌, sym, length}
use Rattle.agent_rules.specs.Columns.{parts_columns}
use Rattle.agent_rules.specs.Payloads.{canonical_saved}
use Rattle.agent_rules.proofs.Found.{changed_none}
use Rattle.agent_rules.proofs.Steps.{counted_few, found_changed}
use Rattle.agent_rules.proofs.applying.change_saved.Goals as goal

pub returns-in-Ok-clause-means : goal.returns-in-Ok-clause-means
returns-in-Ok-clause-means c =
    let few : length (canonical_saved c.args.former) < 2 ^ 62 = counted_few c.saved_len.result (canonical_saved c.args.former) c.saved_len.ensures.counts c.if-saved_len-ge-LENGTH_LIMIT.false in
    found_changed c.settle.result c.args.former c.args.fields.now (parts_columns c.in-Ok.parts) c.requires.typed c.requires.right few c.in-Ok.ensures.leads c.settle.ensures.kept

pub returns-in-Err-Refused-clause-means : goal.returns-in-Err-Refused-clause-means
returns-in-Err-Refused-clause-means c =
    let few : length (canonical_saved c.args.former) < 2 ^ 62 = counted_few c.saved_len.result (canonical_saved c.args.former) c.saved_len.ensures.counts c.if-saved_len-ge-LENGTH_LIMIT.false in
    let h = rw c.in-Err-Refused.field-0-is at c.in-Err-Refused.ensures.refused in
    sym (changed_none c.args.former c.args.fields.now c.requires.typed c.requires.right few h)
