use Rattle.message_texts.proofs.Lines.{by_flat_map}
use Rattle.message_texts.proofs.laws.lines_go_by_columns.Goals as goal

pub returns : goal.returns
returns c = record { columns = by_flat_map }
