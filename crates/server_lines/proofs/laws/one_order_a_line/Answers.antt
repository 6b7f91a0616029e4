use Rattle.server_lines.proofs.LineLemmas.{means_one}
use Rattle.server_lines.proofs.laws.one_order_a_line.Goals as goal

pub returns : goal.returns
returns c = record { one = means_one }
