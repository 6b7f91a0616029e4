use Rattle.std.proofs.Common.{lit<}
use Rattle.server_lines.proofs.WordLemmas.{parts_are}
use Rattle.server_lines.proofs.steering.parts_at_equals.Goals as goal

pub returns : goal.returns
returns c = record { parts = parts_are 61 c.args.word.now c.split_once.result (lit< tt) c.split_once.ensures.cases }
