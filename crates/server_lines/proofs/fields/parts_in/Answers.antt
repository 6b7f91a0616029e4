use Rattle.std.proofs.Common.{lit<}
use Rattle.server_lines.proofs.WordLemmas.{parts_are}
use Rattle.server_lines.proofs.fields.parts_in.Goals as goal

pub returns : goal.returns
returns c = record { parts = parts_are 58 c.args.word.now c.split_once.result (lit< tt) c.split_once.ensures.cases }
