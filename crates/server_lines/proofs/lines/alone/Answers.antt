use Rattle.std.proofs.Common.{sym, ◌∙◌}
use Rattle.server_lines.proofs.ArgumentLemmas.{alone_none, alone_some}
use Rattle.server_lines.proofs.lines.alone.Goals as goal

pub returns-then-is_empty : goal.returns-then-is_empty
returns-then-is_empty g c = record { read = alone_some c.args.meant c.args.words.now (sym c.is_empty.ensures ∙ c.if-is_empty.true) }

pub returns-else-is_empty : goal.returns-else-is_empty
returns-else-is_empty g c = record { read = alone_none c.args.meant c.args.words.now (sym c.is_empty.ensures ∙ c.if-is_empty.false) }
