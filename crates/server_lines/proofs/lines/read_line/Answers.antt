use Rattle.server_lines.proofs.LineLemmas.{read_filled, read_unfilled}
use Rattle.server_lines.proofs.lines.read_line.Goals as goal

pub returns-then-are_filled : goal.returns-then-are_filled
returns-then-are_filled c = record {
  order = read_filled c.args.line.now c.in-Ok.text.now c.in_ok-words.words.items c.as_slice.result.now c.as_slice-then-are_filled.result.now c.are_filled.result c.order_of.result
      c.in-Ok.ensures.cases.0 c.in-Ok.ensures.cases.1 c.in_ok-words.ensures.words c.as_slice.ensures.value c.as_slice-then-are_filled.ensures.value c.are_filled.ensures.filled c.if-are_filled.true c.order_of.ensures.read;
}

pub returns : goal.returns
returns c = record {
  order = read_unfilled c.args.line.now c.in-Ok.text.now c.in_ok-words.words.items c.as_slice.result.now c.are_filled.result
      c.in-Ok.ensures.cases.0 c.in_ok-words.ensures.words c.as_slice.ensures.value c.are_filled.ensures.filled c.if-are_filled.false;
}
