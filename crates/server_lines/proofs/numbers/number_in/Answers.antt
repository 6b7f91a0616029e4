use Rattle.std.proofs.Common.{◌∙◌, sym, ap}
use Rattle.std.proofs.lemmas.Str.Parse.{parse_digits}
use Rattle.server_lines.proofs.NumberLemmas.{are_digits, digits, too_large}
use Rattle.server_lines.specs.Words.{is_numeral}
use Rattle.server_lines.proofs.numbers.number_in.Goals as goal

pub returns-in-Err : goal.returns-in-Err
returns-in-Err c =
    let is = ap is_numeral (sym c.as_bytes.ensures.value) ∙ sym c.is_numeral.ensures.numeral ∙ c.if-not-is_numeral.false in
    let parsed = parse_digits digits 64 c.args.word.now c.parse.result c.parse.ensures.value.0 (are_digits c.args.word.now is) in
    record { number = too_large c.args.word.now is (rw c.in-Err.is at parsed) }
