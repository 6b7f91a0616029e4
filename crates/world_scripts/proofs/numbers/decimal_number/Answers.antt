use Rattle.std.proofs.Common.{◌∙◌, sym, lit<}
use Rattle.world_scripts.proofs.NumberLemmas.{decimal_numeral}
use Rattle.world_scripts.proofs.numbers.decimal_number.Goals as goal

pub number_of-requires : goal.number_of-requires
number_of-requires c =
    let word = decimal_numeral c.args.word.now (sym c.is_decimal_numeral.ensures ∙ c.if-is_decimal_numeral.true) in
    record { radix = lit< tt; digits = word.digits; fits = word.fits }
