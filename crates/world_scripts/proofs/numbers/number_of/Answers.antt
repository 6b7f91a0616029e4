use Rattle.std.proofs.Common.{◌∙◌, refl, arith}
use Rattle.world_scripts.proofs.NumberLemmas.{digit_more, digit_more_fits}
use Rattle.world_scripts.proofs.numbers.number_of.Goals as goal

pub overflow_mul-number : goal.overflow_mul-number
overflow_mul-number c =
    let fits = digit_more_fits c.args.radix c.loop-byte.number _ c.loop-byte.byte-index c.args.digits.now c.requires.radix c.loop-byte-test.true c.requires.fits c.loop-byte.invariant refl in
    omega arith

pub overflow_add-number : goal.overflow_add-number
overflow_add-number c =
    let fits = digit_more_fits c.args.radix c.loop-byte.number c.from.result c.loop-byte.byte-index c.args.digits.now c.requires.radix c.loop-byte-test.true c.requires.fits c.loop-byte.invariant (c.from.ensures ∙ c.digit_of.ensures) in
    omega arith

pub loop-byte-preserved : goal.loop-byte-preserved
loop-byte-preserved c = digit_more c.args.radix c.loop-byte.number c.from.result c.loop-byte.byte-index c.args.digits.now c.loop-byte-test.true c.loop-byte.invariant (c.from.ensures ∙ c.digit_of.ensures)
