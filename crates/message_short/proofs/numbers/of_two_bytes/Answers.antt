use Rattle.std.proofs.Common.{◌<◌, arith}
use Rattle.message_short.proofs.Groups.{more_at}
use Rattle.message_short.proofs.numbers.of_two_bytes.Goals as goal

pub overflow_mul-result : goal.overflow_mul-result
overflow_mul-result c =
    let small : c.in_ok-high-in-len1-up.high < 128 = (c.in_ok-high-in-len1-up.ensures.found 0).small in
    omega (arith, small)

pub overflow_add-result : goal.overflow_add-result
overflow_add-result c =
    let small : c.in_ok-high-in-len1-up.high < 128 = (c.in_ok-high-in-len1-up.ensures.found 0).small in
    omega (arith, small, c.type_inv.bytes 0)

pub returns-in_ok-high-in-len1-up : goal.returns-in_ok-high-in-len1-up
returns-in_ok-high-in-len1-up c =
    let behind = c.in_ok-high-in-len1-up in
    record { found = more_at 0 c.args.bytes.now c.from.result behind.high behind.rest.now c.in-len1-up.len_at_least c.if-low-ge128.true (omega (arith, c.type_inv.bytes 0)) c.from.ensures (behind.ensures.found 0) }
