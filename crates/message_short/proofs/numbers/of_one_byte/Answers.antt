use Rattle.message_short.proofs.Groups.{one_at}
use Rattle.message_short.proofs.numbers.of_one_byte.Goals as goal

pub returns-in-len1-up : goal.returns-in-len1-up
returns-in-len1-up c = record { found = λ before. one_at before c.args.bytes.now c.from.result c.in-len1-up.len_at_least c.from.ensures c.if-last-gt0.true c.if-last-lt128.true }
