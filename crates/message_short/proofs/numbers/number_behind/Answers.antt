use Rattle.message_short.proofs.Groups.{number_at}
use Rattle.message_short.proofs.numbers.number_behind.Goals as goal

pub returns-in-Some-clause-spelled : goal.returns-in-Some-clause-spelled
returns-in-Some-clause-spelled c = number_at c.args.bytes.now c.args.tag c.in-Some.number c.in-Some.rest.now c.in-len1-up.len_at_least c.if-first-tag.true c.in-Some.ensures.found
