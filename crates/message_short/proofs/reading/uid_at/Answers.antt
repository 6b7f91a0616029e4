use Rattle.message_short.proofs.Fronts.{parts_are, front_has}
use Rattle.message_short.proofs.reading.uid_at.Goals as goal

pub returns-clause-uid : goal.returns-clause-uid
returns-clause-uid c =
    let x = c.in_ok-uid in
    front_has c.args.bytes.now x.uid.now x.behind.now 16 x.ensures.cases.0 x.ensures.cases.2

pub returns-clause-parts : goal.returns-clause-parts
returns-clause-parts c =
    let x = c.in_ok-uid in
    parts_are c.args.bytes.now x.uid.now x.behind.now 16 x.ensures.cases.0 x.ensures.cases.1
