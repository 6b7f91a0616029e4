use Rattle.std.proofs.Common.{◌≤◌, length, sym, arith}
use Rattle.std.proofs.lemmas.Grind.{common_steps}
use Rattle.std.proofs.lemmas.List.{take_all, length-take-le}
use Rattle.edge_websocket.proofs.greeting.looked_at.Goals as goal

pub returns-then-bytes-lt-GREETING_LIMIT-clause-front : goal.returns-then-bytes-lt-GREETING_LIMIT-clause-front
returns-then-bytes-lt-GREETING_LIMIT-clause-front c =
    let short : length c.args.bytes.now ≤ 16384 = grind (arith, common_steps) in
    sym (take_all 16384 c.args.bytes.now short)

pub returns-else-bytes-lt-GREETING_LIMIT-clause-full : goal.returns-else-bytes-lt-GREETING_LIMIT-clause-full
returns-else-bytes-lt-GREETING_LIMIT-clause-full c = λ long. length-take-le 16384 c.args.bytes.now long
