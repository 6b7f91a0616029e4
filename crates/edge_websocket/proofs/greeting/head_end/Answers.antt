use Rattle.std.proofs.Common.{◌≡◌, length, arith}
use Rattle.std.proofs.lemmas.Grind.{common_steps}
use Rattle.httparse.proofs.HeadLemmas.{at_complete, on_partial}
use Rattle.httparse.specs.Spans.{IsRequestOf}
use Rattle.edge_websocket.proofs.Heads.{ended, awaited, full, never}
use Rattle.edge_websocket.proofs.greeting.head_end.Goals as goal

pub returns-in-Ok-Complete-clause-head : goal.returns-in-Ok-Complete-clause-head
returns-in-Ok-Complete-clause-head c =
    ended _ _ _ c.in-Ok-Complete.found c.looked_at.ensures.front
    (at_complete (IsRequestOf c.looked_at.result.now c.parse_request.new.headers) c.in-Ok-Complete.is c.in-Ok-Complete.field-0-is c.parse_request.ensures.complete)

pub returns-in-Ok-Partial-clause-head : goal.returns-in-Ok-Partial-clause-head
returns-in-Ok-Partial-clause-head c = awaited _ _ c.looked_at.ensures.front (on_partial c.in-Ok-Partial.is c.in-Ok-Partial.field-0-is c.parse_request.ensures.partial) (on_partial c.in-Ok-Partial.is c.in-Ok-Partial.field-0-is c.parse_request.ensures.unfinished)

pub returns-in-Ok-Partial-2-clause-head : goal.returns-in-Ok-Partial-2-clause-head
returns-in-Ok-Partial-2-clause-head c =
    let len : length c.looked_at.result.now ≡ 16384 = grind (arith, common_steps) in
    full _ _ c.looked_at.ensures.front len (on_partial c.in-Ok-Partial.is c.in-Ok-Partial.field-0-is c.parse_request.ensures.partial)

pub returns-in-Err-clause-head : goal.returns-in-Err-clause-head
returns-in-Err-clause-head c = never _ _ c.looked_at.ensures.front c.in-Err.ensures.no_room
