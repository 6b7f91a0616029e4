use Rattle.std.proofs.Common.{ap, sym, Some, Ok, Err, refl}
use Rattle.server_sessions.proofs.answers.replying.draw_for.Goals as goal

pub returns-in-Ok : goal.returns-in-Ok
returns-in-Ok g c = record { draws = rw (sym c.asks_uid.ensures, c.if-not-asks_uid.false) (c.fill.new.into, Ok c.in-Ok.field-0, c.in-Ok.ensures.fills, ap Some c.fresh_uid.ensures) }

pub returns-in-Err : goal.returns-in-Err
returns-in-Err g c = record { draws = rw (sym c.asks_uid.ensures, c.if-not-asks_uid.false) (c.fill.new.into, Err c.in-Err.field-0, c.in-Err.ensures.fills, refl) }
