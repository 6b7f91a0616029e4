use Rattle.std.proofs.Common.{Some, ap}
use Rattle.std.proofs.Math.Path.{fun_ext}
use Rattle.server_deliveries.proofs.deliveries.routes_for.Goals as goal

pub returns-then-push : goal.returns-then-push
returns-then-push c = record { routes = rw c.if-push.true (ap Some (fun_ext c.new.ensures.none)) }
