use Rattle.std.proofs.Common.{◌≡◌, ◌∙◌, Some, ap}
use Rattle.std.proofs.Math.Path.{fun_ext}
use Rattle.server_deliveries.specs.Routes.{no_routes}
use Rattle.server_deliveries.specs.Views.{reach_of}
use Rattle.server_deliveries.proofs.deliveries.reach_nobody.Goals as goal

pub returns-in-Some-clause-routes : goal.returns-in-Some-clause-routes
returns-in-Some-clause-routes c =
    let none : reach_of c.replace.new.dest ≡ no_routes = ap reach_of c.replace.ensures.after ∙ fun_ext c.new.ensures.none in
    rw c.in-Some.is (ap Some none)
