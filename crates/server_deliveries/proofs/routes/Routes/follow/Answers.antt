use Rattle.std.proofs.Common.{◌∙◌, ap}
use Rattle.std.proofs.Math.Path.{fun_ext}
use Rattle.server_deliveries.specs.Routes.{Reach, routes_ended}
use Rattle.server_deliveries.proofs.routes.Routes.follow.Goals as goal

pub returns : goal.returns
returns c = record {
  follows = λ uid. c.forget_all.ensures.forgets uid ∙ ap (λ (r : Reach). routes_ended c.args.ended.now r uid) (fun_ext c.in_ok-note.ensures.noted);
}
