use Rattle.std.proofs.Common.{List, ap, sym, subst}
use Rattle.server_core.specs.Served.{Served}
use Rattle.world_lab.specs.Mirrors.{Mirrors}
use Rattle.world_lab.proofs.LabStates.{lab_left}
use Rattle.world_lab.proofs.simulating.end.Goals as goal

pub returns : goal.returns
returns c = record {
  left = λ p m. lab_left p c.args.play c.lab.inside.servers (subst (λ (ss : List Served). Mirrors p c.args.play ss) (sym (ap (λ s. s.servers) c.lab.view_is)) m);
}
