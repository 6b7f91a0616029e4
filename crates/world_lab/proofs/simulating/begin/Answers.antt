use Rattle.std.proofs.Common.{List, ap, sym, subst}
use Rattle.std.specs.Prelude.{IfOk}
use Rattle.server_core.specs.Served.{Served}
use Rattle.world_lab.specs.Playing.{first_progress}
use Rattle.world_lab.specs.Mirrors.{Mirrors}
use Rattle.world_lab.proofs.simulating.begin.Goals as goal

pub returns : goal.returns
returns c = record { opened = subst (λ (ss : List Served). IfOk c.opening.result (λ play. Mirrors first_progress play ss)) (sym (ap (λ s. s.servers) c.requires.unplayed)) c.opening.ensures.mirrors }
