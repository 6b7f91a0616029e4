use Rattle.std.proofs.Common.{ap, ◌∙◌}
use Rattle.std.specs.Prelude.{slice_get}
use Rattle.shard_servers.specs.Desks.{AtDesk}
use Rattle.shard_servers.proofs.CheckLemmas.{image_of}
use Rattle.shard_servers.proofs.checks.all_stand.Goals as goal

pub returns-in-Ok : goal.returns-in-Ok
returns-in-Ok g c = record {
  stand = λ yes place d at.
      c.lists_stand.ensures.stand yes place d.told
      (ap (λ ts. slice_get ts place) c.in-Ok.ensures.lists ∙ image_of (λ (x : AtDesk). x.told) c.args.desks.now place d at);
}
