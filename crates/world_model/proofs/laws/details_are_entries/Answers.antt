use Rattle.std.proofs.Common.{refl, subst}
use Rattle.world_model.specs.World.{world}
use Rattle.world_model.proofs.Kept.{world_sound}
use Rattle.world_model.proofs.DetailsHeld.{IsTold, details_told}
use Rattle.world_model.proofs.Runs.{world_servers}
use Rattle.world_model.proofs.laws.details_are_entries.Goals as goal

pub returns : goal.returns
returns c = record {
  sent_there = λ start events server uid details is.
      subst (λ f. IsTold f (world start events).sent server uid ((world start events).held server uid) details) (world_servers start events)
      (details_told (world start events) server uid details ((world start events).held server uid) (world_sound start events) refl is);
}
