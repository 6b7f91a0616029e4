use Rattle.world_model.proofs.Single.{one_each}
use Rattle.world_model.proofs.clusters.one_server_each_is_a_world.Goals as goal

pub returns : goal.returns
returns c = record { same = one_each }
