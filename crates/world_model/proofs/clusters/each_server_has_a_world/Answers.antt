use Rattle.world_model.proofs.SeenBy.{seen, reached_so}
use Rattle.world_model.proofs.clusters.each_server_has_a_world.Goals as goal

pub returns-clause-seen : goal.returns-clause-seen
returns-clause-seen c = seen

pub returns-clause-reached : goal.returns-clause-reached
returns-clause-reached c = reached_so
