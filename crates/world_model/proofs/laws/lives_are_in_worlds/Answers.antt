use Rattle.world_model.proofs.Lives.{life_runs, seen_own}
use Rattle.world_model.proofs.laws.lives_are_in_worlds.Goals as goal

pub returns-clause-seen : goal.returns-clause-seen
returns-clause-seen c = seen_own

pub returns-clause-agent : goal.returns-clause-agent
returns-clause-agent c = λ w events own. life_runs c.half_follows_world.ensures.follows events w own
