use Rattle.world_model.proofs.Several.{asked_in_turn, left_behind}
use Rattle.world_model.proofs.clusters.strict_turns_leave_one_behind.Goals as goal

pub returns-clause-asked : goal.returns-clause-asked
returns-clause-asked c = asked_in_turn

pub returns-clause-behind : goal.returns-clause-behind
returns-clause-behind c = left_behind
