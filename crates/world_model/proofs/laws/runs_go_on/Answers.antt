use Rattle.std.proofs.Common.{[], ◌∷◌}
use Rattle.world_model.specs.World.{opening}
use Rattle.world_model.proofs.Rooms.{room_earlier}
use Rattle.world_model.proofs.Runs.{world-push, world_servers, arrived-append}
use Rattle.world_model.proofs.laws.runs_go_on.Goals as goal

pub returns-clause-world : goal.returns-clause-world
returns-clause-world c = world-push

pub returns-clause-arrivals : goal.returns-clause-arrivals
returns-clause-arrivals c = λ start events e server. arrived-append server events (e ∷ []) (opening start) []

pub returns-clause-room_before : goal.returns-clause-room_before
returns-clause-room_before c = λ start events e server. room_earlier (record {
  ascend = c.identifiers_ascend.ensures.ascend;
  among = c.identifiers_ascend.ensures.among;
  all_ascend = c.identifiers_ascend.ensures.all_ascend;
  all_among = c.identifiers_ascend.ensures.all_among;
  once = c.identifiers_ascend.ensures.once;
}) start events e server (world-push start events e)

pub returns-clause-servers : goal.returns-clause-servers
returns-clause-servers c = world_servers
