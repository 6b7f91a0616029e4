use Rattle.world_model.proofs.NamedThere.{one_has_room_at}
use Rattle.world_model.proofs.clusters.one_agent_has_room_at_each.Goals as goal

pub returns : goal.returns
returns c = record {
  room = one_has_room_at (record {
    ascend = c.identifiers_ascend.ensures.ascend;
    among = c.identifiers_ascend.ensures.among;
    all_ascend = c.identifiers_ascend.ensures.all_ascend;
    all_among = c.identifiers_ascend.ensures.all_among;
    once = c.identifiers_ascend.ensures.once;
  });
}
