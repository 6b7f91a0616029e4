-- An agent's life as a run of the world.
use Rattle.agent_rules.specs.Events.{AgentEvent, Changes, Reports, Hears, GivesUp, Restarts, Crashes}
use Rattle.world_model.specs.World.{Event, Changed, Sent, Took, GaveUp, Restarted, Crashed}

-- what happens to an agent, as an event of the world: a reply that it hears may come from anywhere
abbrev pub event_of : AgentEvent → Event
event_of (Changes now) = Changed now
event_of Reports = Sent
event_of (Hears reply reactions) = Took reply reactions
event_of GivesUp = GaveUp
event_of (Restarts local asks_uid) = Restarted local asks_uid
event_of (Crashes during saves) = Crashed (event_of during) saves
