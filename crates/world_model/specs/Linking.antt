-- When a report may tell the changes alone (OpAMP specification, "Agent Status Compression"): the report before it was answered without a wish for the full
-- state and without an error, and since then the identifier is the same, no trial was begun or abandoned, and the agent wasn't started again.
use Rattle.std.specs.Prelude.{List, [], ◌∷◌, Bool, true, false, if◌then◌else◌, Option, None, Some, bytes_eq}
use Rattle.message_values.specs.declared.reply.ServerToAgent.{ServerToAgent}
use Rattle.agent_rules.specs.declared.rules.replies.Heard.{Heard}
use Rattle.agent_rules.specs.declared.rules.replies.Heard.TheVariants.{Commanded, Failed, Asked, Plain}
use Rattle.agent_rules.specs.Half.{AgentHalf}
use Rattle.agent_rules.specs.Keeping.{Call, Report, TakeReply, AbandonTry, BeginTry, heard_in, taught, fits}
use Rattle.agent_rules.specs.Calls.{call_after}
use Rattle.agent_rules.specs.Events.{AgentEvent, Changes, Reports, Hears, GivesUp, Restarts, Crashes, calls_in}
use Rattle.world_model.specs.World.{World, Event, seen_of, after, Start, opening}

-- after a reply that says this
abbrev pub linked_by : Heard → AgentHalf → ServerToAgent → Bool → Bool
linked_by Commanded a reply linked = true
linked_by Failed a reply linked = linked
linked_by Asked a reply linked = linked
linked_by Plain a reply linked = bytes_eq a.saved.uid (taught a reply true).uid

-- after a call: a report isn't answered yet, and a trial that is begun or abandoned makes the next report whole
abbrev pub linked_after : AgentHalf → Call → Bool → Bool
linked_after a Report linked = false
linked_after a (TakeReply reply) linked = linked_by (heard_in reply) a reply linked
linked_after a AbandonTry linked = false
linked_after a (BeginTry settings) linked = false
linked_after a _ linked = linked

abbrev pub linked_over : AgentHalf → List Call → Bool → Bool
linked_over a [] linked = linked
linked_over a (call ∷ calls) linked = if fits a call then linked_over (call_after a call) calls (linked_after a call linked) else linked

-- after what the agent sees; one that starts again reports its whole state
abbrev pub linked_in : AgentHalf → Option AgentEvent → Bool → Bool
linked_in a None linked = linked
linked_in a (Some (Restarts local asks_uid)) linked = false
linked_in a (Some (Crashes during saves)) linked = false
linked_in a (Some (Changes now)) linked = linked_over a (calls_in a (Changes now)) linked
linked_in a (Some Reports) linked = linked_over a (calls_in a Reports) linked
linked_in a (Some (Hears reply reactions)) linked = linked_over a (calls_in a (Hears reply reactions)) linked
linked_in a (Some GivesUp) linked = linked_over a (calls_in a GivesUp) linked

abbrev pub linked_from : World → List Event → Bool → Bool
linked_from w [] linked = linked
linked_from w (e ∷ es) linked = linked_from (after w e) es (linked_in w.agent (seen_of w e) linked)

-- at the end of these events the next report may tell the changes alone, as far as they go
abbrev pub may_tell_changes : Start → List Event → Bool
may_tell_changes start events = linked_from (opening start) events false
