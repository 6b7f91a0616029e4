-- What reaches a server in a run: the messages of the entries delivered there since its last restart, and the offers and orders made there, one that an agent be forgotten among them.
use Rattle.std.specs.Prelude.{◌≡◌, ℕ, ◌≤◌, List, [], ◌∷◌, ◌++◌, length, map, filter, if◌then◌else◌, Option, None, Some, slice_get}
use Rattle.std.specs.List.{AllByRecursion}
use Rattle.std.specs.Str.{bytes_eq}
use Rattle.agent_rules.specs.Reports.{Entry, message_of}
use Rattle.server_core.specs.declared.rows.Record.{Record}
use Rattle.server_core.specs.declared.rows.TheConstants.{AGENT_LIMIT}
use Rattle.server_core.specs.Agents.{events_of, IsNeverCrowdedOut}
use Rattle.server_core.specs.History.{Event as ServerEvent, Reported, Offered as OfferMade, Ordered as RestartOrdered, Withdrawn as AllWithdrawn, Forgotten as AgentForgotten, ascending_uids}
use Rattle.server_core.specs.Table.{table_of, find_record}
use Rattle.world_model.specs.World.{World, Event, Delivered, Took, Crashed, Offered, Ordered, Withdrawn, Forgotten, ServerRestarted, server_to, after, Start, opening, world}

abbrev pub arrives : List ℕ → World → List ServerEvent → Option Entry → List ServerEvent
arrives server w history None = history
arrives server w history (Some e) = if bytes_eq (server_to w e) server then history ++ Reported (message_of e) ∷ [] else history

abbrev pub arrived_after : List ℕ → World → List ServerEvent → Event → List ServerEvent
arrived_after server w history (Delivered place given) = arrives server w history (slice_get w.sent place)
arrived_after server w history (Offered s uid offer) = if bytes_eq s server then history ++ OfferMade uid offer ∷ [] else history
arrived_after server w history (Ordered s uid) = if bytes_eq s server then history ++ RestartOrdered uid ∷ [] else history
arrived_after server w history (Withdrawn s uid) = if bytes_eq s server then history ++ AllWithdrawn uid ∷ [] else history
arrived_after server w history (Forgotten s uid) = if bytes_eq s server then history ++ AgentForgotten uid ∷ [] else history
arrived_after server w history (ServerRestarted s) = if bytes_eq s server then [] else history
arrived_after server w history _ = history

-- the history of a server, in a run from this world and this history on
abbrev pub arrived : List ℕ → List Event → World → List ServerEvent → List ServerEvent
arrived server [] w history = history
arrived server (e ∷ es) w history = arrived server es (after w e) (arrived_after server w history e)

-- the history of a server since its last restart
abbrev pub arrivals : Start → List Event → List ℕ → List ServerEvent
arrivals start events server = arrived server events (opening start) []

-- what a server knows of an agent after a history
abbrev pub record_after_history : List ServerEvent → List ℕ → Option Record
record_after_history history uid = find_record (table_of history).records uid

-- the identifiers of the entries sent to a server
abbrev pub uids_sent : List ℕ → World → List (List ℕ)
uids_sent server w = map (λ e. e.uid) (filter (λ e. bytes_eq (server_to w e) server) w.sent)

-- The server isn't full: what was sent there has at most 16,384 identifiers, each counted once. So many agents a server holds that was made without another limit; that is this project's own.
abbrev pub IsNeverFull : Start → List Event → List ℕ → Type 0
IsNeverFull start events server = length (ascending_uids (uids_sent server (world start events))) ≤ 16384

-- Other agents report to the server as well: its history has of this identifier what the run brings there, and no report of it came while it was crowded out.
pub record IsAmongOthers (start : Start) (events : List Event) (server uid : List ℕ) (history : List ServerEvent) : Type 0 where
  pub own : events_of uid history ≡ events_of uid (arrivals start events server)
  pub spared : IsNeverCrowdedOut AGENT_LIMIT uid history

-- no message that comes unasked gives the agent an identifier in the event
abbrev pub NamesNobody : Event → Type 0
NamesNobody (Took message reactions) = message.agent_identification ≡ None
NamesNobody (Crashed during saves) = NamesNobody during
NamesNobody _ = Unit {0}

-- nor in any of these events; where none comes it is so
abbrev pub NameNobody : List Event → Type 0
NameNobody events = AllByRecursion NamesNobody events
