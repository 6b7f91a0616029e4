-- Several servers: any of those that stand behind an endpoint may get a report that is sent there, now or again, and any of them may answer it.
use Rattle.std.specs.Prelude.{◌≡◌, ◌⊎◌, ℕ, ◌≤◌, List, [], ◌∷◌, ◌++◌, length, map, filter, Bool, true, false, if◌then◌else◌, Option, None, Some, is_some, slice_get}
use Rattle.std.specs.List.{AllByRecursion}
use Rattle.std.specs.Str.{bytes_eq}
use Rattle.std.specs.Option.{option_map, option_map_or, option_to_list}
use Rattle.message_values.specs.declared.reply.ServerErrorResponse.{ServerErrorResponse}
use Rattle.message_values.specs.declared.reply.ServerToAgent.{ServerToAgent}
use Rattle.message_values.specs.declared.state.Settings.{Settings}
use Rattle.agent_rules.specs.declared.rules.parts.LocalState.{LocalState}
use Rattle.agent_rules.specs.Reports.{Entry}
use Rattle.agent_rules.specs.Half.{AgentHalf, entry_of, first_saved, started}
use Rattle.agent_rules.specs.Calls.{may_report}
use Rattle.server_core.specs.declared.replies.Profile.{Profile}
use Rattle.server_core.specs.History.{Event as ServerEvent, ascending_uids}
use Rattle.world_model.specs.World.{World, Holding, Event, Delivered, Answered, Took, Offered, Ordered, Withdrawn, Forgotten, ServerRestarted, Restarted, Crashed, Start, server_to, last_sent, reply_due, after, run, asks_full}
use Rattle.world_model.specs.Servers.{arrived, record_after_history, NamesNobody}
use Rattle.world_model.specs.Exchanges.{Meanwhile, changes, exchange, exchange_or_error}
use Rattle.world_model.specs.Proofs.{Part}

pub record Cluster : Type 0 where
  pub agent : AgentHalf
  -- all entries, in order; an entry is named by its place here
  pub sent : List Entry
  -- behind this endpoint stands that server; several may, and one may behind several
  pub behind : List ℕ → List ℕ → Bool
  -- what each server is
  pub profiles : List ℕ → Profile
  -- per server and identifier, what is held there
  pub held : List ℕ → List ℕ → Option Holding
  -- per server and place, its reply to the entry's latest delivery there
  pub replies : List ℕ → ℕ → Option ServerToAgent

-- An event of a world, and the server at which it happens: the one that a delivery reaches, or whose reply is heard. What happens to the agent alone is the
-- same at each; an offer, an order or a restart happens at the server that it names.
pub data ClusterEvent : Type 0 where
  At : (server : List ℕ) (event : Event) → ClusterEvent

-- a name that isn't this one
abbrev pub another : List ℕ → List ℕ
another server = 0 ∷ server

-- the world as a server has it: of what is held and of the replies it has its own, and an endpoint that it isn't behind is another's
abbrev pub seen_by : List ℕ → Cluster → World
seen_by s c = record {
  agent = c.agent;
  sent = c.sent;
  server_of = λ endpoint. if c.behind endpoint s then s else another s;
  profiles = c.profiles;
  held = λ t uid. if bytes_eq s t then c.held s uid else None;
  replies = c.replies s;
}

-- the server stands behind the entry's endpoint
abbrev pub is_behind : Cluster → List ℕ → Entry → Bool
is_behind c s e = c.behind e.server s

-- what happens at the server: an entry reaches it only where it stands behind the entry's endpoint
abbrev pub happens : List ℕ → Cluster → Event → List Event
happens s c (Delivered place given) = if option_map_or (is_behind c s) (slice_get c.sent place) false then Delivered place given ∷ [] else []
happens s c e = e ∷ []

-- once the server's world is this one; the other servers keep what they hold and their replies
abbrev pub with_world : List ℕ → Cluster → World → Cluster
with_world s c w = record c {
  agent = w.agent;
  sent = w.sent;
  held = λ t uid. if bytes_eq s t then w.held s uid else c.held t uid;
  replies = λ t. if bytes_eq s t then w.replies else c.replies t;
}

-- one step
abbrev pub after_at : Cluster → ClusterEvent → Cluster
after_at c (At s e) = with_world s c (run (happens s c e) (seen_by s c))

-- a whole run
abbrev pub run_at : List ClusterEvent → Cluster → Cluster
run_at [] c = c
run_at (x ∷ xs) c = run_at xs (after_at c x)

-- how an agent is started first, what its servers are, and behind which endpoints they stand
pub record ClusterStart : Type 0 where
  pub local : LocalState
  pub uid : List ℕ
  pub settings : Settings
  -- how many bytes may be kept
  pub room : ℕ
  -- at its first start the agent was told to ask for an identifier
  pub asks_uid : Bool
  pub behind : List ℕ → List ℕ → Bool
  pub profiles : List ℕ → Profile
  -- an identifier has 16 bytes (OpAMP specification, "AgentToServer.instance_uid")
  pub named : length uid ≡ 16

abbrev pub first_cluster : ClusterStart → Cluster
first_cluster start = record {
  agent = started start.local (first_saved start.uid start.settings) false start.room start.asks_uid;
  sent = [];
  behind = start.behind;
  profiles = start.profiles;
  held = λ s uid. None;
  replies = λ s place. None;
}

-- what these events lead to
abbrev pub cluster : ClusterStart → List ClusterEvent → Cluster
cluster start es = run_at es (first_cluster start)

-- what reaches a server, after what reached it before
abbrev pub reached_after : List ℕ → Cluster → List ServerEvent → ClusterEvent → List ServerEvent
reached_after s c history (At t e) = if bytes_eq t s then arrived s (happens s c e) (seen_by s c) history else history

abbrev pub reached_in : List ℕ → List ClusterEvent → Cluster → List ServerEvent → List ServerEvent
reached_in s [] c history = history
reached_in s (x ∷ xs) c history = reached_in s xs (after_at c x) (reached_after s c history x)

-- the history of a server since its last restart
abbrev pub reaches : ClusterStart → List ClusterEvent → List ℕ → List ServerEvent
reaches start es s = reached_in s es (first_cluster start) []

-- the identifiers of the entries sent to endpoints that the server is behind
abbrev pub uids_before : List ℕ → Cluster → List (List ℕ)
uids_before s c = map (λ e. e.uid) (filter (is_behind c s) c.sent)

-- The server isn't full: what was sent to its endpoints has at most 16,384 identifiers, each counted once.
abbrev pub HasRoomAt : ClusterStart → List ClusterEvent → List ℕ → Type 0
HasRoomAt start es s = length (ascending_uids (uids_before s (cluster start es))) ≤ 16384

-- no message that comes unasked gives the agent an identifier
abbrev pub NamesNobodyAt : ClusterEvent → Type 0
NamesNobodyAt (At s e) = NamesNobody e

abbrev pub NameNobodyAt : List ClusterEvent → Type 0
NameNobodyAt es = AllByRecursion NamesNobodyAt es

-- the server knows the agent by the state that the entry told, and no other
abbrev pub IsKnownAt : ClusterStart → List ClusterEvent → List ℕ → Entry → Type 0
IsKnownAt start es s e = option_map (λ known. known.state) (record_after_history (reaches start es s) e.uid) ≡ Some e.state

-- the server's reply to the entry of this place has neither error nor a wish for the full state, and the server knows the agent by this entry
pub record IsWellAnswered (start : ClusterStart) (es : List ClusterEvent) (s : List ℕ) (place : ℕ) (e : Entry) : Type 0 where
  pub reply : ServerToAgent
  pub replied : (cluster start es).replies s place ≡ Some reply
  pub plain : asks_full reply ≡ false
  pub right : is_some reply.error_response ≡ false
  pub known : IsKnownAt start es s e

-- a part of what is kept is the one from before the event, or the event earned it, by the reply of the server at which it happens
abbrev pub IsFormerOrEarnedAt : {T : Type 0} → Part T → Cluster → List ℕ → Event → Type 0
IsFormerOrEarnedAt part c s e =
    (part.value (after_at c (At s e)).agent.saved ≡ part.value c.agent.saved)
    ⊎ part.IsEarned (seen_by s c) e (part.value (after_at c (At s e)).agent.saved)

-- at some point of these events the value was earned
pub record WasEarnedAt {T : Type 0} (part : Part T) (start : ClusterStart) (es : List ClusterEvent) (value : T) : Type 0 where
  pub before : List ClusterEvent
  pub server : List ℕ
  pub event : Event
  pub later : List ClusterEvent
  pub joined : es ≡ before ++ At server event ∷ later
  pub earned : part.IsEarned (seen_by server (cluster start before)) event value

-- the value is the one from the start, or was earned since
abbrev pub IsFirstOrEarnedAt : {T : Type 0} → Part T → ClusterStart → List ClusterEvent → Type 0
IsFirstOrEarnedAt part start es =
    (part.value (cluster start es).agent.saved ≡ part.value (first_saved start.uid start.settings))
    ⊎ WasEarnedAt part start es (part.value (cluster start es).agent.saved)

-- all of these at one server
abbrev pub all_at : List ℕ → List Event → List ClusterEvent
all_at s es = map (λ e. At s e) es

-- the agent's next exchange, with this server and disturbed by nothing
abbrev pub exchange_with : List ℕ → Cluster → Meanwhile → List ClusterEvent
exchange_with s c m = all_at s (exchange (length c.sent) m)

-- this run, and then an exchange with the server
abbrev pub and_exchange : ClusterStart → List ClusterEvent → List ℕ → Meanwhile → List ClusterEvent
and_exchange start es s m = es ++ exchange_with s (cluster start es) m

-- and then an exchange with the server at whose end this error reaches the agent in place of the reply
abbrev pub and_error : ClusterStart → List ClusterEvent → List ℕ → Meanwhile → ServerErrorResponse → List ClusterEvent
and_error start es s m error = es ++ all_at s (exchange_or_error (length (cluster start es).sent) m (Some error))

-- the agent's last report got its good answer from this server in the exchange
abbrev pub IsAnswered : ClusterStart → List ClusterEvent → List ℕ → Meanwhile → Type 0
IsAnswered start es s m = IsWellAnswered start (and_exchange start es s m) s (length (cluster start es).sent) (entry_of (cluster start es).agent)

-- the agent may report, and the server stands behind the endpoint to which it would
pub record MayReach (start : ClusterStart) (es : List ClusterEvent) (s : List ℕ) : Type 0 where
  pub may : may_report (cluster start es).agent ≡ true
  pub stands_there : start.behind (entry_of (cluster start es).agent).server s ≡ true

-- two exchanges, the first with s, the second with t, and local changes between and behind them
pub record Turn : Type 0 where
  pub first : Meanwhile
  pub between : List LocalState
  pub second : Meanwhile
  pub behind : List LocalState

abbrev pub first_of : ClusterStart → List ClusterEvent → List ℕ → Turn → List ClusterEvent
first_of start es s turn = and_exchange start es s turn.first ++ all_at s (changes turn.between)

abbrev pub both_of : ClusterStart → List ClusterEvent → List ℕ → List ℕ → Turn → List ClusterEvent
both_of start es s t turn = and_exchange start (first_of start es s turn) t turn.second

-- the run, and then two servers in strict turn
abbrev pub in_turn : ClusterStart → List ClusterEvent → List ℕ → List ℕ → List Turn → List ClusterEvent
in_turn start es s t [] = es
in_turn start es s t (turn ∷ turns) = in_turn start (both_of start es s t turn ++ all_at t (changes turn.behind)) s t turns

-- in each turn the report to the second server tells changes alone
pub record TellsChanges (start : ClusterStart) (es : List ClusterEvent) (s t : List ℕ) (turn : Turn) : Type 0 where
  pub reaches_first : MayReach start es s
  pub reaches_second : MayReach start (first_of start es s turn) t
  pub changes_alone : is_some (entry_of (cluster start (first_of start es s turn)).agent).basis ≡ true

abbrev pub AllTellChanges : ClusterStart → List ClusterEvent → List ℕ → List ℕ → List Turn → Type 0
AllTellChanges start es s t [] = Unit {0}
AllTellChanges start es s t (turn ∷ turns) = TellsChanges start es s t turn × AllTellChanges start (both_of start es s t turn ++ all_at t (changes turn.behind)) s t turns

-- As one server has the run: the start, and the events. A delivery, an offer, an order or a restart elsewhere is nothing here, and a reply from elsewhere
-- comes unasked.
abbrev pub start_for : List ℕ → ClusterStart → Start
start_for s start = record {
  local = start.local;
  uid = start.uid;
  settings = start.settings;
  room = start.room;
  asks_uid = start.asks_uid;
  server_of = λ endpoint. if start.behind endpoint s then s else another s;
  profiles = start.profiles;
  named = start.named;
}

abbrev pub crashed_in : AgentHalf → List Event → ℕ → Event
crashed_in a [] saves = Restarted a.local a.asks_uid
crashed_in a (during ∷ rest) saves = Crashed during saves

-- what an event at a server with this world is to the others
abbrev pub elsewhere : World → Event → List Event
elsewhere w (Delivered place given) = []
elsewhere w (Answered reactions) = option_to_list (option_map (λ reply. Took reply reactions) (reply_due w))
elsewhere w (Offered server uid offer) = []
elsewhere w (Ordered server uid) = []
elsewhere w (Withdrawn server uid) = []
elsewhere w (Forgotten server uid) = []
elsewhere w (ServerRestarted server) = []
elsewhere w (Crashed during saves) = crashed_in w.agent (elsewhere w during) saves ∷ []
elsewhere w e = e ∷ []

abbrev pub event_for : List ℕ → Cluster → ClusterEvent → List Event
event_for s c (At t e) = if bytes_eq t s then happens s c e else elsewhere (seen_by t c) e

abbrev pub events_from : List ℕ → Cluster → List ClusterEvent → List Event
events_from s c [] = []
events_from s c (x ∷ xs) = event_for s c x ++ events_from s (after_at c x) xs

abbrev pub events_for : List ℕ → ClusterStart → List ClusterEvent → List Event
events_for s start es = events_from s (first_cluster start) es

-- A world is the case with one server behind each endpoint.
abbrev pub with_one_each : Start → ClusterStart
with_one_each start = record {
  local = start.local;
  uid = start.uid;
  settings = start.settings;
  room = start.room;
  asks_uid = start.asks_uid;
  behind = λ endpoint s. bytes_eq (start.server_of endpoint) s;
  profiles = start.profiles;
  named = start.named;
}

-- the server to which an entry was sent; there is none without one
abbrev pub server_for : World → Option Entry → List ℕ
server_for w found = option_map_or (server_to w) found []

-- the server at which an event of a world happens
abbrev pub server_in : World → Event → List ℕ
server_in w (Delivered place given) = server_for w (slice_get w.sent place)
server_in w (Offered server uid offer) = server
server_in w (Ordered server uid) = server
server_in w (Withdrawn server uid) = server
server_in w (Forgotten server uid) = server
server_in w (ServerRestarted server) = server
server_in w e = server_for w (last_sent w.sent)

abbrev pub placed : World → List Event → List ClusterEvent
placed w [] = []
placed w (e ∷ es) = At (server_in w e) e ∷ placed (after w e) es

-- both have the same agent, the same entries, hold the same, and replied the same
pub record IsWorld (c : Cluster) (w : World) : Type 0 where
  pub agent : c.agent ≡ w.agent
  pub sent : c.sent ≡ w.sent
  pub held : c.held ≡ w.held
  pub replies : (place : ℕ) → c.replies (server_for w (slice_get w.sent place)) place ≡ w.replies place
