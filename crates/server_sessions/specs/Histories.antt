-- What reaches a server in a session: its reports, offers and orders, in their order.
use Rattle.std.specs.Prelude.{ℕ, ◌⊎◌, List, [], ◌∷◌, ◌++◌, Bool, true, false, not, ◌&&◌, if◌then◌else◌, Option, None, Some, MatchBool, MatchOption}
use Rattle.std.proofs.Common.{inl, inr}
use Rattle.std.specs.Str.{bytes_eq}
use Rattle.message_values.specs.declared.report.AgentToServer.{AgentToServer}
use Rattle.edge_devices.specs.declared.wires.Kind.{Kind}
use Rattle.edge_devices.specs.declared.wires.Given.{Given}
use Rattle.edge_devices.specs.declared.wires.WireEvent.{WireEvent}
use Rattle.edge_devices.specs.declared.wires.WireEvent.TheVariants as event
use Rattle.message_replies.specs.Header.{payload_of}
use Rattle.server_core.specs.History.{Event, Reported}
use Rattle.server_core.specs.Table.{Table}
use Rattle.server_lines.specs.declared.orders.Action.{Action}
use Rattle.server_lines.specs.declared.orders.Action.TheVariants as action
use Rattle.server_lines.specs.declared.orders.Order.{Order}
use Rattle.server_lines.specs.declared.orders.Order.TheVariants as order
use Rattle.server_lines.specs.Answers.{Fleet, ok_line}
use Rattle.server_lines.specs.Orders.{event_by, events_of}
use Rattle.server_lines.specs.Sights.{Seen, Sight}
use Rattle.server_sessions.specs.declared.answers.stepped.Entry.{Entry}
use Rattle.server_sessions.specs.declared.answers.stepped.Handled.{Handled}
use Rattle.server_sessions.specs.Answers.{Sheet, fleet_in, Answer, AnswersPayload, AnswersLine, Answers, HalfRuns, HalfHandles, Gets}
use Rattle.server_sessions.specs.Reports.{Host, Intake, HalfReads, intake_in}
use Rattle.server_sessions.specs.Requests.{AnswersBody, refusal_of}
use Rattle.server_sessions.specs.Session.{Scene, Ending, ServesAll, Moment, SessionState, Does, Turn, ServerSession, moment_of, seen_at, stream_at}
use Rattle.server_sessions.specs.Streams.{Stream, Item, Payload, Line, LongLine, Partial, Request, Broken, Unread}

-- The action counts where it was answered by `ok`. That an agent is forgotten counts always: of one that isn't held it changes nothing.
abbrev pub counts : Action → List ℕ → Bool
counts (action.Offer offer) text = bytes_eq text ok_line
counts action.Restart text = bytes_eq text ok_line
counts action.Withdraw text = bytes_eq text ok_line
counts action.Forget text = true

-- what reaches a server with this table by an operator's line that was answered by this text
abbrev pub ordered_in : Table → Order → List ℕ → List Event
ordered_in table (order.Ask asked) text = []
ordered_in table (order.Act uid act) text = if counts act text then event_by uid act ∷ [] else []
ordered_in table (order.Steer id done) text = []
ordered_in table order.ForgetLeft text = events_of table order.ForgetLeft
ordered_in table order.Stop text = []

-- a report that was taken, though memory was wanting for its answer
abbrev pub taken_in : {A B : Type 0} → AgentToServer → A ⊎ B → List Event
taken_in m (inl left) = []
taken_in m (inr taken) = Reported m ∷ []

abbrev pub half_read_in : (bytes : List ℕ) (old new : Intake) → HalfReads bytes old new → List Event
half_read_in bytes old new (inl left) = []
half_read_in bytes old new (inr read) = taken_in read.0 read.2.table

abbrev pub half_ran_in : (line : List ℕ) (sight : Sight) (old new : Fleet) → HalfRuns line sight old new → List Event
half_ran_in line sight old new (inl left) = []
half_ran_in line sight old new (inr ran) = ordered_in old.table ran.0 ran.1

-- of a request that its head doesn't refuse
abbrev pub passed_in : (A : Type 0) (B : ℕ → Type 0) → (A → List Event) → (status : Option ℕ) → MatchOption status A B → List Event
passed_in A B body None p = body p
passed_in A B body (Some status) p = []

-- of an item for which memory was wanting
abbrev pub half_in : (conn : ℕ) (item : Item) (old new : Sheet) → HalfHandles conn item old new → List Event
half_in conn (Payload bytes) old new p = half_read_in (payload_of bytes) (intake_in old.desk) (intake_in new.desk) p.0
half_in conn (Line line sight) old new p = half_ran_in line sight (fleet_in old.desk) (fleet_in new.desk) p.0
half_in conn LongLine old new p = []
half_in conn Partial old new p = []
half_in conn (Request m) old new p = passed_in _ _ (half_read_in m.body (intake_in old.desk) (intake_in new.desk)) (refusal_of m) p.0
half_in conn (Broken why) old new p = []
half_in conn Unread old new p = []

module _ (host : Host) (conn : ℕ) where
  abbrev pub payload_in : (bytes : List ℕ) (old new : Intake) (handled noted : List Handled) (answer : List ℕ) → AnswersPayload host conn bytes old new handled noted answer → List Event
  payload_in bytes old new handled noted answer (inl none) = []
  payload_in bytes old new handled noted answer (inr read) = Reported read.0 ∷ []

  abbrev pub body_in : (bytes : List ℕ) (closes : Bool) (old new : Intake) (handled noted : List Handled) (answer : List ℕ) → AnswersBody host conn bytes closes old new handled noted answer → List Event
  body_in bytes closes old new handled noted answer (inl none) = []
  body_in bytes closes old new handled noted answer (inr read) = Reported read.0 ∷ []

  abbrev pub line_in : (line : List ℕ) (sight : Sight) (old new : Fleet) (ordered noted : List (List ℕ)) (entries told : List Entry) (answer : List ℕ) (stop : Bool) → AnswersLine conn line sight old new ordered noted entries told answer stop → List Event
  line_in line sight old new ordered noted entries told answer stop (inl none) = []
  line_in line sight old new ordered noted entries told answer stop (inr ran) = ordered_in old.table ran.0 answer

  -- of an item that was answered
  abbrev pub answered_in : (item : Item) (old new : Sheet) (answer : Answer) → Answers host conn item old new answer → List Event
  answered_in (Payload bytes) old new answer p = payload_in bytes (intake_in old.desk) (intake_in new.desk) old.handled new.handled p.0 p.1
  answered_in (Line line sight) old new answer p = line_in line sight (fleet_in old.desk) (fleet_in new.desk) old.ordered new.ordered old.entries new.entries p.0 p.1 p.2
  answered_in LongLine old new answer p = []
  answered_in Partial old new answer p = []
  answered_in (Request m) old new answer p =
      passed_in _ _ (body_in m.body m.close (intake_in old.desk) (intake_in new.desk) old.handled new.handled p.0) (refusal_of m) p.1
  answered_in (Broken why) old new answer p = []
  answered_in Unread old new answer p = []

  abbrev pub item_in : (kind : Kind) (item : Item) (old new : Sheet) (answer : Answer) → Gets host kind conn item old new answer → List Event
  item_in kind item old new answer (inl answered) = answered_in item old new answer answered
  item_in kind item old new answer (inr half) = half_in conn item old new half.0

  abbrev pub goes_on_in : (A B : Type 0) → (A → List Event) → (b : Bool) → MatchBool b A B → List Event
  goes_on_in A B more true p = more p
  goes_on_in A B more false p = []

  -- of items that were served in order
  abbrev pub items_in : (kind : Kind) (items : List Item) (old new : Scene) (end : Ending) → ServesAll host kind conn items old new end → List Event
  items_in kind [] old new end p = []
  items_in kind (item ∷ items) old new end p =
      item_in kind item old.sheet p.0.sheet p.2.answer p.2.gets
      ++ goes_on_in _ _ (items_in kind items p.0 new end) (p.1.stays && not p.1.stop) p.3

module _ (host : Host) where
  abbrev pub stream_in : (A : Type 0) (B : Stream → Type 0) → ((stream : Stream) → B stream → List Event) → (o : Option Stream) → MatchOption o A B → List Event
  stream_in A B items None p = []
  stream_in A B items (Some stream) p = items stream p

  -- of an event of the wire
  abbrev pub event_in : (seen : Seen) (e : WireEvent) (old new : Moment) (stop : Bool) → Does host seen e old new stop → List Event
  event_in seen (event.Opened conn kind) old new stop p = []
  event_in seen (event.Closed conn) old new stop p = []
  event_in seen (event.Piece conn bytes) old new stop p =
      stream_in _ _ (λ stream q. items_in host conn stream.kind q.0 old.scene new.scene q.1 q.3) (stream_at old.streams conn) p

  abbrev pub turn_in : (e : Given) (old new : SessionState) (stop : Bool) → Turn host e old new stop → List Event
  turn_in e old new stop p = event_in (seen_at e.at old.seen) e.event (moment_of (record (old.standing) { wire = p.0 })) p.1 stop p.3

  abbrev pub stopped_in : (A B : Type 0) → (B → List Event) → (b : Bool) → MatchBool b A B → List Event
  stopped_in A B more true p = []
  stopped_in A B more false p = more p

  -- of a session
  abbrev pub history_in : (events : List Given) (old new : SessionState) (stop : Bool) → ServerSession host events old new stop → List Event
  history_in [] old new stop p = []
  history_in (e ∷ events) old new stop p = turn_in e old p.0 p.1 p.2 ++ stopped_in _ _ (history_in events p.0 new stop) p.1 p.3
