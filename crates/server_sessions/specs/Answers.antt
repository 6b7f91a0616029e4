-- What a message gets.
use Rattle.std.specs.Prelude.{◌≡◌, ℕ, ◌⊎◌, List, [], ◌∷◌, ◌++◌, Bool, true, false, IsSome, if◌then◌else◌, Option, None, Some}
use Rattle.std.specs.Str.{bytes_eq}
use Rattle.message_values.specs.declared.report.AgentToServer.{AgentToServer}
use Rattle.edge_devices.specs.declared.wires.Kind.{Kind}
use Rattle.edge_devices.specs.declared.wires.Kind.TheVariants as kind
use Rattle.edge_devices.specs.declared.wires.WireCall.TheVariants.{Sent, Closed}
use Rattle.edge_devices.specs.Clocks.{EntropyState}
use Rattle.message_replies.specs.Header.{payload_of}
use Rattle.server_core.specs.Table.{Table}
use Rattle.server_lines.specs.declared.orders.Order.{Order}
use Rattle.server_lines.specs.Answers.{Fleet, RunsOrder, fleet_of, ok_line}
use Rattle.server_lines.specs.Journal.{journal_words}
use Rattle.server_lines.specs.Lines.{MeansOrder, IsNoOrder}
use Rattle.server_lines.specs.Orders.{agent_of, is_stop}
use Rattle.server_lines.specs.Sights.{Sight}
use Rattle.server_sessions.specs.declared.answers.answering.Envelope.TheVariants.{Message}
use Rattle.server_sessions.specs.declared.answers.limits.TheConstants.{BAD_MESSAGE, BAD_WORDS, HTTP_NO_MEMORY, LINE_NO_MEMORY, WS_NO_MEMORY}
use Rattle.server_sessions.specs.declared.answers.stepped.Entry.{Entry}
use Rattle.server_sessions.specs.declared.answers.stepped.Handled.{Handled}
use Rattle.server_sessions.specs.declared.answers.stepped.Stepped.{Stepped}
use Rattle.server_sessions.specs.Streams.{Item, Payload, Line, LongLine, Partial, Request, Broken, Unread}
use Rattle.server_waves.specs.Register.{Rolling}
use Rattle.server_sessions.specs.Reports.{AnswersReport, Host, Desk, Intake, desk_of, intake_in, IsReport, IsNoReport, HalfReads}
use Rattle.server_sessions.specs.Requests.{AnswersRequest, HalfTakesRequest, failure_answer}
use Rattle.server_sessions.specs.Wiring.{WireView, IsDone, IsLost}

-- Beside what a report changes, the reports that were answered without error, the agents to which something is due by orders that were
-- answered by `ok`, and what a journal tells of orders, in the event so far.
pub record Sheet : Type 0 where
  pub desk : Desk
  pub handled : List Handled
  pub ordered : List (List ℕ)
  pub entries : List Entry

abbrev pub sheet_of : EntropyState → Table → List Rolling → Stepped → Sheet
sheet_of entropy table rollouts noted = record { desk = desk_of entropy table rollouts; handled = noted.handled; ordered = noted.ordered; entries = noted.entries }

-- what an order can change of the desk
abbrev pub fleet_in : Desk → Fleet
fleet_in desk = fleet_of desk.table desk.rollouts

-- A report leaves the rollouts, and what is noted of orders.
pub record LeavesOrders (old new : Sheet) : Type 0 where
  pub rollouts : new.desk.rollouts ≡ old.desk.rollouts
  pub ordered : new.ordered ≡ old.ordered
  pub entries : new.entries ≡ old.entries

-- the agent is among those of the orders answered by `ok`, where the text is that
abbrev pub note_ordered : Option (List ℕ) → List ℕ → List (List ℕ) → List (List ℕ)
note_ordered None text ordered = ordered
note_ordered (Some uid) text ordered = if bytes_eq text ok_line then ordered ++ uid ∷ [] else ordered

-- what a journal tells of an order: the connection on which its line came, its words and its answer
abbrev pub entry_of : ℕ → List ℕ → List ℕ → Entry
entry_of conn words answer = record { conn = conn; words = words; answer = answer }

-- Of an order that has words in a journal its entry stands behind those of before.
abbrev pub note_entry : ℕ → Option (List ℕ) → List ℕ → List Entry → List Entry
note_entry conn None answer entries = entries
note_entry conn (Some words) answer entries = entries ++ entry_of conn words answer ∷ []

-- A message of WebSocket: it gets a reply, or `bad message`, which changes nothing.
abbrev pub AnswersPayload : Host → ℕ → List ℕ → Intake → Intake → List Handled → List Handled → List ℕ → Type 0
AnswersPayload host conn bytes old new handled noted answer =
    (IsNoReport (payload_of bytes) × (new ≡ old) × (noted ≡ handled) × (answer ≡ BAD_MESSAGE))
    ⊎ ((m : AgentToServer) × IsReport (payload_of bytes) m × AnswersReport Message host conn m old new handled noted answer)

-- A line of an operator: the text of its order, or `refused: words`, which changes nothing.
abbrev pub AnswersLine : ℕ → List ℕ → Sight → Fleet → Fleet → List (List ℕ) → List (List ℕ) → List Entry → List Entry → List ℕ → Bool → Type 0
AnswersLine conn line sight old new ordered noted entries told answer stop =
    (IsNoOrder line × (new ≡ old) × (noted ≡ ordered) × (answer ≡ BAD_WORDS) × (stop ≡ false) × (told ≡ entries))
    ⊎ ((o : Order) × MeansOrder line o × RunsOrder sight old o answer new × (noted ≡ note_ordered (agent_of o) answer ordered) × (stop ≡ is_stop o)
    × (told ≡ note_entry conn (journal_words o) answer entries))

-- Memory was wanting for the line.
abbrev pub HalfRuns : List ℕ → Sight → Fleet → Fleet → Type 0
HalfRuns line sight old new = (new ≡ old) ⊎ ((o : Order) × (text : List ℕ) × MeansOrder line o × RunsOrder sight old o text new)

-- A journal tells nothing of the line then, or it tells the order that was carried out.
abbrev pub HalfTells : ℕ → List ℕ → Sight → Fleet → Fleet → List Entry → List Entry → Type 0
HalfTells conn line sight old new entries told =
    (told ≡ entries)
    ⊎ ((o : Order) × (text : List ℕ) × MeansOrder line o × RunsOrder sight old o text new × (told ≡ note_entry conn (journal_words o) text entries))

-- what goes out, whether the connection is closed behind it, and whether the run ends
pub record Answer : Type 0 where
  pub bytes : Option (List ℕ)
  pub closes : Bool
  pub stop : Bool

-- The item has this answer. A line that is too long, a request that says so and a reader's failure close the connection. The
-- front of a line has no answer yet, and what wasn't read for want of memory has none but that.
abbrev pub Answers : Host → ℕ → Item → Sheet → Sheet → Answer → Type 0
Answers host conn (Payload bytes) old new answer =
    (sent : List ℕ) × AnswersPayload host conn bytes (intake_in old.desk) (intake_in new.desk) old.handled new.handled sent × LeavesOrders old new
    × (answer ≡ record { bytes = Some sent; closes = false; stop = false })
Answers host conn (Line line sight) old new answer =
    (sent : List ℕ) × (stop : Bool) × AnswersLine conn line sight (fleet_in old.desk) (fleet_in new.desk) old.ordered new.ordered old.entries new.entries sent stop
    × (new.desk.entropy ≡ old.desk.entropy) × (new.handled ≡ old.handled) × (answer ≡ record { bytes = Some sent; closes = false; stop = stop })
Answers host conn LongLine old new answer = (new ≡ old) × (answer ≡ record { bytes = None; closes = true; stop = false })
Answers host conn Partial old new answer = (new ≡ old) × (answer ≡ record { bytes = None; closes = false; stop = false })
Answers host conn (Request request) old new answer =
    (sent : List ℕ) × AnswersRequest host conn request (intake_in old.desk) (intake_in new.desk) old.handled new.handled sent × LeavesOrders old new
    × (answer ≡ record { bytes = Some sent; closes = request.close; stop = false })
Answers host conn (Broken why) old new answer = (new ≡ old) × (answer ≡ record { bytes = Some (failure_answer why); closes = true; stop = false })
Answers host conn Unread old new answer = ⊥

-- Memory was wanting for the item, which was handled or not.
abbrev pub HalfHandles : ℕ → Item → Sheet → Sheet → Type 0
HalfHandles conn (Payload bytes) old new =
    HalfReads (payload_of bytes) (intake_in old.desk) (intake_in new.desk) × (new.handled ≡ old.handled) × LeavesOrders old new
HalfHandles conn (Line line sight) old new =
    HalfRuns line sight (fleet_in old.desk) (fleet_in new.desk) × (new.desk.entropy ≡ old.desk.entropy) × (new.handled ≡ old.handled) × (new.ordered ≡ old.ordered)
    × HalfTells conn line sight (fleet_in old.desk) (fleet_in new.desk) old.entries new.entries
HalfHandles conn LongLine old new = new ≡ old
HalfHandles conn Partial old new = new ≡ old
HalfHandles conn (Request request) old new =
    HalfTakesRequest request (intake_in old.desk) (intake_in new.desk) × (new.handled ≡ old.handled) × LeavesOrders old new
HalfHandles conn (Broken why) old new = new ≡ old
HalfHandles conn Unread old new = new ≡ old

-- the constant answer for want of memory
abbrev pub no_memory_on : Kind → List ℕ
no_memory_on kind.Http = HTTP_NO_MEMORY
no_memory_on kind.Ws = WS_NO_MEMORY
no_memory_on kind.Operator = LINE_NO_MEMORY

-- The item gets its answer, or that for want of memory, behind which the connection is closed.
abbrev pub Gets : Host → Kind → ℕ → Item → Sheet → Sheet → Answer → Type 0
Gets host kind conn item old new answer =
    Answers host conn item old new answer
    ⊎ (HalfHandles conn item old new × (answer ≡ record { bytes = Some (no_memory_on kind); closes = true; stop = false }))

-- The bytes were sent, where there are any.
abbrev pub Says : ℕ → Option (List ℕ) → WireView → WireView → Type 0
Says conn None old new = new ≡ old
Says conn (Some bytes) old new = IsDone (Sent conn bytes) old new

-- The bytes go out. The connection stays exactly where they weren't lost and it isn't closed behind them.
abbrev pub GoesOut : ℕ → Option (List ℕ) → Bool → WireView → WireView → Bool → Type 0
GoesOut conn bytes closes old new true = (closes ≡ false) × Says conn bytes old new
GoesOut conn bytes closes old new false =
    (IsSome bytes × IsLost conn old new)
    ⊎ ((closes ≡ true) × ((mid : WireView) × Says conn bytes old mid × IsDone (Closed conn) mid new))
