-- A server to which at most 16,384 identifiers were sent has room in the whole run.
use Rattle.std.proofs.Common.{◌≡◌, ℕ, zero, suc, ◌≤◌, List, [], ◌∷◌, ◌++◌, length, map, Bool, true, false, cond, not, ◌&&◌, ◌||◌, Option, None, Some, slice_get, refl, sym, ◌∙◌, ap, subst, arith}
use Rattle.std.specs.Prelude.{filter, is_some, nat_le}
use Rattle.std.specs.Str.{bytes_eq}
use Rattle.std.proofs.lemmas.Bool.{false≢true}
use Rattle.std.proofs.lemmas.Bool.Decides.{nat_tests}
use Rattle.message_values.specs.declared.report.AgentToServer.{AgentToServer}
use Rattle.server_core.specs.declared.rows.Record.{Record}
use Rattle.server_core.specs.declared.rows.TheConstants.{AGENT_LIMIT}
use Rattle.server_core.specs.History.{Event as ServerEvent, Reported, Offered as OfferMade, Ordered as RestartOrdered, Withdrawn as AllWithdrawn, Forgotten as AgentForgotten, ascending_uids, is_among}
use Rattle.server_core.specs.Offers.{fits_offer}
use Rattle.server_core.specs.Rows.{IsAscending, put_uid}
use Rattle.server_core.specs.Table.{Table, table_of, table_after, table_with_report, table_with_pending, with_offer as offer_waits, with_restart as restart_waits, with_nothing as nothing_waits, find_record, pending_at, is_held, is_crowded_at, is_accepted_at, record_after}
use Rattle.agent_rules.specs.Reports.{Entry, message_of}
use Rattle.agent_rules.specs.Half.{entry_of}
use Rattle.agent_rules.specs.Calls.{may_report}
use Rattle.world_model.specs.World.{World, Holding, Event, Changed, Sent, Delivered, Answered, Took, Erred, GaveUp, Offered, Ordered, Withdrawn, Forgotten, ServerRestarted, Restarted, Crashed, server_to, delivers, with_offer, with_restart, with_nothing, changes_held, sends, after, run, Start, opening, world}
use Rattle.world_model.specs.Servers.{arrives, arrived_after, uids_sent, IsNeverFull}
use Rattle.world_model.proofs.Below.{KeepsTable, KeepsOrder}
use Rattle.world_model.proofs.Places.{none≢some, some_same, bytes_self, bytes_same}
use Rattle.world_model.proofs.Identifiers.{distinct_ascending, no_more, put_uids, not_among}
use Rattle.world_model.proofs.Judgements.{message_uid}
use Rattle.world_model.proofs.Rows.{ascending-drop, among-drop}

-- the entry's agent isn't crowded out at this server, after this history
abbrev pub HasRoomFor : List ℕ → World → List ServerEvent → Option Entry → Type 0
HasRoomFor server w history None = Unit {0}
HasRoomFor server w history (Some e) = bytes_eq (server_to w e) server ≡ true → is_crowded_at (table_of history) e.uid ≡ false

abbrev pub HasRoom : List ℕ → World → List ServerEvent → Event → Type 0
HasRoom server w history (Delivered place given) = HasRoomFor server w history (slice_get w.sent place)
HasRoom server w history _ = Unit {0}

abbrev pub HasRoomInRun : List ℕ → List Event → World → List ServerEvent → Type 0
HasRoomInRun server [] w history = Unit {0}
HasRoomInRun server (e ∷ es) w history = HasRoom server w history e × HasRoomInRun server es (after w e) (arrived_after server w history e)

-- nothing that the run delivers there is crowded out
abbrev pub HasRoomAlways : Start → List Event → List ℕ → Type 0
HasRoomAlways start events server = HasRoomInRun server events (opening start) []

-- the identifiers held
abbrev uids_held : Table → List (List ℕ)
uids_held table = map (λ r. r.uid) table.records

-- those held ascend, and were sent there
record IsSentTo (server : List ℕ) (w : World) (table : Table) : Type 0 where
  pub up : IsAscending (uids_held table)
  pub all : (u : List ℕ) → is_among (uids_held table) u ≡ true → is_among (uids_sent server w) u ≡ true

-- the identifiers of the entries sent to a server, where servers answer at these endpoints
abbrev pub uids_of : (List ℕ → List ℕ) → List ℕ → List Entry → List (List ℕ)
uids_of server_of server sent = map (λ e. e.uid) (filter (λ e. bytes_eq (server_of e.server) server) sent)

or_right : (a b : Bool) → b ≡ true → (a || b) ≡ true
or_right true b h = refl
or_right false b h = h

-- what was sent stays sent
sent_grows : (server_of : List ℕ → List ℕ) (server : List ℕ) (sent : List Entry) (new : Entry) (u : List ℕ) → is_among (uids_of server_of server sent) u ≡ true → is_among (uids_of server_of server (sent ++ new ∷ [])) u ≡ true
sent_grows server_of server [] new u among = absurd (false≢true among)
sent_grows server_of server (x ∷ sent) new u among = by_test (λ h. sent_grows server_of server sent new u h) (bytes_eq (server_of x.server) server) among
  where
    by_uid : (is_among (uids_of server_of server sent) u ≡ true → is_among (uids_of server_of server (sent ++ new ∷ [])) u ≡ true) → (b : Bool)
        → (b || is_among (uids_of server_of server sent) u) ≡ true → (b || is_among (uids_of server_of server (sent ++ new ∷ [])) u) ≡ true
    by_uid rest true h = refl
    by_uid rest false h = rest h

    by_test : (is_among (uids_of server_of server sent) u ≡ true → is_among (uids_of server_of server (sent ++ new ∷ [])) u ≡ true) → (t : Bool)
        → is_among (map (λ (e : Entry). e.uid) (cond t (x ∷ filter (λ (e : Entry). bytes_eq (server_of e.server) server) sent) (filter (λ (e : Entry). bytes_eq (server_of e.server) server) sent))) u ≡ true
        → is_among (map (λ (e : Entry). e.uid) (cond t (x ∷ filter (λ (e : Entry). bytes_eq (server_of e.server) server) (sent ++ new ∷ [])) (filter (λ (e : Entry). bytes_eq (server_of e.server) server) (sent ++ new ∷ [])))) u ≡ true
    by_test rest true h = by_uid rest (bytes_eq x.uid u) h
    by_test rest false h = rest h

-- an entry's identifier was sent
entry_sent : (server_of : List ℕ → List ℕ) (server : List ℕ) (sent : List Entry) (place : ℕ) (e : Entry) → slice_get sent place ≡ Some e → bytes_eq (server_of e.server) server ≡ true → is_among (uids_of server_of server sent) e.uid ≡ true
entry_sent server_of server [] place e at here = absurd (none≢some at)
entry_sent server_of server (x ∷ sent) zero e at here =
    let same : x ≡ e = some_same at in
    ap (λ t. is_among (map (λ (y : Entry). y.uid) (cond t (x ∷ filter (λ (y : Entry). bytes_eq (server_of y.server) server) sent) (filter (λ (y : Entry). bytes_eq (server_of y.server) server) sent))) e.uid)
    (ap (λ (y : Entry). bytes_eq (server_of y.server) server) same ∙ here)
    ∙ ap (λ b. b || is_among (uids_of server_of server sent) e.uid) (ap (λ (y : Entry). bytes_eq y.uid e.uid) same ∙ bytes_self e.uid)
entry_sent server_of server (x ∷ sent) (suc place) e at here = by_test (entry_sent server_of server sent place e at here) (bytes_eq (server_of x.server) server)
  where
    by_test : is_among (uids_of server_of server sent) e.uid ≡ true → (t : Bool)
        → is_among (map (λ (y : Entry). y.uid) (cond t (x ∷ filter (λ (y : Entry). bytes_eq (server_of y.server) server) sent) (filter (λ (y : Entry). bytes_eq (server_of y.server) server) sent))) e.uid ≡ true
    by_test rest true = or_right (bytes_eq x.uid e.uid) (is_among (uids_of server_of server sent) e.uid) rest
    by_test rest false = rest

after_grows : (server : List ℕ) (w : World) (e : Event) (u : List ℕ) → is_among (uids_sent server w) u ≡ true → is_among (uids_sent server (after w e)) u ≡ true
after_grows server w (Changed now) u among = among
after_grows server w Sent u among = by_test (may_report w.agent)
  where
    by_test : (t : Bool) → is_among (uids_sent server (cond t (sends w) w)) u ≡ true
    by_test true = sent_grows w.server_of server w.sent (entry_of w.agent) u among
    by_test false = among
after_grows server w (Delivered place given) u among = by_entry (slice_get w.sent place)
  where
    by_entry : (o : Option Entry) → is_among (uids_sent server (delivers w place given o)) u ≡ true
    by_entry None = among
    by_entry (Some e) = among
after_grows server w (Answered r) u among = among
after_grows server w (Took message r) u among = among
after_grows server w (Erred error) u among = among
after_grows server w GaveUp u among = among
after_grows server w (Offered s uid offer) u among = by_fits (fits_offer offer) (w.held s uid)
  where
    by_fits : (t : Bool) (o : Option Holding) → is_among (uids_sent server (cond t (changes_held (with_offer offer) w s uid o) w)) u ≡ true
    by_fits true None = among
    by_fits true (Some h) = among
    by_fits false o = among
after_grows server w (Ordered s uid) u among = by_held (w.held s uid)
  where
    by_held : (o : Option Holding) → is_among (uids_sent server (changes_held with_restart w s uid o)) u ≡ true
    by_held None = among
    by_held (Some h) = among
after_grows server w (Withdrawn s uid) u among = by_held (w.held s uid)
  where
    by_held : (o : Option Holding) → is_among (uids_sent server (changes_held with_nothing w s uid o)) u ≡ true
    by_held None = among
    by_held (Some h) = among
after_grows server w (Forgotten s uid) u among = among
after_grows server w (ServerRestarted s) u among = among
after_grows server w (Restarted local asks_uid) u among = among
after_grows server w (Crashed during n) u among = among

run_grows : (server : List ℕ) (events : List Event) (w : World) (u : List ℕ) → is_among (uids_sent server w) u ≡ true → is_among (uids_sent server (run events w)) u ≡ true
run_grows server [] w u among = among
run_grows server (e ∷ es) w u among = run_grows server es (after w e) u (after_grows server w e u among)

within_if : (n most : ℕ) → nat_le n most ≡ true → n ≤ most
within_if n most e = grind (arith, nat_tests)

-- with room for its entries
has_room_for : KeepsOrder → (server : List ℕ) (w : World) (table : Table) → table.limit ≡ AGENT_LIMIT → (place : ℕ) (e : Entry) → slice_get w.sent place ≡ Some e → bytes_eq (server_to w e) server ≡ true → IsSentTo server w table
    → (ids : List (List ℕ)) → ((u : List ℕ) → is_among (uids_sent server w) u ≡ true → is_among ids u ≡ true) → length ids ≤ 16384
    → is_crowded_at table e.uid ≡ false
has_room_for order server w table most place e at here s ids all few = by_found (find_record table.records e.uid) refl
  where
    length_held : (rs : List Record) → length (map (λ (r : Record). r.uid) rs) ≡ length rs
    length_held [] = refl
    length_held (r ∷ rs) = ap (λ n. suc n) (length_held rs)

    more : (u : List ℕ) → is_among (e.uid ∷ uids_held table) u ≡ true → is_among ids u ≡ true
    more u = by_test (bytes_eq e.uid u) refl
      where
        by_test : (t : Bool) → bytes_eq e.uid u ≡ t → (t || is_among (uids_held table) u) ≡ true → is_among ids u ≡ true
        by_test true is h = all u (ap (is_among (uids_sent server w)) (sym (bytes_same e.uid u is)) ∙ entry_sent w.server_of server w.sent place e at here)
        by_test false is h = all u (s.all u h)

    by_limit : suc (length table.records) ≤ 16384 → (t : Bool) → nat_le table.limit (length table.records) ≡ t → t ≡ false
    by_limit under true is = absurd (omega (arith, under, most, within_if table.limit (length table.records) is))
    by_limit under false is = refl

    by_found : (o : Option Record) → find_record table.records e.uid ≡ o → (not (is_some o) && nat_le table.limit (length table.records)) ≡ false
    by_found None none =
        by_limit
        (omega (
          arith,
          few,
          length_held table.records,
          no_more (e.uid ∷ uids_held table) ids (not_among (λ (r : Record). r.uid) table.records e.uid none, distinct_ascending order (uids_held table) s.up) more,
        ))
        (nat_le table.limit (length table.records)) refl
    by_found (Some r) some = refl

-- what follows a report of an entry
sent_reported : KeepsOrder → (server : List ℕ) (w : World) (table : Table) (place : ℕ) (e : Entry) → slice_get w.sent place ≡ Some e → bytes_eq (server_to w e) server ≡ true
    → IsSentTo server w table → IsSentTo server w (table_after table (Reported (message_of e)))
sent_reported order server w table place e at here s = by_test (is_accepted_at table (message_of e))
  where
    m : AgentToServer
    m = message_of e

    now : Record
    now = record_after (find_record table.records m.instance_uid) (pending_at table.pendings m.instance_uid).stale m

    uids : uids_held (table_with_report table m) ≡ put_uid (uids_held table) e.uid
    uids = put_uids (λ (r : Record). r.uid) table.records now ∙ ap (put_uid (uids_held table)) (message_uid e)

    by_uid : (u : List ℕ) (t : Bool) → bytes_eq e.uid u ≡ t → (t || is_among (uids_held table) u) ≡ true → is_among (uids_sent server w) u ≡ true
    by_uid u true is h = ap (is_among (uids_sent server w)) (sym (bytes_same e.uid u is)) ∙ entry_sent w.server_of server w.sent place e at here
    by_uid u false is h = s.all u h

    by_test : (t : Bool) → IsSentTo server w (cond t (table_with_report table m) table)
    by_test true = record {
      up = subst IsAscending (sym uids) (order.ascend (uids_held table) e.uid s.up);
      all = λ u among. by_uid u (bytes_eq e.uid u) refl (sym (ap (λ us. is_among us u) uids ∙ order.among (uids_held table) e.uid u) ∙ among);
    }
    by_test false = s

sent_same : (server : List ℕ) (w : World) (table other : Table) → table.records ≡ other.records → IsSentTo server w table → IsSentTo server w other
sent_same server w table other same s = record {
  up = subst (λ (rs : List Record). IsAscending (map (λ r. r.uid) rs)) same s.up;
  all = λ u among. s.all u (ap (λ (rs : List Record). is_among (map (λ r. r.uid) rs) u) same ∙ among);
}

-- identifiers that are all among others are no more than these, each counted once
pub few_among : KeepsOrder → (us vs : List (List ℕ)) → ((u : List ℕ) → is_among us u ≡ true → is_among vs u ≡ true) → length (ascending_uids us) ≤ length vs
few_among order us vs all =
    no_more (ascending_uids us) vs (distinct_ascending order (ascending_uids us) (order.all_ascend us)) (λ u among. all u (sym (order.all_among us u) ∙ among))

-- a server that isn't full wasn't full before
pub room_earlier : KeepsOrder → (start : Start) (events : List Event) (e : Event) (server : List ℕ) → world start (events ++ e ∷ []) ≡ after (world start events) e
    → IsNeverFull start (events ++ e ∷ []) server → IsNeverFull start events server
room_earlier order start events e server goes few =
    omega (
      arith,
      few,
      few_among order (uids_sent server (world start events)) (ascending_uids (uids_sent server (world start (events ++ e ∷ []))))
          (λ u among.
          order.all_among (uids_sent server (world start (events ++ e ∷ []))) u
          ∙ ap (λ (w : World). is_among (uids_sent server w) u) goes
          ∙ after_grows server (world start events) e u among),
    )

module _ (keeps : KeepsTable) (order : KeepsOrder) where
  sent_delivered : (server : List ℕ) (w : World) (history : List ServerEvent) (place : ℕ) (o : Option Entry) → slice_get w.sent place ≡ o
      → IsSentTo server w (table_of history) → IsSentTo server w (table_of (arrives server w history o))
  sent_delivered server w history place None at s = s
  sent_delivered server w history place (Some e) at s = by_test (bytes_eq (server_to w e) server) refl
    where
      by_test : (t : Bool) → bytes_eq (server_to w e) server ≡ t → IsSentTo server w (table_of (cond t (history ++ Reported (message_of e) ∷ []) history))
      by_test true here = subst (IsSentTo server w) (keeps.follows history (Reported (message_of e))) (sent_reported order server w (table_of history) place e at here s)
      by_test false other = s

  sent_after : (server : List ℕ) (w : World) (history : List ServerEvent) (e : Event) → IsSentTo server w (table_of history)
      → IsSentTo server w (table_of (arrived_after server w history e))
  sent_after server w history (Changed now) s = s
  sent_after server w history Sent s = s
  sent_after server w history (Delivered place given) s = sent_delivered server w history place (slice_get w.sent place) refl s
  sent_after server w history (Answered r) s = s
  sent_after server w history (Took message r) s = s
  sent_after server w history (Erred error) s = s
  sent_after server w history GaveUp s = s
  sent_after server w history (Offered other uid offer) s = by_test (bytes_eq other server)
    where
      table : Table
      table = table_of history

      by_lasting : (t : Bool) → table.records ≡ (cond t (table_with_pending table (offer_waits (pending_at table.pendings uid) offer)) table).records
      by_lasting true = refl
      by_lasting false = refl

      by_test : (t : Bool) → IsSentTo server w (table_of (cond t (history ++ OfferMade uid offer ∷ []) history))
      by_test true =
          sent_same server w table (table_of (history ++ OfferMade uid offer ∷ []))
          (by_lasting (is_held table uid && fits_offer offer) ∙ ap (λ (t : Table). t.records) (keeps.follows history (OfferMade uid offer))) s
      by_test false = s
  sent_after server w history (Ordered other uid) s = by_test (bytes_eq other server)
    where
      table : Table
      table = table_of history

      by_lasting : (t : Bool) → table.records ≡ (cond t (table_with_pending table (restart_waits (pending_at table.pendings uid))) table).records
      by_lasting true = refl
      by_lasting false = refl

      by_test : (t : Bool) → IsSentTo server w (table_of (cond t (history ++ RestartOrdered uid ∷ []) history))
      by_test true =
          sent_same server w table (table_of (history ++ RestartOrdered uid ∷ []))
          (by_lasting (is_held table uid) ∙ ap (λ (t : Table). t.records) (keeps.follows history (RestartOrdered uid))) s
      by_test false = s
  sent_after server w history (Withdrawn other uid) s = by_test (bytes_eq other server)
    where
      table : Table
      table = table_of history

      by_lasting : (t : Bool) → table.records ≡ (cond t (table_with_pending table (nothing_waits (pending_at table.pendings uid))) table).records
      by_lasting true = refl
      by_lasting false = refl

      by_test : (t : Bool) → IsSentTo server w (table_of (cond t (history ++ AllWithdrawn uid ∷ []) history))
      by_test true =
          sent_same server w table (table_of (history ++ AllWithdrawn uid ∷ []))
          (by_lasting (is_held table uid) ∙ ap (λ (t : Table). t.records) (keeps.follows history (AllWithdrawn uid))) s
      by_test false = s
  sent_after server w history (Forgotten other uid) s = by_test (bytes_eq other server)
    where
      table : Table
      table = table_of history

      by_test : (t : Bool) → IsSentTo server w (table_of (cond t (history ++ AgentForgotten uid ∷ []) history))
      by_test true = subst (IsSentTo server w) (keeps.follows history (AgentForgotten uid)) (record {
        up = ascending-drop (λ (r : Record). r.uid) table.records uid s.up;
        all = λ u among. s.all u (among-drop (λ (r : Record). r.uid) table.records uid u among);
      })
      by_test false = s
  sent_after server w history (ServerRestarted other) s = by_test (bytes_eq other server)
    where
      by_test : (t : Bool) → IsSentTo server w (table_of (cond t [] history))
      by_test true = record { up = tt; all = λ u among. absurd (false≢true among) }
      by_test false = s
  sent_after server w history (Restarted local asks_uid) s = s
  sent_after server w history (Crashed during n) s = s

  sent_on : (server : List ℕ) (w : World) (e : Event) (table : Table) → IsSentTo server w table → IsSentTo server (after w e) table
  sent_on server w e table s = record { up = s.up; all = λ u among. after_grows server w e u (s.all u among) }

  room_run : (server : List ℕ) (events : List Event) (w : World) (history : List ServerEvent) (ids : List (List ℕ))
      → ((u : List ℕ) → is_among (uids_sent server (run events w)) u ≡ true → is_among ids u ≡ true) → length ids ≤ 16384
      → IsSentTo server w (table_of history) → HasRoomInRun server events w history
  room_run server [] w history ids all few s = tt
  room_run server (e ∷ es) w history ids all few s = (
    at_event e (λ u among. all u (run_grows server (e ∷ es) w u among)),
    room_run server es (after w e) (arrived_after server w history e) ids all few (sent_on server w e (table_of (arrived_after server w history e)) (sent_after server w history e s)),
  )
    where
      at_entry : ((u : List ℕ) → is_among (uids_sent server w) u ≡ true → is_among ids u ≡ true) → (place : ℕ) (o : Option Entry) → slice_get w.sent place ≡ o → HasRoomFor server w history o
      at_entry there place None at = tt
      at_entry there place (Some x) at = λ here. has_room_for order server w (table_of history) refl place x at here s ids there few

      at_event : (x : Event) → ((u : List ℕ) → is_among (uids_sent server w) u ≡ true → is_among ids u ≡ true) → HasRoom server w history x
      at_event (Changed now) there = tt
      at_event Sent there = tt
      at_event (Delivered place given) there = at_entry there place (slice_get w.sent place) refl
      at_event (Answered r) there = tt
      at_event (Took message r) there = tt
      at_event (Erred error) there = tt
      at_event GaveUp there = tt
      at_event (Offered other uid offer) there = tt
      at_event (Ordered other uid) there = tt
      at_event (Withdrawn other uid) there = tt
      at_event (Forgotten other uid) there = tt
      at_event (ServerRestarted other) there = tt
      at_event (Restarted local asks_uid) there = tt
      at_event (Crashed during n) there = tt

  -- a server that isn't full has room at each delivery
  pub has_room : (start : Start) (events : List Event) (server : List ℕ) → IsNeverFull start events server → HasRoomAlways start events server
  has_room start events server few =
      room_run server events (opening start) [] (ascending_uids (uids_sent server (world start events)))
      (λ u among. order.all_among (uids_sent server (world start events)) u ∙ among) few
      (record { up = tt; all = λ u among. absurd (false≢true among) })
