-- What a server knows is the entry that it holds, and its replies ask where an entry doesn't stand.
use Rattle.std.proofs.Common.{◌≡◌, ℕ, List, [], ◌∷◌, ◌++◌, length, Bool, true, false, cond, not, ◌&&◌, ◌||◌, Option, None, Some, slice_get, refl, sym, ◌∙◌, ap, subst}
use Rattle.std.specs.Prelude.{is_some}
use Rattle.std.specs.Option.{option_and_then, option_map}
use Rattle.std.specs.Str.{bytes_eq}
use Rattle.std.proofs.lemmas.Bool.{eq-eqb}
use Rattle.message_values.specs.declared.report.AgentToServer.{AgentToServer}
use Rattle.server_core.specs.declared.rows.Pending.{Pending}
use Rattle.server_core.specs.declared.rows.Record.{Record}
use Rattle.server_core.specs.Components.{details_under, stale_under}
use Rattle.server_core.specs.History.{Event as ServerEvent, Reported, Offered as OfferMade, Ordered as RestartOrdered, Withdrawn as AllWithdrawn, Forgotten as AgentForgotten, is_uid}
use Rattle.server_core.specs.Offers.{fits_offer}
use Rattle.server_core.specs.Replies.{dues, Unidentified, CrowdedOut, Passed, Taken}
use Rattle.server_core.specs.Table.{Table, table_of, table_with_report, table_with_pending, with_offer as offer_waits, with_restart as restart_waits, with_nothing as nothing_waits, find_record, pending_at, is_held, is_crowded_at, is_accepted_at, is_next, pushed_from, pushed_if, verdict_at}
use Rattle.message_deltas.specs.Obligations.{is_full}
use Rattle.agent_rules.specs.Reports.{Entry, message_of}
use Rattle.agent_rules.specs.Half.{entry_of}
use Rattle.agent_rules.specs.Calls.{may_report}
use Rattle.world_model.specs.World.{World, Holding, Event, Changed, Sent, Delivered, Answered, Took, Erred, GaveUp, Offered, Ordered, Withdrawn, Forgotten, ServerRestarted, Restarted, Crashed, Given, server_to, stands, holding_with, components_at, record_at, dues_with, waiting_at, record_in_world, verdict_in, put_at, delivers, with_offer, with_restart, with_nothing, changes_held, sends, after, run, Start, opening, world, entry_in, entry_held, record_in_world, record_held, push_due}
use Rattle.world_model.specs.Servers.{arrives, arrived_after, arrived, arrivals, record_after_history}
use Rattle.world_model.proofs.Rooms.{HasRoomFor, HasRoom, HasRoomInRun, HasRoomAlways}
use Rattle.world_model.proofs.Below.{TellsStates, KeepsTable}
use Rattle.world_model.proofs.Tables.{Kept, kept_of, nothing_kept, kept_without, kept_after, dues_kept, kept_with_report, kept_with_pending, waiting_own, pending_apart, kept_apart}
use Rattle.world_model.proofs.Places.{none≢some, some_same, slice_get-push_old, bytes_same, bytes_self}
use Rattle.world_model.proofs.Runs.{world_profiles, world_servers}
use Rattle.world_model.proofs.Kept.{IsSound, opening_sound, after_sound, world_sound}
use Rattle.world_model.proofs.Judgements.{message_uid, record_held_is, judged}

-- what is kept of what is held
abbrev pub kept_at : List Entry → Option Holding → List ℕ → Kept
kept_at sent found uid = record { known = record_in_world sent found; waiting = waiting_at sent found uid }

abbrev kept_with : Option Record → Pending → Kept
kept_with known waiting = record { known = known; waiting = waiting }

-- the table has of the agent what the world says
abbrev pub AgreesTable : List ℕ → List ℕ → World → Table → Type 0
AgreesTable server uid w table = kept_of table uid ≡ kept_at w.sent (w.held server uid) uid

abbrev pub Agrees : List ℕ → List ℕ → World → List ServerEvent → Type 0
Agrees server uid w history = AgreesTable server uid w (table_of history)

-- the message of an entry has an identifier
message_named : (e : Entry) → length e.uid ≡ 16 → is_uid (message_of e).instance_uid ≡ true
message_named e named = ap is_uid (message_uid e) ∙ eq-eqb (length e.uid) 16 named

message_room : (e : Entry) (table : Table) → is_crowded_at table e.uid ≡ false → is_crowded_at table (message_of e).instance_uid ≡ false
message_room e table room = ap (is_crowded_at table) (message_uid e) ∙ room

-- what the server keeps of the entry's agent
own_kept : (w : World) (e : Entry) (table : Table) → AgreesTable (server_to w e) e.uid w table
    → kept_of table (message_of e).instance_uid ≡ kept_at w.sent (w.held (server_to w e) e.uid) e.uid
own_kept w e table agrees = ap (kept_of table) (message_uid e) ∙ agrees

-- an offer or an order, to an agent that is held
abbrev changed_table : (Pending → Pending) → List ℕ → Table → Bool → Table
changed_table change uid table held = cond held (table_with_pending table (change (pending_at table.pendings uid))) table

-- what such an event changes of what is held, and of what waits
record IsChange (change : Holding → Holding) (change_waiting : Pending → Pending) : Type 0 where
  pub known : (sent : List Entry) (h : Holding) → record_in_world sent (Some h) ≡ record_in_world sent (Some (change h))
  pub own : (p : Pending) → (change_waiting p).uid ≡ p.uid
  pub waiting : (sent : List Entry) (h : Holding) (uid : List ℕ) → change_waiting (waiting_at sent (Some h) uid) ≡ waiting_at sent (Some (change h)) uid

-- one of another agent leaves what is kept of this one
changed_apart : (change : Holding → Holding) (change_waiting : Pending → Pending) → IsChange change change_waiting
    → (table : Table) (uid u : List ℕ) (held : Bool) → bytes_eq uid u ≡ false → kept_of (changed_table change_waiting uid table held) u ≡ kept_of table u
changed_apart change change_waiting c table uid u true apart =
    pending_apart table (change_waiting (pending_at table.pendings uid)) uid u (c.own (pending_at table.pendings uid) ∙ waiting_own table.pendings uid) apart
changed_apart change change_waiting c table uid u false apart = refl

agrees_changed : (change : Holding → Holding) (change_waiting : Pending → Pending) → IsChange change change_waiting
    → (server u : List ℕ) (w : World) (table : Table) (s uid : List ℕ) (found : Option Holding) → w.held s uid ≡ found → IsSound w → AgreesTable server u w table
    → AgreesTable server u (changes_held change w s uid found) (cond (bytes_eq s server) (changed_table change_waiting uid table (is_held table uid)) table)
agrees_changed change change_waiting c server u w table s uid None is sound agrees = by_tests (bytes_eq s server) (bytes_eq uid u) refl refl
  where
    none : bytes_eq s server ≡ true → bytes_eq uid u ≡ true → find_record table.records uid ≡ None
    none so it =
        ap (find_record table.records) (bytes_same uid u it)
        ∙ ap (λ k. k.known) agrees
        ∙ ap (record_in_world w.sent) (ap (λ x. w.held x u) (sym (bytes_same s server so)) ∙ ap (w.held s) (sym (bytes_same uid u it)) ∙ is)

    by_tests : (t v : Bool) → bytes_eq s server ≡ t → bytes_eq uid u ≡ v
        → kept_of (cond t (changed_table change_waiting uid table (is_held table uid)) table) u ≡ kept_at w.sent (w.held server u) u
    by_tests true true so it = ap (λ r. kept_of (changed_table change_waiting uid table (is_some r)) u) (none so it) ∙ agrees
    by_tests true false so it = changed_apart change change_waiting c table uid u (is_held table uid) it ∙ agrees
    by_tests false v so it = agrees
agrees_changed change change_waiting c server u w table s uid (Some h) is sound agrees = by_tests (bytes_eq s server) (bytes_eq uid u) refl refl
  where
    x : Entry
    x = (sound.held s uid h is).held.0

    at : slice_get w.sent h.place ≡ Some x
    at = (sound.held s uid h is).held.1

    waits : Pending
    waits = change_waiting (pending_at table.pendings uid)

    here : bytes_eq s server ≡ true → w.held server uid ≡ Some h
    here so = ap (λ y. w.held y uid) (sym (bytes_same s server so)) ∙ is

    own : AgreesTable server uid w table → bytes_eq s server ≡ true → waits ≡ waiting_at w.sent (Some (change h)) uid
    own there so =
        ap change_waiting (ap (λ k. k.waiting) there ∙ ap (λ y. waiting_at w.sent y uid) (here so))
        ∙ c.waiting w.sent h uid

    own_known : AgreesTable server uid w table → bytes_eq s server ≡ true → find_record table.records uid ≡ record_in_world w.sent (Some (change h))
    own_known there so = ap (λ k. k.known) there ∙ ap (record_in_world w.sent) (here so) ∙ c.known w.sent h

    own_kept_now : AgreesTable server uid w table → bytes_eq s server ≡ true → kept_of (changed_table change_waiting uid table (is_held table uid)) uid ≡ kept_at w.sent (Some (change h)) uid
    own_kept_now there so =
        let some : find_record table.records uid ≡ Some (record_at w.sent h.told x) =
        ap (λ k. k.known) there ∙ ap (record_in_world w.sent) (here so) ∙ record_held_is w.sent h x at in
        ap (λ r. kept_of (changed_table change_waiting uid table (is_some r)) uid) some
        ∙ kept_with_pending table waits uid
        ∙ ap (λ y. cond (bytes_eq y uid) (kept_with (find_record table.records uid) waits) (kept_of table uid)) (ap (λ p. p.uid) (own there so))
        ∙ ap (λ b. cond b (kept_with (find_record table.records uid) waits) (kept_of table uid)) (bytes_self uid)
        ∙ (λ i. record { known = own_known there so i; waiting = own there so i })

    by_tests : (t v : Bool) → bytes_eq s server ≡ t → bytes_eq uid u ≡ v
        → kept_of (cond t (changed_table change_waiting uid table (is_held table uid)) table) u ≡ kept_at w.sent (cond (t && v) (Some (change h)) (w.held server u)) u
    by_tests true true so it =
        let same : uid ≡ u = bytes_same uid u it in
        subst (λ y. kept_of (changed_table change_waiting uid table (is_held table uid)) y ≡ kept_at w.sent (Some (change h)) y) same
        (own_kept_now (subst (λ y. AgreesTable server y w table) (sym same) agrees) so)
    by_tests true false so it = changed_apart change change_waiting c table uid u (is_held table uid) it ∙ agrees
    by_tests false v so it = agrees

-- more entries leave what is held
same_components : (sent : List Entry) (new : Entry) (told : Option ℕ) → ((k : ℕ) → told ≡ Some k → (e : Entry) × (slice_get sent k ≡ Some e))
    → components_at sent told ≡ components_at (sent ++ new ∷ []) told
same_components sent new None there = refl
same_components sent new (Some k) there =
    let x = there k refl in ap (option_and_then (λ (e : Entry). e.details)) (x.1 ∙ sym (slice_get-push_old sent new k x.0 x.1))

same_kept : (w : World) (new : Entry) (server uid : List ℕ) (found : Option Holding) → IsSound w → w.held server uid ≡ found
    → kept_at w.sent found uid ≡ kept_at (w.sent ++ new ∷ []) found uid
same_kept w new server uid None s is = refl
same_kept w new server uid (Some h) s is = λ i. record {
  known = option_map (λ (e : Entry). record { uid = e.uid; number = e.number; left = false; state = e.state; details = details_under e.state.components (told i) }) (at i);
  waiting = record {
    uid = uid;
    offers = h.offers;
    restart = h.restart;
    stale = stale_under (option_and_then (λ (e : Entry). e.state.components) (at i)) (told i);
  };
}
  where
    told : components_at w.sent h.told ≡ components_at (w.sent ++ new ∷ []) h.told
    told = same_components w.sent new h.told (λ k told. let y = (s.held server uid h is).told k told in (y.0, y.1))

    at : slice_get w.sent h.place ≡ slice_get (w.sent ++ new ∷ []) h.place
    at = let x = (s.held server uid h is).held in x.1 ∙ sym (slice_get-push_old w.sent new h.place x.0 x.1)

and_case : (a f : Bool) (x y : Table) → cond (a && f) x y ≡ cond f (cond a x y) y
and_case true true x y = refl
and_case true false x y = refl
and_case false true x y = refl
and_case false false x y = refl

-- the agent isn't crowded out at the delivery of this entry
abbrev pub IsSparedFor : List ℕ → List ℕ → World → List ServerEvent → Option Entry → Type 0
IsSparedFor server uid w history None = Unit {0}
IsSparedFor server uid w history (Some e) = bytes_eq (server_to w e) server ≡ true → bytes_eq e.uid uid ≡ true → is_crowded_at (table_of history) e.uid ≡ false

abbrev pub IsSpared : List ℕ → List ℕ → World → List ServerEvent → Event → Type 0
IsSpared server uid w history (Delivered place given) = IsSparedFor server uid w history (slice_get w.sent place)
IsSpared server uid w history _ = Unit {0}

-- a server with room spares each agent
spared_by_room : (server uid : List ℕ) (w : World) (history : List ServerEvent) (e : Event) → HasRoom server w history e → IsSpared server uid w history e
spared_by_room server uid w history (Changed now) room = tt
spared_by_room server uid w history Sent room = tt
spared_by_room server uid w history (Delivered place given) room = by_entry (slice_get w.sent place) room
  where
    by_entry : (o : Option Entry) → HasRoomFor server w history o → IsSparedFor server uid w history o
    by_entry None has = tt
    by_entry (Some e) has = λ here own. has here
spared_by_room server uid w history (Answered r) room = tt
spared_by_room server uid w history (Took message r) room = tt
spared_by_room server uid w history (Erred error) room = tt
spared_by_room server uid w history GaveUp room = tt
spared_by_room server uid w history (Offered s' u offer) room = tt
spared_by_room server uid w history (Ordered s' u) room = tt
spared_by_room server uid w history (Withdrawn s' u) room = tt
spared_by_room server uid w history (Forgotten s' u) room = tt
spared_by_room server uid w history (ServerRestarted other) room = tt
spared_by_room server uid w history (Restarted local asks_uid) room = tt
spared_by_room server uid w history (Crashed during n) room = tt

module _ (tells : TellsStates) (keeps : KeepsTable) where
  -- the report of an entry is accepted exactly where the entry stands
  accepted_is : (w : World) (place : ℕ) (e : Entry) (table : Table) → IsSound w → AgreesTable (server_to w e) e.uid w table
      → is_crowded_at table e.uid ≡ false → slice_get w.sent place ≡ Some e
      → is_accepted_at table (message_of e) ≡ stands w place e
  accepted_is w place e table s agrees room at =
      (λ i. message_named e (s.good place e at).named i
      && (not (message_room e table room i) && (is_full (message_of e) || is_next (own_kept w e table agrees i).known (message_of e).sequence_num)))
      ∙ (judged tells w place e s at).takes

  -- what becomes of the report is what becomes of the entry
  pub verdict_is : (w : World) (place : ℕ) (e : Entry) (history : List ServerEvent) → IsSound w → Agrees (server_to w e) e.uid w history
      → is_crowded_at (table_of history) e.uid ≡ false → slice_get w.sent place ≡ Some e
      → verdict_at (table_of history) (message_of e) ≡ verdict_in w place e
  verdict_is w place e history s agrees room at =
      (λ i. cond (not (message_named e (s.good place e at).named i)) Unidentified
      (cond (message_room e (table_of history) room i) CrowdedOut
      (cond (accepted_is w place e (table_of history) s agrees room at i) (Taken (dues_kept (own_kept w e (table_of history) agrees i) (message_of e))) Passed)))
      ∙ by_test (stands w place e) refl
    where
      own : Kept
      own = kept_at w.sent (w.held (server_to w e) e.uid) e.uid

      by_test : (t : Bool) → stands w place e ≡ t
          → cond t (Taken (dues_kept own (message_of e))) Passed ≡ cond t (Taken (dues_with w.sent (w.held (server_to w e) e.uid) place e)) Passed
      by_test true stood = λ i. Taken (dues (((judged tells w place e s at).becomes stood).record_is i) own.waiting)
      by_test false stood = refl

  agrees_delivered : (server uid : List ℕ) (w : World) (history : List ServerEvent) (place : ℕ) (given : Given) (o : Option Entry) → slice_get w.sent place ≡ o
      → IsSparedFor server uid w history o → IsSound w → Agrees server uid w history → Agrees server uid (delivers w place given o) (arrives server w history o)
  agrees_delivered server uid w history place given None at room s agrees = agrees
  agrees_delivered server uid w history place given (Some e) at room s agrees =
      by_tests (bytes_eq (server_to w e) server) (bytes_eq e.uid uid) refl refl ∙ ap (λ h. kept_at w.sent h uid) (sym (read (stands w place e)))
    where
      now : Holding
      now = holding_with (w.held (server_to w e) e.uid) place e

      read : (b : Bool) → cond b (put_at w.held (server_to w e) e.uid now) w.held server uid
          ≡ cond b (cond (bytes_eq (server_to w e) server && bytes_eq e.uid uid) (Some now) (w.held server uid)) (w.held server uid)
      read true = refl
      read false = refl

      same : (o : Option Holding) (b : Bool) → o ≡ cond b o o
      same o true = refl
      same o false = refl

      more : List ServerEvent
      more = history ++ Reported (message_of e) ∷ []

      m : AgentToServer
      m = message_of e

      table : Table
      table = table_of history

      own : Kept
      own = kept_at w.sent (w.held (server_to w e) e.uid) e.uid

      -- what the server keeps of the agent after its report
      kept_are : AgreesTable (server_to w e) e.uid w table → is_crowded_at table e.uid ≡ false
          → kept_of (table_of more) e.uid ≡ cond (stands w place e) (kept_after own m) (kept_of table e.uid)
      kept_are there has_room =
          ap (λ t. kept_of t e.uid) (sym (keeps.follows history (Reported m)))
          ∙ by_accepted (is_accepted_at table m)
          ∙ (λ i. cond (accepted_is w place e table s there has_room at i)
          (cond (bytes_eq (message_uid e i) e.uid) (kept_after (own_kept w e table there i) m) (kept_of table e.uid)) (kept_of table e.uid))
          ∙ ap (λ b. cond (stands w place e) (cond b (kept_after own m) (kept_of table e.uid)) (kept_of table e.uid)) (bytes_self e.uid)
        where
          by_accepted : (t : Bool) → kept_of (cond t (table_with_report table m) table) e.uid
              ≡ cond t (cond (bytes_eq m.instance_uid e.uid) (kept_after (kept_of table m.instance_uid) m) (kept_of table e.uid)) (kept_of table e.uid)
          by_accepted true = kept_with_report table m e.uid
          by_accepted false = refl

      new_kept : stands w place e ≡ true → kept_after own m ≡ kept_at w.sent (Some now) e.uid
      new_kept stood =
          let t = (judged tells w place e s at).becomes stood in
          λ i. record { known = (ap (λ r. Some r) t.record_is ∙ sym (record_held_is w.sent now e at)) i; waiting = t.waiting_is i }

      by_stands : AgreesTable (server_to w e) e.uid w table → (t : Bool) → stands w place e ≡ t
          → cond t (kept_after own m) (kept_of table e.uid) ≡ kept_at w.sent (cond t (Some now) (w.held (server_to w e) e.uid)) e.uid
      by_stands there true stood = new_kept stood
      by_stands there false stood = there

      here : server_to w e ≡ server → e.uid ≡ uid → is_crowded_at table e.uid ≡ false
          → kept_of (table_of more) uid ≡ kept_at w.sent (cond (stands w place e) (Some now) (w.held server uid)) uid
      here to its has_room =
          let there : AgreesTable (server_to w e) e.uid w table =
          subst (λ x. AgreesTable x e.uid w table) (sym to) (subst (λ u. AgreesTable server u w table) (sym its) agrees) in
          subst (λ x. kept_of (table_of more) uid ≡ kept_at w.sent (cond (stands w place e) (Some now) (w.held x uid)) uid) to
          (subst (λ u. kept_of (table_of more) u ≡ kept_at w.sent (cond (stands w place e) (Some now) (w.held (server_to w e) u)) u) its
          (kept_are there has_room ∙ by_stands there (stands w place e) refl))

      -- a report of another agent
      other : bytes_eq e.uid uid ≡ false → kept_of (table_of more) uid ≡ kept_of table uid
      other apart = ap (λ t. kept_of t uid) (sym (keeps.follows history (Reported m))) ∙ kept_apart table (Reported m) uid (ap (λ u. bytes_eq u uid) (message_uid e) ∙ apart)

      by_tests : (t u : Bool) → bytes_eq (server_to w e) server ≡ t → bytes_eq e.uid uid ≡ u
          → kept_of (table_of (cond t more history)) uid ≡ kept_at w.sent (cond (stands w place e) (cond (t && u) (Some now) (w.held server uid)) (w.held server uid)) uid
      by_tests false u is_t is_u = agrees ∙ ap (λ h. kept_at w.sent h uid) (same (w.held server uid) (stands w place e))
      by_tests true false is_t is_u = other is_u ∙ agrees ∙ ap (λ h. kept_at w.sent h uid) (same (w.held server uid) (stands w place e))
      by_tests true true is_t is_u = here (bytes_same (server_to w e) server is_t) (bytes_same e.uid uid is_u) (room is_t is_u)

  pub agrees_after : (server uid : List ℕ) (w : World) (history : List ServerEvent) (e : Event) → IsSpared server uid w history e → IsSound w → Agrees server uid w history
      → Agrees server uid (after w e) (arrived_after server w history e)
  agrees_after server uid w history (Changed now) spared s agrees = agrees
  agrees_after server uid w history Sent spared s agrees = by_test (may_report w.agent)
    where
      by_test : (t : Bool) → Agrees server uid (cond t (sends w) w) history
      by_test true = agrees ∙ same_kept w (entry_of w.agent) server uid (w.held server uid) s refl
      by_test false = agrees
  agrees_after server uid w history (Delivered place given) spared s agrees = agrees_delivered server uid w history place given (slice_get w.sent place) refl spared s agrees
  agrees_after server uid w history (Answered r) spared s agrees = agrees
  agrees_after server uid w history (Took message r) spared s agrees = agrees
  agrees_after server uid w history (Erred error) spared s agrees = agrees
  agrees_after server uid w history GaveUp spared s agrees = agrees
  agrees_after server u w history (Offered s' uid offer) spared s agrees = pushed (bytes_eq s' server) ∙ by_fits (fits_offer offer)
    where
      table : Table
      table = table_of history

      waits : Pending → Pending
      waits p = offer_waits p offer

      pushed : (t : Bool) → kept_of (table_of (cond t (history ++ OfferMade uid offer ∷ []) history)) u
          ≡ kept_of (cond t (cond (fits_offer offer) (changed_table waits uid table (is_held table uid)) table) table) u
      pushed true =
          ap (λ t. kept_of t u) (sym (keeps.follows history (OfferMade uid offer)) ∙ and_case (is_held table uid) (fits_offer offer) _ table)
      pushed false = refl

      same : (t : Bool) (x : Table) → kept_of (cond t x x) u ≡ kept_of x u
      same true x = refl
      same false x = refl

      by_fits : (f : Bool) → kept_of (cond (bytes_eq s' server) (cond f (changed_table waits uid table (is_held table uid)) table) table) u
          ≡ kept_at (cond f (changes_held (with_offer offer) w s' uid (w.held s' uid)) w).sent ((cond f (changes_held (with_offer offer) w s' uid (w.held s' uid)) w).held server u) u
      by_fits true =
          agrees_changed (with_offer offer) waits (record { known = λ sent h. refl; own = λ p. refl; waiting = λ sent h v. refl }) server u w table s' uid (w.held s' uid) refl s agrees
      by_fits false = same (bytes_eq s' server) table ∙ agrees
  agrees_after server u w history (Ordered s' uid) spared s agrees =
      pushed (bytes_eq s' server)
      ∙ agrees_changed with_restart restart_waits (record { known = λ sent h. refl; own = λ p. refl; waiting = λ sent h v. refl }) server u w (table_of history) s' uid (w.held s' uid) refl s agrees
    where
      pushed : (t : Bool) → kept_of (table_of (cond t (history ++ RestartOrdered uid ∷ []) history)) u
          ≡ kept_of (cond t (changed_table restart_waits uid (table_of history) (is_held (table_of history) uid)) (table_of history)) u
      pushed true = ap (λ t. kept_of t u) (sym (keeps.follows history (RestartOrdered uid)))
      pushed false = refl
  agrees_after server u w history (Withdrawn s' uid) spared s agrees =
      pushed (bytes_eq s' server)
      ∙ agrees_changed with_nothing nothing_waits (record { known = λ sent h. refl; own = λ p. refl; waiting = λ sent h v. refl }) server u w (table_of history) s' uid (w.held s' uid) refl s agrees
    where
      pushed : (t : Bool) → kept_of (table_of (cond t (history ++ AllWithdrawn uid ∷ []) history)) u
          ≡ kept_of (cond t (changed_table nothing_waits uid (table_of history) (is_held (table_of history) uid)) (table_of history)) u
      pushed true = ap (λ t. kept_of t u) (sym (keeps.follows history (AllWithdrawn uid)))
      pushed false = refl
  agrees_after server u w history (Forgotten s' uid) spared s agrees = by_tests (bytes_eq s' server) (bytes_eq uid u) refl
    where
      -- what the server keeps once it was told to forget the agent
      forgot : kept_of (table_of (history ++ AgentForgotten uid ∷ [])) u ≡ cond (bytes_eq uid u) (nothing_kept u) (kept_of (table_of history) u)
      forgot = ap (λ t. kept_of t u) (sym (keeps.follows history (AgentForgotten uid))) ∙ kept_without (table_of history) uid u

      by_tests : (t v : Bool) → bytes_eq uid u ≡ v
          → kept_of (table_of (cond t (history ++ AgentForgotten uid ∷ []) history)) u ≡ kept_at w.sent (cond (t && v) None (w.held server u)) u
      by_tests true true its = forgot ∙ ap (λ b. cond b (nothing_kept u) (kept_of (table_of history) u)) its
      by_tests true false its = forgot ∙ ap (λ b. cond b (nothing_kept u) (kept_of (table_of history) u)) its ∙ agrees
      by_tests false v its = agrees
  agrees_after server uid w history (ServerRestarted other) spared s agrees = by_test (bytes_eq other server)
    where
      by_test : (t : Bool) → kept_of (table_of (cond t [] history)) uid ≡ kept_at w.sent (cond t None (w.held server uid)) uid
      by_test true = refl
      by_test false = agrees
  agrees_after server uid w history (Restarted local asks_uid) spared s agrees = agrees
  agrees_after server uid w history (Crashed during n) spared s agrees = agrees

  agrees_run : (server uid : List ℕ) (events : List Event) (w : World) (history : List ServerEvent) → HasRoomInRun server events w history → IsSound w → Agrees server uid w history
      → Agrees server uid (run events w) (arrived server events w history)
  agrees_run server uid [] w history has_room s agrees = agrees
  agrees_run server uid (e ∷ es) w history has_room s agrees =
      agrees_run server uid es (after w e) (arrived_after server w history e) has_room.1 (after_sound w e s)
      (agrees_after server uid w history e (spared_by_room server uid w history e has_room.0) s agrees)

  -- at each point of a run
  pub agrees_world : (start : Start) (events : List Event) (server uid : List ℕ) → HasRoomAlways start events server
      → Agrees server uid (world start events) (arrivals start events server)
  agrees_world start events server uid has_room = agrees_run server uid events (opening start) [] has_room (opening_sound start) refl

  pub records_agree : (start : Start) (events : List Event) (server uid : List ℕ) → HasRoomAlways start events server
      → record_after_history (arrivals start events server) uid ≡ record_held (world start events) server uid
  records_agree start events server uid has_room =
      ap (λ k. k.known) (agrees_world start events server uid has_room)

  -- and what a server pushes is what the world says
  pub pushes_agree : (start : Start) (events : List Event) (server uid : List ℕ) → HasRoomAlways start events server
      → pushed_from (start.profiles server) (table_of (arrivals start events server)) uid ≡ push_due (world start events) server uid
  pushes_agree start events server uid has_room =
      ap (λ k. pushed_if (start.profiles server) k.known k.waiting) (agrees_world start events server uid has_room)
      ∙ ap (λ profiles. pushed_if (profiles server) (record_held (world start events) server uid) (waiting_at (world start events).sent ((world start events).held server uid) uid))
      (sym (world_profiles start events))

-- the entry held was sent there
held_there : (w : World) (server uid : List ℕ) (o : Option Holding) (e : Entry) → IsSound w → w.held server uid ≡ o → entry_in w.sent o ≡ Some e
    → (server_to w e ≡ server) × (e.uid ≡ uid)
held_there w server uid None e s is found = absurd (none≢some found)
held_there w server uid (Some h) e s is found =
    let x = (s.held server uid h is).held in
    let same = some_same (sym found ∙ x.1) in
    (ap (λ (y : Entry). server_to w y) same ∙ x.2, ap (λ (y : Entry). y.uid) same ∙ x.3)

pub sent_there : (start : Start) (events : List Event) (server uid : List ℕ) (e : Entry) → entry_held (world start events) server uid ≡ Some e
    → (start.server_of e.server ≡ server) × (e.uid ≡ uid)
sent_there start events server uid e is =
    let there = held_there (world start events) server uid ((world start events).held server uid) e (world_sound start events) refl is in
    (ap (λ of. of e.server) (sym (world_servers start events)) ∙ there.0, there.1)
