-- What is known of an agent where other agents report to the server as well.
use Rattle.std.proofs.Common.{◌≡◌, ℕ, List, [], ◌∷◌, ◌++◌, length, Bool, true, false, cond, not, ◌&&◌, Option, None, Some, slice_get, refl, sym, ◌∙◌, ap, subst}
use Rattle.std.specs.Prelude.{is_some, nat_le}
use Rattle.std.specs.Str.{bytes_eq}
use Rattle.std.specs.declared.cmp.Ordering.TheVariants.{Less, Equal, Greater}
use Rattle.std.specs.Ordering.{match_ordering}
use Rattle.std.specs.List.{AllByRecursion}
use Rattle.message_values.specs.declared.report.AgentToServer.{AgentToServer}
use Rattle.server_core.specs.declared.replies.Profile.{Profile}
use Rattle.server_core.specs.declared.rows.Record.{Record}
use Rattle.server_core.specs.declared.rows.TheConstants.{AGENT_LIMIT}
use Rattle.server_core.specs.Agents.{events_of, IsNeverCrowdedOut}
use Rattle.server_core.specs.History.{Event as ServerEvent, agent_of, Reported, Offered as OfferMade, Ordered as RestartOrdered, Withdrawn as AllWithdrawn, Forgotten as AgentForgotten, due_reply}
use Rattle.server_core.specs.Offers.{fits_offer}
use Rattle.server_core.specs.Rows.{byte_cmp, drop_row}
use Rattle.server_core.specs.Table.{Table, table_of, table_after, table_with_report, table_with_pending, with_offer as offer_waits, with_restart as restart_waits, with_nothing as nothing_waits, find_record, put_record, pending_at, is_held, is_crowded_at, is_accepted_at, record_after}
use Rattle.agent_rules.specs.Reports.{Entry, message_of}
use Rattle.world_model.specs.World.{World, Event, Changed, Sent, Delivered, Answered, Took, Erred, GaveUp, Offered, Ordered, Withdrawn, Forgotten, ServerRestarted, Restarted, Crashed, Given, server_to, carrying, record_held, after, run, Start, opening, world}
use Rattle.world_model.specs.Servers.{arrives, arrived_after, arrived, arrivals, record_after_history, IsAmongOthers}
use Rattle.world_model.proofs.Below.{TellsStates, KeepsTable}
use Rattle.world_model.proofs.Places.{bytes_same}
use Rattle.world_model.proofs.Tables.{kept_of, kept_apart}
use Rattle.world_model.proofs.Kept.{IsSound, opening_sound, after_sound}
use Rattle.world_model.proofs.Judgements.{message_uid}
use Rattle.world_model.proofs.Agreement.{Agrees, IsSparedFor, IsSpared, agrees_after}
use Rattle.world_model.proofs.Replies.{recorded, reply_after}

-- the events of one agent, with one more event of any agent
events_push : (uid : List ℕ) (history : List ServerEvent) (x : ServerEvent)
    → events_of uid (history ++ x ∷ []) ≡ cond (bytes_eq (agent_of x) uid) (events_of uid history ++ x ∷ []) (events_of uid history)
events_push uid [] x = refl
events_push uid (y ∷ history) x = by_first (events_push uid history x) (bytes_eq (agent_of y) uid)
  where
    swap : (t u : Bool) (es : List ServerEvent) → cond t (y ∷ cond u (es ++ x ∷ []) es) (cond u (es ++ x ∷ []) es) ≡ cond u (cond t (y ∷ es) es ++ x ∷ []) (cond t (y ∷ es) es)
    swap true true es = refl
    swap true false es = refl
    swap false true es = refl
    swap false false es = refl

    by_first : events_of uid (history ++ x ∷ []) ≡ cond (bytes_eq (agent_of x) uid) (events_of uid history ++ x ∷ []) (events_of uid history)
        → (t : Bool) → cond t (y ∷ events_of uid (history ++ x ∷ [])) (events_of uid (history ++ x ∷ []))
        ≡ cond (bytes_eq (agent_of x) uid) (cond t (y ∷ events_of uid history) (events_of uid history) ++ x ∷ []) (cond t (y ∷ events_of uid history) (events_of uid history))
    by_first rest t = ap (λ es. cond t (y ∷ es) es) rest ∙ swap t (bytes_eq (agent_of x) uid) (events_of uid history)

-- the table has no record of other agents
abbrev AreOf : List ℕ → List Record → Type 0
AreOf uid records = AllByRecursion (λ r. bytes_eq r.uid uid ≡ true) records

IsAlone : Table → List ℕ → Type 0
IsAlone table uid = AreOf uid table.records

alone_spared : (history : List ServerEvent) (uid : List ℕ) → IsAlone (table_of history) uid → is_crowded_at (table_of history) uid ≡ false
unfolding IsAlone
alone_spared history uid alone = by_records (table_of history).records alone
  where
    by_records : (records : List Record) → AreOf uid records → (not (is_some (find_record records uid)) && nat_le AGENT_LIMIT (length records)) ≡ false
    by_records [] none = refl
    by_records (r ∷ records) all = ap (λ b. not (is_some (cond b (Some r) (find_record records uid))) && nat_le AGENT_LIMIT (length (r ∷ records))) all.0

none_alone : (uid : List ℕ) → IsAlone (table_of []) uid
unfolding IsAlone
none_alone uid = tt

put_alone : (uid : List ℕ) (now : Record) → bytes_eq now.uid uid ≡ true → (records : List Record) → AreOf uid records → AreOf uid (put_record records now)
put_alone uid now own [] all = (own, tt)
put_alone uid now own (r ∷ records) all =
    elim (byte_cmp now.uid r.uid) as (λ o. AreOf uid (match_ordering o (now ∷ r ∷ records) (now ∷ records) (r ∷ put_record records now)))
    [ Less ↦ (own, all) | Equal ↦ (own, all.1) | Greater ↦ (all.0, put_alone uid now own records all.1) ]

drop_alone : (uid u : List ℕ) (records : List Record) → AreOf uid records → AreOf uid (drop_row (λ r. r.uid) records u)
drop_alone uid u [] all = tt
drop_alone uid u (r ∷ records) all = by_test (bytes_eq r.uid u) (drop_alone uid u records all.1)
  where
    by_test : (t : Bool) → AreOf uid (drop_row (λ r. r.uid) records u) → AreOf uid (cond (not t) (r ∷ drop_row (λ r. r.uid) records u) (drop_row (λ r. r.uid) records u))
    by_test true rest = rest
    by_test false rest = (all.0, rest)

-- the agent's own events make no record of others
alone_after : (table : Table) (x : ServerEvent) (uid : List ℕ) → bytes_eq (agent_of x) uid ≡ true → IsAlone table uid → IsAlone (table_after table x) uid
unfolding IsAlone
alone_after table (Reported m) uid own alone = by_accepted (is_accepted_at table m)
  where
    by_accepted : (t : Bool) → IsAlone (cond t (table_with_report table m) table) uid
    by_accepted true = put_alone uid (record_after (find_record table.records m.instance_uid) (pending_at table.pendings m.instance_uid).stale m) own table.records alone
    by_accepted false = alone
alone_after table (OfferMade u offer) uid own alone = by_held (is_held table u && fits_offer offer)
  where
    by_held : (t : Bool) → IsAlone (cond t (table_with_pending table (offer_waits (pending_at table.pendings u) offer)) table) uid
    by_held true = alone
    by_held false = alone
alone_after table (RestartOrdered u) uid own alone = by_held (is_held table u)
  where
    by_held : (t : Bool) → IsAlone (cond t (table_with_pending table (restart_waits (pending_at table.pendings u))) table) uid
    by_held true = alone
    by_held false = alone
alone_after table (AllWithdrawn u) uid own alone = by_held (is_held table u)
  where
    by_held : (t : Bool) → IsAlone (cond t (table_with_pending table (nothing_waits (pending_at table.pendings u))) table) uid
    by_held true = alone
    by_held false = alone
alone_after table (AgentForgotten u) uid own alone = drop_alone uid u table.records alone

-- by the events of the agent alone, the table has of it what the world says
pub record IsOwn (server uid : List ℕ) (w : World) (history : List ServerEvent) : Type 0 where
  pub agrees : Agrees server uid w (events_of uid history)
  pub alone : is_crowded_at (table_of (events_of uid history)) uid ≡ false

module _ (tells : TellsStates) (keeps : KeepsTable) where
  -- one more event: what is kept of the agent, and that it is alone
  pushed_kept : (uid : List ℕ) (history : List ServerEvent) (x : ServerEvent)
      → kept_of (table_of (events_of uid (history ++ x ∷ []))) uid ≡ kept_of (table_of (events_of uid history ++ x ∷ [])) uid
  pushed_kept uid history x = ap (λ es. kept_of (table_of es) uid) (events_push uid history x) ∙ by_own (bytes_eq (agent_of x) uid) refl
    where
      own : List ServerEvent
      own = events_of uid history

      by_own : (t : Bool) → bytes_eq (agent_of x) uid ≡ t → kept_of (table_of (cond t (own ++ x ∷ []) own)) uid ≡ kept_of (table_of (own ++ x ∷ [])) uid
      by_own true is = refl
      by_own false is = sym (ap (λ t. kept_of t uid) (sym (keeps.follows own x)) ∙ kept_apart (table_of own) x uid is)

  pushed_alone : (uid : List ℕ) (history : List ServerEvent) (x : ServerEvent) → IsAlone (table_of (events_of uid history)) uid → IsAlone (table_of (events_of uid (history ++ x ∷ []))) uid
  pushed_alone uid history x alone = subst (λ es. IsAlone (table_of es) uid) (sym (events_push uid history x)) (by_own (bytes_eq (agent_of x) uid) refl)
    where
      own : List ServerEvent
      own = events_of uid history

      by_own : (t : Bool) → bytes_eq (agent_of x) uid ≡ t → IsAlone (table_of (cond t (own ++ x ∷ []) own)) uid
      by_own true is = subst (λ t. IsAlone t uid) (keeps.follows own x) (alone_after (table_of own) x uid is alone)
      by_own false is = alone

  -- what an event of the run brings to the server
  arrived_kept : (server uid : List ℕ) (w : World) (history : List ServerEvent) (e : Event)
      → kept_of (table_of (events_of uid (arrived_after server w history e))) uid ≡ kept_of (table_of (arrived_after server w (events_of uid history) e)) uid
  arrived_kept server uid w history (Changed now) = refl
  arrived_kept server uid w history Sent = refl
  arrived_kept server uid w history (Delivered place given) = by_entry (slice_get w.sent place)
    where
      by_entry : (o : Option Entry) → kept_of (table_of (events_of uid (arrives server w history o))) uid ≡ kept_of (table_of (arrives server w (events_of uid history) o)) uid
      by_entry None = refl
      by_entry (Some x) = by_test (bytes_eq (server_to w x) server)
        where
          by_test : (t : Bool) → kept_of (table_of (events_of uid (cond t (history ++ Reported (message_of x) ∷ []) history))) uid
              ≡ kept_of (table_of (cond t (events_of uid history ++ Reported (message_of x) ∷ []) (events_of uid history))) uid
          by_test true = pushed_kept uid history (Reported (message_of x))
          by_test false = refl
  arrived_kept server uid w history (Answered r) = refl
  arrived_kept server uid w history (Took message r) = refl
  arrived_kept server uid w history (Erred error) = refl
  arrived_kept server uid w history GaveUp = refl
  arrived_kept server uid w history (Offered s u offer) = by_test (bytes_eq s server)
    where
      by_test : (t : Bool) → kept_of (table_of (events_of uid (cond t (history ++ OfferMade u offer ∷ []) history))) uid
          ≡ kept_of (table_of (cond t (events_of uid history ++ OfferMade u offer ∷ []) (events_of uid history))) uid
      by_test true = pushed_kept uid history (OfferMade u offer)
      by_test false = refl
  arrived_kept server uid w history (Ordered s u) = by_test (bytes_eq s server)
    where
      by_test : (t : Bool) → kept_of (table_of (events_of uid (cond t (history ++ RestartOrdered u ∷ []) history))) uid
          ≡ kept_of (table_of (cond t (events_of uid history ++ RestartOrdered u ∷ []) (events_of uid history))) uid
      by_test true = pushed_kept uid history (RestartOrdered u)
      by_test false = refl
  arrived_kept server uid w history (Withdrawn s u) = by_test (bytes_eq s server)
    where
      by_test : (t : Bool) → kept_of (table_of (events_of uid (cond t (history ++ AllWithdrawn u ∷ []) history))) uid
          ≡ kept_of (table_of (cond t (events_of uid history ++ AllWithdrawn u ∷ []) (events_of uid history))) uid
      by_test true = pushed_kept uid history (AllWithdrawn u)
      by_test false = refl
  arrived_kept server uid w history (Forgotten s u) = by_test (bytes_eq s server)
    where
      by_test : (t : Bool) → kept_of (table_of (events_of uid (cond t (history ++ AgentForgotten u ∷ []) history))) uid
          ≡ kept_of (table_of (cond t (events_of uid history ++ AgentForgotten u ∷ []) (events_of uid history))) uid
      by_test true = pushed_kept uid history (AgentForgotten u)
      by_test false = refl
  arrived_kept server uid w history (ServerRestarted s) = by_test (bytes_eq s server)
    where
      by_test : (t : Bool) → kept_of (table_of (events_of uid (cond t [] history))) uid ≡ kept_of (table_of (cond t [] (events_of uid history))) uid
      by_test true = refl
      by_test false = refl
  arrived_kept server uid w history (Restarted local asks_uid) = refl
  arrived_kept server uid w history (Crashed during n) = refl

  arrived_alone : (server uid : List ℕ) (w : World) (history : List ServerEvent) (e : Event) → IsAlone (table_of (events_of uid history)) uid
      → IsAlone (table_of (events_of uid (arrived_after server w history e))) uid
  arrived_alone server uid w history (Changed now) alone = alone
  arrived_alone server uid w history Sent alone = alone
  arrived_alone server uid w history (Delivered place given) alone = by_entry (slice_get w.sent place)
    where
      by_entry : (o : Option Entry) → IsAlone (table_of (events_of uid (arrives server w history o))) uid
      by_entry None = alone
      by_entry (Some x) = by_test (bytes_eq (server_to w x) server)
        where
          by_test : (t : Bool) → IsAlone (table_of (events_of uid (cond t (history ++ Reported (message_of x) ∷ []) history))) uid
          by_test true = pushed_alone uid history (Reported (message_of x)) alone
          by_test false = alone
  arrived_alone server uid w history (Answered r) alone = alone
  arrived_alone server uid w history (Took message r) alone = alone
  arrived_alone server uid w history (Erred error) alone = alone
  arrived_alone server uid w history GaveUp alone = alone
  arrived_alone server uid w history (Offered s u offer) alone = by_test (bytes_eq s server)
    where
      by_test : (t : Bool) → IsAlone (table_of (events_of uid (cond t (history ++ OfferMade u offer ∷ []) history))) uid
      by_test true = pushed_alone uid history (OfferMade u offer) alone
      by_test false = alone
  arrived_alone server uid w history (Ordered s u) alone = by_test (bytes_eq s server)
    where
      by_test : (t : Bool) → IsAlone (table_of (events_of uid (cond t (history ++ RestartOrdered u ∷ []) history))) uid
      by_test true = pushed_alone uid history (RestartOrdered u) alone
      by_test false = alone
  arrived_alone server uid w history (Withdrawn s u) alone = by_test (bytes_eq s server)
    where
      by_test : (t : Bool) → IsAlone (table_of (events_of uid (cond t (history ++ AllWithdrawn u ∷ []) history))) uid
      by_test true = pushed_alone uid history (AllWithdrawn u) alone
      by_test false = alone
  arrived_alone server uid w history (Forgotten s u) alone = by_test (bytes_eq s server)
    where
      by_test : (t : Bool) → IsAlone (table_of (events_of uid (cond t (history ++ AgentForgotten u ∷ []) history))) uid
      by_test true = pushed_alone uid history (AgentForgotten u) alone
      by_test false = alone
  arrived_alone server uid w history (ServerRestarted s) alone = by_test (bytes_eq s server)
    where
      by_test : (t : Bool) → IsAlone (table_of (events_of uid (cond t [] history))) uid
      by_test true = none_alone uid
      by_test false = alone
  arrived_alone server uid w history (Restarted local asks_uid) alone = alone
  arrived_alone server uid w history (Crashed during n) alone = alone

  -- it isn't crowded out at a delivery
  own_spared : (server uid : List ℕ) (w : World) (history : List ServerEvent) (e : Event) → IsAlone (table_of (events_of uid history)) uid → IsSpared server uid w (events_of uid history) e
  own_spared server uid w history (Changed now) alone = tt
  own_spared server uid w history Sent alone = tt
  own_spared server uid w history (Delivered place given) alone = by_entry (slice_get w.sent place)
    where
      by_entry : (o : Option Entry) → IsSparedFor server uid w (events_of uid history) o
      by_entry None = tt
      by_entry (Some x) = λ here own.
          ap (is_crowded_at (table_of (events_of uid history))) (bytes_same x.uid uid own) ∙ alone_spared (events_of uid history) uid alone
  own_spared server uid w history (Answered r) alone = tt
  own_spared server uid w history (Took message r) alone = tt
  own_spared server uid w history (Erred error) alone = tt
  own_spared server uid w history GaveUp alone = tt
  own_spared server uid w history (Offered s u offer) alone = tt
  own_spared server uid w history (Ordered s u) alone = tt
  own_spared server uid w history (Withdrawn s u) alone = tt
  own_spared server uid w history (Forgotten s u) alone = tt
  own_spared server uid w history (ServerRestarted s) alone = tt
  own_spared server uid w history (Restarted local asks_uid) alone = tt
  own_spared server uid w history (Crashed during n) alone = tt

  own_run : (server uid : List ℕ) (events : List Event) (w : World) (history : List ServerEvent) → IsSound w
      → Agrees server uid w (events_of uid history) → IsAlone (table_of (events_of uid history)) uid
      → IsOwn server uid (run events w) (arrived server events w history)
  own_run server uid [] w history s agrees alone = record { agrees = agrees; alone = alone_spared (events_of uid history) uid alone }
  own_run server uid (e ∷ es) w history s agrees alone =
      own_run server uid es (after w e) (arrived_after server w history e) (after_sound w e s)
      (arrived_kept server uid w history e ∙ agrees_after tells keeps server uid w (events_of uid history) e (own_spared server uid w history e alone) s agrees)
      (arrived_alone server uid w history e alone)

  -- at each point of a run
  pub own_world : (start : Start) (events : List Event) (server uid : List ℕ) → IsOwn server uid (world start events) (arrivals start events server)
  own_world start events server uid = own_run server uid events (opening start) [] (opening_sound start) refl (none_alone uid)

  -- so it is among others
  pub record_among : ((history : List ServerEvent) (uid : List ℕ) → IsNeverCrowdedOut AGENT_LIMIT uid history
      → find_record (table_of history).records uid ≡ find_record (table_of (events_of uid history)).records uid)
      → (start : Start) (events : List Event) (server uid : List ℕ) (history : List ServerEvent) → IsAmongOthers start events server uid history
      → record_after_history history uid ≡ record_held (world start events) server uid
  record_among known start events server uid history among =
      known history uid among.spared
      ∙ ap (λ es. find_record (table_of es).records uid) among.own
      ∙ ap (λ k. k.known) (own_world start events server uid).agrees

  pub reply_among : ((server : Profile) (history : List ServerEvent) (m : AgentToServer) (fresh : Option (List ℕ)) → IsNeverCrowdedOut AGENT_LIMIT m.instance_uid (history ++ Reported m ∷ [])
      → due_reply server history m fresh ≡ due_reply server (events_of m.instance_uid history) m fresh)
      → (start : Start) (events : List Event) (place : ℕ) (given : Given) (e : Entry) (history : List ServerEvent) → slice_get (world start events).sent place ≡ Some e
      → events_of e.uid history ≡ events_of e.uid (arrivals start events (start.server_of e.server))
      → IsNeverCrowdedOut AGENT_LIMIT e.uid (history ++ Reported (message_of e) ∷ [])
      → (after (world start events) (Delivered place given)).replies place
      ≡ Some (carrying given.message (due_reply (start.profiles (start.server_of e.server)) history (message_of e) given.fresh))
  reply_among due start events place given e history at own spared =
      let server = start.server_of e.server in
      let m = message_of e in
      let there = own_world start events server e.uid in
      recorded (world start events) place given e at
      ∙ ap (λ r. Some r) (reply_after tells keeps start events place given e (events_of e.uid (arrivals start events server)) at there.agrees there.alone)
      ∙ ap (λ r. Some (carrying given.message r))
      (ap (λ es. due_reply (start.profiles server) es m given.fresh) (sym own ∙ ap (λ u. events_of u history) (sym (message_uid e)))
      ∙ sym (due (start.profiles server) history m given.fresh (subst (λ u. IsNeverCrowdedOut AGENT_LIMIT u (history ++ Reported m ∷ [])) (sym (message_uid e)) spared)))
