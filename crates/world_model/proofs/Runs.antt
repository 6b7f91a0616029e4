-- One more event at the end of a run.
use Rattle.std.proofs.Common.{◌≡◌, ◌≢◌, ◌⊎◌, ℕ, List, [], ◌∷◌, ◌++◌, Bool, true, false, cond, Option, None, Some, slice_get, refl, sym, ap, ◌∙◌, inl, inr}
use Rattle.std.specs.Str.{bytes_eq}
use Rattle.message_values.specs.declared.reply.ServerToAgent.{ServerToAgent}
use Rattle.agent_rules.specs.Reports.{Entry, where_true}
use Rattle.agent_rules.specs.Calls.{calls_after, may_report}
use Rattle.agent_rules.specs.Events.{Hears, reply_calls}
use Rattle.agent_rules.specs.Offers.{Reactions}
use Rattle.server_core.specs.declared.rows.Pending.{Pending}
use Rattle.server_core.specs.declared.rows.Record.{Record}
use Rattle.server_core.specs.Replies.{offering_reply, offers_due}
use Rattle.server_core.specs.Table.{pushed_if}
use Rattle.server_core.specs.History.{Event as ServerEvent}
use Rattle.server_core.specs.Offers.{fits_offer}
use Rattle.world_model.specs.World.{World, Holding, Event, Changed, Sent, Delivered, Answered, Took, Erred, GaveUp, Offered, Ordered, Withdrawn, Forgotten, ServerRestarted, Restarted, Crashed, delivers, with_offer, with_restart, with_nothing, changes_held, sends, agent_follows, after, run, Start, opening, world, push_due, record_held, waiting_at}
use Rattle.world_model.specs.Servers.{arrived_after, arrived, arrivals, NamesNobody}
use Rattle.world_model.proofs.Places.{bytes_same, none≢some, some_same}
use Rattle.world_model.proofs.Rooms.{HasRoom, HasRoomInRun, HasRoomAlways}
use Rattle.world_model.proofs.Earned.{run-append}

-- the world after one more event
pub world-push : (start : Start) (events : List Event) (e : Event) → world start (events ++ e ∷ []) ≡ after (world start events) e
world-push start events e = run-append events (e ∷ []) (opening start)

pub arrived-append : (server : List ℕ) (events more : List Event) (w : World) (history : List ServerEvent)
    → arrived server (events ++ more) w history ≡ arrived server more (run events w) (arrived server events w history)
arrived-append server [] more w history = refl
arrived-append server (x ∷ xs) more w history = arrived-append server xs more (after w x) (arrived_after server w history x)

room_split : (server : List ℕ) (events : List Event) (e : Event) (w : World) (history : List ServerEvent) → HasRoomInRun server (events ++ e ∷ []) w history
    → HasRoomInRun server events w history × HasRoom server (run events w) (arrived server events w history) e
room_split server [] e w history has_room = (tt, has_room.0)
room_split server (x ∷ xs) e w history has_room =
    let rest = room_split server xs e (after w x) (arrived_after server w history x) has_room.1 in
    ((has_room.0, rest.0), rest.1)

-- room in a run with one more event is room before it and at it
pub room_before : (start : Start) (events : List Event) (e : Event) (server : List ℕ) → HasRoomAlways start (events ++ e ∷ []) server
    → HasRoomAlways start events server × HasRoom server (world start events) (arrivals start events server) e
room_before start events e server = room_split server events e (opening start) []

-- servers stay what they are and where they answer
pub record IsAsBefore (w v : World) : Type 0 where
  pub profiles : v.profiles ≡ w.profiles
  pub server_of : v.server_of ≡ w.server_of

as_before : (w : World) → IsAsBefore w w
as_before w = record { profiles = refl; server_of = refl }

after_servers : (w : World) (e : Event) → IsAsBefore w (after w e)
after_servers w (Changed now) = record { profiles = refl; server_of = refl }
after_servers w Sent = by_test (may_report w.agent)
  where
    by_test : (t : Bool) → IsAsBefore w (cond t (sends w) w)
    by_test true = record { profiles = refl; server_of = refl }
    by_test false = as_before w
after_servers w (Delivered place given) = by_entry (slice_get w.sent place)
  where
    by_entry : (o : Option Entry) → IsAsBefore w (delivers w place given o)
    by_entry None = as_before w
    by_entry (Some e) = record { profiles = refl; server_of = refl }
after_servers w (Answered r) = record { profiles = refl; server_of = refl }
after_servers w (Took message r) = record { profiles = refl; server_of = refl }
after_servers w (Erred error) = record { profiles = refl; server_of = refl }
after_servers w GaveUp = record { profiles = refl; server_of = refl }
after_servers w (Offered server uid offer) = by_fits (fits_offer offer) (w.held server uid)
  where
    by_fits : (t : Bool) (o : Option Holding) → IsAsBefore w (cond t (changes_held (with_offer offer) w server uid o) w)
    by_fits true None = as_before w
    by_fits true (Some h) = record { profiles = refl; server_of = refl }
    by_fits false o = as_before w
after_servers w (Ordered server uid) = by_held (w.held server uid)
  where
    by_held : (o : Option Holding) → IsAsBefore w (changes_held with_restart w server uid o)
    by_held None = as_before w
    by_held (Some h) = record { profiles = refl; server_of = refl }
after_servers w (Withdrawn server uid) = by_held (w.held server uid)
  where
    by_held : (o : Option Holding) → IsAsBefore w (changes_held with_nothing w server uid o)
    by_held None = as_before w
    by_held (Some h) = record { profiles = refl; server_of = refl }
after_servers w (Forgotten server uid) = record { profiles = refl; server_of = refl }
after_servers w (ServerRestarted server) = record { profiles = refl; server_of = refl }
after_servers w (Restarted local asks_uid) = record { profiles = refl; server_of = refl }
after_servers w (Crashed during n) = record { profiles = refl; server_of = refl }

pub run_servers : (events : List Event) (w : World) → IsAsBefore w (run events w)
run_servers [] w = as_before w
run_servers (e ∷ es) w =
    let rest = run_servers es (after w e) in
    let first = after_servers w e in
    record { profiles = rest.profiles ∙ first.profiles; server_of = rest.server_of ∙ first.server_of }

pub world_profiles : (start : Start) (events : List Event) → (world start events).profiles ≡ start.profiles
world_profiles start events = (run_servers events (opening start)).profiles

pub world_servers : (start : Start) (events : List Event) → (world start events).server_of ≡ start.server_of
world_servers start events = (run_servers events (opening start)).server_of

-- a message that comes unasked is heard by its identifier, where something is awaited
pub took_nothing : (w : World) (message : ServerToAgent) (r : Reactions) → (message.instance_uid ≢ w.agent.saved.uid) ⊎ (w.agent.awaits ≡ false)
    → after w (Took message r) ≡ w
took_nothing w message r why = by_uid (bytes_eq message.instance_uid w.agent.saved.uid) refl why
  where
    by_uid : (t : Bool) → bytes_eq message.instance_uid w.agent.saved.uid ≡ t → (message.instance_uid ≢ w.agent.saved.uid) ⊎ (w.agent.awaits ≡ false)
        → record w { agent = agent_follows w.agent (where_true t (Hears message r)) } ≡ w
    by_uid false other why = refl
    by_uid true same (inl apart) = absurd (apart (bytes_same message.instance_uid w.agent.saved.uid same))
    by_uid true same (inr idle) = ap (λ t. record w { agent = calls_after w.agent (cond t (reply_calls w.agent message r) []) }) idle

-- what is pushed gives no identifier
pub push_names_nobody : (w : World) (server uid : List ℕ) (message : ServerToAgent) (r : Reactions) → push_due w server uid ≡ Some message → NamesNobody (Took message r)
push_names_nobody w server uid message r is = by_record (record_held w server uid) is
  where
    waiting : Pending
    waiting = waiting_at w.sent (w.held server uid) uid

    by_left : (t : Bool) (reply : ServerToAgent) → reply.agent_identification ≡ None → cond t None (Some reply) ≡ Some message → message.agent_identification ≡ None
    by_left true reply none is = absurd (none≢some is)
    by_left false reply none is = ap (λ (m : ServerToAgent). m.agent_identification) (sym (some_same is)) ∙ none

    by_record : (o : Option Record) → pushed_if (w.profiles server) o waiting ≡ Some message → message.agent_identification ≡ None
    by_record None is = absurd (none≢some is)
    by_record (Some known) is = by_left known.left (offering_reply (w.profiles server) known.uid (offers_due known waiting.offers)) refl is
