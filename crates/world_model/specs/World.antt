-- An agent, the servers that it speaks to, and all that was ever sent between them. Here entries stand for whole states: nothing is left out, no numbers are
-- compared, and nothing is merged.
use Rattle.std.specs.Prelude.{◌≡◌, ℕ, ◌+◌, ◌-◌, List, [], ◌∷◌, ◌++◌, length, Bool, true, false, not, ◌&&◌, ◌||◌, ◌==◌, if◌then◌else◌, Option, None, Some, is_some, is_none, slice_get}
use Rattle.std.specs.Str.{bytes_eq}
use Rattle.std.specs.Option.{option_and_then, option_map, option_map_or}
use Rattle.message_values.specs.declared.components.AvailableComponents.{AvailableComponents}
use Rattle.message_values.specs.declared.custom.CustomMessage.{CustomMessage}
use Rattle.message_values.specs.declared.reply.ServerErrorResponse.{ServerErrorResponse}
use Rattle.message_values.specs.declared.reply.ServerToAgent.{ServerToAgent}
use Rattle.message_values.specs.declared.state.Settings.{Settings}
use Rattle.message_values.specs.declared.profile.TheConstants.{REPORT_FULL_STATE}
use Rattle.message_deltas.specs.Obligations.{has_bit}
use Rattle.agent_rules.specs.declared.rules.parts.LocalState.{LocalState}
use Rattle.agent_rules.specs.Reports.{Entry, message_of, where_true}
use Rattle.agent_rules.specs.Half.{AgentHalf, entry_of, first_saved, no_packages, started}
use Rattle.agent_rules.specs.Calls.{may_report, reported}
use Rattle.agent_rules.specs.Offers.{Reactions}
use Rattle.agent_rules.specs.Events.{AgentEvent, Changes, Reports, Hears, GivesUp, Restarts, Crashes, agent_after}
use Rattle.server_core.specs.declared.offers.Offers.{Offers}
use Rattle.server_core.specs.declared.replies.Profile.{Profile}
use Rattle.server_core.specs.declared.rows.Pending.{Pending}
use Rattle.server_core.specs.declared.rows.Record.{Record}
use Rattle.server_core.specs.Components.{Details, details_under, stale_under}
use Rattle.server_core.specs.declared.offers.Offer.{Offer}
use Rattle.server_core.specs.Offers.{no_offers, offers_with, fits_offer}
use Rattle.server_core.specs.Table.{pushed_if}
use Rattle.server_core.specs.Replies.{Dues, dues, accepts_restart, Verdict, Passed, Taken, error_alone, reply_to}

-- what a server holds of an agent
pub record Holding : Type 0 where
  -- the place of the entry held
  pub place : ℕ
  -- the place of the last entry with the details of the components that it came to hold, if there was one
  pub told : Option ℕ
  -- the standing offers
  pub offers : Offers
  -- a restart was ordered and waits
  pub restart : Bool

pub record World : Type 0 where
  pub agent : AgentHalf
  -- all entries, in order; an entry is named by its place here
  pub sent : List Entry
  -- the server that answers at an endpoint; one server may answer at several
  pub server_of : List ℕ → List ℕ
  -- what each server is
  pub profiles : List ℕ → Profile
  -- per server and identifier, what is held there
  pub held : List ℕ → List ℕ → Option Holding
  -- per place, the reply to the entry's latest delivery
  pub replies : ℕ → Option ServerToAgent

-- what comes to a reply from the server's caller: a fresh identifier, and what the server's handler answered
pub record Given : Type 0 where
  pub fresh : Option (List ℕ)
  pub message : Option CustomMessage

pub data Event : Type 0 where
  -- what the agent knows of itself is now this
  Changed : (now : LocalState) → Event
  -- the agent reports
  Sent : Event
  -- an entry reaches its server, now or again
  Delivered : (place : ℕ) (given : Given) → Event
  -- the reply to the latest delivery of the awaited entry reaches the agent, and this is what its folder, dialer and handler answer to it
  Answered : (reactions : Reactions) → Event
  -- a message that came unasked, from anywhere, is taken for the reply where it has the awaited identifier, and this is what is answered to it
  Took : (message : ServerToAgent) (reactions : Reactions) → Event
  -- an error reaches the agent in place of the reply
  Erred : (error : ServerErrorResponse) → Event
  -- the agent gives the awaited reply up
  GaveUp : Event
  -- the agent is offered something
  Offered : (server uid : List ℕ) (offer : Offer) → Event
  -- the agent is to restart
  Ordered : (server uid : List ℕ) → Event
  -- what the agent was offered, and that it is to restart, is withdrawn
  Withdrawn : (server uid : List ℕ) → Event
  -- the server forgets the agent: nothing of it is held there any more
  Forgotten : (server uid : List ℕ) → Event
  -- a server loses all that it holds; replies on their way stay
  ServerRestarted : (server : List ℕ) → Event
  -- the agent starts again with what it keeps, and at this start it knows this of itself, and was told to ask for an identifier or not to
  Restarted : (local : LocalState) (asks_uid : Bool) → Event
  -- the agent stops in the event, when so many of the event's saves were done, and starts again as it was started before
  Crashed : (during : Event) (saves : ℕ) → Event

-- the server that an entry was sent to: the one that answers at the entry's endpoint
abbrev pub server_to : World → Entry → List ℕ
server_to w e = w.server_of e.server

abbrev pub last_sent : List Entry → Option Entry
last_sent sent = slice_get sent (length sent - 1)

-- what is held is the entry sent just before this place
abbrev pub is_just_before : Option Holding → ℕ → Bool
is_just_before None place = false
is_just_before (Some h) place = h.place + 1 == place

-- the entry is alone, or the one that it stands on is held there
abbrev pub stands : World → ℕ → Entry → Bool
stands w place e = is_none e.basis || is_just_before (w.held (server_to w e) e.uid) place

abbrev pub told_at : Option Holding → Option ℕ
told_at found = option_and_then (λ h. h.told) found

abbrev pub offers_at : Option Holding → Offers
offers_at found = option_map_or (λ h. h.offers) found no_offers

abbrev pub waits_at : Option Holding → Bool
waits_at found = option_map_or (λ h. h.restart) found false

-- the place where the details were told last, once this entry is held
abbrev pub told_with : Option Holding → ℕ → Entry → Option ℕ
told_with found place e = if is_some e.details then Some place else told_at found

-- what is held once the entry is
abbrev pub holding_with : Option Holding → ℕ → Entry → Holding
holding_with found place e = record {
  place = place;
  told = told_with found place e;
  offers = offers_at found;
  restart = waits_at found && not (accepts_restart e.state.capabilities);
}

-- the components that the entry at this place told
abbrev pub components_at : List Entry → Option ℕ → Option AvailableComponents
components_at sent told = option_and_then (λ e. e.details) (option_and_then (slice_get sent) told)

-- the record that an entry stands for, with the details of its components where the server knows them
abbrev pub record_at : List Entry → Option ℕ → Entry → Record
record_at sent told e = record {
  uid = e.uid;
  number = e.number;
  left = false;
  state = e.state;
  details = details_under e.state.components (components_at sent told);
}

abbrev pub entry_in : List Entry → Option Holding → Option Entry
entry_in sent found = option_and_then (λ h. slice_get sent h.place) found

-- the hash of the components by the entry held
abbrev pub hash_at : List Entry → Option Holding → Option (List ℕ)
hash_at sent found = option_and_then (λ e. e.state.components) (entry_in sent found)

-- what waits at the server for the agent: offers, orders, and components told under another hash
abbrev pub waiting_at : List Entry → Option Holding → List ℕ → Pending
waiting_at sent found uid = record {
  uid = uid;
  offers = offers_at found;
  restart = waits_at found;
  stale = stale_under (hash_at sent found) (components_at sent (told_at found));
}

-- what is due to the agent once its entry is held
abbrev pub dues_with : List Entry → Option Holding → ℕ → Entry → Dues
dues_with sent found place e = dues (record_at sent (told_with found place e) e) (waiting_at sent found e.uid)

-- the server takes the entry where it stands there, and else it asks
abbrev pub verdict_in : World → ℕ → Entry → Verdict
verdict_in w place e = if stands w place e then Taken (dues_with w.sent (w.held (server_to w e) e.uid) place e) else Passed

-- a reply without command, error and wish for the full state takes the handler's answer along
abbrev pub carrying : Option CustomMessage → ServerToAgent → ServerToAgent
carrying message reply =
    if is_none reply.command && (is_none reply.error_response && not (has_bit reply.flags REPORT_FULL_STATE))
    then record reply { custom_message = message } else reply

-- the reply to the entry
abbrev pub reply_at : World → ℕ → Entry → Given → ServerToAgent
reply_at w place e given = carrying given.message (reply_to (w.profiles (server_to w e)) (message_of e) given.fresh (verdict_in w place e))

abbrev pub put_at : (List ℕ → List ℕ → Option Holding) → List ℕ → List ℕ → Holding → List ℕ → List ℕ → Option Holding
put_at held server uid now s u = if bytes_eq server s && bytes_eq uid u then Some now else held s u

abbrev pub put_reply : (ℕ → Option ServerToAgent) → ℕ → ServerToAgent → ℕ → Option ServerToAgent
put_reply replies place reply k = if k == place then Some reply else replies k

abbrev pub delivers : World → ℕ → Given → Option Entry → World
delivers w place given None = w
delivers w place given (Some e) = record w {
  held = if stands w place e then put_at w.held (server_to w e) e.uid (holding_with (w.held (server_to w e) e.uid) place e) else w.held;
  replies = put_reply w.replies place (reply_at w place e given);
}

-- what is held, with this offer
abbrev pub with_offer : Offer → Holding → Holding
with_offer offer h = record h { offers = offers_with h.offers offer }

-- what is held, with a restart that waits
abbrev pub with_restart : Holding → Holding
with_restart h = record h { restart = true }

abbrev pub with_nothing : Holding → Holding
with_nothing h = record h { offers = no_offers; restart = false }

-- what a server holds of the agent changes, if it holds anything
abbrev pub changes_held : (Holding → Holding) → World → List ℕ → List ℕ → Option Holding → World
changes_held change w server uid None = w
changes_held change w server uid (Some h) = record w { held = put_at w.held server uid (change h) }

-- what is held, without this agent at this server
abbrev pub emptied : (List ℕ → List ℕ → Option Holding) → List ℕ → List ℕ → List ℕ → List ℕ → Option Holding
emptied held server uid s u = if bytes_eq server s && bytes_eq uid u then None else held s u

-- the reply to the last entry, if one was given
abbrev pub reply_due : World → Option ServerToAgent
reply_due w = w.replies (length w.sent - 1)

-- nothing was answered to it
abbrev pub no_reactions : Reactions
no_reactions = record { failure = None; statuses = no_packages; answer = None }

-- the agent stops in what it sees, if anything, and starts again as it was started before
abbrev pub crash_of : AgentHalf → Option AgentEvent → ℕ → AgentEvent
crash_of a None saves = Restarts a.local a.asks_uid
crash_of a (Some during) saves = Crashes during saves

-- what the agent sees of an event, if anything
abbrev pub seen_of : World → Event → Option AgentEvent
seen_of w (Changed now) = Some (Changes now)
seen_of w Sent = Some Reports
seen_of w (Delivered place given) = None
seen_of w (Answered reactions) = option_map (λ reply. Hears reply reactions) (reply_due w)
seen_of w (Took message reactions) = where_true (bytes_eq message.instance_uid w.agent.saved.uid) (Hears message reactions)
seen_of w (Erred error) = Some (Hears (error_alone w.agent.saved.uid error) no_reactions)
seen_of w GaveUp = Some GivesUp
seen_of w (Offered server uid offer) = None
seen_of w (Ordered server uid) = None
seen_of w (Withdrawn server uid) = None
seen_of w (Forgotten server uid) = None
seen_of w (ServerRestarted server) = None
seen_of w (Restarted local asks_uid) = Some (Restarts local asks_uid)
seen_of w (Crashed during saves) = Some (crash_of w.agent (seen_of w during) saves)

abbrev pub agent_follows : AgentHalf → Option AgentEvent → AgentHalf
agent_follows a None = a
agent_follows a (Some event) = agent_after a event

-- the agent goes on by what it sees, and nothing else changes
abbrev pub goes_on : World → Event → World
goes_on w e = record w { agent = agent_follows w.agent (seen_of w e) }

abbrev pub sends : World → World
sends w = record w { agent = reported w.agent; sent = w.sent ++ entry_of w.agent ∷ [] }

-- one step; an event that doesn't apply changes nothing
abbrev pub after : World → Event → World
after w (Changed now) = goes_on w (Changed now)
after w Sent = if may_report w.agent then sends w else w
after w (Delivered place given) = delivers w place given (slice_get w.sent place)
after w (Answered reactions) = goes_on w (Answered reactions)
after w (Took message reactions) = goes_on w (Took message reactions)
after w (Erred error) = goes_on w (Erred error)
after w GaveUp = goes_on w GaveUp
after w (Offered server uid offer) = if fits_offer offer then changes_held (with_offer offer) w server uid (w.held server uid) else w
after w (Ordered server uid) = changes_held with_restart w server uid (w.held server uid)
after w (Withdrawn server uid) = changes_held with_nothing w server uid (w.held server uid)
after w (Forgotten server uid) = record w { held = emptied w.held server uid }
after w (ServerRestarted server) = record w { held = λ s u. if bytes_eq server s then None else w.held s u }
after w (Restarted local asks_uid) = goes_on w (Restarted local asks_uid)
after w (Crashed during saves) = goes_on w (Crashed during saves)

-- a whole run
abbrev pub run : List Event → World → World
run [] w = w
run (e ∷ es) w = run es (after w e)

-- how an agent is started first, and what its servers are and where they answer
pub record Start : Type 0 where
  pub local : LocalState
  pub uid : List ℕ
  pub settings : Settings
  -- how many bytes may be kept
  pub room : ℕ
  -- at its first start the agent was told to ask for an identifier
  pub asks_uid : Bool
  -- the server that answers at an endpoint
  pub server_of : List ℕ → List ℕ
  pub profiles : List ℕ → Profile
  -- an identifier has 16 bytes (OpAMP specification, "AgentToServer.instance_uid")
  pub named : length uid ≡ 16

abbrev pub opening : Start → World
opening start = record {
  agent = started start.local (first_saved start.uid start.settings) false start.room start.asks_uid;
  sent = [];
  server_of = start.server_of;
  profiles = start.profiles;
  held = λ s u. None;
  replies = λ k. None;
}

-- the world that these events lead to
abbrev pub world : Start → List Event → World
world start events = run events (opening start)

-- the entry held
abbrev pub entry_held : World → List ℕ → List ℕ → Option Entry
entry_held w server uid = entry_in w.sent (w.held server uid)

-- the record of what is held: of the entry held, with the details of its components where they were told
abbrev pub record_in_world : List Entry → Option Holding → Option Record
record_in_world sent found = option_map (record_at sent (told_at found)) (entry_in sent found)

abbrev pub record_held : World → List ℕ → List ℕ → Option Record
record_held w server uid = record_in_world w.sent (w.held server uid)

-- what a server pushes to an agent: the offers that are due to what it holds, if it holds anything
abbrev pub push_due : World → List ℕ → List ℕ → Option ServerToAgent
push_due w server uid = pushed_if (w.profiles server) (record_held w server uid) (waiting_at w.sent (w.held server uid) uid)

-- the details of the components that are held
abbrev pub details_held : World → List ℕ → List ℕ → Option Details
details_held w server uid = option_and_then (λ r. r.details) (record_held w server uid)

-- the reply asks for the full state
abbrev pub asks_full : ServerToAgent → Bool
asks_full reply = has_bit reply.flags REPORT_FULL_STATE
