-- What the lines of a script do in the world. The agent of a script, its identifier and its servers are this project's own choice.
use Rattle.std.specs.Prelude.{ℕ, ◌+◌, ◌-◌, List, [], ◌∷◌, ◌++◌, Bool, true, false, not, ◌&&◌, ◌||◌, ◌==◌, if◌then◌else◌, Option, None, Some, is_some, codes, slice_index, refl}
use Rattle.std.specs.Option.{option_map, option_to_list}
use Rattle.std.specs.Str.{bytes_eq}
use Rattle.message_reports.specs.Components.{components_hash}
use Rattle.plain_values.specs.Pairs.{put_pair, value_at}
use Rattle.plain_values.specs.declared.maps.Pair.{Pair}
use Rattle.message_values.specs.declared.attributes.AnyValue.TheVariants.{Str}
use Rattle.message_values.specs.declared.attributes.KeyValue.{KeyValue}
use Rattle.message_values.specs.declared.attributes.AgentDescription.{AgentDescription}
use Rattle.message_values.specs.declared.components.AvailableComponents.{AvailableComponents}
use Rattle.message_values.specs.declared.components.ComponentDetails.{ComponentDetails, roll-ComponentDetails}
use Rattle.plain_values.specs.declared.files.AgentConfigFile.{AgentConfigFile}
use Rattle.plain_values.specs.declared.files.AgentConfigMap.{AgentConfigMap}
use Rattle.message_values.specs.declared.config.EffectiveConfig.{EffectiveConfig}
use Rattle.message_values.specs.declared.health.ComponentHealth.{ComponentHealth, roll-ComponentHealth}
use Rattle.agent_rules.specs.declared.rules.parts.LocalState.{LocalState}
use Rattle.message_values.specs.declared.reply.ServerToAgent.{ServerToAgent}
use Rattle.agent_rules.specs.Half.{AgentHalf, target}
use Rattle.agent_rules.specs.Events.{AgentEvent}
use Rattle.server_core.specs.declared.replies.Profile.{Profile}
use Rattle.server_core.specs.declared.replies.TheConstants.{CONNECTION_LIMIT}
use Rattle.server_core.specs.declared.offers.Offer.{Offer}
use Rattle.server_core.specs.declared.offers.Offer.TheVariants.{Config as ConfigOffer, Connection as ConnectionOffer}
use Rattle.edge_devices.specs.declared.disk_calls.Mode.{Mode}
use Rattle.edge_devices.specs.declared.disk_calls.Mode.TheVariants.{Old}
use Rattle.agent_stopped.specs.Endings.{Ending, Passed, Stopped, event_ends, image_in}
use Rattle.world_model.specs.World.{World, Event, Changed, Sent, Delivered, Answered, Took, GaveUp, Offered, ServerRestarted, Restarted, Crashed, Given, no_reactions, push_due, seen_of, after, Start, world}
use Rattle.world_scripts.specs.Words.{is_url}
use Rattle.world_scripts.specs.declared.lines.Line.{Line}
use Rattle.world_scripts.specs.declared.lines.Line.TheVariants.{Caps, Attr, HealthOk, HealthBad, Effective, Custom, Component, Send, Deliver, Reply, GiveUp, Restart, ServerRestart, OfferConfig, OfferConnection, Stop, Push, TakePush}
use Rattle.world_lab.specs.declared.plays.ArmedStop.{ArmedStop}
use Rattle.world_lab.specs.declared.plays.TheConstants.{LAYOUT}
use Rattle.world_lab.specs.declared.plays.WaitingPush.{WaitingPush}

-- a server's endpoint: its number is one digit
abbrev pub endpoint_of : ℕ → List ℕ
endpoint_of server = codes "http://s" ++ (48 + server) ∷ []

-- the number of the server at this endpoint
abbrev pub server_at : List ℕ → ℕ
server_at endpoint = slice_index endpoint 8 - 48

abbrev pub text_attribute : List ℕ → List ℕ → KeyValue
text_attribute key text = record { key = key; value = Some (Str text) }

-- the attributes with this one, in its place or at the end
abbrev pub put_attribute : List KeyValue → List ℕ → List ℕ → List KeyValue
put_attribute [] key text = text_attribute key text ∷ []
put_attribute (a ∷ others) key text = if bytes_eq a.key key then text_attribute key text ∷ others else a ∷ put_attribute others key text

abbrev pub described : AgentDescription → List ℕ → List ℕ → AgentDescription
described d key text = record d { identifying_attributes = put_attribute d.identifying_attributes key text }

-- how the agent fares, with nothing else to tell
abbrev pub health_of : Bool → List ℕ → ComponentHealth
health_of healthy error =
    roll-ComponentHealth (record { healthy = healthy; start_time_unix_nano = 0; last_error = error; status = []; status_time_unix_nano = 0; component_health_map = [] })

abbrev pub healthy : ComponentHealth
healthy = health_of true []

-- not healthy, with this last error
abbrev pub unhealthy : List ℕ → ComponentHealth
unhealthy error = health_of false error

-- a file of this text, whose content type is empty
abbrev pub text_file : List ℕ → AgentConfigFile
text_file text = record { body = text; content_type = [] }

abbrev pub effective_files : EffectiveConfig → List (Pair AgentConfigFile)
effective_files e = files_in e.config_map
  where
    files_in : Option AgentConfigMap → List (Pair AgentConfigFile)
    files_in None = []
    files_in (Some m) = m.config_map

-- the configuration with this file
abbrev pub put_file : EffectiveConfig → List ℕ → List ℕ → EffectiveConfig
put_file e name text = record { config_map = Some (record { config_map = put_pair (effective_files e) name (text_file text) }) }

-- a component of which nothing is told
abbrev pub no_details : ComponentDetails
no_details = roll-ComponentDetails (record { metadata = []; sub_component_map = [] })

-- the components with this one, which is left as it is where it is there
abbrev pub put_component : List (Pair ComponentDetails) → List ℕ → List (Pair ComponentDetails)
put_component components name = if is_some (value_at components name) then components else put_pair components name no_details

-- components, under their hash
abbrev pub hashed_components : List (Pair ComponentDetails) → AvailableComponents
hashed_components components = record { components = components; hash = components_hash components }

-- one file that is offered
abbrev pub file_offer : List ℕ → List ℕ → Offer
file_offer name text = ConfigOffer (record { config_map = record { key = name; value = text_file text } ∷ [] })

-- an endpoint that is offered, with nothing else
abbrev pub endpoint_offer : List ℕ → Offer
endpoint_offer url = ConnectionOffer (record { destination_endpoint = url; headers = None; certificate = None; heartbeat_interval_seconds = 0 })

-- nothing comes to a reply from the server's caller: it draws no identifiers and has no handler
abbrev pub nothing_given : Given
nothing_given = record { fresh = None; message = None }

-- what a line makes happen to such an agent where no device call is made; a URL outside the grammar is no offer
abbrev pub events_of : AgentHalf → Line → List Event
events_of a (Caps bits) = Changed (record (a.local) { capabilities = bits }) ∷ []
events_of a (Attr key text) = Changed (record (a.local) { description = described a.local.description key text }) ∷ []
events_of a HealthOk = Changed (record (a.local) { health = healthy }) ∷ []
events_of a (HealthBad text) = Changed (record (a.local) { health = unhealthy text }) ∷ []
events_of a (Effective name text) = Changed (record (a.local) { effective = put_file a.local.effective name text }) ∷ []
events_of a (Custom name) = Changed (record (a.local) { custom = record { capabilities = a.local.custom.capabilities ++ name ∷ [] } }) ∷ []
events_of a (Component name) = Changed (record (a.local) { components = hashed_components (put_component a.local.components.components name) }) ∷ []
events_of a (Deliver report) = Delivered (report - 1) nothing_given ∷ []
events_of a (ServerRestart server) = ServerRestarted (endpoint_of server) ∷ []
events_of a (OfferConfig server name text) = Offered (endpoint_of server) a.saved.uid (file_offer name text) ∷ []
events_of a (OfferConnection server url) = if is_url url then Offered (endpoint_of server) a.saved.uid (endpoint_offer url) ∷ [] else []
events_of a line = []

-- a script begins with an agent that knows nothing but that it is well, which reports that and its health
abbrev pub first_local : LocalState
first_local = record {
  description = record { identifying_attributes = []; non_identifying_attributes = [] };
  capabilities = 2049;
  health = healthy;
  effective = record { config_map = None };
  components = record { components = []; hash = [] };
  custom = record { capabilities = [] };
}

-- all capabilities of a server that this profile of the protocol names (OpAMP specification, "ServerToAgent.capabilities"), and no custom ones. It has no
-- connections, so the number of them is the default.
abbrev pub lab_profile : Profile
lab_profile = record { capabilities = 63; custom = record { capabilities = [] }; connections = CONNECTION_LIMIT }

abbrev pub script_start : Start
script_start = record {
  local = first_local;
  uid = 0 ∷ 1 ∷ 2 ∷ 3 ∷ 4 ∷ 5 ∷ 6 ∷ 7 ∷ 8 ∷ 9 ∷ 10 ∷ 11 ∷ 12 ∷ 13 ∷ 14 ∷ 15 ∷ [];
  settings = record { endpoint = endpoint_of 0; headers = record { headers = [] }; interval = 0; hash = [] };
  room = 2097152;
  asks_uid = false;
  server_of = λ endpoint. endpoint;
  profiles = λ server. lab_profile;
  named = refl;
}

-- ---- how far a script is

-- the events so far, the bytes of the agent's disk, the stop that is armed, and the pushes that wait, the oldest first
pub record Progress : Type 0 where
  pub events : List Event
  pub image : ℕ → ℕ
  pub stop : Option ArmedStop
  pub pushes : List WaitingPush

abbrev pub world_of : Progress → World
world_of p = world script_start p.events

-- the number of the device call that is stopped, where one is, and what a crash then leaves
abbrev pub stop_call : Option ArmedStop → ℕ
stop_call None = 0
stop_call (Some stop) = stop.call

abbrev pub stop_mode : Option ArmedStop → Mode
stop_mode None = Old
stop_mode (Some stop) = stop.mode

-- how ends what the agent sees; where it sees nothing its disk stays as it is
abbrev pub ending_of : Progress → Option AgentEvent → Ending
ending_of p None = Passed p.image
ending_of p (Some seen) = event_ends LAYOUT (stop_mode p.stop) (stop_call p.stop) p.image (world_of p).agent seen

abbrev pub ends : Progress → Event → Ending
ends p e = ending_of p (seen_of (world_of p) e)

-- the event, or the crash in it
abbrev pub ended : Event → Ending → Event
ended e (Passed image) = e
ended e (Stopped saves image) = Crashed e saves

-- the agent of a script starts again as it was started, knowing what it knew
abbrev pub restart_of : AgentHalf → Event
restart_of a = Restarted a.local a.asks_uid

-- events in which no device call is made
abbrev pub happens : Progress → List Event → Progress
happens p events = record p { events = p.events ++ events }

-- ---- pushes

-- an answer was taken, and a trial of settings began or ended by it
abbrev pub moves_trial : AgentHalf → AgentHalf → Bool
moves_trial before after = before.awaits && (not after.awaits && (is_some before.trial || is_some after.trial))

-- no push waits any more: the agent gave up or started again, or a trial of settings began or ended
abbrev pub drops_pushes : AgentHalf → Event → AgentHalf → Bool
drops_pushes before GaveUp after = before.awaits
drops_pushes before (Restarted local asks_uid) after = true
drops_pushes before (Crashed during saves) after = true
drops_pushes before (Answered reactions) after = moves_trial before after
drops_pushes before (Took message reactions) after = moves_trial before after
drops_pushes before event after = false

-- the pushes that wait after an event
abbrev pub pushes_after : World → Event → List WaitingPush → List WaitingPush
pushes_after w e pushes = if drops_pushes w.agent e (after w e).agent then [] else pushes

-- the oldest push of this server, and the others
abbrev pub oldest : ℕ → List WaitingPush → Option ServerToAgent
oldest server [] = None
oldest server (push ∷ pushes) = if push.server == server then Some push.message else oldest server pushes

abbrev pub without_oldest : ℕ → List WaitingPush → List WaitingPush
without_oldest server [] = []
without_oldest server (push ∷ pushes) = if push.server == server then pushes else push ∷ without_oldest server pushes

-- the number of the server that the agent speaks to
abbrev pub target_server : AgentHalf → ℕ
target_server a = server_at (target a).endpoint

-- the push that reaches the agent in place of the awaited reply
abbrev pub push_taken : Progress → Option ServerToAgent
push_taken p = if (world_of p).agent.awaits then oldest (target_server (world_of p).agent) p.pushes else None

-- ---- the lines

-- an event, with what becomes of the pushes that wait
abbrev pub with_event : Progress → Event → (ℕ → ℕ) → Option ArmedStop → Progress
with_event p e image stop = record {
  events = p.events ++ e ∷ [];
  image = image;
  stop = stop;
  pushes = pushes_after (world_of p) e p.pushes;
}

-- an event of which the device calls count for the stop, which isn't armed any more then
abbrev pub device_event : Progress → Event → Progress
device_event p e = with_event p (ended e (ends p e)) (image_in (ends p e)) None

-- an event of which the device calls count for no stop
abbrev pub whole_event : Progress → Event → Progress
whole_event p e = with_event p e (image_in (ends (record p { stop = None }) e)) p.stop

-- a push reaches the agent in place of the reply, if one does
abbrev pub takes_push : Progress → Option ServerToAgent → Progress
takes_push p None = happens p []
takes_push p (Some message) =
    whole_event (record p { pushes = without_oldest (target_server (world_of p).agent) p.pushes }) (Took message no_reactions)

-- what a server would push to the agent
abbrev pub push_at : World → ℕ → List WaitingPush
push_at w server = option_to_list (option_map (λ message. record { server = server; message = message }) (push_due w (endpoint_of server) w.agent.saved.uid))

-- a line more; the next of `send`, `reply` and `restart` takes the stop
abbrev pub after_line : Progress → Line → Progress
after_line p Send = device_event p Sent
after_line p Reply = device_event p (Answered no_reactions)
after_line p Restart = device_event p (restart_of (world_of p).agent)
after_line p (Stop call mode) = record p { stop = Some (record { call = call; mode = mode }) }
after_line p GiveUp = with_event p GaveUp p.image p.stop
after_line p (Push server) = record p { pushes = p.pushes ++ push_at (world_of p) server }
after_line p TakePush = takes_push p (push_taken p)
after_line p line = happens p (events_of (world_of p).agent line)

abbrev pub progress_from : Progress → List Line → Progress
progress_from p [] = p
progress_from p (line ∷ lines) = progress_from (after_line p line) lines

-- before the first line: nothing happened, the disk was never written, and nothing was pushed
abbrev pub first_progress : Progress
first_progress = record { events = []; image = λ place. 0; stop = None; pushes = [] }

abbrev pub script_progress : List Line → Progress
script_progress lines = progress_from first_progress lines

abbrev pub script_events : List Line → List Event
script_events lines = (script_progress lines).events

-- the world that a script leads to
abbrev pub script_world : List Line → World
script_world lines = world_of (script_progress lines)
