-- The answers to orders, which no public standard gives. Each line of an answer ends with a line feed.
use Rattle.std.specs.Prelude.{◌≡◌, ◌⊎◌, ℕ, ◌+◌, ◌-◌, List, [], ◌++◌, length, fold, count_by, sum_by, nat_le, Bool, false, not, ◌&&◌, ◌||◌, IsTrue, Option, None, Some, is_some, Result, Ok, Err, if◌then◌else◌, codes}
use Rattle.std.specs.Fmt.{decimal}
use Rattle.std.specs.Option.{option_map}
use Rattle.hex.specs.Hex.{encode_lower}
use Rattle.std.specs.List.{flat_map}
use Rattle.uuid.specs.Text.{hyphenated_text, lower}
use Rattle.plain_values.specs.declared.files.AgentConfigMap.{AgentConfigMap}
use Rattle.message_values.specs.declared.health.ComponentHealth.{ComponentHealth, out-ComponentHealth}
use Rattle.message_values.specs.declared.config.AgentRemoteConfig.{AgentRemoteConfig}
use Rattle.message_values.specs.declared.config.RemoteConfigStatus.{RemoteConfigStatus}
use Rattle.message_values.specs.declared.connection.ConnectionSettingsOffers.{ConnectionSettingsOffers}
use Rattle.message_values.specs.declared.packages.PackageStatuses.{PackageStatuses}
use Rattle.message_values.specs.declared.packages.PackagesAvailable.{PackagesAvailable}
use Rattle.message_deltas.specs.Deltas.{whole_report}
use Rattle.message_texts.specs.Texts.{text_of_report}
use Rattle.server_core.specs.declared.offers.OfferFail.{OfferFail}
use Rattle.server_core.specs.declared.offers.OfferFail.TheVariants.{UnknownAgent, TooLarge, NoMemory}
use Rattle.server_core.specs.declared.rows.Record.{Record}
use Rattle.server_core.specs.declared.offers.Offer.{Offer}
use Rattle.server_core.specs.declared.offers.Offer.TheVariants.{Config as ConfigOffer}
use Rattle.server_core.specs.declared.offers.Offers.{Offers}
use Rattle.server_core.specs.Offers.{fits_offer, names}
use Rattle.server_core.specs.Table.{Table, is_held, find_record, left_agents, pending_at, table_after}
use Rattle.server_waves.specs.declared.fates.Fate.{Fate}
use Rattle.server_waves.specs.declared.fates.Fate.TheVariants.{Waiting, Offered as OfferMade, Applied, Failed}
use Rattle.server_waves.specs.declared.fates.Member.{Member}
use Rattle.server_waves.specs.declared.fates.Progress.{Progress}
use Rattle.server_waves.specs.declared.finders.Finder.{Finder}
use Rattle.server_waves.specs.declared.register.BeginFail.{BeginFail}
use Rattle.server_waves.specs.declared.register.BeginFail.TheVariants.{There, TooMany, TooLarge as RolloutTooLarge, NoMemory as NoRolloutMemory}
use Rattle.server_waves.specs.declared.register.TheConstants.{ROLLOUT_LIMIT}
use Rattle.server_waves.specs.Fates.{members_of, progress_of}
use Rattle.server_waves.specs.Register.{Rolling, all_without, changed, find_rolling, finished, is_there, with_rolling}
use Rattle.server_waves.specs.Waves.{Terms, resumed, with_halt}
use Rattle.server_lines.specs.declared.counting.Totals.{Totals}
use Rattle.server_lines.specs.declared.orders.Action.{Action}
use Rattle.server_lines.specs.declared.orders.Action.TheVariants as action
use Rattle.server_lines.specs.declared.orders.Order.{Order}
use Rattle.server_lines.specs.declared.orders.Order.TheVariants as order
use Rattle.server_lines.specs.declared.orders.Question.{Question}
use Rattle.server_lines.specs.declared.orders.Question.TheVariants as question
use Rattle.server_lines.specs.declared.orders.Steering.{Steering}
use Rattle.server_lines.specs.declared.orders.Steering.TheVariants as steering
use Rattle.server_lines.specs.declared.sights.Mark.{Mark}
use Rattle.server_lines.specs.Orders.{events_of}
use Rattle.server_lines.specs.Sights.{Sight, is_known, mark_at}

abbrev pub ok_line : List ℕ
ok_line = codes "ok\n"

abbrev pub end_line : List ℕ
end_line = codes "end\n"

abbrev pub unknown_agent : List ℕ
unknown_agent = codes "refused: unknown agent\n"

abbrev pub too_large : List ℕ
too_large = codes "refused: too large\n"

abbrev pub no_memory : List ℕ
no_memory = codes "refused: no memory\n"

abbrev pub no_rollout : List ℕ
no_rollout = codes "refused: no rollout\n"

abbrev pub rollout_there : List ℕ
rollout_there = codes "refused: rollout there\n"

abbrev pub too_many_rollouts : List ℕ
too_many_rollouts = codes "refused: too many rollouts\n"

-- what became of an offer or a restart, in words
unfoldable pub words_of : Result Unit OfferFail → List ℕ
words_of (Ok done) = ok_line
words_of (Err UnknownAgent) = unknown_agent
words_of (Err TooLarge) = too_large
words_of (Err NoMemory) = no_memory

-- what became of a rollout's begin, in words
unfoldable pub words_of_begin : Result Unit BeginFail → List ℕ
words_of_begin (Ok done) = ok_line
words_of_begin (Err There) = rollout_there
words_of_begin (Err TooMany) = too_many_rollouts
words_of_begin (Err RolloutTooLarge) = too_large
words_of_begin (Err NoRolloutMemory) = no_memory

-- whether the agent said with its last report that it disconnects
abbrev pub presence : Bool → List ℕ
presence left = if left then codes "left" else codes "here"

-- how the agent said that it fares
abbrev pub fares : Option ComponentHealth → List ℕ
fares None = codes "unknown"
fares (Some health) = if (out-ComponentHealth health).healthy then codes "healthy" else codes "unhealthy"

-- an agent's line in the list of them
unfoldable pub record_line : Record → List ℕ
record_line r =
    hyphenated_text lower r.uid ++ (codes " " ++ (decimal r.number ++ (codes " " ++ (presence r.left ++ (codes " " ++ (fares r.state.health ++ codes "\n"))))))

unfoldable pub text_of_list : List Record → List ℕ
text_of_list records = flat_map record_line records ++ end_line

-- the text of the whole report of what is kept of an agent, in which components have their hash alone
unfoldable pub text_of_record : Option Record → List ℕ
text_of_record None = unknown_agent
text_of_record (Some r) = text_of_report (whole_report r.uid r.number r.state None) ++ end_line

-- the line of a hash, in lower-case hexadecimal digits
unfoldable pub hash_line : List ℕ → List ℕ → List ℕ
hash_line kind hash = kind ++ (codes " " ++ (encode_lower hash ++ codes "\n"))

-- An offer that stands waits until the agent's status names its hash. Settings of the connection have no status.
abbrev pub config_waits : Option RemoteConfigStatus → Option AgentRemoteConfig → List ℕ
config_waits status None = []
config_waits status (Some offer) =
    if names (option_map (λ s. s.last_remote_config_hash) status) offer.config_hash then [] else hash_line (codes "config") offer.config_hash

abbrev pub packages_wait : Option PackageStatuses → Option PackagesAvailable → List ℕ
packages_wait status None = []
packages_wait status (Some offer) =
    if names (option_map (λ s. s.server_provided_all_packages_hash) status) offer.all_packages_hash then [] else hash_line (codes "packages") offer.all_packages_hash

abbrev pub connection_waits : Option ConnectionSettingsOffers → List ℕ
connection_waits None = []
connection_waits (Some offer) = hash_line (codes "connection") offer.hash

abbrev pub offers_wait : Record → Offers → List ℕ
offers_wait r offers = config_waits r.state.remote offers.config ++ (packages_wait r.state.packages offers.packages ++ connection_waits offers.connection)

abbrev pub restart_line : Bool → List ℕ
restart_line waits = if waits then codes "restart\n" else []

-- what waits for an agent, of the offers that stand for it and whether a restart waits
unfoldable pub text_of_waits : Option Record → Offers → Bool → List ℕ
text_of_waits None offers restart = unknown_agent
text_of_waits (Some r) offers restart = offers_wait r offers ++ (restart_line restart ++ end_line)

-- ---- rollouts

-- a mark behind a rollout that makes no further offers
abbrev pub halted_mark : Bool → List ℕ
halted_mark halted = if halted then codes " halted" else []

-- how many agents of a rollout wait for its offer, have it, applied it, and failed
unfoldable pub progress_line : List ℕ → Progress → List ℕ
progress_line id p =
    id ++ (codes " waiting " ++ (decimal p.waiting ++ (codes " offered " ++ (decimal p.offered
    ++ (codes " applied " ++ (decimal p.applied ++ (codes " failed " ++ (decimal p.failed ++ (halted_mark p.halted ++ codes "\n")))))))))

abbrev pub rollout_line : Rolling → List ℕ
rollout_line r = progress_line r.id (progress_of r.waves)

-- all rollouts, in the order in which they began
unfoldable pub text_of_rollouts : List Rolling → List ℕ
text_of_rollouts rollouts = flat_map rollout_line rollouts ++ end_line

-- what became of a rollout's offer at an agent, in a word
abbrev pub fate_word : Fate → List ℕ
fate_word Waiting = codes "waiting"
fate_word OfferMade = codes "offered"
fate_word Applied = codes "applied"
fate_word Failed = codes "failed"

unfoldable pub member_line : Member → List ℕ
member_line m = hyphenated_text lower m.uid ++ (codes " " ++ (fate_word m.fate ++ codes "\n"))

-- the agents that joined a rollout, in the order of joining
unfoldable pub text_of_members : Option Rolling → List ℕ
text_of_members None = no_rollout
text_of_members (Some r) = flat_map member_line (members_of r.waves) ++ end_line

-- ---- what is seen

-- how a report came: over HTTP, or over WebSocket by a connection that is still open, or closed
abbrev pub way_word : List ℕ → Mark → List ℕ
way_word known mark = if mark.ws then (if is_known known mark.conn then codes "open" else codes "closed") else codes "http"

unfoldable pub age_line : List ℕ → ℕ → List ℕ → List ℕ
age_line uid seconds way = hyphenated_text lower uid ++ (codes " " ++ (decimal seconds ++ (codes " " ++ (way ++ codes "\n"))))

-- The seconds since an agent's last report, none where the clock went back, and how it came. Without a mark there is no line: the
-- agent's reports were taken before this run began.
abbrev pub line_by_mark : Sight → List ℕ → Option Mark → List ℕ
line_by_mark sight uid None = []
line_by_mark sight uid (Some mark) = age_line uid (sight.seen.second - mark.second) (way_word sight.known mark)

abbrev pub line_of_age : Sight → Record → List ℕ
line_of_age sight r = line_by_mark sight r.uid (mark_at sight.seen r.uid)

unfoldable pub text_of_ages : Sight → List Record → List ℕ
text_of_ages sight records = flat_map (line_of_age sight) records ++ end_line

-- ---- how many there are

abbrev pub is_healthy : Option ComponentHealth → Bool
is_healthy None = false
is_healthy (Some health) = (out-ComponentHealth health).healthy

abbrev pub is_unhealthy : Option ComponentHealth → Bool
is_unhealthy None = false
is_unhealthy (Some health) = not (out-ComponentHealth health).healthy

-- one for each kind of which there is an offer
abbrev pub kinds_in : Offers → ℕ
kinds_in offers = (if is_some offers.config then 1 else 0) + (if is_some offers.packages then 1 else 0) + (if is_some offers.connection then 1 else 0)

-- the offers that stand for agents that are held
abbrev pub orders_in : Table → ℕ
orders_in table = sum_by (λ r. kinds_in (pending_at table.pendings r.uid).offers) table.records

-- how many agents there are, and how they fare
unfoldable pub agents_told : Totals → List ℕ
agents_told t =
    codes "agents " ++ (decimal t.agents ++ (codes "\nhere " ++ (decimal t.here
    ++ (codes "\nhealthy " ++ (decimal t.healthy ++ (codes "\nunhealthy " ++ (decimal t.unhealthy ++ codes "\n")))))))

-- how many connections, reports, offers and rollouts there are
unfoldable pub others_told : Totals → List ℕ
others_told t =
    codes "connections " ++ (decimal t.connections ++ (codes "\nreports " ++ (decimal t.reports
    ++ (codes "\norders " ++ (decimal t.orders ++ (codes "\nrollouts " ++ (decimal t.rollouts ++ codes "\n")))))))

unfoldable pub text_of_totals : Totals → List ℕ
text_of_totals t = agents_told t ++ (others_told t ++ end_line)

-- ---- answers

-- what orders tell and change: what a server knows of its agents and has wait for them, and its rollouts
pub record Fleet : Type 0 where
  pub table : Table
  pub rollouts : List Rolling

abbrev pub fleet_of : Table → List Rolling → Fleet
fleet_of table rollouts = record { table = table; rollouts = rollouts }

unfoldable pub answer_to_offer : Table → List ℕ → Offer → List ℕ
answer_to_offer table uid offer =
    if is_held table uid then (if fits_offer offer then ok_line else too_large) else unknown_agent

unfoldable pub answer_where_held : Table → List ℕ → List ℕ
answer_where_held table uid = if is_held table uid then ok_line else unknown_agent

unfoldable pub answer_where_there : List Rolling → List ℕ → List ℕ
answer_where_there rollouts id = if is_there rollouts id then ok_line else no_rollout

-- the first of these that is so: a rollout of that name is there, as many are there as may be, the offer is too large
unfoldable pub answer_to_begin : List Rolling → List ℕ → AgentConfigMap → List ℕ
answer_to_begin rollouts id files =
    if is_there rollouts id then rollout_there
    else if nat_le ROLLOUT_LIMIT (length rollouts) then too_many_rollouts
    else if fits_offer (ConfigOffer files) then ok_line
    else too_large

-- how many there are of each, where so many reports were taken and so many connections are known
abbrev pub totals_of : Fleet → ℕ → ℕ → Totals
totals_of fleet reports connections = record {
  agents = length fleet.table.records;
  here = count_by (λ r. not r.left) fleet.table.records;
  healthy = count_by (λ r. is_healthy r.state.health) fleet.table.records;
  unhealthy = count_by (λ r. is_unhealthy r.state.health) fleet.table.records;
  connections = connections;
  reports = reports;
  orders = orders_in fleet.table;
  rollouts = length fleet.rollouts;
}

-- the answer to a question of a server with this table and these rollouts, and by what is seen beside them
unfoldable pub answer_to_question : Sight → Fleet → Question → List ℕ
answer_to_question sight fleet question.List = text_of_list fleet.table.records
answer_to_question sight fleet (question.Show uid) = text_of_record (find_record fleet.table.records uid)
answer_to_question sight fleet (question.Waits uid) =
    text_of_waits (find_record fleet.table.records uid) (pending_at fleet.table.pendings uid).offers (pending_at fleet.table.pendings uid).restart
answer_to_question sight fleet question.Rollouts = text_of_rollouts fleet.rollouts
answer_to_question sight fleet (question.Members id) = text_of_members (find_rolling fleet.rollouts id)
answer_to_question sight fleet question.Ages = text_of_ages sight fleet.table.records
answer_to_question sight fleet question.Count = text_of_totals (totals_of fleet sight.seen.reports (length sight.known))

abbrev pub answer_to_action : Table → List ℕ → Action → List ℕ
answer_to_action table uid (action.Offer offer) = answer_to_offer table uid offer
answer_to_action table uid action.Restart = answer_where_held table uid
answer_to_action table uid action.Withdraw = answer_where_held table uid
answer_to_action table uid action.Forget = answer_where_held table uid

abbrev pub answer_to_steering : List Rolling → List ℕ → Steering → List ℕ
answer_to_steering rollouts id (steering.Begin width allowed finder files) = answer_to_begin rollouts id files
answer_to_steering rollouts id steering.Halt = answer_where_there rollouts id
answer_to_steering rollouts id steering.Resume = answer_where_there rollouts id
answer_to_steering rollouts id steering.Finish = answer_where_there rollouts id

-- the answer to an order
abbrev pub answer_to_order : Sight → Fleet → Order → List ℕ
answer_to_order sight fleet (order.Ask asked) = answer_to_question sight fleet asked
answer_to_order sight fleet (order.Act uid act) = answer_to_action fleet.table uid act
answer_to_order sight fleet (order.Steer id done) = answer_to_steering fleet.rollouts id done
answer_to_order sight fleet order.ForgetLeft = ok_line
answer_to_order sight fleet order.Stop = ok_line

-- ---- what is left

-- the table afterwards
abbrev pub table_after_order : Table → Order → Table
table_after_order table ordered = fold table_after table (events_of table ordered)

-- an agent that has left leaves all rollouts
abbrev pub without_left : Record → List Rolling → List Rolling
without_left agent rollouts = if agent.left then all_without agent.uid rollouts else rollouts

-- an agent that was held leaves all rollouts
abbrev pub without_held : Table → List ℕ → List Rolling → List Rolling
without_held table uid rollouts = if is_held table uid then all_without uid rollouts else rollouts

abbrev pub rollouts_by_action : Table → List Rolling → List ℕ → Action → List Rolling
rollouts_by_action table rollouts uid (action.Offer offer) = rollouts
rollouts_by_action table rollouts uid action.Restart = rollouts
rollouts_by_action table rollouts uid action.Withdraw = rollouts
rollouts_by_action table rollouts uid action.Forget = without_held table uid rollouts

-- a rollout of this name can begin, if there is memory
abbrev pub has_place : List Rolling → List ℕ → Bool
has_place rollouts id = not (is_there rollouts id || nat_le ROLLOUT_LIMIT (length rollouts))

abbrev pub rollouts_begun : Table → List Rolling → List ℕ → Option Finder → Terms → List Rolling
rollouts_begun table rollouts id finder terms =
    if has_place rollouts id && fits_offer (ConfigOffer terms.files) then with_rolling table.records id finder terms rollouts else rollouts

abbrev pub rollouts_by_steering : Table → List Rolling → List ℕ → Steering → List Rolling
rollouts_by_steering table rollouts id (steering.Begin width allowed finder files) =
    rollouts_begun table rollouts id finder (record { files = files; width = width; allowed = allowed })
rollouts_by_steering table rollouts id steering.Halt = changed with_halt id rollouts
rollouts_by_steering table rollouts id steering.Resume = changed resumed id rollouts
rollouts_by_steering table rollouts id steering.Finish = finished id rollouts

-- the rollouts afterwards
abbrev pub rollouts_after : Fleet → Order → List Rolling
rollouts_after fleet (order.Ask asked) = fleet.rollouts
rollouts_after fleet (order.Act uid act) = rollouts_by_action fleet.table fleet.rollouts uid act
rollouts_after fleet (order.Steer id done) = rollouts_by_steering fleet.table fleet.rollouts id done
rollouts_after fleet order.ForgetLeft = fold (λ rollouts uid. all_without uid rollouts) fleet.rollouts (left_agents fleet.table)
rollouts_after fleet order.Stop = fleet.rollouts

-- memory may be wanting within what is done: an offer to an agent that is held, or a rollout that has a place
abbrev pub wants_by_action : Table → List ℕ → Action → Bool
wants_by_action table uid (action.Offer offer) = is_held table uid
wants_by_action table uid action.Restart = false
wants_by_action table uid action.Withdraw = false
wants_by_action table uid action.Forget = false

abbrev pub wants_by_steering : List Rolling → List ℕ → Steering → Bool
wants_by_steering rollouts id (steering.Begin width allowed finder files) = has_place rollouts id
wants_by_steering rollouts id steering.Halt = false
wants_by_steering rollouts id steering.Resume = false
wants_by_steering rollouts id steering.Finish = false

abbrev pub wants_memory : Fleet → Order → Bool
wants_memory fleet (order.Ask asked) = false
wants_memory fleet (order.Act uid act) = wants_by_action fleet.table uid act
wants_memory fleet (order.Steer id done) = wants_by_steering fleet.rollouts id done
wants_memory fleet order.ForgetLeft = false
wants_memory fleet order.Stop = false

-- The order gets this text, and leaves this table and these rollouts. An offer to an agent that is held, or a rollout that has
-- a place, for which memory is wanting, is refused in words, and changes nothing.
unfoldable pub RunsOrder : Sight → Fleet → Order → List ℕ → Fleet → Type 0
RunsOrder sight fleet ordered text after =
    ((text ≡ answer_to_order sight fleet ordered) × (after.table ≡ table_after_order fleet.table ordered) × (after.rollouts ≡ rollouts_after fleet ordered))
    ⊎ (IsTrue (wants_memory fleet ordered) × (text ≡ no_memory) × (after ≡ fleet))
