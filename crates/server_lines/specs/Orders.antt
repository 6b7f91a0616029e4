-- What an order's kind says of it.
use Rattle.std.specs.Prelude.{ℕ, List, [], ◌∷◌, map, Bool, true, false, Option, None, Some, if◌then◌else◌}
use Rattle.server_core.specs.History.{Event, Offered, Ordered, Withdrawn, Forgotten}
use Rattle.server_core.specs.Table.{Table, left_agents}
use Rattle.server_lines.specs.declared.orders.Action.{Action}
use Rattle.server_lines.specs.declared.orders.Action.TheVariants as action
use Rattle.server_lines.specs.declared.orders.Order.{Order}
use Rattle.server_lines.specs.declared.orders.Order.TheVariants as order

-- something is due to the agent by the action
abbrev pub is_sent : Action → Bool
is_sent (action.Offer offer) = true
is_sent action.Restart = true
is_sent action.Withdraw = false
is_sent action.Forget = false

-- the agent to which something is due by an order
abbrev pub agent_of : Order → Option (List ℕ)
agent_of (order.Ask asked) = None
agent_of (order.Act uid act) = if is_sent act then Some uid else None
agent_of (order.Steer id done) = None
agent_of order.ForgetLeft = None
agent_of order.Stop = None

-- whether the run ends behind the order
abbrev pub is_stop : Order → Bool
is_stop (order.Ask asked) = false
is_stop (order.Act uid act) = false
is_stop (order.Steer id done) = false
is_stop order.ForgetLeft = false
is_stop order.Stop = true

-- what reaches the server by an action
abbrev pub event_by : List ℕ → Action → Event
event_by uid (action.Offer offer) = Offered uid offer
event_by uid action.Restart = Ordered uid
event_by uid action.Withdraw = Withdrawn uid
event_by uid action.Forget = Forgotten uid

-- What reaches the server with this table by an order, one after the other. Rollouts are no part of its table.
abbrev pub events_of : Table → Order → List Event
events_of table (order.Ask asked) = []
events_of table (order.Act uid act) = event_by uid act ∷ []
events_of table (order.Steer id done) = []
events_of table order.ForgetLeft = map Forgotten (left_agents table)
events_of table order.Stop = []
