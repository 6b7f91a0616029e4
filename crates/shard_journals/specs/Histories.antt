-- Rows as a history of one thread. The words are those of server_core's specs/History.
use Rattle.std.specs.Prelude.{◌≡◌, ℕ, List, map, take, slice_get, None, Some}
use Rattle.message_values.specs.declared.reply.ServerToAgent.{ServerToAgent}
use Rattle.message_values.specs.declared.report.AgentToServer.{AgentToServer}
use Rattle.message_deltas.specs.Merging.{no_custom}
use Rattle.server_core.specs.declared.replies.Profile.{Profile}
use Rattle.server_core.specs.declared.replies.TheConstants.{CONNECTION_LIMIT}
use Rattle.server_core.specs.History.{Event, Reported, due_reply}
use Rattle.server_core.specs.Served.{Served}
use Rattle.server_core.specs.Table.{table_of}
use Rattle.shard_journals.specs.declared.rows.Row.{Row}
use Rattle.shard_journals.specs.declared.sharding.TheConstants.{FLEET_CAPABILITIES}

-- what each server of a fleet says of itself, and keeps to
abbrev pub fleet_profile : Profile
fleet_profile = record { capabilities = FLEET_CAPABILITIES; custom = no_custom; connections = CONNECTION_LIMIT }

-- the reports of the rows, as they reached a server
abbrev pub reported : List Row → List Event
reported rows = map (λ r. Reported r.report) rows

-- the reply that is due to a report after the rows, by a server that offers nothing and draws no identifier
abbrev pub due_after : List Row → AgentToServer → ServerToAgent
due_after rows m = due_reply fleet_profile (reported rows) m None

-- a history of one thread: each row's reply is the one that is due after the rows before it
abbrev pub IsHistory : List Row → Type 0
IsHistory rows = (place : ℕ) (row : Row) → slice_get rows place ≡ Some row → row.reply ≡ due_after (take place rows) row.report

-- the server has taken the reports of the rows, in their order, and nothing else
pub record IsKeptBy (server : Served) (rows : List Row) : Type 0 where
  pub profile : server.profile ≡ fleet_profile
  pub table : server.table ≡ table_of (reported rows)
  pub history : IsHistory rows
