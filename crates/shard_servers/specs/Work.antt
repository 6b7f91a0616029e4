-- What a desk does of a list of reports.
use Rattle.std.specs.Prelude.{◌≡◌, ℕ, ◌%◌, ◌==◌, List, ◌++◌, length, filter, map, slice_get, Some}
use Rattle.std.specs.List.{enumerate_from}
use Rattle.message_values.specs.declared.report.AgentToServer.{AgentToServer}
use Rattle.shard_servers.specs.declared.desks.Told.{Told}
use Rattle.shard_servers.specs.Desks.{AtDesk}

-- the reports whose place modulo the number of desks is this desk's number, with their places, in order
abbrev pub work_of : ℕ → ℕ → List AgentToServer → List (ℕ × AgentToServer)
work_of number desks items = filter (λ p. p.0 % desks == number) (enumerate_from 0 items)

-- what the rows were told for
abbrev pub handled : List Told → List (ℕ × AgentToServer)
handled told = map (λ t. (t.row.item, t.row.report)) told

-- the desk has had its share of the reports handled
pub record HasWorked (items : List AgentToServer) (desks : ℕ) (before after : AtDesk) : Type 0 where
  pub number : after.number ≡ before.number
  pub parts : after.parts ≡ before.parts
  pub more : List Told
  pub told : after.told ≡ before.told ++ more
  pub work : handled more ≡ work_of before.number desks items

-- each of the desks has
pub record AreWorked (items : List AgentToServer) (desks : ℕ) (before after : List AtDesk) : Type 0 where
  pub count : length after ≡ length before
  pub each : (place : ℕ) (d e : AtDesk) → slice_get before place ≡ Some d → slice_get after place ≡ Some e → HasWorked items desks d e
