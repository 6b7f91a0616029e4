-- What an entry stands on.
use Rattle.std.specs.Prelude.{◌≡◌, ℕ, ◌+◌, List, Some, slice_get}
use Rattle.message_values.specs.declared.state.State.{State}
use Rattle.agent_rules.specs.Reports.{Entry}

-- the entry before this place was sent under the number before, to the same server, under the same identifier, with the same capabilities, and told this state
pub record StandsOn (sent : List Entry) (place : ℕ) (e : Entry) (before : State) : Type 0 where
  pub former_place : ℕ
  pub just_before : former_place + 1 ≡ place
  pub former : Entry
  pub is_former : slice_get sent former_place ≡ Some former
  pub state : former.state ≡ before
  pub server : former.server ≡ e.server
  pub uid : former.uid ≡ e.uid
  pub number : e.number ≡ former.number + 1
  pub capabilities : before.capabilities ≡ e.state.capabilities
