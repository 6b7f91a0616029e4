-- What the laws take from the crates below, whose own laws say it.
use Rattle.std.proofs.Common.{◌≡◌, ℕ, List, ◌∷◌, [], ◌++◌, true, false, ◌||◌, Option}
use Rattle.std.specs.Prelude.{IfSome, IsSome, is_some}
use Rattle.std.specs.Str.{bytes_eq}
use Rattle.message_values.specs.declared.report.AgentToServer.{AgentToServer}
use Rattle.message_values.specs.declared.state.State.{State}
use Rattle.message_deltas.specs.Obligations.{is_full, IsValidState}
use Rattle.message_deltas.specs.Merging.{merged_state, state_of}
use Rattle.message_deltas.specs.Deltas.{Details, whole_report, delta_report, must_be_whole}
use Rattle.server_core.specs.declared.replies.Profile.{Profile}
use Rattle.server_core.specs.History.{Event as ServerEvent, ascending_uids, due_reply, is_among}
use Rattle.server_core.specs.Rows.{IsAscending, put_uid}
use Rattle.server_core.specs.Table.{table_of, table_after, table_reply}

-- what a report says of a state
pub record TellsStates : Type 0 where
  pub whole_is_full : (uid : List ℕ) (number : ℕ) (s : State) (details : Details) → IsValidState s → is_full (whole_report uid number s details) ≡ true
  pub whole_says : (uid : List ℕ) (number : ℕ) (s : State) (details : Details) → state_of (whole_report uid number s details) ≡ s
  pub delta_not_full : (uid : List ℕ) (number : ℕ) (before now : State) (details : Details) → must_be_whole before now (is_some details) ≡ false
      → is_full (delta_report uid number before now details) ≡ false
  pub delta_says : (uid : List ℕ) (number : ℕ) (before now : State) (details : Details) → IsValidState before → IsValidState now → before.capabilities ≡ now.capabilities
      → IfSome details (λ _. IsSome now.components) → merged_state before (delta_report uid number before now details) ≡ now

-- how a server goes on, and how it replies
pub record KeepsTable : Type 0 where
  pub follows : (history : List ServerEvent) (e : ServerEvent) → table_after (table_of history) e ≡ table_of (history ++ e ∷ [])
  pub replies : (server : Profile) (history : List ServerEvent) (m : AgentToServer) (fresh : Option (List ℕ)) → table_reply server (table_of history) m fresh ≡ due_reply server history m fresh

-- what becomes of identifiers in ascending order
pub record KeepsOrder : Type 0 where
  pub ascend : (uids : List (List ℕ)) (uid : List ℕ) → IsAscending uids → IsAscending (put_uid uids uid)
  pub among : (uids : List (List ℕ)) (uid other : List ℕ) → is_among (put_uid uids uid) other ≡ (bytes_eq uid other || is_among uids other)
  pub all_ascend : (uids : List (List ℕ)) → IsAscending (ascending_uids uids)
  pub all_among : (uids : List (List ℕ)) (uid : List ℕ) → is_among (ascending_uids uids) uid ≡ is_among uids uid
  pub once : (uid : List ℕ) (uids : List (List ℕ)) → IsAscending (uid ∷ uids) → is_among uids uid ≡ false
