-- What the journals of a fleet are, by the reports that were handled.
use Rattle.std.specs.Prelude.{◌≡◌, ℕ, ◌%◌, ◌<◌, List, length, slice_get, Some}
use Rattle.message_values.specs.declared.report.AgentToServer.{AgentToServer}
use Rattle.shard_journals.specs.declared.rows.Row.{Row}
use Rattle.shard_journals.specs.declared.sharding.TheConstants.{SHARDS}
use Rattle.shard_journals.specs.Histories.{IsHistory}
use Rattle.shard_journals.specs.Sharding.{shard_of}

-- the row is that of a report of the list. The desk is the one whose share the report was, and the shard that of its agent
pub record IsRowOf (items : List AgentToServer) (desks shard : ℕ) (row : Row) : Type 0 where
  pub of_list : slice_get items row.item ≡ Some row.report
  pub of_desk : row.desk ≡ row.item % desks
  pub of_shard : shard_of row.report.instance_uid ≡ shard

-- just one of the rows is of the item
pub record StandsOnce (rows : List Row) (item : ℕ) : Type 0 where
  pub place : ℕ
  pub row : Row
  pub at : slice_get rows place ≡ Some row
  pub of_item : row.item ≡ item
  pub alone : (other : ℕ) (r : Row) → slice_get rows other ≡ Some r → r.item ≡ item → other ≡ place

-- the items of each desk rise
abbrev pub ItemsRise : List Row → Type 0
ItemsRise rows =
    (earlier later : ℕ) (r t : Row) → earlier < later → slice_get rows earlier ≡ Some r → slice_get rows later ≡ Some t
    → r.desk ≡ t.desk → r.item < t.item

-- The journal of one shard, where so many desks shared the reports of the list: a history of one thread, that has each
-- report of the shard's agents once.
pub record IsJournalOf (items : List AgentToServer) (desks shard : ℕ) (rows : List Row) : Type 0 where
  pub history : IsHistory rows
  pub own : (place : ℕ) (row : Row) → slice_get rows place ≡ Some row → IsRowOf items desks shard row
  pub each : (item : ℕ) (m : AgentToServer) → slice_get items item ≡ Some m → shard_of m.instance_uid ≡ shard → StandsOnce rows item
  pub rise : ItemsRise rows

-- a journal for each shard
pub record AreJournalsOf (items : List AgentToServer) (desks : ℕ) (journals : List (List Row)) : Type 0 where
  pub four : length journals ≡ SHARDS
  pub each : (shard : ℕ) (rows : List Row) → slice_get journals shard ≡ Some rows → IsJournalOf items desks shard rows
