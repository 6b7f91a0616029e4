-- What is known of a report that was handled under the lock of its shard.
use Rattle.std.specs.Prelude.{◌≡◌, ℕ, List, length}
use Rattle.message_values.specs.declared.report.AgentToServer.{AgentToServer}
use Rattle.shard_journals.specs.declared.rows.Row.{Row}
use Rattle.shard_journals.specs.Histories.{IsHistory, due_after}

-- The row is that of the report. Its reply is the one that is due after a history of one thread, of as many rows as its place: some history, of
-- which nothing else is said.
pub record IsAnswer (desk item : ℕ) (report : AgentToServer) (place : ℕ) (row : Row) : Type 0 where
  pub before : List Row
  pub places : length before ≡ place
  pub history : IsHistory before
  pub is : row ≡ record { desk = desk; item = item; report = report; reply = due_after before report }
