use Rattle.std.specs.Prelude.{◌≡◌, ℕ, List, length, slice_get, Some}
use Rattle.shard_journals.specs.declared.rows.Row.{Row}
use Rattle.shard_journals.specs.Fleets.{IsJournalOf}
use Rattle.shard_journals.proofs.in_order.handle_in_order.Given as goal

abbrev pub invariant-loop-shard : goal.invariant-loop-shard
invariant-loop-shard l =
    (length l.journals ≡ l.shard)
    × ((shard : ℕ) (rows : List Row) → slice_get l.journals shard ≡ Some rows → IsJournalOf l.items l.desks shard rows)
