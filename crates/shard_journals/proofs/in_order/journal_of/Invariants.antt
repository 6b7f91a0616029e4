use Rattle.std.specs.Prelude.{take}
use Rattle.shard_journals.specs.Fleets.{IsJournalOf}
use Rattle.shard_journals.proofs.in_order.journal_of.Given as goal

abbrev pub invariant-loop-at : goal.invariant-loop-at
invariant-loop-at l = IsJournalOf (take l.at l.items) l.desks l.shard l.journal
