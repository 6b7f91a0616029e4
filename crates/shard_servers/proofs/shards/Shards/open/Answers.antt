use Rattle.std.proofs.Common.{List, sym, subst}
use Rattle.shard_journals.specs.declared.rows.Row.{Row}
use Rattle.shard_servers.specs.Agreement.{AreKept}
use Rattle.shard_servers.proofs.CloseLemmas.{four_kept}
use Rattle.shard_servers.proofs.shards.Shards.open.Goals as goal

pub returns-clause-kept : goal.returns-clause-kept
returns-clause-kept g c =
    subst (λ (js : List (List Row)). AreKept js) (sym c.in_ok-journals.ensures.four)
    (four_kept c.into_parts-first.result.0 c.into_parts-second.result.0 c.into_parts-third.result.0 c.into_parts-fourth.result.0
    c.into_parts-first.ensures.history c.into_parts-second.ensures.history c.into_parts-third.ensures.history c.into_parts-fourth.ensures.history)
