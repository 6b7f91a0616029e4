use Rattle.std.proofs.lemmas.Bool.{iff_false}
use Rattle.shard_servers.specs.Agreement.{Stands}
use Rattle.shard_servers.proofs.CheckLemmas.{first_fails}
use Rattle.shard_servers.proofs.Lists.{get_there}
use Rattle.shard_servers.proofs.checks.first_other.Goals as goal

pub returns-then-not-told_row_stands-clause-some : goal.returns-then-not-told_row_stands-clause-some
returns-then-not-told_row_stands-clause-some c =
    let told = c.args.told.now in
    let one = c.index-told-at.result in
    first_fails (Stands c.args.journals.now) told c.loop-at.at one (get_there told c.loop-at.at one c.loop-at-test.true c.index-told-at.is) c.loop-at.invariant
    (iff_false c.told_row_stands.ensures.stands c.if-not-told_row_stands.true)
