use Rattle.std.proofs.Common.{arith}
use Rattle.shard_servers.proofs.tallies.Books.audit.Goals as goal

pub returns-clause-first : goal.returns-clause-first
returns-clause-first g c =
    let taken = c.take_all.ensures in
    let parts = taken.first_parts in
    let amount = taken.first in
    let no_parts = c.requires.idle_parts.0 in
    let no_amount = c.requires.idle_amounts.0 in
    let all = c.requires.first in
    let whole = c.audit.ensures.whole (omega (arith, parts, no_parts, all)) in
    omega (arith, whole, amount, no_amount)

pub returns-clause-second : goal.returns-clause-second
returns-clause-second g c =
    let taken = c.take_all.ensures in
    let parts = taken.second_parts in
    let amount = taken.second in
    let no_parts = c.requires.idle_parts.1 in
    let no_amount = c.requires.idle_amounts.1 in
    let all = c.requires.second in
    let whole = c.audit-2.ensures.whole (omega (arith, parts, no_parts, all)) in
    omega (arith, whole, amount, no_amount)

pub returns-clause-third : goal.returns-clause-third
returns-clause-third g c =
    let taken = c.take_all.ensures in
    let parts = taken.third_parts in
    let amount = taken.third in
    let no_parts = c.requires.idle_parts.2 in
    let no_amount = c.requires.idle_amounts.2 in
    let all = c.requires.third in
    let whole = c.audit-3.ensures.whole (omega (arith, parts, no_parts, all)) in
    omega (arith, whole, amount, no_amount)

pub returns-clause-fourth : goal.returns-clause-fourth
returns-clause-fourth g c =
    let taken = c.take_all.ensures in
    let parts = taken.fourth_parts in
    let amount = taken.fourth in
    let no_parts = c.requires.idle_parts.3 in
    let no_amount = c.requires.idle_amounts.3 in
    let all = c.requires.fourth in
    let whole = c.audit-4.ensures.whole (omega (arith, parts, no_parts, all)) in
    omega (arith, whole, amount, no_amount)
