use Rattle.std.proofs.Common.{◌≡◌, ◌<◌, ℕ, List, take, Option, Some, rules, arith, sym, subst, ◌∙◌}
use Rattle.std.proofs.lemmas.Bool.{eq-eqb}
use Rattle.std.proofs.lemmas.Option.{none-some, same_Some}
use Rattle.shard_servers.specs.declared.desks.Told.{Told}
use Rattle.shard_servers.specs.Desks.{places_in}
use Rattle.shard_servers.proofs.CheckLemmas.{falls_first, goes_on}
use Rattle.shard_servers.proofs.Lists.{get_there, take_one_more}
use Rattle.shard_servers.proofs.Rising.{RisesTo}
use Rattle.shard_servers.proofs.checks.first_fall.Goals as goal
use Rattle.shard_servers.proofs.checks.first_fall.Goals.{in-Some+else-one-earlier, in-None}

pub returns-then-one-earlier-clause-some : goal.returns-then-one-earlier-clause-some
returns-then-one-earlier-clause-some c =
    let told = c.args.told.now in
    let at = c.loop-at.at in
    let one = c.index-told-at.result in
    let own : one.shard ≡ c.args.shard = search rules in
    falls_first c.args.shard told at one c.in-Some.earlier (get_there told at one c.loop-at-test.true c.index-told-at.is) own
    (subst (λ (o : Option ℕ). RisesTo o (places_in c.args.shard (take at told))) c.in-Some.is c.loop-at.invariant)
    c.if-one-earlier.true

pub loop-at-preserved : goal.loop-at-preserved
loop-at-preserved c =
    let told = c.args.told.now in
    let at = c.loop-at.at in
    let one = c.index-told-at.result in
    let own : one.shard ≡ c.args.shard = search rules in
    let above : (p : ℕ) → c.loop-at.last ≡ Some p → p < one.place =
    elim c.match-last.branch [
      | in-Some+else-one-earlier w ↦ λ p is. (let same : w.in-Some.earlier ≡ p = same_Some w.in-Some.earlier p (sym w.in-Some.is ∙ is) in let behind = w.if-one-earlier.false in omega (arith, same, behind))
      | in-None w ↦ λ p is. absurd (none-some p (sym w.in-None.is ∙ is))
    ] in
    subst (λ (ts : List Told). RisesTo (Some one.place) (places_in c.args.shard ts)) (sym (take_one_more told at one c.loop-at-test.true c.index-told-at.is))
    (goes_on c.args.shard (take at told) one c.loop-at.last (eq-eqb one.shard c.args.shard own) c.loop-at.invariant above)
