use Rattle.std.proofs.Common.{◌≤◌, List, length, rules, subst}
use Rattle.std.specs.List.{AllByRecursion}
use Rattle.std.proofs.lemmas.Result.{err_from_is_err_and}
use Rattle.shard_servers.specs.declared.desks.Told.{Told}
use Rattle.shard_servers.specs.Agreement.{DiffersFirst, DiffersSomewhere, Stands}
use Rattle.shard_servers.specs.Desks.{AtDesk}
use Rattle.shard_servers.proofs.Lists.{get_there, of_all, up_to}
use Rattle.shard_servers.proofs.checks.compare_all_told.Goals as goal

pub returns-in_err-compare_told-clause-err : goal.returns-in_err-compare_told-clause-err
returns-in_err-compare_told-clause-err g c =
    let p = err_from_is_err_and c.from_residual.result c.from_residual.ensures.1 in
    let journals = c.args.journals.now in
    let desks = c.args.desks.now in
    let d = c.index-desks-at.result in
    let fail = c.in_err-compare_told.field-0.0 in
    let it : DiffersSomewhere journals desks fail = record {
      place = c.loop-at.at;
      desk = d;
      at = get_there desks c.loop-at.at d c.loop-at-test.true c.index-desks-at.is;
      fail = subst (λ (ts : List Told). DiffersFirst journals ts fail) c.told.ensures.told c.in_err-compare_told.ensures.err;
      hold = c.loop-at.invariant;
    } in
    rw (p.1, p.2) it

pub loop-at-preserved : goal.loop-at-preserved
loop-at-preserved g c =
    let journals = c.args.journals.now in
    let desks = c.args.desks.now in
    let d = c.index-desks-at.result in
    up_to (λ (x : AtDesk). AllByRecursion (Stands journals) x.told) desks c.loop-at.at d
    (get_there desks c.loop-at.at d c.loop-at-test.true c.index-desks-at.is) c.loop-at.invariant
    (subst (λ (ts : List Told). AllByRecursion (Stands journals) ts) c.told.ensures.told c.in_ok-compare_told.ensures.stand)

pub returns-clause-stand : goal.returns-clause-stand
returns-clause-stand g c =
    let desks = c.args.desks.now in
    let done : length desks ≤ c.loop-at.at = search rules in
    of_all (λ (y : AtDesk). AllByRecursion (Stands c.args.journals.now) y.told) desks c.loop-at.at done c.loop-at.invariant
