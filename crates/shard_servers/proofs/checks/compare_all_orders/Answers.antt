use Rattle.std.proofs.Common.{◌≤◌, List, length, rules, subst}
use Rattle.std.proofs.lemmas.Result.{err_from_is_err_and}
use Rattle.shard_servers.specs.declared.desks.Told.{Told}
use Rattle.shard_servers.specs.Agreement.{OutOfOrderFirst, OutOfOrderSomewhere, PlacesRise}
use Rattle.shard_servers.specs.Desks.{AreOwn, AtDesk}
use Rattle.shard_servers.proofs.Lists.{get_there, of_all, up_to}
use Rattle.shard_servers.proofs.checks.compare_all_orders.Goals as goal

pub returns-in_err-compare_order-clause-err : goal.returns-in_err-compare_order-clause-err
returns-in_err-compare_order-clause-err g c =
    let p = err_from_is_err_and c.from_residual.result c.from_residual.ensures.1 in
    let desks = c.args.desks.now in
    let d = c.index-desks-at.result in
    let fail = c.in_err-compare_order.field-0.0 in
    let it : OutOfOrderSomewhere desks fail = record {
      place = c.loop-at.at;
      desk = d;
      at = get_there desks c.loop-at.at d c.loop-at-test.true c.index-desks-at.is;
      fail =
          subst (λ n. OutOfOrderFirst n d.told fail) c.number.ensures.number
          (subst (λ (ts : List Told). OutOfOrderFirst c.number.result ts fail) c.told.ensures.told c.in_err-compare_order.ensures.err);
      hold = λ earlier x before at. (c.loop-at.invariant earlier x before at).0;
    } in
    rw (p.1, p.2) it

pub loop-at-preserved : goal.loop-at-preserved
loop-at-preserved g c =
    let desks = c.args.desks.now in
    let d = c.index-desks-at.result in
    up_to (λ (x : AtDesk). PlacesRise x.told × AreOwn x.number x.told) desks c.loop-at.at d
    (get_there desks c.loop-at.at d c.loop-at-test.true c.index-desks-at.is) c.loop-at.invariant
    (subst (λ (ts : List Told). PlacesRise ts) c.told.ensures.told c.in_ok-compare_order.ensures.rise, c.told.ensures.own)

pub returns-clause-own : goal.returns-clause-own
returns-clause-own g c =
    let desks = c.args.desks.now in
    let done : length desks ≤ c.loop-at.at = search rules in
    λ place x at. (of_all (λ (y : AtDesk). PlacesRise y.told × AreOwn y.number y.told) desks c.loop-at.at done c.loop-at.invariant place x at).1

pub returns-clause-rise : goal.returns-clause-rise
returns-clause-rise g c =
    let desks = c.args.desks.now in
    let done : length desks ≤ c.loop-at.at = search rules in
    λ place x at. (of_all (λ (y : AtDesk). PlacesRise y.told × AreOwn y.number y.told) desks c.loop-at.at done c.loop-at.invariant place x at).0
