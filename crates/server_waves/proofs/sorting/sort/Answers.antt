use Rattle.std.proofs.Common.{ℕ, List, not, arith}
use Rattle.server_core.specs.Table.{find_record}
use Rattle.server_waves.specs.Waves.{has_applied, has_failed, is_decided, passes}
use Rattle.server_waves.proofs.Sorted.{sorted_more}
use Rattle.server_waves.proofs.sorting.sort.Goals as goal

pub sort_one-requires-clause-room_to_stay : goal.sort_one-requires-clause-room_to_stay
sort_one-requires-clause-room_to_stay g c =
    let it = c.loop-uid.invariant in
    omega (arith, it.grown, it.rest_grown, it.applied_grown, it.failed_grown, it.rest_capacity, c.requires.room_to_stay, c.loop-uid-test.true)

pub sort_one-requires-clause-room_to_apply : goal.sort_one-requires-clause-room_to_apply
sort_one-requires-clause-room_to_apply g c =
    let it = c.loop-uid.invariant in
    omega (arith, it.grown, it.rest_grown, it.applied_grown, it.failed_grown, it.applied_capacity, c.requires.room_to_apply, c.loop-uid-test.true)

pub sort_one-requires-clause-room_to_fail : goal.sort_one-requires-clause-room_to_fail
sort_one-requires-clause-room_to_fail g c =
    let it = c.loop-uid.invariant in
    omega (arith, it.grown, it.rest_grown, it.applied_grown, it.failed_grown, it.failed_capacity, c.requires.room_to_fail, c.loop-uid-test.true)

pub loop-uid-preserved : goal.loop-uid-preserved
loop-uid-preserved g c =
    let it = c.loop-uid.invariant in record {
      rest = sorted_more (λ (uid : List ℕ). not (passes (is_decided (g.J.Judge.finds_fine c.args.judge.now) c.args.hash.now) (find_record c.args.server.now.table.records uid))) _ _ _ c.args.uids.now c.loop-uid.uid-index c.uid-item.result it.rest c.sort_one.ensures.rest c.loop-uid-test.true c.uid-item.is;
      applied = sorted_more (λ (uid : List ℕ). passes (has_applied (g.J.Judge.finds_fine c.args.judge.now) c.args.hash.now) (find_record c.args.server.now.table.records uid)) _ _ _ c.args.uids.now c.loop-uid.uid-index c.uid-item.result it.applied c.sort_one.ensures.applied c.loop-uid-test.true c.uid-item.is;
      failed = sorted_more (λ (uid : List ℕ). passes (has_failed (g.J.Judge.finds_fine c.args.judge.now) c.args.hash.now) (find_record c.args.server.now.table.records uid)) _ _ _ c.args.uids.now c.loop-uid.uid-index c.uid-item.result it.failed c.sort_one.ensures.failed c.loop-uid-test.true c.uid-item.is;
      grown = omega (arith, it.grown, c.sort_one.ensures.grown);
      rest_grown = omega (arith, it.rest_grown, c.sort_one.ensures.rest_grown);
      applied_grown = omega (arith, it.applied_grown, c.sort_one.ensures.applied_grown);
      failed_grown = omega (arith, it.failed_grown, c.sort_one.ensures.failed_grown);
      rest_capacity = omega (arith, it.rest_capacity, c.sort_one.ensures.rest_capacity);
      applied_capacity = omega (arith, it.applied_capacity, c.sort_one.ensures.applied_capacity);
      failed_capacity = omega (arith, it.failed_capacity, c.sort_one.ensures.failed_capacity);
    }
