use Rattle.std.proofs.Common.{◌<◌, length, ◌∙◌, sym, arith}
use Rattle.server_waves.proofs.CandidateLemmas.{among_at, step_open}
use Rattle.server_waves.proofs.sorting.sort_few.Goals as goal

pub loop-at-preserved : goal.loop-at-preserved
loop-at-preserved g c =
    let it = c.loop-at.invariant in
    let within : c.loop-at.at < length c.loop-at.offered.items = omega (arith, c.loop-at-test.true, c.len.ensures, c.loop-at.offered.ok) in
    record {
      within = omega (arith, it.within, c.loop-at-test.true, c.len.ensures);
      undecided = step_open (g.J.Judge.finds_fine c.args.judge.now) c.args.hash.now c.args.server.now.table.records c.loop-at.offered.items c.loop-at.at c.index.result.now within c.index.ensures it.undecided
          (c.requires.undecided c.index.result.now (it.fewer c.index.result.now (among_at c.loop-at.offered.items c.loop-at.at c.index.result.now within c.index.ensures)) (sym c.contains.ensures.candidate ∙ c.if-contains.false));
      others = it.others;
      applied = it.applied;
      failed = it.failed;
      fewer = it.fewer;
      grown = it.grown;
      applied_grown = it.applied_grown;
      failed_grown = it.failed_grown;
      applied_capacity = it.applied_capacity;
      failed_capacity = it.failed_capacity;
    }
