use Rattle.std.proofs.Common.{◌+◌, take, arith, sym, subst, ◌∙◌}
use Rattle.shard_servers.specs.Desks.{AtDesk}
use Rattle.shard_servers.specs.Work.{HasWorked}
use Rattle.shard_servers.proofs.Lists.{element_at}
use Rattle.shard_servers.proofs.WorkingLemmas.{goes_on_with, passes}
use Rattle.shard_servers.proofs.working.work.Goals as goal
use Rattle.shard_servers.proofs.working.work.Goals.{then-at-desks+in_ok-handle, else-at-desks}

pub loop-at-preserved : goal.loop-at-preserved
loop-at-preserved g c =
    let items = c.args.items.now in
    let at = c.loop-at.at in
    let desks = c.args.desks in
    let before = c.args.desk in
    let fewer = c.loop-at.invariant.1 in
    elim c.if-at-desks.branch [
      | then-at-desks+in_ok-handle w ↦
          (let calls = w.call-is in (
            subst (λ (d : AtDesk). HasWorked (take (at + 1) items) desks before d) (sym w.desk-is)
                (goes_on_with items at w.index-items-at.result desks before c.loop-at.desk c.loop-at-test.true w.index-items-at.is c.loop-at.invariant.0 w.handle.new.desk w.in_ok-handle.field-0
                (w.if-at-desks.true ∙ c.number-number.ensures.number) w.in_ok-handle.ensures.told),
            omega (arith, calls, fewer),
          ))
      | else-at-desks w ↦
          (let calls = w.call-is in (
            subst (λ (d : AtDesk). HasWorked (take (at + 1) items) desks before d) (sym w.desk-is)
                (let found = element_at items at c.loop-at-test.true in passes items at found.0 desks before c.loop-at.desk c.loop-at-test.true found.1 c.loop-at.invariant.0
                (λ same. w.if-at-desks.false (same ∙ sym c.number-number.ensures.number))),
            omega (arith, calls, fewer),
          ))
    ]
