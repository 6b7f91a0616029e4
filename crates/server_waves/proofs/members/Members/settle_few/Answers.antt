use Rattle.std.proofs.Common.{◌∙◌, ap, refl, arith}
use Rattle.server_waves.specs.Waves.{settled}
use Rattle.server_waves.proofs.KeptLemmas.{excused_more, excused_same, failed_behind, waves_same}
use Rattle.server_waves.proofs.members.Members.settle_few.Goals as goal

pub invariant_of-self : goal.invariant_of-self
invariant_of-self g c =
    let it = c.self.invariant in
    let sorted = c.sort_few.ensures in
    record {
      known = it.known;
      excused = excused_more c.self.inside.excused c.self.inside.failed.items _ _ sorted.failed it.excused;
      spare = it.spare;
      room_to_stay = omega (arith, it.room_to_stay, sorted.grown, sorted.applied_grown, sorted.failed_grown);
      room_to_apply = omega (arith, it.room_to_apply, sorted.grown, sorted.failed_grown, sorted.applied_capacity);
      room_to_fail = omega (arith, it.room_to_fail, sorted.grown, sorted.applied_grown, sorted.failed_capacity);
    }

pub returns : goal.returns
returns g c = record {
  settled = waves_same _ _ refl refl c.sort_few.ensures.offered c.sort_few.ensures.applied
      (failed_behind c.self.inside.excused c.self.inside.failed.items _ _ c.sort_few.ensures.failed c.self.invariant.excused)
      (excused_same c.self.inside.excused c.self.inside.failed.items _ _ c.sort_few.ensures.failed c.self.invariant.excused)
      refl
      ∙ ap (settled (g.J.Judge.finds_fine c.args.judge.now) c.args.hash.now c.args.server.now.table.records) c.self.view_is;
}
