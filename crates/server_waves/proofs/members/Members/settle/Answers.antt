use Rattle.std.proofs.Common.{◌≡◌, ◌∙◌, List, [], ◌++◌, ap, refl, arith}
use Rattle.plain_values.specs.declared.uids.Uid.{Uid}
use Rattle.std.proofs.Common.{Vec, Global}
use Rattle.server_waves.specs.Waves.{has_applied, has_failed, is_decided, others, settled, those}
use Rattle.server_waves.proofs.KeptLemmas.{excused_more, excused_same, failed_behind, waves_same}
use Rattle.server_waves.proofs.members.Members.settle.Goals as goal

pub invariant_of-self : goal.invariant_of-self
invariant_of-self g c =
    record {
      known = c.self.invariant.known;
      excused = excused_more c.self.inside.excused c.self.inside.failed.items _ _ c.sort.ensures.failed c.self.invariant.excused;
      spare = c.clear.ensures.items;
      room_to_stay = grind arith;
      room_to_apply = grind arith;
      room_to_fail = grind arith;
    }

pub returns : goal.returns
returns g c =
    let looked : c.as_slice.result.now ≡ c.self.inside.offered.items = c.as_slice.ensures.value ∙ ap (λ (v : Vec Uid Global). v.items) c.swap.ensures.y_after in
    let none : c.swap.new.x.items ≡ [] = ap (λ (v : Vec Uid Global). v.items) c.swap.ensures.x_after ∙ c.self.invariant.spare in
    let fine = g.J.Judge.finds_fine c.args.judge.now in
    let hash = c.args.hash.now in
    let records = c.args.server.now.table.records in
    record {
      settled = waves_same _ _ refl refl
          (c.sort.ensures.rest ∙ ap (λ (l : List Uid). l ++ others (is_decided fine hash) records c.as_slice.result.now) none ∙ ap (others (is_decided fine hash) records) looked)
          (c.sort.ensures.applied ∙ ap (λ (l : List Uid). c.self.inside.applied.items ++ those (has_applied fine hash) records l) looked)
          (failed_behind c.self.inside.excused c.self.inside.failed.items _ _ (c.sort.ensures.failed ∙ ap (λ (l : List Uid). c.self.inside.failed.items ++ those (has_failed fine hash) records l) looked) c.self.invariant.excused)
          (excused_same c.self.inside.excused c.self.inside.failed.items _ _ c.sort.ensures.failed c.self.invariant.excused)
          refl
          ∙ ap (settled fine hash records) c.self.view_is;
    }
