use Rattle.std.proofs.Common.{◌≡◌, ℕ, List, ◌∷◌, ◌++◌, [], ap, subst, ◌∙◌}
use Rattle.shard_journals.specs.Sharding.{shard_of}
use Rattle.shard_servers.specs.declared.desks.Told.{Told}
use Rattle.shard_servers.specs.Desks.{AtDesk, four}
use Rattle.shard_servers.specs.Locked.{IsAnswer}
use Rattle.shard_servers.proofs.TellingLemmas.{in_order_push, own_of_answer}
use Rattle.shard_servers.proofs.shards.Shards.handle.Goals as goal

pub invariant_of-desk-2 : goal.invariant_of-desk-2
invariant_of-desk-2 g c =
    let d = c.desk.inside in
    let m = c.args.report.now in
    let shard = c.shard_of-shard.result in
    let t : Told = record { shard = shard; place = c.in_ok-place.place; row = c.in_ok-place.row } in
    let of : shard ≡ shard_of m.instance_uid = c.shard_of-shard.ensures.shard ∙ ap shard_of c.as_slice.ensures.value in
    let items : c.put_last.new.items.items ≡ d.told.items ++ t ∷ [] = c.put_last.ensures.items ∙ ap (λ (ts : List Told). ts ++ t ∷ []) c.in_ok-make_room.ensures.items in
    let n = c.answer.new in
    in_order_push d.number d.told.items c.put_last.new.items.items t
    d.first.parts d.second.parts d.third.parts d.fourth.parts n.first.parts n.second.parts n.third.parts n.fourth.parts
    d.first.amount d.second.amount d.third.amount d.fourth.amount n.first.amount n.second.amount n.third.amount n.fourth.amount
    c.desk.invariant items (own_of_answer d.number c.args.item m c.in_ok-place.place c.in_ok-place.row shard c.in_ok-place.ensures.answer of)
    c.in_ok-place.ensures.parts c.in_ok-place.ensures.first c.in_ok-place.ensures.second c.in_ok-place.ensures.third c.in_ok-place.ensures.fourth

pub returns-clause-told : goal.returns-clause-told
returns-clause-told g c =
    let d = c.desk.inside in
    let m = c.args.report.now in
    let shard = c.shard_of-shard.result in
    let t : Told = record { shard = shard; place = c.in_ok-place.place; row = c.in_ok-place.row } in
    let items : c.put_last.new.items.items ≡ d.told.items ++ t ∷ [] = c.put_last.ensures.items ∙ ap (λ (ts : List Told). ts ++ t ∷ []) c.in_ok-make_room.ensures.items in
    let same = c.in_ok-place.ensures.parts in
    record {
      told = t;
      grows =
          (λ i. record { number = d.number; told = items i; parts = four (same.0 i) (same.1 i) (same.2 i) (same.3 i) })
          ∙ ap (λ (v : AtDesk). record v { told = v.told ++ t ∷ [] }) c.desk.view_is;
      of_shard = c.shard_of-shard.ensures.shard ∙ ap shard_of c.as_slice.ensures.value;
      answer = subst (λ (n : ℕ). IsAnswer n c.args.item m t.place t.row) (ap (λ (v : AtDesk). v.number) c.desk.view_is) c.in_ok-place.ensures.answer;
      gives = c.in_ok-place.ensures.reply;
    }
