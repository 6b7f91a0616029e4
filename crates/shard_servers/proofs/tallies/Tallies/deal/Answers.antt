use Rattle.std.proofs.Common.{◌+◌, ◌-◌, ◌∷◌, ℕ, [], ap, length, refl, ◌∙◌, arith}
use Rattle.std.proofs.lemmas.List.{length-append}
use Rattle.shard_servers.specs.Desks.{AtDesk}
use Rattle.shard_servers.proofs.DealLemmas.{dealt_all, dealt_more, dealt_none, fresh_more, fresh_none}
use Rattle.shard_servers.proofs.tallies.Tallies.deal.Goals as goal

pub loop-number-init : goal.loop-number-init
loop-number-init g c =
    let some = c.requires.desks.0 in
    let none = c.new-made.ensures.empty in
    record {
      left = λ below. refl;
      most = omega arith;
      all = λ end. absurd (omega (arith, some, end));
      parts = c.requires.parts;
      amounts = c.requires.amounts;
      count = ap length none;
      fresh = fresh_none c.new-made.result none;
      dealt = dealt_none c.new-made.result none;
    }

pub loop-number-preserved : goal.loop-number-preserved
loop-number-preserved g c =
    let it = c.loop-number.invariant in
    let d = c.deal_one.result in
    let is = c.deal_one.ensures.desk in
    let left = it.left c.loop-number-test.true in
    let most = it.most in
    let part = c.next_parts-parts.ensures in
    let fits = part.some.1 in
    record {
      left = λ more. omega (arith, left, more, part.one more);
      most = omega (arith, most);
      all = λ end. omega (arith, part.last end);
      parts = c.deal_one.ensures.parts;
      amounts = c.deal_one.ensures.amounts;
      count = ap length c.in_ok-push.ensures.ok ∙ length-append c.loop-number.made (d ∷ []) ∙ ap (λ (n : ℕ). n + 1) it.count;
      fresh = fresh_more c.push.new.self c.loop-number.made d c.loop-number.number c.in_ok-push.ensures.ok it.count it.fresh (ap (λ (v : AtDesk). v.number) is) (ap (λ (v : AtDesk). v.told) is);
      dealt = dealt_more c.push.new.self c.loop-number.made d (64 - c.loop-number.left) c.next_parts-parts.result (64 - (c.loop-number.left - c.next_parts-parts.result))
          c.in_ok-push.ensures.ok (omega (arith, most, fits)) it.dealt (ap (λ (v : AtDesk). v.parts) is);
    }

pub returns-clause-count : goal.returns-clause-count
returns-clause-count g c = c.loop-number.invariant.count ∙ omega (arith, c.loop-number.auto.number-end, c.loop-number-test.false)

pub returns-clause-fresh : goal.returns-clause-fresh
returns-clause-fresh g c = c.loop-number.invariant.fresh

pub returns-clause-dealt : goal.returns-clause-dealt
returns-clause-dealt g c =
    let none = c.loop-number.invariant.all (omega (arith, c.loop-number.auto.number-end, c.loop-number-test.false)) in
    dealt_all c.loop-number.made c.loop-number.left none c.loop-number.invariant.dealt
