use Rattle.std.proofs.Common.{[], ◌∙◌, arith}
use Rattle.shard_servers.specs.Desks.{four}
use Rattle.shard_servers.proofs.tallies.Tallies.deal_one.Goals as goal

pub returns-clause-desk : goal.returns-clause-desk
returns-clause-desk g c =
    c.new.ensures.new
    ∙ (λ i. record { number = c.args.number; told = []; parts = four (c.split_off.ensures.parts i) (c.split_off-2.ensures.parts i) (c.split_off-3.ensures.parts i) (c.split_off-4.ensures.parts i) })

pub returns-clause-parts : goal.returns-clause-parts
returns-clause-parts g c = record {
  first = omega (arith, c.split_off.ensures.parts_left, c.requires.parts.first);
  second = omega (arith, c.split_off-2.ensures.parts_left, c.requires.parts.second);
  third = omega (arith, c.split_off-3.ensures.parts_left, c.requires.parts.third);
  fourth = omega (arith, c.split_off-4.ensures.parts_left, c.requires.parts.fourth);
}

pub returns-clause-amounts : goal.returns-clause-amounts
returns-clause-amounts g c = record {
  first = omega (arith, c.split_off.ensures.amount_left, c.requires.amounts.first);
  second = omega (arith, c.split_off-2.ensures.amount_left, c.requires.amounts.second);
  third = omega (arith, c.split_off-3.ensures.amount_left, c.requires.amounts.third);
  fourth = omega (arith, c.split_off-4.ensures.amount_left, c.requires.amounts.fourth);
}
