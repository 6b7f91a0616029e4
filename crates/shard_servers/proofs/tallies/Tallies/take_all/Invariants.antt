use Rattle.std.specs.Prelude.{◌≡◌, ◌+◌, length}
use Rattle.shard_servers.specs.Desks.{all_places, parts_of}
use Rattle.shard_servers.proofs.tallies.Tallies.take_all.Given as goal

-- with what the desks have that are left it is what all desks have
abbrev pub invariant-loop-desk : goal.invariant-loop-desk
invariant-loop-desk g l = record {
  first_parts : l.self.first.parts + parts_of (λ p. p.first) l.rest.items ≡ l.initial.self.first.parts + parts_of (λ p. p.first) l.fn.desks;
  second_parts : l.self.second.parts + parts_of (λ p. p.second) l.rest.items ≡ l.initial.self.second.parts + parts_of (λ p. p.second) l.fn.desks;
  third_parts : l.self.third.parts + parts_of (λ p. p.third) l.rest.items ≡ l.initial.self.third.parts + parts_of (λ p. p.third) l.fn.desks;
  fourth_parts : l.self.fourth.parts + parts_of (λ p. p.fourth) l.rest.items ≡ l.initial.self.fourth.parts + parts_of (λ p. p.fourth) l.fn.desks;
  first : l.self.first.amount + length (all_places 0 l.rest.items) ≡ l.initial.self.first.amount + length (all_places 0 l.fn.desks);
  second : l.self.second.amount + length (all_places 1 l.rest.items) ≡ l.initial.self.second.amount + length (all_places 1 l.fn.desks);
  third : l.self.third.amount + length (all_places 2 l.rest.items) ≡ l.initial.self.third.amount + length (all_places 2 l.fn.desks);
  fourth : l.self.fourth.amount + length (all_places 3 l.rest.items) ≡ l.initial.self.fourth.amount + length (all_places 3 l.fn.desks);
}

abbrev pub decreases-loop-desk : goal.decreases-loop-desk
decreases-loop-desk g l = length l.rest.items
