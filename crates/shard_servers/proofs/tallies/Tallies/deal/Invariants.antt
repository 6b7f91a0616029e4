use Rattle.std.specs.Prelude.{◌≡◌, ◌+◌, ◌-◌, ◌<◌, ◌≤◌, length}
use Rattle.shard_servers.specs.Desks.{AreFresh, parts_of}
use Rattle.shard_servers.specs.Shares.{AreAll}
use Rattle.shard_servers.proofs.tallies.Tallies.deal.Given as goal

-- so many desks have what isn't left
abbrev pub invariant-loop-number : goal.invariant-loop-number
invariant-loop-number g l = record {
  left : l.number < l.desks → l.left + l.number ≡ 64;
  most : l.left ≤ 64;
  all : l.number ≡ l.desks → l.left ≡ 0;
  parts : AreAll l.left l.self.first.parts l.self.second.parts l.self.third.parts l.self.fourth.parts;
  amounts : AreAll 0 l.self.first.amount l.self.second.amount l.self.third.amount l.self.fourth.amount;
  count : length l.made ≡ l.number;
  fresh : AreFresh l.made;
  dealt : AreAll (64 - l.left) (parts_of (λ p. p.first) l.made) (parts_of (λ p. p.second) l.made) (parts_of (λ p. p.third) l.made) (parts_of (λ p. p.fourth) l.made);
}
