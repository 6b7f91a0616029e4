use Rattle.std.specs.Prelude.{◌≡◌, map, take}
use Rattle.shard_servers.proofs.checks.lists_of.Given as goal

abbrev pub invariant-loop-at : goal.invariant-loop-at
invariant-loop-at g l = map (λ told. told.now) l.lists.items ≡ map (λ d. d.told) (take l.at l.desks)
