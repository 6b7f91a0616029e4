use Rattle.std.specs.Prelude.{◌≡◌, Ok, map}
use Rattle.shard_servers.proofs.fleet.gather_results.Given as goal

abbrev pub invariant-loop-result : goal.invariant-loop-result
invariant-loop-result g l = l.yielded ≡ map (λ x. Ok x) l.all
