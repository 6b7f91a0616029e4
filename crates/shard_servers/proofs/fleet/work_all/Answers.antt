use Rattle.std.proofs.Common.{◌≡◌, ℕ, ◌<◌, List, length, sym, subst}
use Rattle.std.specs.Prelude.{map, slice_index_or}
use Rattle.plain_values.specs.declared.memory.NoMemory.{NoMemory}
use Rattle.shard_servers.specs.Desks.{AtDesk}
use Rattle.shard_servers.specs.Work.{AreWorked}
use Rattle.shard_servers.proofs.SumLemmas.{as_ok, fresh_below, gathered, ok_then}
use Rattle.shard_servers.proofs.fleet.work_all.Goals as goal

pub work_each-requires-clause-below : goal.work_each-requires-clause-below
work_each-requires-clause-below g c κs within =
    subst (λ (xs : List AtDesk). (k : ℕ) (d : AtDesk) → k < length xs → (slice_index_or xs k d).number < c.args.desks) (sym c.into_vec.ensures.value)
    (fresh_below c.args.fresh c.args.desks c.requires.fresh.0 c.requires.fresh.1)

pub returns : goal.returns
returns g c =
    let items = c.args.items.now in
    let n = c.args.desks in
    let results = c.in_ok-results.results.items in
    record {
      worked = ok_then c.gather_results.result (λ all. results ≡ map (as_ok {E = NoMemory}) all) (λ done. AreWorked items n c.args.fresh done) c.gather_results.ensures.all
          (λ all are. subst (λ (xs : List AtDesk). AreWorked items n xs all) c.into_vec.ensures.value
          (gathered items n c.into_vec.result.items all results c.in_ok-results.ensures.count are c.in_ok-results.ensures.each));
    }
