use Rattle.std.proofs.Common.{◌≡◌, ℕ, arith, ◌∙◌}
use Rattle.std.specs.Prelude.{Some, slice_get}
use Rattle.shard_journals.specs.Fleets.{AreJournalsOf}
use Rattle.shard_servers.specs.Agreement.{Agrees, FailsToClose}
use Rattle.shard_servers.specs.Desks.{AtDesk, Four}
use Rattle.shard_servers.specs.Runs.{FailsToRun}
use Rattle.shard_servers.proofs.SumLemmas.{err_then, fails_to_run, shard_journals, numbers_apart, ok_then, parts_stay, shares_done}
use Rattle.shard_servers.proofs.fleet.run_shared.Goals as goal

pub close_by_desks-requires-clause-first : goal.close_by_desks-requires-clause-first
close_by_desks-requires-clause-first g c κs within =
    parts_stay (λ (p : Four). p.first) c.args.items.now c.args.desks c.in_ok-shards.fresh c.in_ok-done.done c.in_ok-done.ensures.worked ∙ c.in_ok-shards.ensures.first

pub close_by_desks-requires-clause-second : goal.close_by_desks-requires-clause-second
close_by_desks-requires-clause-second g c κs within =
    parts_stay (λ (p : Four). p.second) c.args.items.now c.args.desks c.in_ok-shards.fresh c.in_ok-done.done c.in_ok-done.ensures.worked ∙ c.in_ok-shards.ensures.second

pub close_by_desks-requires-clause-third : goal.close_by_desks-requires-clause-third
close_by_desks-requires-clause-third g c κs within =
    parts_stay (λ (p : Four). p.third) c.args.items.now c.args.desks c.in_ok-shards.fresh c.in_ok-done.done c.in_ok-done.ensures.worked ∙ c.in_ok-shards.ensures.third

pub close_by_desks-requires-clause-fourth : goal.close_by_desks-requires-clause-fourth
close_by_desks-requires-clause-fourth g c κs within =
    parts_stay (λ (p : Four). p.fourth) c.args.items.now c.args.desks c.in_ok-shards.fresh c.in_ok-done.done c.in_ok-done.ensures.worked ∙ c.in_ok-shards.ensures.fourth

pub close_by_desks-requires-clause-numbers : goal.close_by_desks-requires-clause-numbers
close_by_desks-requires-clause-numbers g c κs within =
    numbers_apart c.in_ok-done.done 0
    (λ (place : ℕ) (d : AtDesk) (at : slice_get c.in_ok-done.done place ≡ Some d).
    (let share = shares_done c.args.items.now c.args.desks c.in_ok-shards.fresh c.in_ok-done.done c.in_ok-shards.ensures.fresh c.in_ok-done.ensures.worked place d at in
    let number = share.0 in omega (arith, number)))

pub returns : goal.returns
returns g c =
    let items = c.args.items.now in
    let n = c.args.desks in
    let some = c.requires.desks.0 in
    let fresh = c.in_ok-shards.fresh in
    let done = c.in_ok-done.done in
    let new = c.in_ok-shards.ensures.fresh in
    let count = c.in_ok-shards.ensures.count in
    let worked = c.in_ok-done.ensures.worked in
    record {
      journals = ok_then c.close_by_desks.result (λ js. Agrees js done) (λ js. AreJournalsOf items n js) c.close_by_desks.ensures.ok
          (λ js agrees. shard_journals items n fresh done js (omega (arith, some)) new count worked agrees);
      err = err_then c.close_by_desks.result (λ fail. FailsToClose done fail) (λ fail. FailsToRun items n fail) c.close_by_desks.ensures.err
          (fails_to_run items n fresh done new count worked);
    }
