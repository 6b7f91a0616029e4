use Rattle.std.proofs.Common.{◌<◌, List, ap, get_or, length, sym, ◌∙◌, subst, true}
use Rattle.std.specs.Prelude.{IsTrue}
use Rattle.std.specs.List.{AllByRecursion}
use Rattle.std.proofs.lemmas.Option.{get_or_from_slice_get, slice_get-get_or, slice_get_within}
use denote.Ref.{Bor}
use Rattle.shard_servers.specs.declared.desks.Told.{Told}
use Rattle.shard_servers.specs.Agreement.{Stands}
use Rattle.shard_servers.proofs.CheckLemmas.{image_at}
use Rattle.shard_servers.proofs.checks.lists_stand.Goals as goal

pub returns-in-Ok : goal.returns-in-Ok
returns-in-Ok g c = record {
  stand = λ yes place told at.
      (let lists = c.args.lists.items in
      let one = image_at (λ (it : Bor (List Told)). it.now) lists place told at in
      let within = slice_get_within lists place one.0 one.1 in
      let same = c.as_slice.ensures.value in
      let flags = c.as_slice.result.now in
      let there : place < length flags = subst (λ fs. place < length fs) (sym same) (subst (λ n. place < n) (sym c.in-Ok.ensures.count) within) in
      let flag : IsTrue (get_or c.in-Ok.standing.items place true) =
      subst (λ fs. IsTrue (get_or fs place true)) same (c.all_true.ensures.all yes place (get_or flags place true) (slice_get-get_or flags place true there)) in
      subst (λ (ts : List Told). AllByRecursion (Stands c.args.journals.now) ts)
      (ap (λ (it : Bor (List Told)). it.now) (get_or_from_slice_get lists place one.0 one.0 one.1) ∙ one.2)
      (c.in-Ok.ensures.each place true one.0 within flag));
}
