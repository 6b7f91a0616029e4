-- Numbers and parts of desks.
use Prim.Native.Nat.{zero}
use Rattle.std.proofs.Common.{◌≡◌, ℕ, suc, ◌+◌, ◌<◌, List, [], ◌∷◌, ◌++◌, length, map, Some, ◌⊎◌, inl, inr, refl, sym, ◌∙◌, ap, subst, arith}
use Rattle.std.specs.Prelude.{Err, IfErr, IfOk, Ok, Result, slice_get, slice_index_or}
use Rattle.std.specs.List.{AllByRecursion}
use Rattle.std.proofs.lemmas.List.{length-append, length-map}
use Rattle.std.proofs.lemmas.List.Sums.{sum_by-append}
use Rattle.std.proofs.lemmas.Grind.{flat_map-append}
use Rattle.std.proofs.lemmas.Option.{get_or_from_slice_get, none-some, same_Some, slice_get_within}
use Rattle.shard_journals.specs.declared.rows.Row.{Row}
use Rattle.shard_journals.specs.Fleets.{AreJournalsOf}
use Rattle.message_values.specs.declared.report.AgentToServer.{AgentToServer}
use Rattle.shard_servers.specs.declared.checks.CloseFail.{CloseFail}
use Rattle.shard_servers.specs.Agreement.{Agrees, AreDistinct, FailsToClose}
use Rattle.shard_servers.specs.Desks.{AreFresh, AtDesk, Four, all_places, parts_of, places_in, told_in}
use Rattle.shard_servers.specs.Runs.{FailsToRun}
use Rattle.shard_servers.specs.Work.{AreWorked, HasWorked, handled, work_of}
use Rattle.shard_servers.proofs.FleetLemmas.{journals_are}
use Rattle.shard_servers.proofs.Lists.{element}

-- with one desk more
pub parts_of-push : (pick : Four → ℕ) (desks : List AtDesk) (d : AtDesk) → parts_of pick (desks ++ d ∷ []) ≡ parts_of pick desks + pick d.parts
parts_of-push pick desks d =
    let one : 0 + pick d.parts ≡ pick d.parts = omega arith in
    sum_by-append (λ (x : AtDesk). pick x.parts) desks (d ∷ []) ∙ ap (λ n. parts_of pick desks + n) one

pub places-push : (shard : ℕ) (desks : List AtDesk) (d : AtDesk) → length (all_places shard (desks ++ d ∷ [])) ≡ length (all_places shard desks) + told_in shard d.told
places-push shard desks d =
    ap length (flat_map-append (λ (x : AtDesk). places_in shard x.told) desks (d ∷ []))
    ∙ length-append (all_places shard desks) (places_in shard d.told ++ [])
    ∙ ap (λ n. length (all_places shard desks) + n) (length-append (places_in shard d.told) [] ∙ omega arith)

-- desks that are numbered by their places have different numbers
numbers_above : (desks : List AtDesk) (from least : ℕ) → least < from → ((place : ℕ) (d : AtDesk) → slice_get desks place ≡ Some d → d.number ≡ from + place)
    → AllByRecursion (λ n. least ≡ n → ⊥) (map (λ (d : AtDesk). d.number) desks)
numbers_above [] from least below numbered = tt
numbers_above (d ∷ desks) from least below numbered =
    let first = numbered 0 d refl in (
      (λ same. absurd (omega (arith, first, same, below))),
      numbers_above desks (from + 1) least (omega (arith, below)) (λ place e at. (let n = numbered (suc place) e at in omega (arith, n))),
    )

pub numbers_apart : (desks : List AtDesk) (from : ℕ) → ((place : ℕ) (d : AtDesk) → slice_get desks place ≡ Some d → d.number ≡ from + place)
    → AreDistinct (map (λ (d : AtDesk). d.number) desks)
numbers_apart [] from numbered = tt
numbers_apart (d ∷ desks) from numbered =
    let first = numbered 0 d refl in (
      numbers_above desks (from + 1) d.number (omega (arith, first)) (λ place e at. (let n = numbered (suc place) e at in omega (arith, n))),
      numbers_apart desks (from + 1) (λ place e at. (let n = numbered (suc place) e at in omega (arith, n))),
    )

-- ---- after the work

-- the desks have their parts as before
pub parts_stay : (pick : Four → ℕ) (items : List AgentToServer) (n : ℕ) (before after : List AtDesk) → AreWorked items n before after → parts_of pick after ≡ parts_of pick before
parts_stay pick items n before after w = by_desks before after w.count w.each
  where
    sum_cons : (d : AtDesk) (ds : List AtDesk) → parts_of pick (d ∷ ds) ≡ pick d.parts + parts_of pick ds
    sum_cons d ds =
        let one : 0 + pick d.parts ≡ pick d.parts = omega arith in
        sum_by-append (λ (x : AtDesk). pick x.parts) (d ∷ []) ds ∙ ap (λ n. n + parts_of pick ds) one

    by_desks : (bs ds : List AtDesk) → length ds ≡ length bs → ((place : ℕ) (d e : AtDesk) → slice_get bs place ≡ Some d → slice_get ds place ≡ Some e → HasWorked items n d e) → parts_of pick ds ≡ parts_of pick bs
    by_desks [] [] same each = refl
    by_desks [] (d ∷ ds) same each = absurd (omega (arith, same))
    by_desks (b ∷ bs) [] same each = absurd (omega (arith, same))
    by_desks (b ∷ bs) (d ∷ ds) same each =
        sum_cons d ds
        ∙ (λ i. pick ((each 0 b d refl refl).parts i) + by_desks bs ds (omega (arith, same)) (λ place x y at there. each (suc place) x y at there) i)
        ∙ sym (sum_cons b bs)

-- each desk has its number and did its share
pub shares_done : (items : List AgentToServer) (n : ℕ) (fresh done : List AtDesk) → AreFresh fresh → AreWorked items n fresh done
    → (place : ℕ) (d : AtDesk) → slice_get done place ≡ Some d → (d.number ≡ place) × (handled d.told ≡ work_of place n items)
shares_done items n fresh done new w place d at = by_desk (element fresh place (subst (λ c. place < c) w.count (slice_get_within done place d at)))
  where
    by_desk : ((x : AtDesk) × (slice_get fresh place ≡ Some x)) → (d.number ≡ place) × (handled d.told ≡ work_of place n items)
    by_desk found =
        let b = found.0 in
        let is = w.each place b d found.1 at in
        let was = new place b found.1 in
        let number : b.number ≡ place = was.0 in
        (is.number ∙ number, ap handled (is.told ∙ ap (λ ts. ts ++ is.more) was.1) ∙ is.work ∙ ap (λ k. work_of k n items) number)

pub shard_journals : (items : List AgentToServer) (n : ℕ) (fresh done : List AtDesk) (journals : List (List Row)) → 0 < n → AreFresh fresh → length fresh ≡ n
    → AreWorked items n fresh done → Agrees journals done → AreJournalsOf items n journals
shard_journals items n fresh done journals some new count w agrees =
    journals_are items n journals done agrees some (w.count ∙ count) (shares_done items n fresh done new w)

pub fails_to_run : (items : List AgentToServer) (n : ℕ) (fresh done : List AtDesk) → AreFresh fresh → length fresh ≡ n → AreWorked items n fresh done
    → (fail : CloseFail) → FailsToClose done fail → FailsToRun items n fail
fails_to_run items n fresh done new count w fail (inl wanting) = inl wanting
fails_to_run items n fresh done new count w fail (inr disagrees) =
    inr (record { fresh = fresh; done = done; count = count; new = new; worked = w; disagrees = disagrees })

-- ---- what came of the work

-- what follows from what holds of an Ok
pub ok_then : {X E : Type 0} (r : Result X E) (P Q : X → Type 0) → IfOk r P → ((x : X) → P x → Q x) → IfOk r Q
ok_then (Ok x) P Q h f = f x h
ok_then (Err e) P Q h f = tt

pub err_then : {X E : Type 0} (r : Result X E) (P Q : E → Type 0) → IfErr r P → ((e : E) → P e → Q e) → IfErr r Q
err_then (Ok x) P Q h f = tt
err_then (Err e) P Q h f = f e h

abbrev pub as_ok : {E : Type 0} → AtDesk → Result AtDesk E
as_ok x = Ok x

results_at : {E : Type 0} (all : List AtDesk) (place : ℕ) (e : AtDesk) (r : Result AtDesk E) → slice_get all place ≡ Some e → slice_index_or (map (as_ok {E = E}) all) place r ≡ Ok e
results_at [] place e r at = absurd (none-some e at)
results_at (x ∷ all) zero e r at = ap (λ (y : AtDesk). Ok y) (same_Some x e at)
results_at (x ∷ all) (suc place) e r at = results_at all place e r at

pub gathered : {E : Type 0} (items : List AgentToServer) (n : ℕ) (fresh all : List AtDesk) (results : List (Result AtDesk E))
    → length results ≡ length fresh → results ≡ map (as_ok {E = E}) all
    → ((i : ℕ) (d : AtDesk) (r : Result AtDesk E) → i < length fresh → IfOk (slice_index_or results i r) (λ done. HasWorked items n (slice_index_or fresh i d) done))
    → AreWorked items n fresh all
gathered {E} items n fresh all results count are each = record {
  count = sym (length-map all (as_ok {E = E})) ∙ ap length (sym are) ∙ count;
  each = λ place d e before after.
      (let within = slice_get_within fresh place d before in
      let of = each place d (Ok e) within in
      let now : slice_index_or results place (Ok e) ≡ Ok e = ap (λ (rs : List (Result AtDesk E)). slice_index_or rs place (Ok e)) are ∙ results_at all place e (Ok e) after in
      let was : slice_index_or fresh place d ≡ d = get_or_from_slice_get fresh place d d before in
      subst (λ (b : AtDesk). HasWorked items n b e) was (subst (λ (r : Result AtDesk E). IfOk r (λ done. HasWorked items n (slice_index_or fresh place d) done)) now of));
}

pub fresh_below : (fresh : List AtDesk) (n : ℕ) → AreFresh fresh → length fresh ≡ n → (k : ℕ) (d : AtDesk) → k < length fresh → (slice_index_or fresh k d).number < n
fresh_below fresh n new count k d below =
    let found = element fresh k below in
    let read : slice_index_or fresh k d ≡ found.0 = get_or_from_slice_get fresh k found.0 d found.1 in
    let number : (slice_index_or fresh k d).number ≡ k = ap (λ (x : AtDesk). x.number) read ∙ (new k found.0 found.1).0 in
    omega (arith, number, below, count)
