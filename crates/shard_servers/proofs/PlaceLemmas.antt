-- The places of told rows, with one row more.
use Prim.Native.Nat.{zero}
use Rattle.std.proofs.Common.{◌≡◌, ℕ, suc, ◌+◌, ◌<◌, ◌==◌, List, [], ◌∷◌, ◌++◌, length, map, filter, Bool, true, false, cond, Some, refl, ◌∙◌, ap, subst, arith}
use Rattle.std.specs.Prelude.{slice_get}
use Rattle.std.specs.List.{AllByRecursion}
use Rattle.std.proofs.lemmas.Bool.{eqb-false}
use Rattle.std.proofs.lemmas.List.{map-append, length-append}
use Rattle.std.proofs.lemmas.Option.{none-some, same_Some}
use Rattle.std.proofs.lemmas.List.Elements.{filter-append}
use Rattle.shard_servers.specs.declared.desks.Told.{Told}
use Rattle.shard_servers.specs.Agreement.{IsRising}
use Rattle.shard_servers.specs.Desks.{AreOwn, IsOwn, counts, four, one_if, places_in, told_in}
use Rattle.shard_servers.proofs.Lists.{all-append}

pub places_in-push : (shard : ℕ) (told : List Told) (t : Told) → places_in shard (told ++ t ∷ []) ≡ places_in shard told ++ cond (t.shard == shard) (t.place ∷ []) []
places_in-push shard told t =
    ap (map (λ (x : Told). x.place)) (filter-append (λ (x : Told). x.shard == shard) told (t ∷ []))
    ∙ map-append (λ (x : Told). x.place) (filter (λ (x : Told). x.shard == shard) told) (filter (λ (x : Told). x.shard == shard) (t ∷ []))
    ∙ ap (λ ps. places_in shard told ++ ps) (by_test (t.shard == shard))
  where
    by_test : (b : Bool) → map (λ (x : Told). x.place) (cond b (t ∷ []) []) ≡ cond b (t.place ∷ []) []
    by_test true = refl
    by_test false = refl

pub told_in-push : (shard : ℕ) (told : List Told) (t : Told) → told_in shard (told ++ t ∷ []) ≡ told_in shard told + one_if (t.shard == shard)
told_in-push shard told t =
    ap length (places_in-push shard told t)
    ∙ length-append (places_in shard told) (cond (t.shard == shard) (t.place ∷ []) [])
    ∙ ap (λ n. told_in shard told + n) (by_test (t.shard == shard))
  where
    by_test : (b : Bool) → length (cond b (t.place ∷ []) []) ≡ one_if b
    by_test true = refl
    by_test false = refl

-- the amounts after one more row
pub counts-push : (told : List Told) (t : Told) → counts (told ++ t ∷ [])
    ≡ four (told_in 0 told + one_if (t.shard == 0)) (told_in 1 told + one_if (t.shard == 1)) (told_in 2 told + one_if (t.shard == 2)) (told_in 3 told + one_if (t.shard == 3))
counts-push told t = λ i. four (told_in-push 0 told t i) (told_in-push 1 told t i) (told_in-push 2 told t i) (told_in-push 3 told t i)

pub own_push : (number : ℕ) (told : List Told) (t : Told) → AreOwn number told → IsOwn number t → AreOwn number (told ++ t ∷ [])
own_push number told t own is = all-append (IsOwn number) told (t ∷ []) own (is, tt)

-- ---- places that rise

pub rising_push : (ps : List ℕ) (p q : ℕ) → IsRising (ps ++ p ∷ []) → p < q → IsRising ((ps ++ p ∷ []) ++ q ∷ [])
rising_push [] p q rise above = ((above, tt), (tt, tt))
rising_push (x ∷ ps) p q rise above = (all-append (λ y. x < y) (ps ++ p ∷ []) (q ∷ []) rise.0 (below_last ps rise.0, tt), rising_push ps p q rise.1 above)
  where
    below_last : (ys : List ℕ) → AllByRecursion (λ y. x < y) (ys ++ p ∷ []) → x < q
    below_last [] a = let b = a.0 in omega (arith, b, above)
    below_last (y ∷ ys) a = below_last ys a.1

abbrev in_shard : ℕ → Told → Bool
in_shard shard t = t.shard == shard

-- the places in the shard of rows of which this is the first
abbrev with_first : ℕ → Bool → Told → List Told → List ℕ
with_first shard b x told = map (λ (z : Told). z.place) (cond b (x ∷ filter (in_shard shard) told) (filter (in_shard shard) told))

-- what holds of all places in a shard holds of a row's that was told by the shard
pub all_in : (P : ℕ → Type 0) (shard : ℕ) (told : List Told) (n : ℕ) (u : Told) → AllByRecursion P (places_in shard told) → slice_get told n ≡ Some u → u.shard ≡ shard → P u.place
all_in P shard [] n u a found there = absurd (none-some u found)
all_in P shard (y ∷ told) zero u a found there = by_own (y.shard == shard) refl a
  where
    by_own : (b : Bool) → (y.shard == shard) ≡ b → AllByRecursion P (with_first shard b y told) → P u.place
    by_own true e b = subst (λ (z : Told). P z.place) (same_Some y u found) b.0
    by_own false e b = absurd (eqb-false y.shard shard e (ap (λ (z : Told). z.shard) (same_Some y u found) ∙ there))
all_in P shard (y ∷ told) (suc n) u a found there = by_own (y.shard == shard) a (λ b. all_in P shard told n u b found there)
  where
    by_own : (b : Bool) → AllByRecursion P (with_first shard b y told) → (AllByRecursion P (places_in shard told) → P u.place) → P u.place
    by_own true b rest = rest b.1
    by_own false b rest = rest b

-- of two rows of one shard that were told one after the other, the later stands behind the earlier
pub later_above : (shard : ℕ) (told : List Told) → IsRising (places_in shard told) → (k l : ℕ) (t u : Told) → k < l → slice_get told k ≡ Some t → slice_get told l ≡ Some u
    → t.shard ≡ shard → u.shard ≡ shard → t.place < u.place
later_above shard [] rise k l t u before at then here there = absurd (none-some t at)
later_above shard (x ∷ told) rise k zero t u before at then here there = absurd (omega (arith, before))
later_above shard (x ∷ told) rise zero (suc l) t u before at then here there = by_test (x.shard == shard) refl rise
  where
    first : x ≡ t
    first = same_Some x t at

    by_test : (b : Bool) → (x.shard == shard) ≡ b → IsRising (with_first shard b x told) → t.place < u.place
    by_test true e r = subst (λ (z : Told). z.place < u.place) first (all_in (λ q. x.place < q) shard told l u r.0 then there)
    by_test false e r = absurd (eqb-false x.shard shard e (ap (λ (z : Told). z.shard) first ∙ here))
later_above shard (x ∷ told) rise (suc k) (suc l) t u before at then here there = by_test (x.shard == shard) rise (λ r. later_above shard told r k l t u (omega (arith, before)) at then here there)
  where
    by_test : (b : Bool) → IsRising (with_first shard b x told) → (IsRising (places_in shard told) → t.place < u.place) → t.place < u.place
    by_test true r rest = rest r.1
    by_test false r rest = rest r
