-- A desk that was told of one row more.
use Prim.Native.Nat.{zero}
use Rattle.std.proofs.Common.{◌≡◌, ℕ, suc, ◌+◌, ◌<◌, ◌==◌, List, [], ◌∷◌, ◌++◌, length, ◌⊎◌, inl, inr, refl, sym, ◌∙◌, ap, subst}
use Rattle.std.specs.Prelude.{Some, slice_get}
use Rattle.std.proofs.lemmas.Option.{none-some, same_Some}
use Rattle.message_values.specs.declared.report.AgentToServer.{AgentToServer}
use Rattle.shard_journals.specs.declared.rows.Row.{Row}
use Rattle.shard_journals.specs.Sharding.{shard_of}
use Rattle.shard_servers.specs.declared.desks.Told.{Told}
use Rattle.shard_servers.specs.Desks.{AreFresh, AreOwn, AtDesk, IsInOrder, IsOwn, counts, four, one_if, told_in}
use Rattle.shard_servers.specs.Locked.{IsAnswer}
use Rattle.shard_servers.proofs.PlaceLemmas.{counts-push, own_push}

-- of a list with one more element, an element is one of those before or the last
one_of : {X : Type 0} (xs : List X) (x : X) (k : ℕ) (y : X) → slice_get (xs ++ x ∷ []) k ≡ Some y → (slice_get xs k ≡ Some y) ⊎ ((k ≡ length xs) × (x ≡ y))
one_of [] x zero y e = inr (refl, same_Some x y e)
one_of [] x (suc k) y e = absurd (none-some y e)
one_of (z ∷ xs) x zero y e = inl e
one_of (z ∷ xs) x (suc k) y e = later (one_of xs x k y e)
  where
    later : ((slice_get xs k ≡ Some y) ⊎ ((k ≡ length xs) × (x ≡ y))) → (slice_get xs k ≡ Some y) ⊎ ((suc k ≡ suc (length xs)) × (x ≡ y))
    later (inl a) = inl a
    later (inr b) = inr (ap suc b.0, b.1)

pub own_of_answer : (desk item : ℕ) (m : AgentToServer) (place : ℕ) (row : Row) (shard : ℕ) → IsAnswer desk item m place row → shard ≡ shard_of m.instance_uid
    → IsOwn desk (record { shard = shard; place = place; row = row })
own_of_answer desk item m place row shard answer of = record {
  desk = ap (λ (r : Row). r.desk) answer.is;
  shard = of ∙ sym (ap (λ (r : Row). shard_of r.report.instance_uid) answer.is);
}

pub in_order_push : (number : ℕ) (told new : List Told) (t : Told) (p0 p1 p2 p3 q0 q1 q2 q3 a0 a1 a2 a3 b0 b1 b2 b3 : ℕ)
    → IsInOrder number told (four p0 p1 p2 p3) (four a0 a1 a2 a3) → new ≡ told ++ t ∷ [] → IsOwn number t
    → (q0 ≡ p0) × (q1 ≡ p1) × (q2 ≡ p2) × (q3 ≡ p3)
    → b0 ≡ a0 + one_if (t.shard == 0) → b1 ≡ a1 + one_if (t.shard == 1) → b2 ≡ a2 + one_if (t.shard == 2) → b3 ≡ a3 + one_if (t.shard == 3)
    → IsInOrder number new (four q0 q1 q2 q3) (four b0 b1 b2 b3)
in_order_push number told new t p0 p1 p2 p3 q0 q1 q2 q3 a0 a1 a2 a3 b0 b1 b2 b3 is new_is own parts e0 e1 e2 e3 =
    let c0 : a0 ≡ told_in 0 told = ap (λ f. f.first) is.counted in
    let c1 : a1 ≡ told_in 1 told = ap (λ f. f.second) is.counted in
    let c2 : a2 ≡ told_in 2 told = ap (λ f. f.third) is.counted in
    let c3 : a3 ≡ told_in 3 told = ap (λ f. f.fourth) is.counted in
    record {
      own = subst (λ ts. AreOwn number ts) (sym new_is) (own_push number told t is.own own);
      some_part = (subst (λ n. 0 < n) (sym parts.0) is.some_part.0, subst (λ n. 0 < n) (sym parts.1) is.some_part.1, subst (λ n. 0 < n) (sym parts.2) is.some_part.2, subst (λ n. 0 < n) (sym parts.3) is.some_part.3);
      counted =
          (λ i. four
          ((e0 ∙ ap (λ n. n + one_if (t.shard == 0)) c0) i)
          ((e1 ∙ ap (λ n. n + one_if (t.shard == 1)) c1) i)
          ((e2 ∙ ap (λ n. n + one_if (t.shard == 2)) c2) i)
          ((e3 ∙ ap (λ n. n + one_if (t.shard == 3)) c3) i))
          ∙ sym (counts-push told t)
          ∙ ap counts (sym new_is);
    }

-- one fresh desk more
pub fresh_push : (made : List AtDesk) (d : AtDesk) (n : ℕ) → length made ≡ n → AreFresh made → d.number ≡ n → d.told ≡ [] → AreFresh (made ++ d ∷ [])
fresh_push made d n len fresh number none place e at = by_place (one_of made d place e at)
  where
    by_place : ((slice_get made place ≡ Some e) ⊎ ((place ≡ length made) × (d ≡ e))) → (e.number ≡ place) × (e.told ≡ [])
    by_place (inl before) = fresh place e before
    by_place (inr last) =
        (ap (λ (x : AtDesk). x.number) (sym last.1) ∙ number ∙ sym len ∙ sym last.0, ap (λ (x : AtDesk). x.told) (sym last.1) ∙ none)
