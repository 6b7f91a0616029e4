-- Pairs whose keys ascend, from the last pair to the first.
use Rattle.std.proofs.Common.{◌≡◌, ℕ, zero, suc, ◌-◌, ◌<◌, ◌≤◌, List, [], ◌∷◌, length, get_or, drop, subst, arith}
use Rattle.std.specs.declared.cmp.Ordering.TheVariants.{Less}
use Rattle.plain_values.specs.declared.maps.Pair.{Pair}
use Rattle.plain_values.specs.Pairs.{byte_cmp, IsAscending}
use Rattle.plain_values.proofs.PairLemmas.{IsBelowAll-trans}

module _ {T : Type 0} where
  -- the last pair alone
  pub last_ascends : (ps : List (Pair T)) → IsAscending (drop (length ps - 1) ps)
  last_ascends [] = tt
  last_ascends (p ∷ []) = (tt, tt)
  last_ascends (p ∷ q ∷ ps) =
      let more : suc (length (q ∷ ps) - 1) ≡ length (p ∷ q ∷ ps) - 1 = omega arith in
      subst (λ (n : ℕ). IsAscending (drop n (p ∷ q ∷ ps))) more (last_ascends (q ∷ ps))

  one_more : (ps : List (Pair T)) (i : ℕ) (d e : Pair T) → suc i < length ps → byte_cmp (get_or ps i d).key (get_or ps (suc i) e).key ≡ Less → IsAscending (drop (suc i) ps) → IsAscending (drop i ps)
  one_more [] i d e h less a = absurd (omega arith)
  one_more (p ∷ []) i d e h less a = absurd (omega arith)
  one_more (p ∷ q ∷ ps) zero d e h less a = ((less, IsBelowAll-trans p.key q.key ps less a.0), a)
  one_more (p ∷ q ∷ ps) (suc i) d e h less a = one_more (q ∷ ps) i d e (omega arith) less a

  -- a pair whose key is below the next one's
  pub pair_before : (ps : List (Pair T)) (at next first : ℕ) (p q : Pair T) → 1 < at → at ≤ length ps → next ≡ at - 1 → first ≡ at - 2 → p ≡ get_or ps first p → q ≡ get_or ps next q → byte_cmp p.key q.key ≡ Less
      → IsAscending (drop (at - 1) ps) → IsAscending (drop (next - 1) ps)
  pair_before ps at next first p q some within is_next is_first held_p held_q less a =
      let behind : next ≡ suc first = omega (arith, some, is_next, is_first) in
      let here : first ≡ next - 1 = omega (arith, some, is_next, is_first) in
      let both : byte_cmp (get_or ps first p).key (get_or ps (suc first) q).key ≡ Less =
      subst (λ (n : ℕ). byte_cmp (get_or ps first p).key (get_or ps n q).key ≡ Less) behind
      (subst (λ (r : Pair T). byte_cmp (get_or ps first p).key r.key ≡ Less) held_q (subst (λ (r : Pair T). byte_cmp r.key q.key ≡ Less) held_p less)) in
      let rest : IsAscending (drop (suc first) ps) = subst (λ (n : ℕ). IsAscending (drop n ps)) (let e : at - 1 ≡ suc first = omega (arith, some, is_first) in e) a in
      subst (λ (n : ℕ). IsAscending (drop n ps)) here (one_more ps first p q (omega (arith, some, within, is_first)) both rest)

  -- all pairs
  pub all_ascend : (ps : List (Pair T)) (at : ℕ) → at ≤ 1 → IsAscending (drop (at - 1) ps) → IsAscending ps
  all_ascend ps at none a = let first : at - 1 ≡ 0 = omega (arith, none) in subst (λ (n : ℕ). IsAscending (drop n ps)) first a
