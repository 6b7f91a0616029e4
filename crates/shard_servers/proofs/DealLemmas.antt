-- Desks that are dealt one after the other.
use Rattle.std.proofs.Common.{◌≡◌, ℕ, ◌+◌, ◌-◌, List, [], ◌∷◌, ◌++◌, length, sym, ◌∙◌, ap, subst}
use Rattle.std.proofs.lemmas.Option.{none-some}
use Rattle.shard_servers.specs.Desks.{AreFresh, AtDesk, Four, four, parts_of}
use Rattle.shard_servers.specs.Shares.{AreAll}
use Rattle.shard_servers.proofs.SumLemmas.{parts_of-push}
use Rattle.shard_servers.proofs.TellingLemmas.{fresh_push}

-- with one desk more, that has so many parts of each share
pub dealt_push : (made : List AtDesk) (d : AtDesk) (n k : ℕ) → AreAll n (parts_of (λ p. p.first) made) (parts_of (λ p. p.second) made) (parts_of (λ p. p.third) made) (parts_of (λ p. p.fourth) made)
    → d.parts ≡ four k k k k
    → AreAll (n + k) (parts_of (λ p. p.first) (made ++ d ∷ [])) (parts_of (λ p. p.second) (made ++ d ∷ [])) (parts_of (λ p. p.third) (made ++ d ∷ [])) (parts_of (λ p. p.fourth) (made ++ d ∷ []))
dealt_push made d n k was is = record {
  first = next (λ p. p.first) (ap (λ (p : Four). p.first) is) was.first;
  second = next (λ p. p.second) (ap (λ (p : Four). p.second) is) was.second;
  third = next (λ p. p.third) (ap (λ (p : Four). p.third) is) was.third;
  fourth = next (λ p. p.fourth) (ap (λ (p : Four). p.fourth) is) was.fourth;
}
  where
    next : (pick : Four → ℕ) → pick d.parts ≡ k → parts_of pick made ≡ n → parts_of pick (made ++ d ∷ []) ≡ n + k
    next pick one was = parts_of-push pick made d ∙ (λ i. was i + one i)

-- the same, of a list that is these
pub dealt_more : (all made : List AtDesk) (d : AtDesk) (n k m : ℕ) → all ≡ made ++ d ∷ [] → n + k ≡ m
    → AreAll n (parts_of (λ p. p.first) made) (parts_of (λ p. p.second) made) (parts_of (λ p. p.third) made) (parts_of (λ p. p.fourth) made) → d.parts ≡ four k k k k
    → AreAll m (parts_of (λ p. p.first) all) (parts_of (λ p. p.second) all) (parts_of (λ p. p.third) all) (parts_of (λ p. p.fourth) all)
dealt_more all made d n k m same many was is =
    subst (λ (ds : List AtDesk). AreAll m (parts_of (λ p. p.first) ds) (parts_of (λ p. p.second) ds) (parts_of (λ p. p.third) ds) (parts_of (λ p. p.fourth) ds)) (sym same)
    (subst (λ i. AreAll i (parts_of (λ p. p.first) (made ++ d ∷ [])) (parts_of (λ p. p.second) (made ++ d ∷ [])) (parts_of (λ p. p.third) (made ++ d ∷ [])) (parts_of (λ p. p.fourth) (made ++ d ∷ []))) many (dealt_push made d n k was is))

-- nothing is dealt yet, or all
pub dealt_none : (made : List AtDesk) → made ≡ [] → AreAll 0 (parts_of (λ p. p.first) made) (parts_of (λ p. p.second) made) (parts_of (λ p. p.third) made) (parts_of (λ p. p.fourth) made)
dealt_none made none = record {
  first = ap (parts_of (λ p. p.first)) none;
  second = ap (parts_of (λ p. p.second)) none;
  third = ap (parts_of (λ p. p.third)) none;
  fourth = ap (parts_of (λ p. p.fourth)) none;
}

pub dealt_all : (made : List AtDesk) (left : ℕ) → left ≡ 0 → AreAll (64 - left) (parts_of (λ p. p.first) made) (parts_of (λ p. p.second) made) (parts_of (λ p. p.third) made) (parts_of (λ p. p.fourth) made)
    → AreAll 64 (parts_of (λ p. p.first) made) (parts_of (λ p. p.second) made) (parts_of (λ p. p.third) made) (parts_of (λ p. p.fourth) made)
dealt_all made left none was = subst (λ n. AreAll (64 - n) (parts_of (λ p. p.first) made) (parts_of (λ p. p.second) made) (parts_of (λ p. p.third) made) (parts_of (λ p. p.fourth) made)) none was

-- ---- desks to which nothing was told

pub fresh_more : (all made : List AtDesk) (d : AtDesk) (n : ℕ) → all ≡ made ++ d ∷ [] → length made ≡ n → AreFresh made → d.number ≡ n → d.told ≡ [] → AreFresh all
fresh_more all made d n same len fresh number none = subst (λ (ds : List AtDesk). AreFresh ds) (sym same) (fresh_push made d n len fresh number none)

pub fresh_none : (made : List AtDesk) → made ≡ [] → AreFresh made
fresh_none made none = subst (λ (ds : List AtDesk). AreFresh ds) (sym none) (λ place d at. absurd (none-some d at))
