-- The entry at a place, after one more, and the tests by which servers and identifiers are told apart.
use Rattle.std.proofs.Common.{◌≡◌, ℕ, zero, suc, ◌-◌, List, [], ◌∷◌, ◌++◌, length, ◌⊎◌, ◌&&◌, true, cond, None, Some, Option, slice_get, refl, ap, inl, inr, arith, length-append, ◌∙◌}
use Rattle.std.specs.Prelude.{is_some, unwrap_or}
use Rattle.std.specs.Str.{bytes_eq}
use Rattle.std.specs.Cmp.Lexicographic.{bytes_decides}
use Rattle.std.proofs.lemmas.Bool.{false≢true}
use Rattle.agent_rules.specs.Reports.{Entry}
use Rattle.world_model.specs.World.{Holding, last_sent, put_at}

pub none≢some : {X : Type 0} {x : X} → None ≡ Some x → ⊥
none≢some e = false≢true (ap is_some e)

pub some_same : {X : Type 0} {x y : X} → Some x ≡ Some y → x ≡ y
some_same {x = x} e = ap (λ o. unwrap_or o x) e

pub slice_get-push_old : {X : Type 0} (xs : List X) (x : X) (k : ℕ) (y : X) → slice_get xs k ≡ Some y → slice_get (xs ++ x ∷ []) k ≡ Some y
slice_get-push_old [] x k y e = absurd (none≢some e)
slice_get-push_old (z ∷ xs) x zero y e = e
slice_get-push_old (z ∷ xs) x (suc k) y e = slice_get-push_old xs x k y e

pub slice_get-push_new : {X : Type 0} (xs : List X) (x : X) → slice_get (xs ++ x ∷ []) (length xs) ≡ Some x
slice_get-push_new [] x = refl
slice_get-push_new (z ∷ xs) x = slice_get-push_new xs x

pub slice_get-push_cases : {X : Type 0} (xs : List X) (x : X) (k : ℕ) (y : X) → slice_get (xs ++ x ∷ []) k ≡ Some y
    → (slice_get xs k ≡ Some y) ⊎ ((k ≡ length xs) × (x ≡ y))
slice_get-push_cases [] x zero y e = inr (refl, some_same e)
slice_get-push_cases [] x (suc k) y e = absurd (none≢some e)
slice_get-push_cases (z ∷ xs) x zero y e = inl e
slice_get-push_cases (z ∷ xs) x (suc k) y e =
    elim (slice_get-push_cases xs x k y e) [ inl old ↦ inl old | inr new ↦ inr (ap (λ n. suc n) new.0, new.1) ]

pub length_push : {X : Type 0} (xs : List X) (x : X) → length (xs ++ x ∷ []) - 1 ≡ length xs
length_push xs x = omega (arith, length-append xs (x ∷ []))

pub last_push : (sent : List Entry) (e : Entry) → last_sent (sent ++ e ∷ []) ≡ Some e
last_push sent e = ap (slice_get (sent ++ e ∷ [])) (length_push sent e) ∙ slice_get-push_new sent e

pub bytes_same : (u v : List ℕ) → bytes_eq u v ≡ true → u ≡ v
bytes_same u v e = (bytes_decides u v).0 e

pub bytes_self : (u : List ℕ) → bytes_eq u u ≡ true
bytes_self u = (bytes_decides u u).1 refl

-- what was put there
pub put_at_here : (held : List ℕ → List ℕ → Option Holding) (server uid : List ℕ) (now : Holding) → put_at held server uid now server uid ≡ Some now
put_at_here held server uid now = λ i. cond (bytes_self server i && bytes_self uid i) (Some now) (held server uid)
