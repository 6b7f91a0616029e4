-- The files that slots stand for.
use Rattle.std.proofs.Common.{◌≡◌, ℕ, zero, suc, ◌+◌, ◌<◌, ◌≤◌, List, [], ◌∷◌, length, get_or, Bool, true, false, cond, Option, Some, None, refl, sym, ◌∙◌, ap, subst, arith, inl, inr, ◌⊎◌}
use Rattle.std.specs.Prelude.{Contains, IsSome, ◌++◌}
use Rattle.std.specs.Str.{bytes_eq}
use Rattle.std.specs.Cmp.Lexicographic.{bytes_decides}
use Rattle.std.proofs.lemmas.List.Elements.{Contains-append_left, Contains-append_right, Contains-append_cases}
use Rattle.std.proofs.lemmas.Bool.{cases_lt, false≢true}
use Rattle.std.proofs.lemmas.List.{get_or_default}
use Rattle.plain_values.specs.declared.maps.Map.{Map}
use Rattle.plain_values.specs.declared.maps.Pair.{Pair}
use Rattle.plain_values.specs.Pairs.{value_at}
use Rattle.edge_devices.specs.Folders.{AreGood, AreNames}
use Rattle.edge_devices.specs.Names.{is_good_name}
use Rattle.edge_shelf.specs.declared.slots.Slot.{Slot}
use Rattle.edge_shelf.specs.MemoryShelves.{files_in, kept_body}

-- The names are those of the files that the first i pairs stand for.
pub record Gathers (pairs : Map Slot) (i : ℕ) (names : List (List ℕ)) : Type 0 where
  pub sound : (name : List ℕ) → Contains names name → IsSome (files_in pairs name)
  pub complete : (k : ℕ) (d : Pair Slot) → k < i → IsSome (files_in pairs (get_or pairs k d).key) → Contains names (get_or pairs k d).key

pub gathers_none : (pairs : Map Slot) → Gathers pairs 0 []
gathers_none pairs = record { sound = λ name c. absurd (omega (arith, c.1)); complete = λ k d h s. absurd (omega (arith, h)) }

lone : (key name : List ℕ) → Contains (key ∷ []) name → key ≡ name
lone key name (zero, h, e) = e
lone key name (suc k, h, e) = absurd (omega (arith, h))

itself : (key : List ℕ) → Contains (key ∷ []) key
itself key = (0, omega arith, refl)

below : (k i : ℕ) → k < i + 1 → (k < i) ⊎ (k ≡ i)
below k i h = elim (cases_lt k i) [ inl l ↦ inl l | inr g ↦ inr (omega (arith, h, g)) ]

pub gathers_more : (pairs : Map Slot) (i : ℕ) (names : List (List ℕ)) (key : List ℕ) → Gathers pairs i names
    → ((d : Pair Slot) → (get_or pairs i d).key ≡ key) → IsSome (files_in pairs key) → Gathers pairs (i + 1) (names ++ key ∷ [])
gathers_more pairs i names key g is some = record {
  sound = λ name c. elim (Contains-append_cases names (key ∷ []) name c) [
    | inl c ↦ g.sound name c
    | inr c ↦ subst (λ n. IsSome (files_in pairs n)) (lone key name c) some
  ];
  complete = λ k d h s. elim (below k i h) [
    | inl l ↦ Contains-append_left names (key ∷ []) _ (g.complete k d l s)
    | inr e ↦ subst (λ n. Contains (names ++ key ∷ []) n) (sym (subst (λ j. (get_or pairs j d).key ≡ key) (sym e) (is d))) (Contains-append_right names (key ∷ []) key (itself key))
  ];
}

pub gathers_same : (pairs : Map Slot) (i : ℕ) (names : List (List ℕ)) (key : List ℕ) → Gathers pairs i names
    → ((d : Pair Slot) → (get_or pairs i d).key ≡ key) → (IsSome (files_in pairs key) → ⊥) → Gathers pairs (i + 1) names
gathers_same pairs i names key g is none = record {
  sound = g.sound;
  complete = λ k d h s. elim (below k i h) [
    | inl l ↦ g.complete k d l s
    | inr e ↦ absurd (none (subst (λ n. IsSome (files_in pairs n)) (subst (λ j. (get_or pairs j d).key ≡ key) (sym e) (is d)) s))
  ];
}

-- Some pair has that key.
abbrev pub HasPlace : List (Pair Slot) → List ℕ → Type 0
HasPlace pairs name = (k : ℕ) × (k < length pairs) × ((d : Pair Slot) → (get_or pairs k d).key ≡ name)

place_later : (p : Pair Slot) (ps : List (Pair Slot)) (name : List ℕ) → HasPlace ps name → HasPlace (p ∷ ps) name
place_later p ps name there = (suc there.0, omega (arith, there.1), λ d. there.2 d)

place_cases : (p : Pair Slot) (ps : List (Pair Slot)) (name : List ℕ) (b : Bool) → bytes_eq p.key name ≡ b
    → (IsSome (kept_body (value_at ps name)) → HasPlace ps name) → IsSome (kept_body (value_at (p ∷ ps) name)) → HasPlace (p ∷ ps) name
place_cases p ps name true e later s = (0, omega arith, λ d. (bytes_decides p.key name).0 e)
place_cases p ps name false e later s =
    place_later p ps name (later (subst (λ b. IsSome (kept_body (cond b (Some p.value) (value_at ps name)))) e s))

-- a key that stands for something is that of a pair
place : (pairs : List (Pair Slot)) (name : List ℕ) → IsSome (kept_body (value_at pairs name)) → HasPlace pairs name
place [] name s = absurd (false≢true s)
place (p ∷ ps) name s = place_cases p ps name (bytes_eq p.key name) refl (place ps name) s

pub key_at : (pairs : List (Pair Slot)) (i : ℕ) (x : Pair Slot) → i < length pairs → x ≡ get_or pairs i x
    → (d : Pair Slot) → (get_or pairs i d).key ≡ x.key
key_at pairs i x h e d = ap (λ (p : Pair Slot). p.key) (get_or_default pairs i d x h ∙ sym e)

some_of : {T : Type 0} (b : Bool) (value : Option T) → IsSome (cond b value None) → IsSome value
some_of true value s = s
some_of false value s = absurd (false≢true s)

good_of : {T : Type 0} (b : Bool) (value : Option T) → IsSome (cond b value None) → b ≡ true
good_of true value s = refl
good_of false value s = absurd (false≢true s)

pub gathers_good : (pairs : Map Slot) (i : ℕ) (names : List (List ℕ)) → Gathers pairs i names → AreGood names
gathers_good pairs i names g name c = good_of (is_good_name name) (kept_body (value_at pairs name)) (g.sound name c)

pub gathers_all : (pairs : Map Slot) (i : ℕ) (names : List (List ℕ)) → length pairs ≤ i → Gathers pairs i names → AreNames (files_in pairs) names
gathers_all pairs i names end g = λ name. (g.sound name, λ s. found name s (place pairs name (some_of (is_good_name name) (kept_body (value_at pairs name)) s)))
  where
    found : (name : List ℕ) → IsSome (files_in pairs name) → HasPlace pairs name → Contains names name
    found name s there =
        let d : Pair Slot = record { key = []; value = record { kept = None; tried = None } } in
        let key : (get_or pairs there.0 d).key ≡ name = there.2 d in
        subst (λ n. Contains names n) key (g.complete there.0 d (omega (arith, there.1, end)) (subst (λ n. IsSome (files_in pairs n)) (sym key) s))
