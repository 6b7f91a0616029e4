-- The files that pairs stand for.
use Rattle.std.proofs.Common.{◌≡◌, ℕ, zero, suc, ◌+◌, ◌<◌, ◌≤◌, List, [], ◌∷◌, length, get_or, Bool, true, false, cond, Option, Some, None, refl, sym, ◌∙◌, ap, subst, arith, inl, inr, ◌⊎◌}
use Rattle.std.specs.Prelude.{Contains, IsSome, ◌++◌}
use Rattle.std.specs.Str.{bytes_eq}
use Rattle.std.specs.Cmp.Lexicographic.{bytes_decides}
use Rattle.std.proofs.lemmas.List.Elements.{Contains-append_left, Contains-append_right, Contains-append_cases}
use Rattle.std.proofs.lemmas.Bool.{cases_lt, false≢true}
use Rattle.std.proofs.lemmas.List.{get_or_default}
use Rattle.plain_values.specs.declared.maps.Map.{Map}
use Rattle.plain_values.specs.declared.maps.Pair.{Pair}
use Rattle.plain_values.specs.Pairs.{value_at}
use Rattle.edge_devices.specs.declared.folders.Area.{Area}
use Rattle.edge_devices.specs.declared.folders.Area.TheVariants.{Config, Packages, Status}
use Rattle.edge_devices.specs.declared.shelves.Shelves.{Shelves}
use Rattle.edge_devices.specs.Folders.{AreGood, AreNames, SameFiles, SameOthers}
use Rattle.edge_devices.specs.Names.{is_good_name}
use Rattle.edge_devices.specs.MemoryFolders.{body_of, files_held, shelf_files, Puts}

-- what a put of a map says of look-ups
abbrev pub IsPut : Map (Option (List ℕ)) → Map (Option (List ℕ)) → List ℕ → Option (List ℕ) → Type 0
IsPut old new name body = (q : List ℕ) → value_at new q ≡ cond (bytes_eq name q) (Some body) (value_at old q)

held : (old new : Map (Option (List ℕ))) (name : List ℕ) (body : Option (List ℕ)) → is_good_name name ≡ true → IsPut old new name body → files_held new name ≡ body
held old new name body good put =
    ap (λ b. cond b (body_of (value_at new name)) None) good ∙ ap body_of (put name ∙ ap (λ b. cond b (Some body) (value_at old name)) ((bytes_decides name name).1 refl))

other : (old new : Map (Option (List ℕ))) (name : List ℕ) (body : Option (List ℕ)) (file : List ℕ)
    → IsPut old new name body → bytes_eq name file ≡ false → files_held new file ≡ files_held old file
other old new name body file put e = ap (λ value. cond (is_good_name file) (body_of value) None) (put file ∙ ap (λ b. cond b (Some body) (value_at old file)) e)

others_config : (old : Shelves) (new : Map (Option (List ℕ))) (name : List ℕ) (body : Option (List ℕ)) → IsPut old.config new name body
    → SameOthers Config name (shelf_files old) (shelf_files (record old { config = new }))
unfolding shelf_files
others_config old new name body put Config file e = other old.config new name body file put e
others_config old new name body put Packages file e = refl
others_config old new name body put Status file e = refl

pub puts_config : (old : Shelves) (new : Map (Option (List ℕ))) (area : Area) (name : List ℕ) (body : Option (List ℕ)) → area ≡ Config → is_good_name name ≡ true → IsPut old.config new name body
    → Puts (shelf_files old) (shelf_files (record old { config = new })) area name body
unfolding shelf_files
puts_config old new area name body is good put =
    subst (λ area. Puts (shelf_files old) (shelf_files (record old { config = new })) area name body) (sym is)
    (record { held = held old.config new name body good put; others = others_config old new name body put })

others_packages : (old : Shelves) (new : Map (Option (List ℕ))) (name : List ℕ) (body : Option (List ℕ)) → IsPut old.packages new name body
    → SameOthers Packages name (shelf_files old) (shelf_files (record old { packages = new }))
unfolding shelf_files
others_packages old new name body put Packages file e = other old.packages new name body file put e
others_packages old new name body put Config file e = refl
others_packages old new name body put Status file e = refl

pub puts_packages : (old : Shelves) (new : Map (Option (List ℕ))) (area : Area) (name : List ℕ) (body : Option (List ℕ)) → area ≡ Packages → is_good_name name ≡ true → IsPut old.packages new name body
    → Puts (shelf_files old) (shelf_files (record old { packages = new })) area name body
unfolding shelf_files
puts_packages old new area name body is good put =
    subst (λ area. Puts (shelf_files old) (shelf_files (record old { packages = new })) area name body) (sym is)
    (record { held = held old.packages new name body good put; others = others_packages old new name body put })

others_status : (old : Shelves) (new : Map (Option (List ℕ))) (name : List ℕ) (body : Option (List ℕ)) → IsPut old.status new name body
    → SameOthers Status name (shelf_files old) (shelf_files (record old { status = new }))
unfolding shelf_files
others_status old new name body put Status file e = other old.status new name body file put e
others_status old new name body put Config file e = refl
others_status old new name body put Packages file e = refl

pub puts_status : (old : Shelves) (new : Map (Option (List ℕ))) (area : Area) (name : List ℕ) (body : Option (List ℕ)) → area ≡ Status → is_good_name name ≡ true → IsPut old.status new name body
    → Puts (shelf_files old) (shelf_files (record old { status = new })) area name body
unfolding shelf_files
puts_status old new area name body is good put =
    subst (λ area. Puts (shelf_files old) (shelf_files (record old { status = new })) area name body) (sym is)
    (record { held = held old.status new name body good put; others = others_status old new name body put })

-- The names are those of the files that the first i pairs stand for.
pub record Gathers (pairs : Map (Option (List ℕ))) (i : ℕ) (names : List (List ℕ)) : Type 0 where
  pub sound : (name : List ℕ) → Contains names name → IsSome (files_held pairs name)
  pub complete : (k : ℕ) (d : Pair (Option (List ℕ))) → k < i → IsSome (files_held pairs (get_or pairs k d).key) → Contains names (get_or pairs k d).key

pub gathers_none : (pairs : Map (Option (List ℕ))) → Gathers pairs 0 []
gathers_none pairs = record { sound = λ name c. absurd (omega (arith, c.1)); complete = λ k d h s. absurd (omega (arith, h)) }

lone : (key name : List ℕ) → Contains (key ∷ []) name → key ≡ name
lone key name (zero, h, e) = e
lone key name (suc k, h, e) = absurd (omega (arith, h))

itself : (key : List ℕ) → Contains (key ∷ []) key
itself key = (0, omega arith, refl)

below : (k i : ℕ) → k < i + 1 → (k < i) ⊎ (k ≡ i)
below k i h = elim (cases_lt k i) [ inl l ↦ inl l | inr g ↦ inr (omega (arith, h, g)) ]

pub gathers_more : (pairs : Map (Option (List ℕ))) (i : ℕ) (names : List (List ℕ)) (key : List ℕ) → Gathers pairs i names
    → ((d : Pair (Option (List ℕ))) → (get_or pairs i d).key ≡ key) → IsSome (files_held pairs key) → Gathers pairs (i + 1) (names ++ key ∷ [])
gathers_more pairs i names key g is some = record {
  sound = λ name c. elim (Contains-append_cases names (key ∷ []) name c) [
    | inl c ↦ g.sound name c
    | inr c ↦ subst (λ n. IsSome (files_held pairs n)) (lone key name c) some
  ];
  complete = λ k d h s. elim (below k i h) [
    | inl l ↦ Contains-append_left names (key ∷ []) _ (g.complete k d l s)
    | inr e ↦ subst (λ n. Contains (names ++ key ∷ []) n) (sym (subst (λ j. (get_or pairs j d).key ≡ key) (sym e) (is d))) (Contains-append_right names (key ∷ []) key (itself key))
  ];
}

pub gathers_same : (pairs : Map (Option (List ℕ))) (i : ℕ) (names : List (List ℕ)) (key : List ℕ) → Gathers pairs i names
    → ((d : Pair (Option (List ℕ))) → (get_or pairs i d).key ≡ key) → (IsSome (files_held pairs key) → ⊥) → Gathers pairs (i + 1) names
gathers_same pairs i names key g is none = record {
  sound = g.sound;
  complete = λ k d h s. elim (below k i h) [
    | inl l ↦ g.complete k d l s
    | inr e ↦ absurd (none (subst (λ n. IsSome (files_held pairs n)) (subst (λ j. (get_or pairs j d).key ≡ key) (sym e) (is d)) s))
  ];
}

-- Some pair has that key.
abbrev pub HasPlace : List (Pair (Option (List ℕ))) → List ℕ → Type 0
HasPlace pairs name = (k : ℕ) × (k < length pairs) × ((d : Pair (Option (List ℕ))) → (get_or pairs k d).key ≡ name)

place_later : (p : Pair (Option (List ℕ))) (ps : List (Pair (Option (List ℕ)))) (name : List ℕ) → HasPlace ps name → HasPlace (p ∷ ps) name
place_later p ps name there = (suc there.0, omega (arith, there.1), λ d. there.2 d)

place_cases : (p : Pair (Option (List ℕ))) (ps : List (Pair (Option (List ℕ)))) (name : List ℕ) (b : Bool) → bytes_eq p.key name ≡ b
    → (IsSome (body_of (value_at ps name)) → HasPlace ps name) → IsSome (body_of (value_at (p ∷ ps) name)) → HasPlace (p ∷ ps) name
place_cases p ps name true e later s = (0, omega arith, λ d. (bytes_decides p.key name).0 e)
place_cases p ps name false e later s =
    place_later p ps name (later (subst (λ b. IsSome (body_of (cond b (Some p.value) (value_at ps name)))) e s))

-- a key that stands for something is that of a pair
place : (pairs : List (Pair (Option (List ℕ)))) (name : List ℕ) → IsSome (body_of (value_at pairs name)) → HasPlace pairs name
place [] name s = absurd (false≢true s)
place (p ∷ ps) name s = place_cases p ps name (bytes_eq p.key name) refl (place ps name) s

pub key_at : (pairs : List (Pair (Option (List ℕ)))) (i : ℕ) (x : Pair (Option (List ℕ))) → i < length pairs → x ≡ get_or pairs i x
    → (d : Pair (Option (List ℕ))) → (get_or pairs i d).key ≡ x.key
key_at pairs i x h e d = ap (λ (p : Pair (Option (List ℕ))). p.key) (get_or_default pairs i d x h ∙ sym e)

some_of : {T : Type 0} (b : Bool) (value : Option T) → IsSome (cond b value None) → IsSome value
some_of true value s = s
some_of false value s = absurd (false≢true s)

good_of : {T : Type 0} (b : Bool) (value : Option T) → IsSome (cond b value None) → b ≡ true
good_of true value s = refl
good_of false value s = absurd (false≢true s)

pub gathers_good : (pairs : Map (Option (List ℕ))) (i : ℕ) (names : List (List ℕ)) → Gathers pairs i names → AreGood names
gathers_good pairs i names g name c = good_of (is_good_name name) (body_of (value_at pairs name)) (g.sound name c)

pub gathers_all : (pairs : Map (Option (List ℕ))) (i : ℕ) (names : List (List ℕ)) → length pairs ≤ i → Gathers pairs i names → AreNames (files_held pairs) names
gathers_all pairs i names end g = λ name. (g.sound name, λ s. found name s (place pairs name (some_of (is_good_name name) (body_of (value_at pairs name)) s)))
  where
    found : (name : List ℕ) → IsSome (files_held pairs name) → HasPlace pairs name → Contains names name
    found name s there =
        let d : Pair (Option (List ℕ)) = record { key = []; value = None } in
        let key : (get_or pairs there.0 d).key ≡ name = there.2 d in
        subst (λ n. Contains names n) key (g.complete there.0 d (omega (arith, there.1, end)) (subst (λ n. IsSome (files_held pairs n)) (sym key) s))

none_either : (b : Bool) (body : Option (List ℕ)) → body ≡ None → cond b body None ≡ None
none_either true body e = e
none_either false body e = refl

none_held : (pairs : Map (Option (List ℕ))) (name : List ℕ) → pairs ≡ [] → files_held pairs name ≡ None
none_held pairs name empty = ap (λ pairs. files_held pairs name) empty ∙ none_either (is_good_name name) None refl

pub empty_shelves : (s : Shelves) → s.config ≡ [] → s.packages ≡ [] → s.status ≡ [] → SameFiles (λ area name. None) (shelf_files s)
unfolding shelf_files
empty_shelves s a b c Config name = none_held s.config name a
empty_shelves s a b c Packages name = none_held s.packages name b
empty_shelves s a b c Status name = none_held s.status name c
