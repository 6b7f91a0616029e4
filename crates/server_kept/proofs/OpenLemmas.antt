-- What is gathered from the shelf.
use Rattle.std.proofs.Common.{◌≡◌, ℕ, ◌+◌, ◌<◌, ◌≤◌, List, [], ◌∷◌, length, sym, ◌∙◌, ap, subst, arith, inl, inr, ◌⊎◌, IsTrue}
use Rattle.std.specs.Prelude.{Contains, IsSome, slice_index_or}
use Rattle.std.proofs.lemmas.Bool.{cases_lt}
use Rattle.std.proofs.lemmas.List.Elements.{Contains-append_left, Contains-push, Contains-push_cases}
use Rattle.edge_devices.specs.Folders.{AreNames}
use Rattle.edge_devices.specs.Faults.{HasRisen}
use Rattle.edge_shelf.specs.Shelves.{Body, ShelfState}
use Rattle.server_kept.specs.declared.opening.KeptOffers.{KeptOffers}
use Rattle.server_kept.specs.declared.opening.OpenFail.{OpenFail}
use Rattle.server_kept.specs.declared.opening.OpenFail.TheVariants as fails
use Rattle.server_kept.specs.Files.{file_name}
use Rattle.server_kept.proofs.Naming.{one_name}
use Rattle.server_kept.specs.Opening.{Adds, Gathered, IsKept, IsWrong, Opened, OpenFails, SameShelf}

pub gathered_none : (files : List ℕ → Body) (names : List (List ℕ)) (found : List KeptOffers) → found ≡ [] → Gathered files names 0 found
gathered_none files names found empty = record {
  sound = λ kept c. let e : length found ≡ 0 = ap length empty in absurd (omega (arith, c.1, e));
  complete = λ k d lt. absurd (omega (arith, lt));
}

below : (k i : ℕ) → k < i + 1 → (k < i) ⊎ (k ≡ i)
below k i h = elim (cases_lt k i) [ inl l ↦ inl l | inr g ↦ inr (omega (arith, h, g)) ]

-- the name at its place
abbrev pub IsAt : List (List ℕ) → ℕ → List ℕ → Type 0
IsAt names i name = (d : List ℕ) → slice_index_or names i d ≡ name

pub gathered_more : (files : List ℕ → Body) (names : List (List ℕ)) (i : ℕ) (name : List ℕ) (old new : List KeptOffers)
    → IsAt names i name → Gathered files names i old → Adds files name old new → Gathered files names (i + 1) new
gathered_more files names i name old new at g (inl (same, none)) = record {
  sound = λ kept c. g.sound kept (subst (λ l. Contains l kept) same c);
  complete = λ k d lt uid iu named some. elim (below k i lt) [
    | inl l ↦ let f = g.complete k d l uid iu named some in (f.0, subst (λ l. Contains l (record { uid = uid; offers = f.0 })) (sym same) f.1)
    | inr e ↦
        let is : slice_index_or names k d ≡ name = subst (λ j. slice_index_or names j d ≡ name) (sym e) (at d) in
        absurd (none uid iu (named ∙ is) (subst (λ n. IsSome (files n)) is some))
  ];
}
gathered_more files names i name old new at g (inr (kept, is_new, is_kept, is_name)) = record {
  sound = λ other c. elim (Contains-push_cases old kept other (subst (λ l. Contains l other) is_new c)) [
    | inl there ↦ g.sound other there
    | inr e ↦ subst (λ o. IsKept files o) e is_kept
  ];
  complete = λ k d lt uid iu named some. elim (below k i lt) [
    | inl l ↦ let f = g.complete k d l uid iu named some in (f.0, subst (λ l. Contains l (record { uid = uid; offers = f.0 })) (sym is_new) (Contains-append_left old (kept ∷ []) _ f.1))
    | inr e ↦
        let is : slice_index_or names k d ≡ name = subst (λ j. slice_index_or names j d ≡ name) (sym e) (at d) in
        let own : uid ≡ kept.uid = one_name uid kept.uid iu is_kept.agent (named ∙ is ∙ sym is_name) in
        let there : Contains new kept = subst (λ l. Contains l kept) (sym is_new) (Contains-push old kept) in
        (kept.offers, subst (λ (u : List ℕ). Contains new (record { uid = u; offers = kept.offers })) (sym own) there)
  ];
}

pub gathered_all : (files : List ℕ → Body) (names : List (List ℕ)) (i : ℕ) (found : List KeptOffers) → AreNames files names → length names ≤ i → Gathered files names i found → Opened files found
gathered_all files names i found are end g = record {
  sound = g.sound;
  complete = λ uid iu some.
      let there = (are (file_name uid)).1 some in
      let lt : there.0 < i = omega (arith, there.1, end) in
      g.complete there.0 (file_name uid) lt uid iu (sym there.2) (subst (λ n. IsSome (files n)) (sym there.2) some);
}

-- one after the other
pub same_same : (a b c : ShelfState) → SameShelf a b → SameShelf b c → SameShelf a c
same_same a b c p q = record {
  told = q.told ∙ p.told;
  files = q.files ∙ p.files;
  left = q.left ∙ p.left;
  later = omega (arith, p.later, q.later);
}

risen_since : (a b c : ℕ) → a ≤ b → b ≤ c → HasRisen b c → HasRisen a c
risen_since a b c le lf (inl lt) = inl (omega (arith, le, lt))
risen_since a b c le lf (inr end) = inr end

pub fails_since : (a b c : ShelfState) (fail : OpenFail) → SameShelf a b → SameShelf b c → OpenFails b c fail → OpenFails a c fail
fails_since a b c (fails.Wrong name) p q f = λ told. subst (λ (files : List ℕ → Body). IsWrong files name) p.files (f (subst IsTrue (sym p.told) told))
fails_since a b c fails.Fault p q f = risen_since a.faults b.faults c.faults p.later q.later f
fails_since a b c fails.NoMemory p q f = f
