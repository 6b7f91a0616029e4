-- The wire names of a table differ, and hold nothing that ends a name in a path.
use Rattle.std.proofs.Common.{◌≡◌, ◌∙◌, ℕ, Bool, true, false, not, cond, nat_eq, ◌||◌, ◌&&◌, List, [], ◌∷◌, refl, ap, sym, subst}
use Rattle.std.specs.Prelude.{Some, IsSome}
use Rattle.std.proofs.lemmas.Bool.{true≢false, and_parts, and_from, not-true, eq-eqb, eqb-true, or_parts}
use Rattle.message_codec.specs.Tables.{Name, AgentToServer, AnyValue, Kind, Texts, Many, Keyed, Row, rows_of, kind_at, AllOf, OneOf}
use Rattle.message_codec.specs.Values.{Values}
use Rattle.message_codec.specs.Canonical.{kind_or}
use Rattle.message_codec.specs.Fits.{FitsIn, FitsMessage}
use Rattle.message_texts.specs.Words.{under}
use Rattle.message_texts.specs.Texts.{name_at}
use Rattle.message_texts.proofs.Splits.{Free}
use Rattle.message_texts.proofs.Paths.{mark, Solid, under_solid}

abbrev pub text_same : List ℕ → List ℕ → Bool
text_same [] [] = true
text_same (x ∷ xs) (y ∷ ys) = nat_eq x y && text_same xs ys
text_same _ _ = false

pub same_itself : (xs : List ℕ) → text_same xs xs ≡ true
same_itself [] = refl
same_itself (x ∷ xs) = and_from _ _ (eq-eqb x x refl) (same_itself xs)

abbrev is_free : List ℕ → Bool
is_free [] = true
is_free (x ∷ xs) = not (mark x) && is_free xs

abbrev pub is_name : List ℕ → Bool
is_name [] = false
is_name (x ∷ xs) = is_free (x ∷ xs)

abbrev pub is_among : List ℕ → List Row → Bool
is_among name [] = false
is_among name (r ∷ rows) = text_same name r.name || is_among name rows

abbrev pub fine : List Row → Bool
fine [] = true
fine (r ∷ rows) = is_name r.name && (not (is_among r.name rows) && fine rows)

pub fine_table : (t : Name) → fine (rows_of t) ≡ true
fine_table AgentToServer = refl
fine_table _ = refl

from_free : (xs : List ℕ) → is_free xs ≡ true → Free mark xs
from_free [] e = tt
from_free (x ∷ xs) e = let parts = and_parts (not (mark x)) (is_free xs) e in (not-true (mark x) parts.0, from_free xs parts.1)

no_name : false ≡ true → ⊥
no_name e = true≢false (sym e)

pub name_free : (name : List ℕ) → is_name name ≡ true → Free mark name
name_free [] e = tt
name_free (c ∷ name) e = from_free (c ∷ name) e

pub name_solid : (path name : List ℕ) → is_name name ≡ true → Solid (under path name)
name_solid path [] e = absurd (no_name e)
name_solid path (c ∷ name) e = under_solid path c name

pub first_row : (r : Row) (rows : List Row) → fine (r ∷ rows) ≡ true → (is_name r.name ≡ true) × (is_among r.name rows ≡ false) × (fine rows ≡ true)
first_row r rows e =
    let parts = and_parts (is_name r.name) (not (is_among r.name rows) && fine rows) e in
    let more = and_parts (not (is_among r.name rows)) (fine rows) parts.1 in
    (parts.0, not-true (is_among r.name rows) more.0, more.1)

-- a name that is none of the later ones
pub not_next : (name : List ℕ) (r : Row) (rows : List Row) → is_among name (r ∷ rows) ≡ false → (name ≡ r.name → ⊥) × (is_among name rows ≡ false)
not_next name r rows e =
    let parts = or_parts (text_same name r.name) (is_among name rows) e in
    (λ same. true≢false (sym (same_itself name) ∙ ap (text_same name) same ∙ parts.0), parts.1)

-- what holds of the messages of both shapes
pub by_shape : (P : Name → Type 0) (vs : Values) → ((t : Name) → fine (rows_of t) ≡ true → FitsIn AllOf (rows_of t) vs → ((ws : Values) → FitsMessage t ws → FitsIn AllOf (rows_of t) ws) → P t) → (FitsIn OneOf (rows_of AnyValue) vs → P AnyValue) → (t : Name) → FitsMessage t vs → P t
by_shape P vs all any AnyValue f = any f
by_shape P vs all any t f = all t (fine_table t) f (λ ws g. g)

pub by_table : (P : Name → Type 0) (vs : Values) → ((t : Name) → fine (rows_of t) ≡ true → FitsIn AllOf (rows_of t) vs → P t) → (FitsIn OneOf (rows_of AnyValue) vs → P AnyValue) → (t : Name) → FitsMessage t vs → P t
by_table P vs all any t f = by_shape P vs (λ n fine g same. all n fine g) any t f

-- ---- the members of a choice

abbrev AllNumbers : (ℕ → Type 0) → List Row → Type 0
AllNumbers P [] = Unit {0}
AllNumbers P (r ∷ rows) = P r.number × AllNumbers P rows

by_row : (P : ℕ → Type 0) (rows : List Row) → AllNumbers P rows → (n : ℕ) → IsSome (kind_at n rows) → P n
by_row P [] all n some = absurd (no_name some)
by_row P (r ∷ rows) all n some = at (nat_eq n r.number) refl some (by_row P rows all.1 n)
  where
    at : (b : Bool) → nat_eq n r.number ≡ b → IsSome (cond b (Some r.kind) (kind_at n rows)) → (IsSome (kind_at n rows) → P n) → P n
    at true e s later = subst P (sym (eqb-true n r.number e)) all.0
    at false e s later = later s

abbrev number_by : List ℕ → List Row → ℕ
number_by name [] = 0
number_by name (r ∷ rows) = cond (text_same name r.name) r.number (number_by name rows)

member_number : (n : ℕ) → IsSome (kind_at n (rows_of AnyValue)) → number_by (name_at n (rows_of AnyValue)) (rows_of AnyValue) ≡ n
member_number n some = by_row (λ k. number_by (name_at k (rows_of AnyValue)) (rows_of AnyValue) ≡ k) (rows_of AnyValue) (refl, (refl, (refl, (refl, (refl, (refl, (refl, tt))))))) n some

-- the name of a member tells the member
pub members_tell : (m n : ℕ) → IsSome (kind_at m (rows_of AnyValue)) → IsSome (kind_at n (rows_of AnyValue)) → name_at m (rows_of AnyValue) ≡ name_at n (rows_of AnyValue) → m ≡ n
members_tell m n f g e = sym (member_number m f) ∙ ap (λ (name : List ℕ). number_by name (rows_of AnyValue)) e ∙ member_number n g

pub member_name : (n : ℕ) → IsSome (kind_at n (rows_of AnyValue)) → is_name (name_at n (rows_of AnyValue)) ≡ true
member_name n some = by_row (λ k. is_name (name_at k (rows_of AnyValue)) ≡ true) (rows_of AnyValue) (refl, (refl, (refl, (refl, (refl, (refl, (refl, tt))))))) n some

-- a column of such a kind that is there has lines
abbrev pub is_lined : Kind → Bool
is_lined Texts = false
is_lined (Many t) = false
is_lined (Keyed t) = false
is_lined kind = true

pub member_lined : (n : ℕ) → IsSome (kind_at n (rows_of AnyValue)) → is_lined (kind_or (kind_at n (rows_of AnyValue))) ≡ true
member_lined n some = by_row (λ k. is_lined (kind_or (kind_at k (rows_of AnyValue))) ≡ true) (rows_of AnyValue) (refl, (refl, (refl, (refl, (refl, (refl, (refl, tt))))))) n some
