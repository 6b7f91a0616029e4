-- Which files of packages stay.
use Rattle.std.proofs.Common.{◌≡◌, ℕ, zero, suc, ◌<◌, List, [], ◌∷◌, length, get_or, Bool, true, false, cond, refl, sym, ◌∙◌, ap, subst, arith}
use Rattle.std.specs.Prelude.{◌&&◌, ◌||◌, not, filter, map}
use Rattle.std.specs.Str.{bytes_eq}
use Rattle.std.proofs.lemmas.Bool.{false≢true}
use Rattle.plain_values.specs.declared.maps.Pair.{Pair}
use Rattle.message_values.specs.declared.packages.PackageStatuses.{PackageStatuses}
use Rattle.message_values.specs.declared.packages.PackagesAvailable.{PackagesAvailable}
use Rattle.agent_packages.specs.Packages.{is_same_offer, names_where}
use Rattle.edge_devices.specs.declared.folders.Area.TheVariants.{Packages}
use Rattle.edge_devices.specs.Folders.{FolderState, SameAreas}
use Rattle.agent_packages.specs.Touched.{KeepsOthers, fetched_names, gone_names, is_named, is_touched}

pub own_name : (same other : Bool) → same ≡ false → (not same && other) ≡ false → other ≡ false
own_name true other e f = absurd (false≢true (sym e))
own_name false other e f = f

or_false : (a b : Bool) → (a || b) ≡ false → (a ≡ false) × (b ≡ false)
or_false true b e = absurd (false≢true (sym e))
or_false false b e = (refl, e)

pub left_of : (a b : Bool) → (a || b) ≡ false → a ≡ false
left_of a b e = (or_false a b e).0

pub right_of : (a b : Bool) → (a || b) ≡ false → b ≡ false
right_of a b e = (or_false a b e).1

module _ {T : Type 0} (test : Pair T → Bool) (name : List ℕ) where
  -- the names of the rest
  rest_cases : (b : Bool) (x : Pair T) (xs : List (Pair T)) → is_named (map (λ item. item.key) (cond b (x ∷ filter test xs) (filter test xs))) name ≡ false
      → is_named (names_where test xs) name ≡ false
  rest_cases true x xs e = (or_false (bytes_eq x.key name) (is_named (names_where test xs) name) e).1
  rest_cases false x xs e = e

  first_cases : (b : Bool) (x : Pair T) (xs : List (Pair T)) → b ≡ true → is_named (map (λ item. item.key) (cond b (x ∷ filter test xs) (filter test xs))) name ≡ false
      → bytes_eq x.key name ≡ false
  first_cases true x xs is e = (or_false (bytes_eq x.key name) (is_named (names_where test xs) name) e).0
  first_cases false x xs is e = absurd (false≢true is)

  -- a package that passes the test has none of the other names
  pub not_named : (items : List (Pair T)) (i : ℕ) (x : Pair T) → i < length items → x ≡ get_or items i x → test x ≡ true → is_named (names_where test items) name ≡ false
      → bytes_eq x.key name ≡ false
  not_named [] i x within is passes e = absurd (omega (arith, within))
  not_named (y ∷ ys) zero x within is passes e =
      subst (λ (x : Pair T). bytes_eq x.key name ≡ false) (sym is) (first_cases (test y) y ys (subst (λ x. test x ≡ true) is passes) e)
  not_named (y ∷ ys) (suc i) x within is passes e = not_named ys i x (omega (arith, within)) is passes (rest_cases (test y) y ys e)

not_cases : (same other : Bool) → (same ≡ false → other ≡ false) → (not same && other) ≡ false
not_cases true other h = refl
not_cases false other h = h refl

pub not_its : {T : Type 0} (same : Pair T → Bool) (items : List (Pair T)) (i : ℕ) (x : Pair T) (name : List ℕ) → i < length items → x ≡ get_or items i x
    → is_named (names_where (λ item. not (same item)) items) name ≡ false → (not (same x) && bytes_eq x.key name) ≡ false
not_its same items i x name within is e =
    not_cases (same x) (bytes_eq x.key name) (λ other. not_named (λ item. not (same item)) name items i x within is (ap not other) e)

-- The other areas and the other files are as they were.
abbrev pub Keeps : (List ℕ → Bool) → FolderState → FolderState → Type 0
Keeps touched old new = SameAreas Packages old.files new.files × KeepsOthers touched old new

pub keeps_then : (touched : List ℕ → Bool) (a b c : FolderState) → Keeps touched a b → SameAreas Packages b.files c.files → ((name : List ℕ) → touched name ≡ false → c.files Packages name ≡ b.files Packages name)
    → Keeps touched a c
keeps_then touched a b c first areas files = (λ other file e. areas other file e ∙ first.0 other file e, λ name e. files name e ∙ first.1 name e)

pub untouched : (held : PackageStatuses) (offered : PackagesAvailable) (name : List ℕ) → is_same_offer held offered ≡ false → is_touched held offered name ≡ false
    → (is_named (fetched_names held.packages offered.packages) name ≡ false) × (is_named (gone_names offered.packages held.packages) name ≡ false)
untouched held offered name other e =
    or_false (is_named (fetched_names held.packages offered.packages) name) (is_named (gone_names offered.packages held.packages) name)
    (sym (ap (λ b. is_named (cond b [] (fetched_names held.packages offered.packages)) name || is_named (cond b [] (gone_names offered.packages held.packages)) name) other) ∙ e)
