-- The names of a set, in ascending order.
use Rattle.std.proofs.Common.{◌≡◌, ℕ, ◌+◌, ◌<◌, List, [], ◌∷◌, ◌++◌, length, get_or, take, map, Bool, true, false, cond, Option, Some, refl, sym, ◌∙◌, ap, subst, zero, suc, ◌≤◌, arith}
use Rattle.std.specs.Prelude.{is_some, ◌||◌}
use Rattle.std.specs.List.{AllByRecursion, list_any}
use Rattle.std.specs.Str.{bytes_eq}
use Rattle.std.specs.declared.cmp.Ordering.{Ordering}
use Rattle.std.specs.declared.cmp.Ordering.TheVariants.{Less, Equal, Greater}
use Rattle.std.specs.Ordering.{match_ordering}
use Rattle.std.proofs.lemmas.Grind.{take_at_read}
use Rattle.plain_values.specs.declared.maps.Pair.{Pair}
use Rattle.plain_values.specs.Pairs.{IsAscending, byte_cmp, put_pair, value_at}
use Rattle.message_handlers.specs.Handling.{is_held}
use Rattle.message_handlers.specs.Lengths.{AreShort}
use Rattle.message_handlers.specs.Names.{AreAscending, IsOrdered}

abbrev pub Keys : List (Pair Bool) → List (List ℕ)
Keys pairs = map (λ pair. pair.key) pairs

above : (key : List ℕ) (ps : List (Pair Bool)) → AllByRecursion (λ q. byte_cmp key q.key ≡ Less) ps → AllByRecursion (λ other. byte_cmp key other ≡ Less) (Keys ps)
above key [] a = tt
above key (p ∷ ps) a = (a.0, above key ps a.1)

ascending_keys : (ps : List (Pair Bool)) → IsAscending ps → AreAscending (Keys ps)
ascending_keys [] a = tt
ascending_keys (p ∷ ps) a = (above p.key ps a.0, ascending_keys ps a.1)

held_keys : (ps : List (Pair Bool)) (name : List ℕ) → is_held (Keys ps) name ≡ is_some (value_at ps name)
held_keys [] name = refl
held_keys (p ∷ ps) name = by_case (bytes_eq p.key name) (held_keys ps name)
  where
    by_case : (b : Bool) → is_held (Keys ps) name ≡ is_some (value_at ps name) → (b || is_held (Keys ps) name) ≡ is_some (cond b (Some p.value) (value_at ps name))
    by_case true e = refl
    by_case false e = e

pub ordered : (names keys : List (List ℕ)) (ps : List (Pair Bool)) → IsAscending ps → ((name : List ℕ) → is_some (value_at ps name) ≡ is_held names name)
    → keys ≡ Keys ps → IsOrdered names keys
ordered names keys ps a held is = subst (IsOrdered names) (sym is) (record { ascending = ascending_keys ps a; same = λ name. held_keys ps name ∙ held name })

any_snoc : {X : Type 0} (p : X → Bool) (xs : List X) (x : X) → list_any p (xs ++ x ∷ []) ≡ (p x || list_any p xs)
any_snoc p [] x = refl
any_snoc p (y ∷ ys) x = by_case (p y) (p x) (any_snoc p ys x)
  where
    by_case : (b c : Bool) → list_any p (ys ++ x ∷ []) ≡ (c || list_any p ys) → (b || list_any p (ys ++ x ∷ [])) ≡ (c || (b || list_any p ys))
    by_case true true e = refl
    by_case true false e = refl
    by_case false c e = e

-- The set has the names that were looked at.
abbrev pub Holds : List (List ℕ) → List (Pair Bool) → Type 0
Holds names set = (name : List ℕ) → is_some (value_at set name) ≡ is_held names name

some_cond : (b : Bool) (value : Bool) (o : Option Bool) → is_some (cond b (Some value) o) ≡ (b || is_some o)
some_cond true value o = refl
some_cond false value o = refl

pub holds_more : (names : List (List ℕ)) (i : ℕ) (x key : List ℕ) (old new : List (Pair Bool)) → Holds (take i names) old → i < length names → x ≡ get_or names i x → key ≡ x
    → ((q : List ℕ) → value_at new q ≡ cond (bytes_eq key q) (Some true) (value_at old q)) → Holds (take (i + 1) names) new
holds_more names i x key old new holds within is copied found name =
    ap is_some (found name ∙ ap (λ key. cond (bytes_eq key name) (Some true) (value_at old name)) copied)
    ∙ some_cond (bytes_eq x name) true (value_at old name)
    ∙ ap (λ b. bytes_eq x name || b) (holds name)
    ∙ sym (any_snoc (λ n. bytes_eq n name) (take i names) x)
    ∙ ap (λ y. is_held (take i names ++ y ∷ []) name) is
    ∙ sym (ap (λ names. is_held names name) (take_at_read names i x within).1)

-- The set is no longer than the names that were looked at, and its names are short.
pub record Gathers (names : List (List ℕ)) (i : ℕ) (set : List (Pair Bool)) : Type 0 where
  pub holds : Holds (take i names) set
  pub few : length set ≤ i
  pub short : AreShort (Keys set)

ordering_cases : (P : List (Pair Bool) → Type 0) (o : Ordering) (a b c : List (Pair Bool)) → P a → P b → P c → P (match_ordering o a b c)
ordering_cases P Less a b c x y z = x
ordering_cases P Equal a b c x y z = y
ordering_cases P Greater a b c x y z = z

put_len : (ps : List (Pair Bool)) (key : List ℕ) → length (put_pair ps key true) ≤ length ps + 1
put_len [] key = omega arith
put_len (p ∷ ps) key = ordering_cases (λ made. length made ≤ length (p ∷ ps) + 1) (byte_cmp key p.key) _ _ _ (omega arith) (omega arith) (omega (arith, put_len ps key))

put_short : (ps : List (Pair Bool)) (key : List ℕ) → length key ≤ 255 → AreShort (Keys ps) → AreShort (Keys (put_pair ps key true))
put_short [] key h a = (h, tt)
put_short (p ∷ ps) key h a = ordering_cases (λ made. AreShort (Keys made)) (byte_cmp key p.key) _ _ _ (h, a) (h, a.1) (a.0, put_short ps key h a.1)

pub gathers_none : (names : List (List ℕ)) → Gathers names 0 []
gathers_none names = record { holds = λ name. refl; few = omega arith; short = tt }

pub gathers_more : (names : List (List ℕ)) (i : ℕ) (x : List ℕ) (old new : List (Pair Bool)) → AreShort names → Gathers names i old → i < length names → x ≡ get_or names i x
    → new ≡ put_pair old x true → ((q : List ℕ) → value_at new q ≡ cond (bytes_eq x q) (Some true) (value_at old q)) → Gathers names (i + 1) new
gathers_more names i x old new short g within is put found = record {
  holds = holds_more names i x x old new g.holds within is refl found;
  few = subst (λ set. length set ≤ i + 1) (sym put) (omega (arith, put_len old x, g.few));
  short = subst (λ set. AreShort (Keys set)) (sym put) (put_short old x (short_at names i x short within is) g.short);
}
  where
    short_at : (names : List (List ℕ)) (i : ℕ) (x : List ℕ) → AreShort names → i < length names → x ≡ get_or names i x → length x ≤ 255
    short_at [] i x a within is = absurd (omega (arith, within))
    short_at (n ∷ ns) zero x a within is = subst (λ x. length x ≤ 255) (sym is) a.0
    short_at (n ∷ ns) (suc i) x a within is = short_at ns i x a.1 (omega (arith, within)) is

pub short_more : (names : List (List ℕ)) (name : List ℕ) → AreShort names → length name ≤ 255 → AreShort (names ++ name ∷ [])
short_more [] name a h = (h, tt)
short_more (n ∷ ns) name a h = (a.0, short_more ns name a.1 h)

pub keys_len : (ps : List (Pair Bool)) → length (Keys ps) ≡ length ps
keys_len [] = refl
keys_len (p ∷ ps) = ap suc (keys_len ps)
