-- The sameness of headers.
use Rattle.std.proofs.Common.{◌≡◌, List, [], ◌∷◌, Bool, true, false, ◌&&◌, refl, sym, ◌∙◌, ap}
use Rattle.std.specs.Str.{bytes_eq}
use Rattle.std.specs.Bool.{Decides}
use Rattle.std.proofs.lemmas.Slice.Eq.{bytes_eq-Decides}
use Rattle.std.proofs.lemmas.Bool.{false≢true}
use Rattle.plain_values.specs.declared.headers.Header.{Header}
use Rattle.agent_rounds.specs.Status.{same_list}

both : (x y z : Bool) → x ≡ true → y ≡ true → z ≡ true → (x && (y && z)) ≡ true
both true true true p q r = refl
both true true false p q r = r
both true false z p q r = q
both false y z p q r = p

first : (x y : Bool) → (x && y) ≡ true → x ≡ true
first true y all = refl
first false y all = all

second : (x y : Bool) → (x && y) ≡ true → y ≡ true
second true y all = all
second false y all = absurd (false≢true all)

same_refl : (a : List Header) → same_list a a ≡ true
same_refl [] = refl
same_refl (h ∷ more) =
    both (bytes_eq h.key h.key) (bytes_eq h.value h.value) (same_list more more) ((bytes_eq-Decides h.key h.key).1 refl) ((bytes_eq-Decides h.value h.value).1 refl) (same_refl more)

equal : (a b : List Header) → same_list a b ≡ true → a ≡ b
equal [] [] same = refl
equal [] (b ∷ others) same = absurd (false≢true same)
equal (a ∷ more) [] same = absurd (false≢true same)
equal (a ∷ more) (b ∷ others) same =
    let rest = second (bytes_eq a.key b.key) (bytes_eq a.value b.value && same_list more others) same in
    let keys : a.key ≡ b.key = (bytes_eq-Decides a.key b.key).0 (first (bytes_eq a.key b.key) (bytes_eq a.value b.value && same_list more others) same) in
    let values : a.value ≡ b.value = (bytes_eq-Decides a.value b.value).0 (first (bytes_eq a.value b.value) (same_list more others) rest) in
    let lists : more ≡ others = equal more others (second (bytes_eq a.value b.value) (same_list more others) rest) in
    λ i. record { key = keys i; value = values i } ∷ lists i

pub same_list-Decides : (a b : List Header) → Decides (same_list a b) (a ≡ b)
same_list-Decides a b = (equal a b, λ is. ap (λ l. same_list a l) (sym is) ∙ same_refl a)
