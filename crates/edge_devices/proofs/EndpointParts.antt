-- The parts of an endpoint are ASCII.
use Rattle.std.proofs.Common.{◌≡◌, ℕ, zero, suc, ◌<◌, ◌≤◌, List, [], ◌∷◌, ◌-◌, length, take, drop, take_while, Bool, true, false, cond, nat_le, nat_eq, refl, sym, ◌∙◌, ap, subst, arith, length-drop, ◌⊎◌, inl, inr}
use Rattle.std.specs.Prelude.{◌||◌, ◌&&◌, IsUtf8}
use Rattle.std.specs.List.{list_all}
use Rattle.std.specs.Str.{IsAscii}
use Rattle.std.proofs.lemmas.Bool.{leb-true, false≢true}
use Rattle.std.proofs.lemmas.List.{take_all}
use Rattle.std.proofs.lemmas.List.Sums.{take_while-cons}
use Rattle.std.proofs.lemmas.Str.{IsUtf8-from_ascii}
use Rattle.edge_devices.specs.Endpoints.{is_digit, is_host_byte, is_path_byte, is_authority, is_port, port_text, after_host, path_text}

or_either : (a b : Bool) → (a || b) ≡ true → (a ≡ true) ⊎ (b ≡ true)
or_either true b e = inl refl
or_either false b e = inr e

and_both : (a b : Bool) → (a && b) ≡ true → (a ≡ true) × (b ≡ true)
and_both true b e = (refl, e)
and_both false b e = absurd (false≢true e)

pub authority_port : (rest : List ℕ) → is_authority rest ≡ true → is_port (port_text (after_host rest)) ≡ true
authority_port rest e = (and_both _ _ (and_both _ _ e).1).0

pub authority_path : (rest : List ℕ) → is_authority rest ≡ true → list_all is_path_byte (path_text (after_host rest)) ≡ true
authority_path rest e = (and_both _ _ (and_both _ _ e).1).1

-- what is sliced behind a front
pub behind : (xs front : List ℕ) (n : ℕ) → n ≡ length front → take (length xs - n) (drop n xs) ≡ drop (length front) xs
behind xs front n e = take_all (length xs - n) (drop n xs) (omega (arith, length-drop n xs)) ∙ ap (λ m. drop m xs) e

up_to : (low high byte : ℕ) → (nat_le low byte && nat_le byte high) ≡ true → byte ≤ high
up_to low high byte e = leb-true byte high (and_both (nat_le low byte) (nat_le byte high) e).1

host_below : (byte : ℕ) → is_host_byte byte ≡ true → byte < 128
host_below byte e = elim (or_either (nat_le 97 byte && nat_le byte 122) _ e) [
  | inl a ↦ omega (arith, up_to 97 122 byte a)
  | inr e ↦ elim (or_either (nat_le 65 byte && nat_le byte 90) _ e) [
    | inl a ↦ omega (arith, up_to 65 90 byte a)
    | inr e ↦ elim (or_either (is_digit byte) _ e) [
      | inl a ↦ omega (arith, up_to 48 57 byte a)
      | inr e ↦ elim (or_either (nat_eq byte 46) (nat_eq byte 45) e) [ inl a ↦ grind arith | inr a ↦ grind arith ]
    ]
  ]
]

path_below : (byte : ℕ) → is_path_byte byte ≡ true → byte < 128
path_below byte e = omega (arith, up_to 33 126 byte e)

ascii_of : (p : ℕ → Bool) → ((byte : ℕ) → p byte ≡ true → byte < 128) → (bytes : List ℕ) → list_all p bytes ≡ true → IsAscii bytes
ascii_of p below [] e i = omega arith
ascii_of p below (byte ∷ bytes) e zero = below byte (and_both (p byte) (list_all p bytes) e).0
ascii_of p below (byte ∷ bytes) e (suc i) = ascii_of p below bytes (and_both (p byte) (list_all p bytes) e).1 i

pub host_utf8 : (host : List ℕ) → list_all is_host_byte host ≡ true → IsUtf8 host
host_utf8 host e = IsUtf8-from_ascii host (ascii_of is_host_byte host_below host e)

pub path_utf8 : (path : List ℕ) → list_all is_path_byte path ≡ true → IsUtf8 path
path_utf8 path e = IsUtf8-from_ascii path (ascii_of is_path_byte path_below path e)

module _ (p : ℕ → Bool) where
  all_cases : (b : Bool) (x : ℕ) (xs : List ℕ) → p x ≡ b → list_all p (take (length (take_while p xs)) xs) ≡ true
      → list_all p (take (length (cond b (x ∷ take_while p xs) [])) (x ∷ xs)) ≡ true
  all_cases true x xs e later = ap (λ b. b && list_all p (take (length (take_while p xs)) xs)) e ∙ later
  all_cases false x xs e later = refl

  all_take : (xs : List ℕ) → list_all p (take (length (take_while p xs)) xs) ≡ true
  all_take [] = refl
  all_take (x ∷ xs) = ap (λ front. list_all p (take (length front) (x ∷ xs))) (take_while-cons p x xs) ∙ all_cases (p x) x xs refl (all_take xs)

  pub all_front : (xs front : List ℕ) (n : ℕ) → n ≡ length (take_while p xs) → front ≡ take n xs → list_all p front ≡ true
  all_front xs front n len is = ap (list_all p) (is ∙ ap (λ n. take n xs) len) ∙ all_take xs

  front_cases : (b : Bool) (x : ℕ) (xs : List ℕ) → take (length (take_while p xs)) xs ≡ take_while p xs
      → take (length (cond b (x ∷ take_while p xs) [])) (x ∷ xs) ≡ cond b (x ∷ take_while p xs) []
  front_cases true x xs later = ap (λ l. x ∷ l) later
  front_cases false x xs later = refl

  take_front : (xs : List ℕ) → take (length (take_while p xs)) xs ≡ take_while p xs
  take_front [] = refl
  take_front (x ∷ xs) = subst (λ (front : List ℕ). take (length front) (x ∷ xs) ≡ front) (sym (take_while-cons p x xs)) (front_cases (p x) x xs (take_front xs))

  pub front_is : (xs front : List ℕ) (n : ℕ) → n ≡ length (take_while p xs) → front ≡ take n xs → front ≡ take_while p xs
  front_is xs front n len is = is ∙ ap (λ n. take n xs) len ∙ take_front xs
