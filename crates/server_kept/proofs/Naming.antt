-- Names of agents' files.
use Rattle.std.proofs.Common.{◌≡◌, ℕ, zero, suc, ◌*◌, ◌/◌, ◌%◌, ◌<◌, ◌==◌, Bool, true, false, ◌&&◌, List, [], ◌∷◌, length, slice_index, Ok, Err, nat_le, refl, sym, ◌∙◌, ap, subst, arith, inl, inr}
use Rattle.std.specs.Prelude.{not}
use Rattle.std.specs.List.{list_all}
use Rattle.std.specs.Str.{bytes_eq}
use Rattle.std.specs.Cmp.Lexicographic.{bytes_decides}
use Rattle.std.proofs.lemmas.Bool.{and_parts, cases_lt}
use Rattle.hex.specs.Hex.{IsBytes, decode_of, decode_sized, encode_lower, encode_with, lower_digits}
use Rattle.hex.proofs.HexLemmas.{decode_of-encode_lower, decode_sized-encode_lower, length-encode_with}
use Rattle.hex.specs.declared.error.FromHexError.{FromHexError}
use Rattle.edge_devices.specs.Names.{begins_with_dot, is_good_name, is_name_byte}
use Rattle.server_kept.specs.Files.{IsUid, file_name}

-- each of the first n digits is a letter or a digit, and no dot
abbrev is_fit : ℕ → Bool
is_fit d = is_name_byte (slice_index lower_digits d) && not (slice_index lower_digits d == 46)

abbrev all_fit : ℕ → Bool
all_fit zero = true
all_fit (suc n) = is_fit n && all_fit n

fit_below : (n k : ℕ) → all_fit n ≡ true → k < n → is_fit k ≡ true
fit_below zero k h lt = absurd (omega (arith, lt))
fit_below (suc n) k h lt =
    let parts = and_parts (is_fit n) (all_fit n) h in
    elim (cases_lt k n) [
      | inl below ↦ fit_below n k parts.1 below
      | inr top ↦ subst (λ j. is_fit j ≡ true) (let e : n ≡ k = omega (arith, lt, top) in e) parts.0
    ]

fit : (k : ℕ) → k < 16 → is_fit k ≡ true
fit k lt = fit_below 16 k refl lt

fit_name : (k : ℕ) → k < 16 → is_name_byte (slice_index lower_digits k) ≡ true
fit_name k lt = (and_parts (is_name_byte (slice_index lower_digits k)) (not (slice_index lower_digits k == 46)) (fit k lt)).0

fit_dot : (k : ℕ) → k < 16 → not (slice_index lower_digits k == 46) ≡ true
fit_dot k lt = (and_parts (is_name_byte (slice_index lower_digits k)) (not (slice_index lower_digits k == 46)) (fit k lt)).1

all_name : (bs : List ℕ) → IsBytes bs → list_all is_name_byte (encode_lower bs) ≡ true
unfolding encode_with
all_name [] h = refl
all_name (b ∷ bs) h =
    let at : b < 256 = h 0 in
    let high : b / 16 < 16 = omega arith in
    let low : b % 16 < 16 = omega arith in
    ap (λ x. x && (is_name_byte (slice_index lower_digits (b % 16)) && list_all is_name_byte (encode_lower bs))) (fit_name (b / 16) high)
    ∙ ap (λ x. x && list_all is_name_byte (encode_lower bs)) (fit_name (b % 16) low)
    ∙ all_name bs (λ k. h (suc k))

no_dot : (bs : List ℕ) → IsBytes bs → not (begins_with_dot (encode_lower bs)) ≡ true
unfolding encode_with
no_dot [] h = refl
no_dot (b ∷ bs) h = let at : b < 256 = h 0 in let high : b / 16 < 16 = omega arith in fit_dot (b / 16) high

pub good_name : (uid : List ℕ) → IsUid uid → is_good_name (file_name uid) ≡ true
good_name uid is =
    let len : length (file_name uid) ≡ 32 = length-encode_with lower_digits uid ∙ ap (λ n. 2 * n) is.len in
    ap (λ n. (nat_le 1 n && nat_le n 255) && (not (begins_with_dot (file_name uid)) && list_all is_name_byte (file_name uid))) len
    ∙ ap (λ x. x && list_all is_name_byte (file_name uid)) (no_dot uid is.bytes) ∙ all_name uid is.bytes

ok_same : (a b : List ℕ) → decode_of (file_name a) ≡ Ok a → decode_of (file_name b) ≡ Ok b → file_name a ≡ file_name b → a ≡ b
ok_same a b da db e = cc (sym da ∙ ap decode_of e ∙ db)

-- each agent has a name of its own
pub one_name : (a b : List ℕ) → IsUid a → IsUid b → file_name a ≡ file_name b → a ≡ b
one_name a b ia ib e = ok_same a b (decode_of-encode_lower a ia.bytes) (decode_of-encode_lower b ib.bytes) e

by_names : (a b : List ℕ) → IsUid a → IsUid b → bytes_eq a b ≡ false → (same : Bool) → bytes_eq (file_name a) (file_name b) ≡ same → same ≡ false
by_names a b ia ib differ false e = refl
by_names a b ia ib differ true e = absurd (cc (sym ((bytes_decides a b).1 (one_name a b ia ib ((bytes_decides (file_name a) (file_name b)).0 e))) ∙ differ))

pub names_differ : (a b : List ℕ) → IsUid a → IsUid b → bytes_eq a b ≡ false → bytes_eq (file_name a) (file_name b) ≡ false
names_differ a b ia ib differ = by_names a b ia ib differ (bytes_eq (file_name a) (file_name b)) refl

back : (uid : List ℕ) (name : List ℕ) → IsUid uid → file_name uid ≡ name → decode_sized name 16 ≡ Ok uid
back uid name iu named = subst (λ n. decode_sized n 16 ≡ Ok uid) named (decode_sized-encode_lower uid 16 iu.len iu.bytes)

-- an agent's name is read
pub read_name : (e : FromHexError) (name : List ℕ) (uid : List ℕ) → IsUid uid → file_name uid ≡ name → decode_sized name 16 ≡ Err e → ⊥
read_name e name uid iu named fails = cc (sym fails ∙ back uid name iu named)

-- as its own
pub own_name : (bytes name uid : List ℕ) → IsUid uid → file_name uid ≡ name → decode_sized name 16 ≡ Ok bytes → bytes ≡ uid
own_name bytes name uid iu named reads = cc (sym reads ∙ back uid name iu named)
