-- Characters within quotation marks.
use Rattle.std.proofs.Common.{◌≡◌, ◌∙◌, ℕ, ◌+◌, ◌-◌, ◌^◌, ◌/◌, ◌<◌, ◌≤◌, ◌≢◌, Bool, true, false, nat_eq, nat_lt, cond, List, [], ◌∷◌, ◌++◌, refl, ap, sym, arith, rules, append_assoc}
use lib.Utf8.{encode, encodes, next}
use Rattle.std.proofs.lemmas.Str.{encodes-append, encode_ascii}
use Rattle.std.proofs.lemmas.Fmt.{hex_byte}
use Rattle.std.specs.Fmt.{padded_integral, format_spec, digits}
use Rattle.message_codec.proofs.ColumnLaws.{append-nothing}
use Rattle.message_texts.specs.Words.{quoted, quoted_byte, quoted_bytes}

pub quoted-append : (xs ys : List ℕ) → quoted_bytes (xs ++ ys) ≡ quoted_bytes xs ++ quoted_bytes ys
quoted-append [] ys = refl
quoted-append (x ∷ xs) ys = ap (λ (bs : List ℕ). quoted_byte x ++ bs) (quoted-append xs ys) ∙ sym (append_assoc (quoted_byte x) (quoted_bytes xs) (quoted_bytes ys))

plain : (b : ℕ) → nat_eq b 34 ≡ false → nat_eq b 92 ≡ false → nat_eq b 10 ≡ false → nat_lt b 32 ≡ false → nat_eq b 127 ≡ false → quoted_byte b ≡ b ∷ []
plain b mark slash feed low delete = rw (mark, slash, feed, low, delete) refl

-- a byte above 127 stands for itself
high : (b : ℕ) → 128 ≤ b → quoted_byte b ≡ b ∷ []
high b h = plain b (search rules) (search rules) (search rules) (search rules) (search rules)

either : (x : Bool) (xs ys : List ℕ) → quoted_bytes xs ≡ xs → quoted_bytes ys ≡ ys → quoted_bytes (cond x xs ys) ≡ cond x xs ys
either true xs ys l r = l
either false xs ys l r = r

more : (b : ℕ) (bs : List ℕ) → quoted_byte b ≡ b ∷ [] → quoted_bytes bs ≡ bs → quoted_bytes (b ∷ bs) ≡ b ∷ bs
more b bs p q = rw (p, q) refl

-- a byte above 127 in front
before : (b : ℕ) (bs : List ℕ) → 128 ≤ b → quoted_bytes bs ≡ bs → quoted_bytes (b ∷ bs) ≡ b ∷ bs
before b bs h q = more b bs (high b h) q

stands : (c : ℕ) → quoted_byte c ≡ c ∷ [] → quoted_bytes (encode c) ≡ encode c
unfolding encode
stands c p =
    let last = before (next c) [] (omega arith) refl in
    let third = before (next (c / 64)) (next c ∷ []) (omega arith) last in
    let second = before (next (c / 4096)) (next (c / 64) ∷ next c ∷ []) (omega arith) third in
    either (nat_lt c 128) (c ∷ []) _ (more c [] p refl)
    (either (nat_lt c 2048) ((192 + c / 64) ∷ next c ∷ []) _ (before (192 + c / 64) (next c ∷ []) (omega arith) last)
    (either (nat_lt c 65536) ((224 + c / 4096) ∷ next (c / 64) ∷ next c ∷ []) ((240 + c / 262144) ∷ next (c / 4096) ∷ next (c / 64) ∷ next c ∷ [])
    (before (224 + c / 4096) (next (c / 64) ∷ next c ∷ []) (omega arith) third)
    (before (240 + c / 262144) (next (c / 4096) ∷ next (c / 64) ∷ next c ∷ []) (omega arith) second)))

-- a character that is none of the special ones stands for itself
pub quoted_plain : (c : ℕ) → 32 ≤ c → c ≢ 34 → c ≢ 92 → c ≢ 127 → quoted_bytes (encode c) ≡ encode c
quoted_plain c low mark slash delete = stands c (plain c (search rules) (search rules) (search rules) (search rules) (search rules))

-- a control character is `\x` and what `{:02x}` writes
pub quoted_control : (c : ℕ) → c < 32 → c ≢ 10 → quoted_bytes (encode c) ≡ 92 ∷ 120 ∷ padded_integral (format_spec 32 0 4 2 (2 ^ 64 - 1)) false [] (digits 16 false c)
quoted_control c low feed =
    let mark : nat_eq c 34 ≡ false = search rules in
    let slash : nat_eq c 92 ≡ false = search rules in
    let line : nat_eq c 10 ≡ false = search rules in
    let control : nat_lt c 32 ≡ true = search rules in
    rw (encode_ascii c (omega arith), mark, slash, line, control, hex_byte false c (omega arith)) refl

-- one character more
pub quoted_more : (cs : List ℕ) (c : ℕ) (old new : List ℕ) → old ≡ 34 ∷ quoted_bytes (encodes cs) → new ≡ old ++ quoted_bytes (encode c) → new ≡ 34 ∷ quoted_bytes (encodes (cs ++ c ∷ []))
quoted_more cs c old new e n =
    n ∙ ap (λ (bs : List ℕ). bs ++ quoted_bytes (encode c)) e
    ∙ ap (λ (bs : List ℕ). 34 ∷ bs) (ap (λ (bs : List ℕ). quoted_bytes (encodes cs) ++ quoted_bytes bs) (sym (append-nothing (encode c))) ∙ sym (quoted-append (encodes cs) (encodes (c ∷ []))) ∙ ap quoted_bytes (sym (encodes-append cs (c ∷ []))))

-- the closing mark
pub quoted_whole : (cs text old new : List ℕ) → old ≡ 34 ∷ quoted_bytes (encodes cs) → encodes cs ≡ text → new ≡ old ++ encode 34 → new ≡ quoted text
unfolding quoted
quoted_whole cs text old new e is n = n ∙ ap (λ (bs : List ℕ). old ++ bs) (encode_ascii 34 (omega arith)) ∙ ap (λ (bs : List ℕ). bs ++ 34 ∷ []) (e ∙ ap (λ (bs : List ℕ). 34 ∷ quoted_bytes bs) is)
