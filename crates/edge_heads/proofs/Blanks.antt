-- Where the blank after a method stands.
use Rattle.std.proofs.Common.{◌≡◌, ℕ, ◌+◌, ◌<◌, ◌≤◌, ◌≢◌, true, false, not, List, [], ◌∷◌, ◌++◌, length, get_or, take, drop, refl, sym, ap, ◌∙◌, subst, arith, append_assoc, ne_eqb, add-one, inl, inr, get_or-take}
use Rattle.std.proofs.Math.Seq.{drop-cons}
use Rattle.std.proofs.lemmas.List.{take_more, take-append-drop, length-take-le}
use Rattle.std.proofs.lemmas.List.Elements.{All-head, All-tail, All-nil, All-append, All-cons, All-from_get_or}
use Rattle.std.proofs.lemmas.Str.Ascii.{IsAscii-cons, IsAscii-nil}
use Rattle.std.proofs.lemmas.Str.{IsUtf8-from_ascii}
use Rattle.httparse.specs.Grammar.{is_token_byte, is_uri_byte, IsField, AllPass, IsToken, LineEnd, crlf, lf, print_blank, print_version, RequestHead, IsRequestHead, print_request, ReadsRequest, MayBecomeRequest, EndsInTarget as StillInTarget}
use Rattle.httparse.specs.Spans.{RequestExceeds, RequestOverflows}
use Rattle.httparse.proofs.RunLemmas.{run_unique}
use Rattle.httparse.proofs.GrammarLemmas.{print_request-append}
use Rattle.httparse.proofs.PieceLemmas.{space_ends_token}
use Rattle.edge_heads.specs.declared.values.Side.TheVariants.{Requests}
use Rattle.edge_heads.specs.Heads.{is_target_byte, EndsInTarget}
use Rattle.edge_heads.specs.Targets.{is_no_blank, IsUpToBlank, HasMethod}

Pass : ℕ → Type 0
Pass = λ b. is_no_blank b ≡ true

token-no_blank : (b : ℕ) → is_token_byte b ≡ true → is_no_blank b ≡ true
token-no_blank b token =
    let other : b ≢ 32 = λ e. absurd (let t : true ≡ false = sym token ∙ ap is_token_byte e ∙ space_ends_token in cc) in
    λ i. not (ne_eqb b 32 other i)

tokens-no_blank : (bytes : List ℕ) → AllPass is_token_byte bytes → AllPass is_no_blank bytes
tokens-no_blank [] all = All-nil (λ b. is_no_blank b ≡ true)
tokens-no_blank (b ∷ bytes) all =
    All-cons (λ b. is_no_blank b ≡ true) b bytes (token-no_blank b (All-head (λ b. is_token_byte b ≡ true) b bytes all))
    (tokens-no_blank bytes (All-tail (λ b. is_token_byte b ≡ true) b bytes all))

blanks-no_blank : (ends : List LineEnd) → AllPass is_no_blank (print_blank ends)
blanks-no_blank [] = All-nil (λ b. is_no_blank b ≡ true)
blanks-no_blank (crlf ∷ ends) =
    All-cons (λ b. is_no_blank b ≡ true) 13 (10 ∷ print_blank ends) refl (All-cons (λ b. is_no_blank b ≡ true) 10 (print_blank ends) refl (blanks-no_blank ends))
blanks-no_blank (lf ∷ ends) = All-cons (λ b. is_no_blank b ≡ true) 10 (print_blank ends) refl (blanks-no_blank ends)

pub front-no_blank : (blank : List LineEnd) (method : List ℕ) → IsToken method → AllPass is_no_blank (print_blank blank ++ method)
front-no_blank blank method token =
    All-append (λ b. is_no_blank b ≡ true) (print_blank blank) method (blanks-no_blank blank) (tokens-no_blank method token.1)

-- the first blank splits bytes in one way
pub split_unique : (a b r q : List ℕ) → AllPass is_no_blank a → AllPass is_no_blank b → a ++ 32 ∷ r ≡ b ++ 32 ∷ q → (a ≡ b) × (r ≡ q)
split_unique a b r q pa pb e =
    let same = run_unique is_no_blank a b (32 ∷ r) (32 ∷ q) pa pb refl refl e in
    let rests : 32 ∷ r ≡ 32 ∷ q = same.1 in
    (same.0, cc)

pub request_split : (h : RequestHead) (rest : List ℕ)
    → (after : List ℕ) × (print_request h ++ rest ≡ (print_blank h.blank ++ h.method) ++ 32 ∷ after)
request_split h rest = (_, print_request-append h rest ∙ sym (append_assoc (print_blank h.blank) h.method _))

-- a request whose bytes begin so has a method there
pub method_read : (bytes more rest : List ℕ) (h : RequestHead) → IsUpToBlank bytes → ReadsRequest (bytes ++ more) h rest → HasMethod bytes
method_read bytes more rest h up x =
    let front = up.0 in
    let split = request_split h rest in
    let begins : front ++ 32 ∷ more ≡ bytes ++ more = sym (append_assoc front (32 ∷ []) more) ∙ ap (λ (t : List ℕ). t ++ more) (sym up.2) in
    let same = split_unique front (print_blank h.blank ++ h.method) more split.0 up.1 (front-no_blank h.blank h.method x.0.method) (begins ∙ x.1 ∙ split.1) in
    (h.blank, h.method, x.0.method, up.2 ∙ ap (λ (t : List ℕ). t ++ 32 ∷ []) same.0)

pub method_in_target : (bytes : List ℕ) → IsUpToBlank bytes → StillInTarget bytes → HasMethod bytes
method_in_target bytes up x =
    let same = split_unique up.0 (print_blank x.0 ++ x.1) [] x.2 up.1 (front-no_blank x.0 x.1 x.3) (sym up.2 ∙ x.5) in
    (x.0, x.1, x.3, up.2 ∙ ap (λ (t : List ℕ). t ++ 32 ∷ []) same.0)

pub method_begun : (bytes : List ℕ) → IsUpToBlank bytes → MayBecomeRequest bytes → HasMethod bytes
method_begun bytes up x = elim x [
  | inl whole ↦ method_read bytes whole.0 [] whole.1 up whole.2
  | inr inside ↦ method_in_target bytes up inside
]

-- what comes before a last line feed has the blank too
before_feed : (a y r : List ℕ) → a ++ 10 ∷ [] ≡ y ++ 32 ∷ r → (rest : List ℕ) × (a ≡ y ++ 32 ∷ rest)
before_feed [] [] r e = absurd (cc)
before_feed (v ∷ a) [] r e = let first : v ≡ 32 = cc in (a, ap (λ (b : ℕ). b ∷ a) first)
before_feed [] (b ∷ []) r e = absurd (cc)
before_feed [] (b ∷ (d ∷ y)) r e = absurd (cc)
before_feed (v ∷ a) (b ∷ y) r e =
    let tails : a ++ 10 ∷ [] ≡ y ++ 32 ∷ r = cc in
    let first : v ≡ b = cc in
    let found = before_feed a y r tails in
    (found.0, (λ i. first i ∷ found.1 i))

pub method_exceeds : (room : ℕ) (bytes : List ℕ) → IsUpToBlank bytes → RequestExceeds room bytes → HasMethod bytes
method_exceeds room bytes up x =
    let h = x.3 in
    let split = request_split h [] in
    let y = print_blank h.blank ++ h.method in
    let found = before_feed x.0 y split.0 (x.4.1 ∙ split.1) in
    let begins : up.0 ++ 32 ∷ [] ≡ y ++ 32 ∷ (found.0 ++ x.1) =
    sym up.2 ∙ x.2 ∙ ap (λ (t : List ℕ). t ++ x.1) found.1 ∙ append_assoc y (32 ∷ found.0) x.1 in
    let same = split_unique up.0 y [] (found.0 ++ x.1) up.1 (front-no_blank h.blank h.method x.4.0.method) begins in
    (h.blank, h.method, x.4.0.method, up.2 ∙ ap (λ (t : List ℕ). t ++ 32 ∷ []) same.0)

-- a method can be continued to a head
abbrev some_head : List LineEnd → List ℕ → RequestHead
some_head blank method = record { blank = blank; method = method; target = 47 ∷ []; minor = 1; line_end = lf; fields = []; last = lf }

pub overflowing_method : (room : ℕ) (bytes : List ℕ) → RequestOverflows room bytes → HasMethod bytes → ⊥
overflowing_method room bytes over x =
    let h = some_head x.0 x.1 in
    let more : List ℕ = 47 ∷ 32 ∷ (print_version 1 ++ 10 ∷ 10 ∷ []) in
    let is_head : IsRequestHead h = record {
      method = x.2;
      target = (omega arith, All-cons (λ b. is_uri_byte b ≡ true) 47 [] refl (All-nil (λ b. is_uri_byte b ≡ true)));
      target_text = IsUtf8-from_ascii _ (IsAscii-cons 47 [] (omega arith) IsAscii-nil);
      minor = omega arith;
      fields = All-nil IsField;
    } in
    let many : room < 0 = over more h [] (
      is_head,
      ap (λ (t : List ℕ). t ++ more) x.3 ∙ append_assoc (print_blank x.0 ++ x.1) (32 ∷ []) more
          ∙ append_assoc (print_blank x.0) x.1 (32 ∷ more) ∙ sym (print_request-append h []),
    ) in
    omega arith

-- ---- the whole test

pub in_target : (bytes front target : List ℕ) → AllPass is_target_byte target → bytes ≡ front ++ 32 ∷ target → HasMethod (front ++ 32 ∷ [])
    → AllPass is_no_blank front → EndsInTarget Requests bytes
in_target bytes front target all e x clear =
    let same = split_unique front (print_blank x.0 ++ x.1) [] [] clear (front-no_blank x.0 x.1 x.2) x.3 in
    (x.0, x.1, target, x.2, all, e ∙ ap (λ (t : List ℕ). t ++ 32 ∷ target) same.0)

pub from_in_target : (bytes front target : List ℕ) → AllPass is_no_blank front → bytes ≡ front ++ 32 ∷ target → EndsInTarget Requests bytes
    → AllPass is_target_byte target × HasMethod (front ++ 32 ∷ [])
from_in_target bytes front target clear e x =
    let same = split_unique front (print_blank x.0 ++ x.1) target x.2 clear (front-no_blank x.0 x.1 x.3) (sym e ∙ x.5) in
    (subst (λ (t : List ℕ). AllPass is_target_byte t) (sym same.1) x.4, (x.0, x.1, x.3, ap (λ (t : List ℕ). t ++ 32 ∷ []) same.0))

-- bytes without a blank don't end in a target
pub no_target : (bytes : List ℕ) → AllPass is_no_blank bytes → EndsInTarget Requests bytes → ⊥
no_target bytes all x = clash (print_blank x.0 ++ x.1) x.2 (subst (λ (t : List ℕ). AllPass is_no_blank t) x.5 all)
  where
    clash : (a r : List ℕ) → AllPass is_no_blank (a ++ 32 ∷ r) → ⊥
    clash [] r p = absurd (let t : false ≡ true = All-head (λ b. is_no_blank b ≡ true) 32 r p in cc)
    clash (b ∷ a) r p = clash a r (All-tail (λ b. is_no_blank b ≡ true) b (a ++ 32 ∷ r) p)

clear_byte : (b : ℕ) → b ≢ 32 → is_no_blank b ≡ true
clear_byte b other = λ i. not (ne_eqb b 32 other i)

pub clear_all : (bytes : List ℕ) → ((k : ℕ) → k < length bytes → get_or bytes k 0 ≢ 32) → AllPass is_no_blank bytes
clear_all bytes h = All-from_get_or (λ b. is_no_blank b ≡ true) bytes 0 (λ k below. clear_byte (get_or bytes k 0) (h k below))

pub clear_front : (bytes : List ℕ) (at : ℕ) → at ≤ length bytes → ((k : ℕ) → k < at → get_or bytes k 0 ≢ 32) → AllPass is_no_blank (take at bytes)
clear_front bytes at within h = clear_all (take at bytes) (λ k below.
    let len : length (take at bytes) ≡ at = length-take-le at bytes within in
    let lt : k < at = omega arith in
    let same : get_or (take at bytes) k 0 ≡ get_or bytes k 0 = get_or-take at bytes k 0 lt in
    λ e. h k lt (sym same ∙ e))

-- what stands before and after a byte
pub split_at : (bytes : List ℕ) (at b : ℕ) → at < length bytes → get_or bytes at 0 ≡ b → bytes ≡ take at bytes ++ b ∷ drop (at + 1) bytes
split_at bytes at b lt e =
    sym (take-append-drop at bytes) ∙ ap (λ (t : List ℕ). take at bytes ++ t)
    (drop-cons bytes at 0 lt ∙ (λ i. e i ∷ drop (sym (add-one at) i) bytes))

pub take_with : (bytes : List ℕ) (at b : ℕ) → at < length bytes → get_or bytes at 0 ≡ b → take (at + 1) bytes ≡ take at bytes ++ b ∷ []
take_with bytes at b lt e = take_more bytes at 0 lt ∙ ap (λ (v : ℕ). take at bytes ++ v ∷ []) e
