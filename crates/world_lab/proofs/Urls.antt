-- The URLs that scripts offer.
use Rattle.std.proofs.Common.{◌≡◌, ◌∙◌, ◌⊎◌, ℕ, ◌+◌, ◌-◌, ◌<◌, zero, suc, true, false, List, [], ◌∷◌, ◌++◌, length, drop, codes, is_some, nat_eq, refl, inl, inr, ap, arith}
use Rattle.std.specs.Char.{is_ascii_digit}
use Rattle.std.specs.List.{starts_with}
use Rattle.std.proofs.lemmas.Bool.{and_parts, or_cases}
use Rattle.std.proofs.lemmas.Bool.Decides.{nat_tests, Decides-eqb}
use Rattle.std.proofs.lemmas.Slice.Eq.{starts_is}
use Rattle.edge_devices.specs.Endpoints.{after_scheme, is_endpoint}
use Rattle.agent_rules.specs.Half.{is_empty}
use Rattle.world_scripts.specs.Words.{is_url, is_before_digit, digit_number}
use Rattle.world_lab.specs.Playing.{endpoint_of}
use Rattle.world_lab.specs.Mirrors.{IsServer, IsOffered}

-- a digit, in front of which this stands
record EndsInDigit (front word : List ℕ) : Type 0 where
  digit : ℕ
  below : digit < 10
  is : word ≡ front ++ (48 + digit) ∷ []

digit_below : (b : ℕ) → is_ascii_digit b ≡ true → b - 48 < 10
digit_below b is = grind (arith, nat_tests)

digit_back : (b : ℕ) → is_ascii_digit b ≡ true → 48 + (b - 48) ≡ b
digit_back b is = grind (arith, nat_tests)

digit_of_number : (word : List ℕ) → is_some (digit_number word) ≡ true → (b : ℕ) × (word ≡ b ∷ []) × (is_ascii_digit b ≡ true)
digit_of_number [] is = absurd (cc)
digit_of_number (b ∷ []) is = (b, refl, grind (arith, nat_tests))
digit_of_number (b ∷ c ∷ word) is = absurd (cc)

ends_in_digit : (front word : List ℕ) → is_before_digit front word ≡ true → EndsInDigit front word
ends_in_digit front word is =
    let parts = and_parts (starts_with nat_eq word front) (is_some (digit_number (drop (length front) word))) is in
    let whole : word ≡ front ++ drop (length front) word = (starts_is Decides-eqb word front (starts_with nat_eq word front) refl).0 parts.0 in
    let found = digit_of_number (drop (length front) word) parts.1 in
    let split : word ≡ front ++ found.0 ∷ [] = rw (← found.1) whole in
    record {
      digit = found.0 - 48;
      below = digit_below found.0 found.2;
      is = rw (digit_back found.0 found.2) split;
    }

-- an agent of this profile uses no secure endpoint
secure_is_none : (digit : ℕ) → is_endpoint (codes "wss://s" ++ (48 + digit) ∷ []) ≡ false
unfolding after_scheme
secure_is_none digit = refl

pub url_is_offered : (url : List ℕ) → is_url url ≡ true → IsOffered url
url_is_offered url is = by_scheme (or_cases (is_before_digit (codes "http://s") url) (is_before_digit (codes "wss://s") url) is)
  where
    by_scheme : (is_before_digit (codes "http://s") url ≡ true) ⊎ (is_before_digit (codes "wss://s") url ≡ true) → IsOffered url
    by_scheme (inl plain) =
        let end = ends_in_digit (codes "http://s") url plain in
        inl (record { server = end.digit; digit = end.below; is = end.is })
    by_scheme (inr secure) =
        let end = ends_in_digit (codes "wss://s") url secure in
        inr (ap is_endpoint end.is ∙ secure_is_none end.digit, ap is_empty end.is)

of_digit : (server : ℕ) → server < 10 → is_endpoint (endpoint_of server) ≡ true
unfolding after_scheme
of_digit zero digit = refl
of_digit (suc zero) digit = refl
of_digit (suc (suc zero)) digit = refl
of_digit (suc (suc (suc zero))) digit = refl
of_digit (suc (suc (suc (suc zero)))) digit = refl
of_digit (suc (suc (suc (suc (suc zero))))) digit = refl
of_digit (suc (suc (suc (suc (suc (suc zero)))))) digit = refl
of_digit (suc (suc (suc (suc (suc (suc (suc zero))))))) digit = refl
of_digit (suc (suc (suc (suc (suc (suc (suc (suc zero)))))))) digit = refl
of_digit (suc (suc (suc (suc (suc (suc (suc (suc (suc zero))))))))) digit = refl
of_digit (suc (suc (suc (suc (suc (suc (suc (suc (suc (suc server)))))))))) digit = absurd (omega (arith, digit))

-- a server's endpoint is one
pub server_is_endpoint : (endpoint : List ℕ) → IsServer endpoint → is_endpoint endpoint ≡ true
server_is_endpoint endpoint is = ap is_endpoint is.is ∙ of_digit is.server is.digit
