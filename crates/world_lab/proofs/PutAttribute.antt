-- An attribute that is put in its place or at the end.
use Rattle.std.proofs.Common.{◌≡◌, ◌∙◌, ℕ, suc, ◌+◌, ◌<◌, ◌≤◌, List, [], ◌∷◌, ◌++◌, length, set, Bool, true, false, not, cond, Some, None, ap, sym, refl, arith}
use Rattle.std.proofs.lemmas.Grind.{common_steps}
use Rattle.std.specs.List.{position, position_or_len}
use Rattle.std.specs.Str.{bytes_eq}
use Rattle.message_values.specs.declared.attributes.KeyValue.{KeyValue}
use Rattle.world_lab.specs.Playing.{put_attribute, text_attribute}

abbrev pub has_key : List ℕ → KeyValue → Bool
has_key key a = bytes_eq a.key key

abbrev place : List ℕ → List KeyValue → ℕ
place key held = position_or_len (λ a. bytes_eq a.key key) held

put_found : (key text : List ℕ) (held : List KeyValue) → place key held < length held → put_attribute held key text ≡ set held (place key held) (text_attribute key text)
put_found key text [] h = absurd (omega (arith, h))
put_found key text (a ∷ others) h = at_key (λ within. put_found key text others within) (bytes_eq a.key key) h
  where
    at_key : (place key others < length others → put_attribute others key text ≡ set others (place key others) (text_attribute key text))
        → (b : Bool) → cond (not b) (1 + place key others) 0 < suc (length others)
        → cond b (text_attribute key text ∷ others) (a ∷ put_attribute others key text) ≡ set (a ∷ others) (cond (not b) (1 + place key others) 0) (text_attribute key text)
    at_key rest true e = refl
    at_key rest false e =
        let behind : 1 + place key others ≡ suc (place key others) = omega arith in
        rw behind (ap (λ (made : List KeyValue). a ∷ made) (rest (omega (arith, e))))

put_free : (key text : List ℕ) (held : List KeyValue) → length held ≤ place key held → put_attribute held key text ≡ held ++ text_attribute key text ∷ []
put_free key text [] h = refl
put_free key text (a ∷ others) h = at_key (λ past. put_free key text others past) (bytes_eq a.key key) h
  where
    at_key : (length others ≤ place key others → put_attribute others key text ≡ others ++ text_attribute key text ∷ [])
        → (b : Bool) → suc (length others) ≤ cond (not b) (1 + place key others) 0
        → cond b (text_attribute key text ∷ others) (a ∷ put_attribute others key text) ≡ a ∷ (others ++ text_attribute key text ∷ [])
    at_key rest true e = absurd (omega (arith, e))
    at_key rest false e = ap (λ (made : List KeyValue). a ∷ made) (rest (omega (arith, e)))

-- the attribute is written over at the place where its key was found
pub within_at : (key : List ℕ) (held : List KeyValue) (at : ℕ) → position (λ a. bytes_eq a.key key) held ≡ Some at → at < length held
within_at key held at e = grind (arith, common_steps)

pub put_at_place : (key text : List ℕ) (held items made : List KeyValue) (a : KeyValue) (at : ℕ) → position (λ a. bytes_eq a.key key) held ≡ Some at
    → items ≡ held → a ≡ text_attribute key text → made ≡ set items at a → made ≡ put_attribute held key text
put_at_place key text held items made a at e same attribute step =
    let found : place key held ≡ at = grind (arith, common_steps) in
    let within : at < length held = within_at key held at e in
    step
    ∙ ap (λ xs. set xs at a) same
    ∙ ap (λ x. set held at x) attribute
    ∙ ap (λ (n : ℕ). set held n (text_attribute key text)) (sym found)
    ∙ sym (put_found key text held (omega (arith, found, within)))

-- it comes at the end where its key wasn't found
pub put_at_end : (key text : List ℕ) (held items made : List KeyValue) (a : KeyValue) → position (λ a. bytes_eq a.key key) held ≡ None
    → items ≡ held → a ≡ text_attribute key text → made ≡ items ++ a ∷ [] → made ≡ put_attribute held key text
put_at_end key text held items made a e same attribute step =
    let past : length held ≤ place key held = grind (arith, common_steps) in
    step
    ∙ ap (λ xs. xs ++ a ∷ []) same
    ∙ ap (λ x. held ++ x ∷ []) attribute
    ∙ sym (put_free key text held past)
