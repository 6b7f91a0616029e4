-- Bytes that stand in an image.
use Rattle.std.proofs.Common.{◌≡◌, ℕ, zero, suc, ◌+◌, ◌<◌, ◌≤◌, ⊎_elim, List, [], ◌∷◌, ◌++◌, length, get_or, take, drop, sym, ◌∙◌, ap, refl, arith, length-append, length-take, length-drop}
use Rattle.std.proofs.lemmas.Bool.{cases_lt}
use Rattle.std.proofs.lemmas.List.{ext_get_or, get_or_append_left, get_or-append-add, get_or_push, get_or-take, get_or-drop}
use Rattle.edge_devices.specs.Disks.{HasBytes}
use Rattle.agent_store.specs.Log.{bytes_at}

-- images that agree on these n places have the same bytes there
pub bytes_at-agree : (f g : ℕ → ℕ) (at n : ℕ) → ((p : ℕ) → at ≤ p → p < at + n → f p ≡ g p) → bytes_at f at n ≡ bytes_at g at n
unfolding bytes_at
bytes_at-agree f g at zero same = refl
bytes_at-agree f g at (suc n) same =
    let rest : bytes_at f at n ≡ bytes_at g at n = bytes_at-agree f g at n (λ p low high. same p low (omega arith)) in
    let last : f (at + n) ≡ g (at + n) = same (at + n) (omega arith) (omega arith) in
    λ i. rest i ++ last i ∷ []

pub length-bytes_at : (f : ℕ → ℕ) (at n : ℕ) → length (bytes_at f at n) ≡ n
unfolding bytes_at
length-bytes_at f at zero = refl
length-bytes_at f at (suc n) = omega (arith, length-bytes_at f at n, length-append (bytes_at f at n) (f (at + n) ∷ []))

pub get_or-bytes_at : (f : ℕ → ℕ) (at n k : ℕ) → k < n → get_or (bytes_at f at n) k 0 ≡ f (at + k)
unfolding bytes_at
get_or-bytes_at f at zero k less = absurd (omega arith)
get_or-bytes_at f at (suc n) k less = ⊎_elim
    (λ (before : k < n). get_or_append_left (bytes_at f at n) (f (at + n) ∷ []) 0 k (omega (arith, length-bytes_at f at n)) ∙ get_or-bytes_at f at n k before)
    (λ (after : n ≤ k). let last : n ≡ k = omega arith in get_or_push (bytes_at f at n) (f (at + n)) 0 k (length-bytes_at f at n ∙ last) ∙ ap (λ (m : ℕ). f (at + m)) last)
    (cases_lt k n)

pub bytes_at-has : (f : ℕ → ℕ) (at n : ℕ) (xs : List ℕ) → n ≡ length xs → HasBytes f at xs → bytes_at f at n ≡ xs
bytes_at-has f at n xs is has =
    ext_get_or 0 (bytes_at f at n) xs (length-bytes_at f at n ∙ is) (λ k less. let low : k < n = omega (arith, length-bytes_at f at n) in get_or-bytes_at f at n k low ∙ has k (omega arith))

pub has_left : (f : ℕ → ℕ) (at : ℕ) (xs ys : List ℕ) → HasBytes f at (xs ++ ys) → HasBytes f at xs
has_left f at xs ys has = λ k less. has k (omega (arith, length-append xs ys)) ∙ get_or_append_left xs ys 0 k less

pub has_right : (f : ℕ → ℕ) (at to : ℕ) (xs ys : List ℕ) → to ≡ at + length xs → HasBytes f at (xs ++ ys) → HasBytes f to ys
has_right f at to xs ys is has = λ k less.
    let place : to + k ≡ at + (length xs + k) = omega arith in
    ap f place ∙ has (length xs + k) (omega (arith, length-append xs ys)) ∙ get_or-append-add xs ys k 0

-- a part of bytes that stand somewhere
pub bytes_at-part : (image : ℕ → ℕ) (at from n : ℕ) (bytes : List ℕ) → from + n ≤ length bytes → HasBytes image at bytes → bytes_at image (at + from) n ≡ take n (drop from bytes)
bytes_at-part image at from n bytes fits has =
    ext_get_or 0 (bytes_at image (at + from) n) (take n (drop from bytes)) (length-bytes_at image (at + from) n ∙ omega (arith, length-take n (drop from bytes), length-drop from bytes)) (λ k less.
    let low : k < n = omega (arith, length-bytes_at image (at + from) n) in
    let place : at + from + k ≡ at + (from + k) = omega arith in
    get_or-bytes_at image (at + from) n k low ∙ ap image place ∙ has (from + k) (omega arith) ∙ sym (get_or-take n (drop from bytes) k 0 low ∙ get_or-drop from bytes k 0))
