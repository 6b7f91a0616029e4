-- The path at which lines begin tells them from the lines of another path.
use Rattle.std.proofs.Common.{◌≡◌, ◌∙◌, ℕ, ◌+◌, Bool, true, nat_eq, ◌||◌, List, [], ◌∷◌, ◌++◌, refl, ap, sym, subst, arith, append_assoc, codes}
use Rattle.std.specs.Fmt.{decimal}
use Rattle.std.proofs.lemmas.Bool.Decides.{nat_tests}
use Rattle.message_texts.specs.Words.{line, under, item_path, key_path, quoted}
use Rattle.message_texts.proofs.Splits.{rest, Free, splits, cancels, never, decimal_free, next_differs}
use Rattle.message_texts.proofs.Unquoted.{feed, quoted_tells}

-- what stands behind a path: ` `, `.` or `[`
abbrev pub mark : ℕ → Bool
mark c = nat_eq c 32 || (nat_eq c 46 || nat_eq c 91)

-- these lines begin with this path
abbrev pub Starts : List ℕ → List ℕ → Type 0
Starts path lines = (c : ℕ) × (more : List ℕ) × (mark c ≡ true) × (lines ≡ path ++ c ∷ more)

abbrev pub Apart : List ℕ → List ℕ → Type 0
Apart path lines = Starts path lines → ⊥

-- these lines begin with the path of no field of the message at this path
abbrev pub Beyond : List ℕ → List ℕ → Type 0
Beyond path lines = (name : List ℕ) → Apart (under path name) lines

-- a path that is not that of the outermost message
abbrev pub Solid : List ℕ → Type 0
Solid path = (name : List ℕ) → under path name ≡ path ++ 46 ∷ name

-- ---- beginnings

nothing_is : (path : List ℕ) (c : ℕ) (more : List ℕ) → [] ≡ path ++ c ∷ more → ⊥
nothing_is [] c more e = never e
nothing_is (b ∷ path) c more e = never e

pub apart_nothing : (path : List ℕ) → Apart path []
apart_nothing path (c, more, m, e) = nothing_is path c more e

pub starts_more : (path lines more : List ℕ) → Starts path lines → Starts path (lines ++ more)
starts_more path lines more (c, xs, m, e) = (c, xs ++ more, m, ap (λ (ls : List ℕ). ls ++ more) e ∙ append_assoc path (c ∷ xs) more)

pub starts_up : (path : List ℕ) (d : ℕ) (deeper lines : List ℕ) → mark d ≡ true → Starts (path ++ d ∷ deeper) lines → Starts path lines
starts_up path d deeper lines t (c, xs, m, e) = (d, deeper ++ c ∷ xs, t, e ∙ append_assoc path (d ∷ deeper) (c ∷ xs))

pub starts_at : (path lines other : List ℕ) → lines ≡ other → Starts path lines → Starts path other
starts_at path lines other e (c, xs, m, is) = (c, xs, m, sym e ∙ is)

pub line_starts : (path value : List ℕ) → Starts path (line path value)
unfolding line
line_starts path value = (32, 61 ∷ 32 ∷ (value ++ 10 ∷ []), refl, refl)

pub line_is : (path value more : List ℕ) → line path value ++ more ≡ (path ++ codes " = ") ++ (value ++ 10 ∷ more)
unfolding line
line_is path value more =
    append_assoc path (codes " = " ++ (value ++ 10 ∷ [])) more
    ∙ ap (λ (xs : List ℕ). path ++ (codes " = " ++ xs)) (append_assoc value (10 ∷ []) more)
    ∙ sym (append_assoc path (codes " = ") (value ++ 10 ∷ more))

-- two lines at one path
pub line_tells : (path v w r s : List ℕ) → Free feed v → Free feed w → line path v ++ r ≡ line path w ++ s → (v ≡ w) × (r ≡ s)
line_tells path v w r s fv fw e =
    let values = cancels (path ++ codes " = ") (v ++ 10 ∷ r) (w ++ 10 ∷ s) (sym (line_is path v r) ∙ e ∙ line_is path w s) in
    let parts = splits feed v w 10 10 r s fv fw refl refl values in
    (parts.0, ap rest parts.1)

-- ---- fields of a message

front_of : List ℕ → List ℕ
front_of [] = []
front_of (c ∷ path) = c ∷ path ++ codes "."

under_is : (path name : List ℕ) → under path name ≡ front_of path ++ name
unfolding under front_of
under_is [] name = refl
under_is (c ∷ path) name = sym (append_assoc (c ∷ path) (codes ".") name)

solid_cons : (c : ℕ) (path : List ℕ) → Solid (c ∷ path)
unfolding under
solid_cons c path name = refl

pub under_solid : (path : List ℕ) (c : ℕ) (name : List ℕ) → Solid (under path (c ∷ name))
unfolding under
under_solid [] c name = solid_cons c name
under_solid (b ∷ path) c name = solid_cons b (path ++ (codes "." ++ c ∷ name))

pub under_up : (path name lines : List ℕ) → Solid path → Starts (under path name) lines → Starts path lines
under_up path name lines solid s = starts_up path 46 name lines refl (subst (λ p. Starts p lines) (solid name) s)

pub beyond_from : (path lines : List ℕ) → Solid path → Apart path lines → Beyond path lines
beyond_from path lines solid apart name s = apart (under_up path name lines solid s)

pub beyond_nothing : (path : List ℕ) → Beyond path []
beyond_nothing path name = apart_nothing (under path name)

-- lines begin with one field's path
pub names_tell : (path m n lines : List ℕ) → Free mark m → Free mark n → Starts (under path m) lines → Starts (under path n) lines → m ≡ n
names_tell path m n lines fm fn (c, xs, tc, is) (d, ys, td, same) =
    let whole : front_of path ++ (m ++ c ∷ xs) ≡ front_of path ++ (n ++ d ∷ ys) =
    sym (append_assoc (front_of path) m (c ∷ xs)) ∙ ap (λ (p : List ℕ). p ++ c ∷ xs) (sym (under_is path m)) ∙ sym is ∙ same
    ∙ ap (λ (p : List ℕ). p ++ d ∷ ys) (under_is path n) ∙ append_assoc (front_of path) n (d ∷ ys) in
    (splits mark m n c d xs ys fm fn tc td (cancels (front_of path) _ _ whole)).0

-- ---- items of a list

solid_behind : (path more : List ℕ) (c : ℕ) → Solid (path ++ c ∷ more)
solid_behind [] more c = solid_cons c more
solid_behind (b ∷ path) more c = solid_cons b (path ++ c ∷ more)

pub item_solid : (path : List ℕ) (i : ℕ) → Solid (item_path path i)
unfolding item_path
item_solid path i = solid_behind path (decimal i ++ codes "]") 91

pub item_up : (path : List ℕ) (i : ℕ) (lines : List ℕ) → Starts (item_path path i) lines → Starts path lines
unfolding item_path
item_up path i lines s = starts_up path 91 (decimal i ++ codes "]") lines refl s

closing : ℕ → Bool
closing c = nat_eq c 93

index_free : (i : ℕ) → Free closing (decimal i)
unfolding closing
index_free i = decimal_free (λ c. nat_eq c 93) (λ d h. grind (arith, nat_tests)) i

behind_closing : (path number : List ℕ) (c : ℕ) (xs : List ℕ) → (path ++ 91 ∷ (number ++ 93 ∷ [])) ++ c ∷ xs ≡ (path ++ 91 ∷ []) ++ (number ++ 93 ∷ c ∷ xs)
behind_closing path number c xs =
    append_assoc path (91 ∷ (number ++ 93 ∷ [])) (c ∷ xs)
    ∙ ap (λ (ys : List ℕ). path ++ 91 ∷ ys) (append_assoc number (93 ∷ []) (c ∷ xs))
    ∙ sym (append_assoc path (91 ∷ []) (number ++ 93 ∷ c ∷ xs))

pub next_apart : (path : List ℕ) (i : ℕ) (lines : List ℕ) → Starts (item_path path i) lines → Starts (item_path path (i + 1)) lines → ⊥
unfolding item_path closing
next_apart path i lines (c, xs, tc, is) (d, ys, td, same) =
    let whole = sym (behind_closing path (decimal i) c xs) ∙ sym is ∙ same ∙ behind_closing path (decimal (i + 1)) d ys in
    next_differs i (splits closing (decimal i) (decimal (i + 1)) 93 93 (c ∷ xs) (d ∷ ys) (index_free i) (index_free (i + 1)) refl refl (cancels (path ++ 91 ∷ []) _ _ whole)).0

-- ---- entries of a map

pub key_solid : (path key : List ℕ) → Solid (key_path path key)
unfolding key_path
key_solid path key = solid_behind path (quoted key ++ codes "]") 91

pub key_up : (path key lines : List ℕ) → Starts (key_path path key) lines → Starts path lines
unfolding key_path
key_up path key lines s = starts_up path 91 (quoted key ++ codes "]") lines refl s

pub keys_tell : (path k l lines : List ℕ) → Starts (key_path path k) lines → Starts (key_path path l) lines → k ≡ l
unfolding key_path
keys_tell path k l lines (c, xs, tc, is) (d, ys, td, same) =
    let whole = sym (behind_closing path (quoted k) c xs) ∙ sym is ∙ same ∙ behind_closing path (quoted l) d ys in
    (quoted_tells k l (93 ∷ c ∷ xs) (93 ∷ d ∷ ys) (cancels (path ++ 91 ∷ []) _ _ whole)).0
