-- Lines of messages and of lists.
use Rattle.std.proofs.Common.{◌≡◌, ◌∙◌, ℕ, zero, suc, ◌+◌, ◌<◌, ◌≤◌, Bool, true, false, cond, nat_eq, length, take, get_or, List, [], ◌∷◌, ◌++◌, codes, refl, ap, sym, arith, append_assoc, length-append}
use Rattle.std.specs.Prelude.{Result, Ok, Err, OnOk, IsOk}
use Rattle.std.specs.List.{flat_map}
use Rattle.std.proofs.lemmas.List.{take_all}
use Rattle.std.proofs.lemmas.Bool.{true≢false}
use Rattle.std.proofs.lemmas.Bool.Decides.{nat_tests}
use Rattle.plain_values.specs.declared.maps.Pair.{Pair}
use Rattle.message_codec.specs.Tables.{Name, Many, Row, rows_of}
use Rattle.message_codec.specs.Values.{Value, Values, End, And}
use Rattle.message_codec.specs.Means.{entries_of}
use Rattle.message_codec.specs.Read.{each_of}
use Rattle.message_codec.proofs.ColumnLaws.{append-nothing}
use Rattle.message_texts.specs.Words.{line, closed, item_path, key_path, quoted}
use Rattle.message_texts.specs.Texts.{column_lines, columns_of, message_lines, part_lines, part_text, shown, item_lines, entry_lines, text_lines}

eqb-true : (x y : ℕ) → nat_eq x y ≡ true → x ≡ y
eqb-true x y e = grind (arith, nat_tests)

eqb-false : (x y : ℕ) → nat_eq x y ≡ false → ¬ (x ≡ y)
eqb-false x y e p = grind (arith, nat_tests)

-- ---- one message

-- the lines of each column, one column after the other
pub by_flat_map : (path : List ℕ) (rows : List Row) (vs : Values) → message_lines path rows vs ≡ flat_map (λ (column : Row × Value). column_lines path column.0.name column.0.kind column.1) (columns_of rows vs)
by_flat_map path rows End = refl
by_flat_map path [] (And v vs) = refl
by_flat_map path (r ∷ rows) (And v vs) = ap (λ (ls : List ℕ). column_lines path r.name r.kind v ++ ls) (by_flat_map path rows vs)

-- These lines with those of each column put behind them, one after the other, as a page grows.
abbrev pub lines_onto : List ℕ → List ℕ → List Row → Values → List ℕ
lines_onto lines path rows End = lines
lines_onto lines path [] (And v vs) = lines
lines_onto lines path (r ∷ rows) (And v vs) = lines_onto (lines ++ column_lines path r.name r.kind v) path rows vs

-- So they are the lines of the message behind them.
lines_behind : (old path : List ℕ) (rows : List Row) (vs : Values) → lines_onto old path rows vs ≡ old ++ message_lines path rows vs
lines_behind old path rows End = sym (append-nothing old)
lines_behind old path [] (And v vs) = sym (append-nothing old)
lines_behind old path (r ∷ rows) (And v vs) =
    let lines = column_lines path r.name r.kind v in
    lines_behind (old ++ lines) path rows vs ∙ append_assoc old lines (message_lines path rows vs)

pub shown_onto : (old path : List ℕ) (name : Name) (vs : Values) → shown old path name vs ≡ lines_onto old path (rows_of name) vs
unfolding shown
shown_onto old path name vs = sym (lines_behind old path (rows_of name) vs)

-- a message that was shown column by column
pub by_columns : (new old path : List ℕ) (name : Name) (vs : Values) → new ≡ lines_onto old path (rows_of name) vs → new ≡ shown old path name vs
by_columns new old path name vs e = e ∙ sym (shown_onto old path name vs)

stays : (old path lines : List ℕ) → length (old ++ lines) ≡ length old → (old ++ lines) ++ line path (codes "{}") ≡ old ++ part_lines path lines
stays old path [] same = ap (λ (ls : List ℕ). ls ++ line path (codes "{}")) (append-nothing old)
stays old path (c ∷ lines) same = absurd (omega (arith, same, length-append old (c ∷ lines)))

grows : (old path lines : List ℕ) → ¬ (length (old ++ lines) ≡ length old) → old ++ lines ≡ old ++ part_lines path lines
grows old path [] differs = absurd (differs (ap length (append-nothing old)))
grows old path (c ∷ lines) differs = refl

closes : (old path lines : List ℕ) (same : Bool) → nat_eq (length (old ++ lines)) (length old) ≡ same → cond same ((old ++ lines) ++ line path (codes "{}")) (old ++ lines) ≡ old ++ part_lines path lines
closes old path lines true e = stays old path lines (eqb-true _ _ e)
closes old path lines false e = grows old path lines (eqb-false _ _ e)

-- a message within another, shown and closed
pub closed_part : (old path : List ℕ) (name : Name) (vs : Values) → closed (shown old path name vs) path (length old) ≡ old ++ part_text path name vs
unfolding closed shown part_text
closed_part old path name vs = closes old path (message_lines path (rows_of name) vs) _ refl

-- the same with names for what the calls leave
pub part_shown : (old now new path : List ℕ) (before : ℕ) (name : Name) (vs : Values) → before ≡ length old → now ≡ shown old path name vs → new ≡ closed now path before → new ≡ old ++ part_text path name vs
part_shown old now new path before name vs b s c = c ∙ ap (λ (n : ℕ). closed now path n) b ∙ ap (λ (t : List ℕ). closed t path (length old)) s ∙ closed_part old path name vs

-- a message within another, whose showing had this outcome, and which was ended
pub closes_item : {T E : Type 0} (outcome : Result T E) (old now new path at : List ℕ) (before : ℕ) (name : Name) (vs : Values) → at ≡ path → before ≡ length old
    → OnOk outcome (now ≡ shown old at name vs) → IsOk outcome → new ≡ closed now at before → new ≡ old ++ part_text path name vs
closes_item (Err e) old now new path at before name vs a b s was c = absurd (true≢false (sym was))
closes_item (Ok t) old now new path at before name vs a b s was c = part_shown old now new at before name vs b s c ∙ ap (λ (p : List ℕ). old ++ part_text p name vs) a

-- the same with what its end gave
pub closes_part : {T U E : Type 0} (outcome : Result T E) (result : Result U E) (old now new path at : List ℕ) (before : ℕ) (name : Name) (vs : Values) → at ≡ path → before ≡ length old
    → OnOk outcome (now ≡ shown old at name vs) → OnOk result (IsOk outcome) → OnOk result (new ≡ closed now at before) → OnOk result (new ≡ old ++ part_text path name vs)
closes_part outcome (Err e) old now new path at before name vs a b s was c = tt
closes_part outcome (Ok u) old now new path at before name vs a b s was c = closes_item outcome old now new path at before name vs a b s was c

-- lines behind others
pub behind : {old now new : List ℕ} (lines : List ℕ) → now ≡ old → new ≡ now ++ lines → new ≡ old ++ lines
behind lines p q = q ∙ ap (λ (t : List ℕ). t ++ lines) p

-- ---- lists

-- what the items of a list are shown as, the first of which has this index
abbrev pub each_text : {T : Type 0} → (ℕ → T → List ℕ) → ℕ → List T → List ℕ
each_text content k [] = []
each_text content k (t ∷ ts) = content k t ++ each_text content (k + 1) ts

text_suc : {T : Type 0} (content : ℕ → T → List ℕ) (k : ℕ) (ts : List T) (i : ℕ) (t : T) → i < length ts
    → each_text content k (take (suc i) ts) ≡ each_text content k (take i ts) ++ content (k + i) (get_or ts i t)
text_suc content k [] i t lt = absurd (omega arith)
text_suc content k (u ∷ ts) zero t lt =
    let here : k + zero ≡ k = omega arith in
    append-nothing (content k u) ∙ sym (ap (λ (j : ℕ). content j u) here)
text_suc content k (u ∷ ts) (suc i) t lt =
    let there : (k + 1) + i ≡ k + suc i = omega arith in
    ap (λ (xs : List ℕ). content k u ++ xs) (text_suc content (k + 1) ts i t (omega arith))
    ∙ sym (append_assoc (content k u) (each_text content (k + 1) (take i ts)) (content ((k + 1) + i) (get_or ts i t)))
    ∙ ap (λ (j : ℕ). (content k u ++ each_text content (k + 1) (take i ts)) ++ content j (get_or ts i t)) there

-- one item more
pub items_more : {T : Type 0} (content : ℕ → T → List ℕ) (ts : List T) (i : ℕ) (t : T) (old now new : List ℕ) → i < length ts → t ≡ get_or ts i t → now ≡ old ++ each_text content 0 (take i ts)
    → new ≡ now ++ content i t → new ≡ old ++ each_text content 0 (take (i + 1) ts)
items_more {T} content ts i t old now new lt is e n =
    let next : suc i ≡ i + 1 = omega arith in
    let first : 0 + i ≡ i = omega arith in
    n ∙ ap (λ (xs : List ℕ). xs ++ content i t) e
    ∙ append_assoc old (each_text content 0 (take i ts)) (content i t)
    ∙ ap (λ (xs : List ℕ). old ++ xs)
    (ap (λ (u : T). each_text content 0 (take i ts) ++ content i u) is
    ∙ ap (λ (j : ℕ). each_text content 0 (take i ts) ++ content j (get_or ts i t)) (sym first)
    ∙ sym (text_suc content 0 ts i t lt)
    ∙ ap (λ (j : ℕ). each_text content 0 (take j ts)) next)

pub items_all : {T : Type 0} (content : ℕ → T → List ℕ) (ts : List T) (i : ℕ) (old new whole : List ℕ) → length ts ≤ i → new ≡ old ++ each_text content 0 (take i ts) → each_text content 0 ts ≡ whole → new ≡ old ++ whole
items_all {T} content ts i old new whole h e is = e ∙ ap (λ (us : List T). old ++ each_text content 0 us) (take_all i ts h) ∙ ap (λ (xs : List ℕ). old ++ xs) is

abbrev pub message_text : {T : Type 0} → (T → Values) → Name → List ℕ → ℕ → T → List ℕ
message_text columns name path i t = part_text (item_path path i) name (columns t)

pub many_is : {T : Type 0} (columns : T → Values) (name : Name) (path : List ℕ) (k : ℕ) (ts : List T) → each_text (message_text columns name path) k ts ≡ item_lines path (Many name) k (each_of columns ts)
unfolding part_text
many_is columns name path k [] = refl
many_is columns name path k (t ∷ ts) = ap (λ (xs : List ℕ). message_text columns name path k t ++ xs) (many_is columns name path (k + 1) ts)

abbrev pub entry_text : {T : Type 0} → (T → Values) → Name → List ℕ → ℕ → Pair T → List ℕ
entry_text columns name path i p = part_text (key_path path p.key) name (columns p.value)

pub map_is : {T : Type 0} (columns : T → Values) (name : Name) (path : List ℕ) (k : ℕ) (ps : List (Pair T)) → each_text (entry_text columns name path) k ps ≡ entry_lines path name (entries_of columns ps)
unfolding part_text
map_is columns name path k [] = refl
map_is columns name path k (p ∷ ps) = ap (λ (xs : List ℕ). entry_text columns name path k p ++ xs) (map_is columns name path (k + 1) ps)

abbrev pub quoted_text : List ℕ → ℕ → List ℕ → List ℕ
quoted_text path i t = line (item_path path i) (quoted t)

pub texts_are : (path : List ℕ) (k : ℕ) (ts : List (List ℕ)) → each_text (quoted_text path) k ts ≡ text_lines path k ts
texts_are path k [] = refl
texts_are path k (t ∷ ts) = ap (λ (xs : List ℕ). quoted_text path k t ++ xs) (texts_are path (k + 1) ts)
