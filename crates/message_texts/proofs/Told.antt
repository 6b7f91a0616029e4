-- The lines of a message tell its columns.
use Rattle.std.proofs.Common.{◌≡◌, ◌∙◌, ℕ, ◌+◌, true, false, inl, inr, List, [], ◌∷◌, ◌++◌, refl, ap, sym, subst, arith, append_assoc, codes}
use Rattle.std.specs.declared.cmp.Ordering.TheVariants.{Less}
use Rattle.std.specs.List.{AllByRecursion}
use Rattle.plain_values.specs.Pairs.{byte_cmp, IsAscending}
use Rattle.plain_values.proofs.PairLemmas.{less_differs}
use Rattle.message_codec.specs.Tables.{Name, AnyValue, Entry, Kind, Unsigned, Signed, Enum, Truth, Fixed, Double, Text, Blob, Texts, Raw, One, Many, Keyed, Held, Row, rows_of, kind_at, AllOf, OneOf}
use Rattle.message_codec.specs.Values.{Value, Number, Integer, Flag, Content, Contents, Absent, Present, Several, Chosen, Values, End, And}
use Rattle.message_codec.proofs.ColumnLaws.{append-nothing}
use Rattle.message_codec.specs.Canonical.{kind_or}
use Rattle.message_codec.specs.Fits.{FitsColumn, FitsEach, FitsIn, FitsMessage, FitsMember, pairs_of}
use Rattle.message_texts.specs.Ranges.{HoldsBytes, EachHoldsBytes, IsMessage}
use Rattle.message_texts.specs.Words.{line, under, item_path, key_path}
use Rattle.message_texts.specs.Texts.{name_at, column_lines, part_lines, whole_lines, item_lines, entry_lines, message_lines, shown}
use Rattle.message_texts.proofs.Splits.{first, cancels}
use Rattle.message_texts.proofs.Paths.{Starts, Apart, Beyond, Solid, starts_more, starts_at, line_is, beyond_from, beyond_nothing, names_tell, item_solid, item_up, next_apart, key_solid, key_up, keys_tell}
use Rattle.message_texts.proofs.Rows.{fine, is_name, is_among, name_free, name_solid, first_row, not_next, by_shape, members_tell, member_name, member_lined}
use Rattle.message_texts.proofs.Openings.{Opens, ColumnsOpen, part_is, part_starts, column_is, lines_first, message_opens, column_opens, there_starts}
use Rattle.message_texts.proofs.Leaves.{Tells, column_told, unsigned_tells, fixed_tells, double_tells, signed_tells, enum_tells, flag_tells, text_tells, blob_tells, raw_tells, no_raw_tells, texts_tell}

-- where these columns and others of the same message have the same lines, with others behind them that begin with no field's path, they are the same,
-- and so are the others
abbrev MessageTells : Name → Values → Type 0
MessageTells t vs = (ws : Values) → FitsMessage t ws → EachHoldsBytes ws → (path r s : List ℕ) → Beyond path r → Beyond path s → message_lines path (rows_of t) vs ++ r ≡ message_lines path (rows_of t) ws ++ s → (vs ≡ ws) × (r ≡ s)

-- ---- a message within another

abbrev PartTells : Name → Values → Type 0
PartTells t vs = (ws : Values) → FitsMessage t ws → EachHoldsBytes ws → (path r s : List ℕ) → Solid path → Apart path r → Apart path s
    → part_lines path (message_lines path (rows_of t) vs) ++ r ≡ part_lines path (message_lines path (rows_of t) ws) ++ s → (vs ≡ ws) × (r ≡ s)

-- the line of a message that has none is no field's line
empty_differs : (path name lines r s : List ℕ) → Solid path → Starts (under path name) lines → line path (codes "{}") ++ r ≡ lines ++ s → ⊥
empty_differs path name lines r s solid (c, more, m, is) e =
    let field = ap (λ (ls : List ℕ). ls ++ s) (is ∙ ap (λ (p : List ℕ). p ++ c ∷ more) (solid name)) ∙ append_assoc (path ++ 46 ∷ name) (c ∷ more) s ∙ append_assoc path (46 ∷ name) (c ∷ more ++ s) in
    let wrong : 32 ≡ 46 = ap first (cancels path (codes " = " ++ (codes "{}" ++ 10 ∷ r)) (46 ∷ name ++ (c ∷ more ++ s)) (sym (append_assoc path (codes " = ") (codes "{}" ++ 10 ∷ r)) ∙ sym (line_is path (codes "{}") r) ∙ e ∙ field)) in
    absurd (omega (arith, wrong))

part_told : (t : Name) (vs : Values) → FitsMessage t vs → MessageTells t vs → PartTells t vs
part_told t vs f tells ws g b path r s solid ra sa e = told (message_opens t vs f path) (message_opens t ws g path)
  where
    told : ColumnsOpen path (message_lines path (rows_of t) vs) → ColumnsOpen path (message_lines path (rows_of t) ws) → (vs ≡ ws) × (r ≡ s)
    told (inl p) (inl q) =
        let same = ap (λ (ls : List ℕ). part_lines path ls ++ r) (sym p) ∙ e ∙ ap (λ (ls : List ℕ). part_lines path ls ++ s) q in
        ((tells ws g b path [] [] (beyond_nothing path) (beyond_nothing path) (ap (λ (ls : List ℕ). ls ++ []) (p ∙ sym q))).0, cancels (line path (codes "{}")) r s same)
    told (inl p) (inr (name, q)) =
        absurd (empty_differs path name (message_lines path (rows_of t) ws) r s solid q (ap (λ (ls : List ℕ). part_lines path ls ++ r) (sym p) ∙ e ∙ ap (λ (ls : List ℕ). ls ++ s) (part_is path (under path name) (message_lines path (rows_of t) ws) q)))
    told (inr (name, p)) (inl q) =
        absurd (empty_differs path name (message_lines path (rows_of t) vs) s r solid p (ap (λ (ls : List ℕ). part_lines path ls ++ s) (sym q) ∙ sym e ∙ ap (λ (ls : List ℕ). ls ++ r) (part_is path (under path name) (message_lines path (rows_of t) vs) p)))
    told (inr (m, p)) (inr (n, q)) =
        let same = ap (λ (ls : List ℕ). ls ++ r) (sym (part_is path (under path m) (message_lines path (rows_of t) vs) p)) ∙ e ∙ ap (λ (ls : List ℕ). ls ++ s) (part_is path (under path n) (message_lines path (rows_of t) ws) q) in
        tells ws g b path r s (beyond_from path r solid ra) (beyond_from path s solid sa) same

held_starts : (t : Name) (vs : Values) → FitsMessage t vs → (path more : List ℕ) → Solid path → Starts path (part_lines path (message_lines path (rows_of t) vs) ++ more)
held_starts t vs f path more solid = starts_more path _ more (part_starts path _ solid (message_opens t vs f path))

-- ---- a message that has all columns

-- the lines of later columns begin with the path of no earlier one
later_apart : (path name : List ℕ) (rows : List Row) (vs : Values) → is_name name ≡ true → is_among name rows ≡ false → fine rows ≡ true → FitsIn AllOf rows vs → (r : List ℕ) → Apart (under path name) r → Apart (under path name) (message_lines path rows vs ++ r)
later_apart path name [] End named none ok f r apart s = apart s
later_apart path name (row ∷ rows) (And v vs) named none ok f r apart s =
    at (column_opens path row v (first_row row rows ok).0 f.0) (later_apart path name rows vs named (not_next name row rows none).1 (first_row row rows ok).2 f.1 r apart) (starts_at (under path name) _ _ (lines_first path row rows v vs r) s)
  where
    at : Opens (under path row.name) (column_lines path row.name row.kind v) → Apart (under path name) (message_lines path rows vs ++ r) → Starts (under path name) (column_lines path row.name row.kind v ++ (message_lines path rows vs ++ r)) → ⊥
    at (inl e) later starts = later (starts_at (under path name) _ _ (ap (λ (ls : List ℕ). ls ++ (message_lines path rows vs ++ r)) e) starts)
    at (inr own) later starts = (not_next name row rows none).0 (names_tell path name row.name _ (name_free name named) (name_free row.name (first_row row rows ok).0) starts (starts_more (under path row.name) _ (message_lines path rows vs ++ r) own))
later_apart path name [] (And v vs) named none ok f r apart s = absurd f
later_apart path name (row ∷ rows) End named none ok f r apart s = absurd f

abbrev AllTells : List Row → Values → Type 0
AllTells rows vs = (ws : Values) → FitsIn AllOf rows ws → EachHoldsBytes ws → (path r s : List ℕ) → Beyond path r → Beyond path s → message_lines path rows vs ++ r ≡ message_lines path rows ws ++ s → (vs ≡ ws) × (r ≡ s)

no_columns_tell : AllTells [] End
no_columns_tell End g b path r s rb sb e = (refl, e)
no_columns_tell (And w ws) g b path r s rb sb e = absurd g

columns_told : (row : Row) (rows : List Row) (v : Value) (vs : Values) → fine (row ∷ rows) ≡ true → FitsIn AllOf (row ∷ rows) (And v vs) → Tells row.kind v → AllTells rows vs → AllTells (row ∷ rows) (And v vs)
columns_told row rows v vs ok f this later (And w ws) g b path r s rb sb e =
    let parts = first_row row rows ok in
    let same = ap (λ (ls : List ℕ). ls ++ (message_lines path rows vs ++ r)) (sym (column_is path row.name row.kind v f.0)) ∙ sym (lines_first path row rows v vs r) ∙ e
    ∙ lines_first path row rows w ws s ∙ ap (λ (ls : List ℕ). ls ++ (message_lines path rows ws ++ s)) (column_is path row.name row.kind w g.0) in
    let column = column_told row.kind v w f.0 g.0 b.0 this (under path row.name) (message_lines path rows vs ++ r) (message_lines path rows ws ++ s) (name_solid path row.name parts.0)
    (later_apart path row.name rows vs parts.0 parts.1 parts.2 f.1 r (rb row.name)) (later_apart path row.name rows ws parts.0 parts.1 parts.2 g.1 s (sb row.name)) same in
    let more = later ws g.1 b.1 path r s rb sb column.1 in
    (λ i. And (column.0 i) (more.0 i), more.1)
columns_told row rows v vs ok f this later End g b path r s rb sb e = absurd g

-- ---- a choice

abbrev AnyTells : Values → Type 0
AnyTells vs = MessageTells AnyValue vs

abbrev member_lines : List ℕ → ℕ → Value → List ℕ
member_lines path n v = whole_lines (under path (name_at n (rows_of AnyValue))) (kind_or (kind_at n (rows_of AnyValue))) v

member_starts : (n : ℕ) (v : Value) → FitsMember (rows_of AnyValue) (Chosen n v) → (path more : List ℕ) → Starts (under path (name_at n (rows_of AnyValue))) (member_lines path n v ++ more)
member_starts n v f path more =
    let name = name_at n (rows_of AnyValue) in
    starts_more (under path name) _ more (there_starts (kind_or (kind_at n (rows_of AnyValue))) v (member_lined n f.0) f.1 f.2 (under path name) (name_solid path name (member_name n f.0)))

-- the lines of a choice are those of the member chosen
any_lines : (path : List ℕ) (n : ℕ) (v : Value) (more : List ℕ) → message_lines path (rows_of AnyValue) (And (Chosen n v) End) ++ more ≡ member_lines path n v ++ more
any_lines path n v more = ap (λ (ls : List ℕ). ls ++ more) (append-nothing (member_lines path n v))

nothing_told : AnyTells (And Absent End)
nothing_told (And Absent End) g b path r s rb sb e = (refl, e)
nothing_told (And (Chosen n w) End) g b path r s rb sb e = absurd (rb (name_at n (rows_of AnyValue)) (starts_at (under path (name_at n (rows_of AnyValue))) _ _ (sym (any_lines path n w s) ∙ sym e) (member_starts n w g path s)))
nothing_told (And w End) g b path r s rb sb e = absurd g
nothing_told _ g b path r s rb sb e = absurd g

chosen_told : (n : ℕ) (v : Value) → FitsMember (rows_of AnyValue) (Chosen n v) → Tells (kind_or (kind_at n (rows_of AnyValue))) v → AnyTells (And (Chosen n v) End)
chosen_told n v f tells (And Absent End) g b path r s rb sb e = absurd (sb (name_at n (rows_of AnyValue)) (starts_at (under path (name_at n (rows_of AnyValue))) _ _ (sym (any_lines path n v r) ∙ e) (member_starts n v f path r)))
chosen_told n v f tells (And (Chosen m w) End) g b path r s rb sb e =
    let rows = rows_of AnyValue in
    let name = name_at n rows in
    let lines = sym (any_lines path n v r) ∙ e ∙ any_lines path m w s in
    let mine = starts_at (under path name) _ _ lines (member_starts n v f path r) in
    let names = names_tell path name (name_at m rows) _ (name_free name (member_name n f.0)) (name_free (name_at m rows) (member_name m g.0)) mine (member_starts m w g path s) in
    subst (λ k. FitsColumn (kind_or (kind_at k (rows_of AnyValue))) w → member_lines path n v ++ r ≡ member_lines path k w ++ s → (And (Chosen n v) End ≡ And (Chosen k w) End) × (r ≡ s)) (members_tell n m f.0 g.0 names) same g.2 lines
  where
    same : FitsColumn (kind_or (kind_at n (rows_of AnyValue))) w → member_lines path n v ++ r ≡ member_lines path n w ++ s → (And (Chosen n v) End ≡ And (Chosen n w) End) × (r ≡ s)
    same h alike =
        let named = name_at n (rows_of AnyValue) in
        let told = tells w h b.0 (under path named) r s (name_solid path named (member_name n f.0)) (rb named) (sb named) alike in
        (λ i. And (Chosen n (told.0 i)) End, told.1)
chosen_told n v f tells (And w End) g b path r s rb sb e = absurd g
chosen_told n v f tells _ g b path r s rb sb e = absurd g

-- ---- items of a list

abbrev EachTells : Name → Values → Type 0
EachTells t vs = (ws : Values) → FitsEach t ws → EachHoldsBytes ws → (path : List ℕ) (i : ℕ) (r s : List ℕ) → Apart path r → Apart path s → item_lines path (Many t) i vs ++ r ≡ item_lines path (Many t) i ws ++ s → (vs ≡ ws) × (r ≡ s)

items_start : (t : Name) (v vs : Values) → FitsMessage t v → (path : List ℕ) (i : ℕ) (more : List ℕ) → Starts (item_path path i) (item_lines path (Many t) i (And (Present v) vs) ++ more)
items_start t v vs f path i more = starts_more (item_path path i) _ more (held_starts t v f (item_path path i) (item_lines path (Many t) (i + 1) vs) (item_solid path i))

later_items : (t : Name) (vs : Values) → FitsEach t vs → (path : List ℕ) (i : ℕ) (r : List ℕ) → Apart path r → Apart (item_path path i) (item_lines path (Many t) (i + 1) vs ++ r)
later_items t End f path i r apart s = apart (item_up path i r s)
later_items t (And (Present v) vs) f path i r apart s = next_apart path i _ s (items_start t v vs f.0 path (i + 1) r)
later_items t (And _ vs) f path i r apart s = absurd f

no_items_tell : (t : Name) → EachTells t End
no_items_tell t End g b path i r s ra sa e = (refl, e)
no_items_tell t (And (Present w) ws) g b path i r s ra sa e = absurd (ra (starts_at path _ _ (sym e) (item_up path i _ (items_start t w ws g.0 path i s))))
no_items_tell t (And _ ws) g b path i r s ra sa e = absurd g

items_told : (t : Name) (v vs : Values) → FitsMessage t v → FitsEach t vs → PartTells t v → EachTells t vs → EachTells t (And (Present v) vs)
items_told t v vs f fs this later End g b path i r s ra sa e = absurd (sa (starts_at path _ _ e (item_up path i _ (items_start t v vs f path i r))))
items_told t v vs f fs this later (And (Present w) ws) g b path i r s ra sa e =
    let next = item_path path i in
    let mine = part_lines next (message_lines next (rows_of t) v) in
    let other = part_lines next (message_lines next (rows_of t) w) in
    let same = sym (append_assoc mine (item_lines path (Many t) (i + 1) vs) r) ∙ e ∙ append_assoc other (item_lines path (Many t) (i + 1) ws) s in
    let item = this w g.0 b.0 next (item_lines path (Many t) (i + 1) vs ++ r) (item_lines path (Many t) (i + 1) ws ++ s) (item_solid path i) (later_items t vs fs path i r ra) (later_items t ws g.1 path i s sa) same in
    let more = later ws g.1 b.1 path (i + 1) r s ra sa item.1 in
    (λ k. And (Present (item.0 k)) (more.0 k), more.1)
items_told t v vs f fs this later (And _ ws) g b path i r s ra sa e = absurd g

-- ---- entries of a map

abbrev EntriesTell : Name → Values → Type 0
EntriesTell t vs = (ws : Values) → FitsEach (Entry t) ws → IsAscending (pairs_of ws) → EachHoldsBytes ws → (path r s : List ℕ) → Apart path r → Apart path s → entry_lines path t vs ++ r ≡ entry_lines path t ws ++ s → (vs ≡ ws) × (r ≡ s)

abbrev entry : List ℕ → Values → Value
entry key v = Present (And (Content key) (And (Present v) End))

-- each entry's key is above this one
abbrev Above : List ℕ → Values → Type 0
Above key vs = AllByRecursion (λ p. byte_cmp key p.key ≡ Less) (pairs_of vs)

entries_start : (t : Name) (key : List ℕ) (v vs : Values) → FitsMessage t v → (path more : List ℕ) → Starts (key_path path key) (entry_lines path t (And (entry key v) vs) ++ more)
entries_start t key v vs f path more = starts_more (key_path path key) _ more (held_starts t v f (key_path path key) (entry_lines path t vs) (key_solid path key))

later_entries : (t : Name) (vs : Values) → FitsEach (Entry t) vs → (key : List ℕ) → Above key vs → (path r : List ℕ) → Apart path r → Apart (key_path path key) (entry_lines path t vs ++ r)
later_entries t End f key above path r apart s = apart (key_up path key r s)
later_entries t (And (Present (And (Content other) (And (Present v) End))) vs) f key above path r apart s = less_differs key other above.0 (sym (keys_tell path key other _ s (entries_start t other v vs f.0.1.0 path r)))
later_entries t (And (Present (And (Content other) (And (Present v) (And w ws)))) vs) f key above path r apart s = absurd f.0.1.1
later_entries t (And (Present (And (Content other) (And w ws))) vs) f key above path r apart s = absurd f.0.1.0
later_entries t (And (Present (And (Content other) End)) vs) f key above path r apart s = absurd f.0.1
later_entries t (And (Present (And k ws)) vs) f key above path r apart s = absurd f.0.0
later_entries t (And (Present End) vs) f key above path r apart s = absurd f.0
later_entries t (And _ vs) f key above path r apart s = absurd f

no_entries_tell : (t : Name) → EntriesTell t End
no_entries_tell t End g a b path r s ra sa e = (refl, e)
no_entries_tell t (And (Present (And (Content key) (And (Present w) End))) ws) g a b path r s ra sa e = absurd (ra (starts_at path _ _ (sym e) (key_up path key _ (entries_start t key w ws g.0.1.0 path s))))
no_entries_tell t (And (Present (And (Content key) (And (Present w) (And x xs)))) ws) g a b path r s ra sa e = absurd g.0.1.1
no_entries_tell t (And (Present (And (Content key) (And x xs))) ws) g a b path r s ra sa e = absurd g.0.1.0
no_entries_tell t (And (Present (And (Content key) End)) ws) g a b path r s ra sa e = absurd g.0.1
no_entries_tell t (And (Present (And k xs)) ws) g a b path r s ra sa e = absurd g.0.0
no_entries_tell t (And (Present End) ws) g a b path r s ra sa e = absurd g.0
no_entries_tell t (And _ ws) g a b path r s ra sa e = absurd g

-- one entry and the later ones, under the same key
same_key : (t : Name) (key : List ℕ) (v vs : Values) → FitsEach (Entry t) vs → Above key vs → PartTells t v → EntriesTell t vs → (w ws : Values) → FitsMessage t w → EachHoldsBytes w → FitsEach (Entry t) ws → IsAscending (pairs_of ws) → EachHoldsBytes ws
    → (path r s : List ℕ) → Apart path r → Apart path s → Above key ws → entry_lines path t (And (entry key v) vs) ++ r ≡ entry_lines path t (And (entry key w) ws) ++ s → (And (entry key v) vs ≡ And (entry key w) ws) × (r ≡ s)
same_key t key v vs fs above this later w ws g b gs a bs path r s ra sa others e =
    let next = key_path path key in
    let mine = part_lines next (message_lines next (rows_of t) v) in
    let other = part_lines next (message_lines next (rows_of t) w) in
    let same = sym (append_assoc mine (entry_lines path t vs) r) ∙ e ∙ append_assoc other (entry_lines path t ws) s in
    let value = this w g b next (entry_lines path t vs ++ r) (entry_lines path t ws ++ s) (key_solid path key) (later_entries t vs fs key above path r ra) (later_entries t ws gs key others path s sa) same in
    let more = later ws gs a bs path r s ra sa value.1 in
    (λ k. And (entry key (value.0 k)) (more.0 k), more.1)

entries_told : (t : Name) (key : List ℕ) (v vs : Values) → FitsMessage t v → FitsEach (Entry t) vs → Above key vs → PartTells t v → EntriesTell t vs → EntriesTell t (And (entry key v) vs)
entries_told t key v vs f fs above this later End g a b path r s ra sa e = absurd (sa (starts_at path _ _ e (key_up path key _ (entries_start t key v vs f path r))))
entries_told t key v vs f fs above this later (And (Present (And (Content other) (And (Present w) End))) ws) g a b path r s ra sa e =
    let keys = keys_tell path key other _ (starts_at (key_path path key) _ _ e (entries_start t key v vs f path r)) (entries_start t other w ws g.0.1.0 path s) in
    subst (λ k. Above k ws → entry_lines path t (And (entry key v) vs) ++ r ≡ entry_lines path t (And (entry k w) ws) ++ s → (And (entry key v) vs ≡ And (entry k w) ws) × (r ≡ s)) keys
    (same_key t key v vs fs above this later w ws g.0.1.0 b.0.1.0 g.1 a.1 b.1 path r s ra sa) a.0 e
entries_told t key v vs f fs above this later (And (Present (And (Content other) (And (Present w) (And x xs)))) ws) g a b path r s ra sa e = absurd g.0.1.1
entries_told t key v vs f fs above this later (And (Present (And (Content other) (And x xs))) ws) g a b path r s ra sa e = absurd g.0.1.0
entries_told t key v vs f fs above this later (And (Present (And (Content other) End)) ws) g a b path r s ra sa e = absurd g.0.1
entries_told t key v vs f fs above this later (And (Present (And k xs)) ws) g a b path r s ra sa e = absurd g.0.0
entries_told t key v vs f fs above this later (And (Present End) ws) g a b path r s ra sa e = absurd g.0
entries_told t key v vs f fs above this later (And _ ws) g a b path r s ra sa e = absurd g

-- ---- columns that hold messages

one_tells : (t : Name) (vs : Values) → FitsMessage t vs → PartTells t vs → Tells (One t) (Present vs)
one_tells t vs f tells (Present ws) g b path r s solid ra sa e = let told = tells ws g b path r s solid ra sa e in (ap Present told.0, told.1)
one_tells t vs f tells Absent g b path r s solid ra sa e = absurd (sa (starts_at path _ _ e (held_starts t vs f path r solid)))
one_tells t vs f tells _ g b path r s solid ra sa e = absurd g

no_one_tells : (t : Name) → Tells (One t) Absent
no_one_tells t (Present ws) g b path r s solid ra sa e = absurd (ra (starts_at path _ _ (sym e) (held_starts t ws g path s solid)))
no_one_tells t Absent g b path r s solid ra sa e = (refl, e)
no_one_tells t _ g b path r s solid ra sa e = absurd g

held_tells : (t : Name) (vs : Values) → PartTells t vs → Tells (Held t) (Present vs)
held_tells t vs tells (Present ws) g b path r s solid ra sa e = let told = tells ws g b path r s solid ra sa e in (ap Present told.0, told.1)
held_tells t vs tells _ g b path r s solid ra sa e = absurd g

many_tells : (t : Name) (vs : Values) → EachTells t vs → Tells (Many t) (Several vs)
many_tells t vs tells (Several ws) g b path r s solid ra sa e = let told = tells ws g b path 0 r s ra sa e in (ap Several told.0, told.1)
many_tells t vs tells _ g b path r s solid ra sa e = absurd g

keyed_tells : (t : Name) (vs : Values) → EntriesTell t vs → Tells (Keyed t) (Several vs)
keyed_tells t vs tells (Several ws) g b path r s solid ra sa e = let told = tells ws g.0 g.1 b path r s ra sa e in (ap Several told.0, told.1)
keyed_tells t vs tells _ g b path r s solid ra sa e = absurd g

-- a message of either shape
message_told : (t : Name) (vs : Values) → FitsMessage t vs → ((rows : List Row) → fine rows ≡ true → FitsIn AllOf rows vs → AllTells rows vs) → (FitsIn OneOf (rows_of AnyValue) vs → AnyTells vs) → MessageTells t vs
message_told t vs f all any = by_shape (λ n. MessageTells n vs) vs (λ n ok g same ws h. all (rows_of n) ok g ws (same ws h)) any t f

mutual
  whole_told : (kind : Kind) (v : Value) → FitsColumn kind v → HoldsBytes v → Tells kind v
  whole_told Unsigned (Number x) f b = unsigned_tells x f
  whole_told Fixed (Number x) f b = fixed_tells x f
  whole_told Double (Number x) f b = double_tells x f
  whole_told Signed (Integer z) f b = signed_tells z f
  whole_told Enum (Integer z) f b = enum_tells z f
  whole_told Truth (Flag x) f b = flag_tells x
  whole_told Text (Content bytes) f b = text_tells bytes
  whole_told Blob (Content bytes) f b = blob_tells bytes b
  whole_told Texts (Contents texts) f b = texts_tell texts
  whole_told Raw Absent f b = no_raw_tells
  whole_told Raw (Content bytes) f b = raw_tells bytes b
  whole_told (One t) Absent f b = no_one_tells t
  whole_told (One t) (Present vs) f b = one_tells t vs f (part_told t vs f (message_told t vs f (λ rows ok g. all_told rows vs ok g b) (λ g. any_told vs g b)))
  whole_told (Held t) (Present vs) f b = held_tells t vs (part_told t vs f (message_told t vs f (λ rows ok g. all_told rows vs ok g b) (λ g. any_told vs g b)))
  whole_told (Many t) (Several vs) f b = many_tells t vs (each_told t vs f b)
  whole_told (Keyed t) (Several vs) f b = keyed_tells t vs (map_told t vs f.0 f.1 b)
  whole_told _ _ f b = absurd f

  each_told : (t : Name) (vs : Values) → FitsEach t vs → EachHoldsBytes vs → EachTells t vs
  each_told t End f b = no_items_tell t
  each_told t (And (Present v) vs) f b = items_told t v vs f.0 f.1 (part_told t v f.0 (message_told t v f.0 (λ rows ok g. all_told rows v ok g b.0) (λ g. any_told v g b.0))) (each_told t vs f.1 b.1)
  each_told t (And _ vs) f b = absurd f

  map_told : (t : Name) (vs : Values) → FitsEach (Entry t) vs → IsAscending (pairs_of vs) → EachHoldsBytes vs → EntriesTell t vs
  map_told t End f a b = no_entries_tell t
  map_told t (And (Present (And (Content key) (And (Present v) End))) vs) f a b =
      entries_told t key v vs f.0.1.0 f.1 a.0 (part_told t v f.0.1.0 (message_told t v f.0.1.0 (λ rows ok g. all_told rows v ok g b.0.1.0) (λ g. any_told v g b.0.1.0))) (map_told t vs f.1 a.1 b.1)
  map_told t (And (Present (And (Content key) (And (Present v) (And x xs)))) vs) f a b = absurd f.0.1.1
  map_told t (And (Present (And (Content key) (And x xs))) vs) f a b = absurd f.0.1.0
  map_told t (And (Present (And (Content key) End)) vs) f a b = absurd f.0.1
  map_told t (And (Present (And k xs)) vs) f a b = absurd f.0.0
  map_told t (And (Present End) vs) f a b = absurd f.0
  map_told t (And _ vs) f a b = absurd f

  all_told : (rows : List Row) (vs : Values) → fine rows ≡ true → FitsIn AllOf rows vs → EachHoldsBytes vs → AllTells rows vs
  all_told [] End ok f b = no_columns_tell
  all_told (row ∷ rows) (And v vs) ok f b = columns_told row rows v vs ok f (whole_told row.kind v f.0 b.0) (all_told rows vs (first_row row rows ok).2 f.1 b.1)
  all_told [] (And v vs) ok f b = absurd f
  all_told (row ∷ rows) End ok f b = absurd f

  any_told : (vs : Values) → FitsIn OneOf (rows_of AnyValue) vs → EachHoldsBytes vs → AnyTells vs
  any_told (And Absent End) f b = nothing_told
  any_told (And (Chosen n v) End) f b = chosen_told n v f (whole_told (kind_or (kind_at n (rows_of AnyValue))) v f.2 b.0)
  any_told (And v End) f b = absurd f
  any_told _ f b = absurd f

-- messages of one name that are shown alike are the same
pub shown_tells : (old path : List ℕ) (t : Name) (vs ws : Values) → IsMessage t vs → IsMessage t ws → shown old path t vs ≡ shown old path t ws → vs ≡ ws
unfolding shown
shown_tells old path t vs ws f g e =
    let lines = cancels old _ _ e in
    (message_told t vs f.0 (λ rows ok h. all_told rows vs ok h f.1) (λ h. any_told vs h f.1) ws g.0 g.1 path [] [] (beyond_nothing path) (beyond_nothing path) (ap (λ (ls : List ℕ). ls ++ []) lines)).0
