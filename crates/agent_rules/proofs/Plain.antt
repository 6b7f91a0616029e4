-- Rows of which each column has one field or none, and the fields of the canonical bytes of what other bytes mean.
use Rattle.std.proofs.Common.{◌≡◌, ℕ, ◌+◌, ◌<◌, ◌≤◌, ◌^◌, Bool, true, false, cond, nat_eq, List, [], ◌∷◌, ◌++◌, length, refl, ap, sym, subst, ◌∙◌, arith, inl, inr, length-append, append_assoc}
use Rattle.std.proofs.lemmas.Bool.Decides.{nat_tests}
use Rattle.std.specs.Prelude.{Some, ◌⊎◌}
use Rattle.std.specs.List.{filter_map}
use Rattle.message_codec.specs.Fields.{Payload, Varint, Eight, Bytes, Four, WireField, SpellsPayload, Fields, FitsPayload}
use Rattle.message_codec.proofs.Shortest.{SpellsVarint-lt}
use Rattle.message_codec.specs.Tables.{Name, Kind, Unsigned, Truth, Text, Blob, One, Row, rows_of, kind_at}
use Rattle.message_codec.specs.Values.{Value, Number, Flag, Content, Absent, Present, Values, End, And}
use Rattle.message_codec.specs.Means.{Sound, Means, AreRight, ColumnMeans, ColumnsMean, MeansOne, occurrences, last_or, varint_in, content_in, empty_of}
use Rattle.message_codec.proofs.ColumnLaws.{append-nothing}
use Rattle.message_codec.proofs.Reading.{fields-append, occurrences-append}
use Rattle.message_codec.proofs.Spelling.{one_fields}
use Rattle.message_codec.specs.Canonical.{spelled, number_of, canonical_onto, column_bytes}
use Rattle.message_codec.proofs.Payloads.{AllFit, contents_fit}
use Rattle.message_codec.proofs.Canonical.{canonical_after}
use Rattle.message_codec.proofs.CanonicalFields.{Ascend, Found, numbered, written, fields_of, numbered_spelled, AllRight, EachLaw}
use Rattle.agent_rules.specs.Payloads.{filled, all_filled}

-- one of the kinds that what is kept has
abbrev pub is_plain : Kind → Bool
is_plain Unsigned = true
is_plain Truth = true
is_plain Text = true
is_plain Blob = true
is_plain (One t) = true
is_plain _ = false

abbrev pub ArePlain : List Row → Type 0
ArePlain [] = Unit {0}
ArePlain (r ∷ rows) = (is_plain r.kind ≡ true) × ArePlain rows

-- ---- fields are small

small_payload : (p : Payload) (s : List ℕ) → SpellsPayload s p → FitsPayload p
small_payload (Varint n) s h = SpellsVarint-lt s n h
small_payload (Eight n) s h = h.0
small_payload (Bytes c) s h = SpellsVarint-lt h.count (length c) h.counts
small_payload (Four n) s h = h.0

small_occurrences : (n : ℕ) (bytes : List ℕ) (fs : List WireField) → Fields bytes fs → AllFit (occurrences n fs)
small_occurrences n bytes [] k = tt
small_occurrences n bytes (f ∷ fs) (front, rest, e, s, k) = either (nat_eq f.number n) (small_occurrences n rest fs k)
  where
    either : (b : Bool) → AllFit (occurrences n fs) → AllFit (cond b (f.payload ∷ occurrences n fs) (occurrences n fs))
    either true more = (small_payload f.payload s.rest s.holds, more)
    either false more = more

last_varint : (ps : List Payload) (d : ℕ) → d < 2 ^ 64 → AllFit ps → last_or d (filter_map varint_in ps) < 2 ^ 64
last_varint [] d small fit = small
last_varint (Varint n ∷ ps) d small fit = last_varint ps n fit.0 fit.1
last_varint (Eight n ∷ ps) d small fit = last_varint ps d small fit.1
last_varint (Bytes c ∷ ps) d small fit = last_varint ps d small fit.1
last_varint (Four n ∷ ps) d small fit = last_varint ps d small fit.1

-- ---- one column

-- nothing, or one payload that fits
pub data Once (ps : List Payload) : Type 0 where
  none : ps ≡ [] → Once ps
  once : (p : Payload) → ps ≡ p ∷ [] → FitsPayload p → Once ps

-- the column is written in the row's own field, once or not at all
pub record Laid (n : ℕ) (kind : Kind) (v : Value) : Type 0 where
  pub own : number_of n v ≡ n
  pub once : Once (written kind v)

once_if : (b : Bool) (p : Payload) → FitsPayload p → Once (cond b [] (p ∷ []))
once_if true p fits = none refl
once_if false p fits = once p refl fits

bit_small : (b : Bool) → cond b 1 0 < 2 ^ 64
bit_small true = omega arith
bit_small false = omega arith

once_content : (n : ℕ) (bytes : List ℕ) → length (column_bytes n Blob (Content bytes)) < 2 ^ 64 → Once (written Blob (Content bytes))
once_content n [] few = none refl
once_content n (b ∷ bytes) few = let c = contents_fit n (Bytes (b ∷ bytes) ∷ []) few in once (Bytes (b ∷ bytes)) refl c.0

once_message : (n : ℕ) (t : Name) (vs : Values) → length (column_bytes n (One t) (Present vs)) < 2 ^ 64 → Once (written (One t) (Present vs))
once_message n t vs few = let c = contents_fit n (Bytes (canonical_onto [] (rows_of t) vs) ∷ []) few in once (Bytes (canonical_onto [] (rows_of t) vs)) refl c.0

laid_number : (n : ℕ) (c : Value) (x : ℕ) → c ≡ Number x → x < 2 ^ 64 → Laid n Unsigned (filled Unsigned c)
laid_number n c x e small = rw e (record { own = refl; once = once_if (nat_eq x 0) (Varint x) small })

laid_flag : (n : ℕ) (c : Value) (b : Bool) → c ≡ Flag b → Laid n Truth (filled Truth c)
laid_flag n c true e = rw e (record { own = refl; once = once (Varint 1) refl (omega arith) })
laid_flag n c false e = rw e (record { own = refl; once = none refl })

laid_text : (n : ℕ) (c : Value) (bytes : List ℕ) → c ≡ Content bytes → length (column_bytes n Text (filled Text c)) < 2 ^ 64 → Laid n Text (filled Text c)
laid_text n c bytes e few = let k = rw e at few in rw e (record { own = refl; once = once_content n bytes k })

laid_blob : (n : ℕ) (c : Value) (bytes : List ℕ) → c ≡ Content bytes → length (column_bytes n Blob (filled Blob c)) < 2 ^ 64 → Laid n Blob (filled Blob c)
laid_blob n c bytes e few = let k = rw e at few in rw e (record { own = refl; once = once_content n bytes k })

laid_message : (n : ℕ) (t : Name) (means : List ℕ → Values → Type 0) (qs : List (List ℕ)) (c : Value) → MeansOne means qs c → length (column_bytes n (One t) (filled (One t) c)) < 2 ^ 64 → Laid n (One t) (filled (One t) c)
laid_message n t means [] c e few = let k = rw e at few in rw e (record { own = refl; once = once_message n t (empty_of t) k })
laid_message n t means (q ∷ qs) c (w, m, e) few = let k = rw e at few in rw e (record { own = refl; once = once_message n t w k })

laid_column : (means : Name → List ℕ → Values → Type 0) (n : ℕ) (kind : Kind) (ps : List Payload) (c : Value) → is_plain kind ≡ true → ColumnMeans means kind ps c → AllFit ps → length (column_bytes n kind (filled kind c)) < 2 ^ 64 → Laid n kind (filled kind c)
laid_column means n Unsigned ps c plain m fit few = laid_number n c _ m (last_varint ps 0 (omega arith) fit)
laid_column means n Truth ps c plain m fit few = laid_flag n c _ m
laid_column means n Text ps c plain m fit few = laid_text n c _ m few
laid_column means n Blob ps c plain m fit few = laid_blob n c _ m few
laid_column means n (One t) ps c plain m fit few = laid_message n t (means t) (filter_map content_in ps) c m few
laid_column means n _ ps c plain m fit few = absurd cc

abbrev pub AreLaid : List Row → Values → Type 0
AreLaid [] End = Unit {0}
AreLaid (r ∷ rows) (And v vs) = Laid r.number r.kind v × AreLaid rows vs
AreLaid _ _ = ⊥

-- a row's column, and those behind it
column_first : (r : Row) (rows : List Row) (v : Value) (vs : Values) → canonical_onto [] (r ∷ rows) (And v vs) ≡ column_bytes r.number r.kind v ++ canonical_onto [] rows vs
column_first r rows v vs = canonical_after rows (column_bytes r.number r.kind v) vs

pub laid_columns : (means : Name → List ℕ → Values → Type 0) (bytes : List ℕ) (fs : List WireField) (rows : List Row) (cs : Values) → Fields bytes fs → ArePlain rows → ColumnsMean means rows fs cs → length (canonical_onto [] rows (all_filled rows cs)) < 2 ^ 64 → AreLaid rows (all_filled rows cs)
laid_columns means bytes fs [] End k plain m few = tt
laid_columns means bytes fs [] (And c cs) k plain m few = absurd m
laid_columns means bytes fs (r ∷ rows) End k plain m few = absurd m
laid_columns means bytes fs (r ∷ rows) (And c cs) k plain m few =
    let both : length (canonical_onto [] (r ∷ rows) (And (filled r.kind c) (all_filled rows cs))) ≡ length (column_bytes r.number r.kind (filled r.kind c)) + length (canonical_onto [] rows (all_filled rows cs))
    = ap length (column_first r rows (filled r.kind c) (all_filled rows cs)) ∙ length-append (column_bytes r.number r.kind (filled r.kind c)) (canonical_onto [] rows (all_filled rows cs)) in
    (laid_column means r.number r.kind (occurrences r.number fs) c plain.0 m.0 (small_occurrences r.number bytes fs k) (omega (arith, both, few)), laid_columns means bytes fs rows cs k plain.1 m.1 (omega (arith, both, few)))

-- ---- the fields of canonical bytes

once_fits : (ps : List Payload) → Once ps → AllFit ps
once_fits ps (none e) = subst AllFit (sym e) tt
once_fits ps (once p e fits) = subst AllFit (sym e) (fits, tt)

pub laid_fields : (n : ℕ) (rows : List Row) (vs : Values) → Ascend n rows → AreLaid rows vs → Fields (canonical_onto [] rows vs) (fields_of rows vs)
laid_fields n [] End a h = refl
laid_fields n [] (And v vs) a h = absurd h
laid_fields n (r ∷ rows) End a h = absurd h
laid_fields n (r ∷ rows) (And v vs) a h =
    let ps = written r.kind v in
    let own = h.0.own in
    let here : Fields (spelled (number_of r.number v) ps) (numbered r.number ps) = rw own (numbered_spelled r.number ps (omega (arith, a.0), a.1) (once_fits ps h.0.once)) in
    rw (column_first r rows v vs) (fields-append (column_bytes r.number r.kind v) (canonical_onto [] rows vs) (numbered r.number ps) (fields_of rows vs) here (laid_fields r.number rows vs a.2 h.1))

-- ---- what is above a number

abbrev pub AllAbove : ℕ → List WireField → Type 0
AllAbove n [] = Unit {0}
AllAbove n (f ∷ fs) = (n < f.number) × AllAbove n fs

above_append : (n : ℕ) (fs gs : List WireField) → AllAbove n fs → AllAbove n gs → AllAbove n (fs ++ gs)
above_append n [] gs h k = k
above_append n (f ∷ fs) gs h k = (h.0, above_append n fs gs h.1 k)

above_numbered : (n m : ℕ) (ps : List Payload) → n < m → AllAbove n (numbered m ps)
above_numbered n m [] lt = tt
above_numbered n m (p ∷ ps) lt = (lt, above_numbered n m ps lt)

pub above_fields : (n m : ℕ) (rows : List Row) (vs : Values) → n ≤ m → Ascend m rows → AllAbove n (fields_of rows vs)
above_fields n m rows End le a = tt
above_fields n m [] (And v vs) le a = tt
above_fields n m (r ∷ rows) (And v vs) le a =
    above_append n (numbered r.number (written r.kind v)) (fields_of rows vs) (above_numbered n r.number (written r.kind v) (omega (arith, le, a.0))) (above_fields n r.number rows vs (omega (arith, le, a.0)) a.2)

other_number : (x y : ℕ) → (x < y) ⊎ (y < x) → nat_eq x y ≡ false
other_number x y (inl lt) = grind (arith, nat_tests)
other_number x y (inr lt) = grind (arith, nat_tests)

pub above_other : (n m : ℕ) → n < m → nat_eq m n ≡ false
above_other n m lt = other_number m n (inr lt)

pub below_other : (n m : ℕ) → n < m → nat_eq n m ≡ false
below_other n m lt = other_number n m (inl lt)

pub same_number : (n : ℕ) → nat_eq n n ≡ true
same_number n = grind (arith, nat_tests)

-- ---- the occurrences of a number

own_occurrences : (n : ℕ) (ps : List Payload) → occurrences n (numbered n ps) ≡ ps
own_occurrences n [] = refl
own_occurrences n (p ∷ ps) = rw (same_number n) (ap (λ (xs : List Payload). p ∷ xs) (own_occurrences n ps))

other_occurrences : (n m : ℕ) (ps : List Payload) → nat_eq m n ≡ false → occurrences n (numbered m ps) ≡ []
other_occurrences n m [] e = refl
other_occurrences n m (p ∷ ps) e = rw e (other_occurrences n m ps e)

above_occurrences : (n : ℕ) (fs : List WireField) → AllAbove n fs → occurrences n fs ≡ []
above_occurrences n [] h = refl
above_occurrences n (f ∷ fs) h = rw (above_other n f.number h.0) (above_occurrences n fs h.1)

abbrev NoneOf : List Row → List WireField → Type 0
NoneOf [] fs = Unit {0}
NoneOf (r ∷ rows) fs = (occurrences r.number fs ≡ []) × NoneOf rows fs

none_before : (rows : List Row) → NoneOf rows []
none_before [] = tt
none_before (r ∷ rows) = (refl, none_before rows)

none_more : (m n : ℕ) (ps : List Payload) (rows : List Row) (fs : List WireField) → m ≤ n → Ascend n rows → NoneOf rows fs → NoneOf rows (fs ++ numbered m ps)
none_more m n ps [] fs le a h = tt
none_more m n ps (r ∷ rows) fs le a h =
    (rw (occurrences-append r.number fs (numbered m ps), h.0) (other_occurrences r.number m ps (below_other m r.number (omega (arith, le, a.0)))), none_more m r.number ps rows fs (omega (arith, le, a.0)) a.2 h.1)

-- the fields of a number in those of the rows are its column's
row_occurrences : (n : ℕ) (kind : Kind) (before : List WireField) (rows : List Row) (v : Value) (vs : Values) → Ascend n rows → occurrences n before ≡ [] → occurrences n (before ++ (numbered n (written kind v) ++ fields_of rows vs)) ≡ written kind v
row_occurrences n kind before rows v vs a h =
    let ps = written kind v in
    rw (occurrences-append n before (numbered n ps ++ fields_of rows vs), h, occurrences-append n (numbered n ps) (fields_of rows vs), own_occurrences n ps, above_occurrences n (fields_of rows vs) (above_fields n n rows vs (omega arith) a)) (append-nothing ps)

-- ---- from the meaning of canonical bytes to the law of each column

-- a message that is written isn't absent
unfilled : (means : Name → List ℕ → Values → Type 0) (kind : Kind) (c : Value) → ColumnMeans means kind (written kind (filled kind c)) c → filled kind c ≡ c
unfilled means (One t) Absent (w, m, e) = absurd (differ w e)
  where
    differ : (w : Values) → Absent ≡ Present w → ⊥
    differ w e = cc
unfilled means (One t) c m = refl
unfilled means kind c m = refl

-- the payloads of the rows are right
right_numbered : (sound : Name → List ℕ → Type 0) (all : List Row) (n : ℕ) (kind : Kind) (ps : List Payload) (fs : List WireField) → kind_at n all ≡ Some kind → AreRight sound all (numbered n ps ++ fs) → AllRight sound kind ps × AreRight sound all fs
right_numbered sound all n kind [] fs e h = (tt, h)
right_numbered sound all n kind (p ∷ ps) fs e h = let more = right_numbered sound all n kind ps fs e h.1 in ((rw e at h.0, more.0), more.1)

pub each_law : (below n : ℕ) (all rows : List Row) (before : List WireField) (cs : Values) → Found all rows → Ascend n rows → NoneOf rows before → AreLaid rows (all_filled rows cs)
    → AreRight (Sound below) all (fields_of rows (all_filled rows cs)) → ColumnsMean (Means below) rows (before ++ fields_of rows (all_filled rows cs)) cs → EachLaw below rows (all_filled rows cs) × (all_filled rows cs ≡ cs)
each_law below n all [] before End f a nothing laid right m = (tt, refl)
each_law below n all [] before (And c cs) f a nothing laid right m = absurd m
each_law below n all (r ∷ rows) before End f a nothing laid right m = absurd m
each_law below n all (r ∷ rows) before (And c cs) f a nothing laid right m =
    let v = filled r.kind c in
    let vs = all_filled rows cs in
    let ps = written r.kind v in
    let own : ColumnMeans (Means below) r.kind ps c = rw (row_occurrences r.number r.kind before rows v vs a.2 nothing.0) at m.0 in
    let same = unfilled (Means below) r.kind c own in
    let rights = right_numbered (Sound below) all r.number r.kind ps (fields_of rows vs) f.0 right in
    let later = each_law below r.number all rows (before ++ numbered r.number ps) cs f.1 a.2 (none_more r.number r.number ps rows before (omega arith) a.2 nothing.1) laid.1 rights.1 (rw (← append_assoc before (numbered r.number ps) (fields_of rows vs)) at m.1) in
    ((laid.0.own, record { fits = once_fits ps laid.0.once; right = rights.0; means = subst (λ (w : Value). ColumnMeans (Means below) r.kind ps w) (sym same) own }, later.0), ap (λ (w : Value). And w vs) same ∙ ap (And c) later.1)

-- the canonical bytes of what they mean
pub laws_of : (below : ℕ) (name : Name) (bytes : List ℕ) (fs : List WireField) (cs : Values) → ArePlain (rows_of name) → Ascend 0 (rows_of name) → Found (rows_of name) (rows_of name) → Fields bytes fs → AreRight (Sound below) (rows_of name) fs → ColumnsMean (Means below) (rows_of name) fs cs
    → bytes ≡ canonical_onto [] (rows_of name) (all_filled (rows_of name) cs) → length bytes < 2 ^ 64 → AreLaid (rows_of name) (all_filled (rows_of name) cs) × EachLaw below (rows_of name) (all_filled (rows_of name) cs)
laws_of below name bytes fs cs plain ascend found k right m is few =
    let rows = rows_of name in
    let vs = all_filled rows cs in
    let laid : AreLaid rows vs = laid_columns (Means below) bytes fs rows cs k plain m (omega (arith, ap length is, few)) in
    let same : fs ≡ fields_of rows vs = one_fields fs (fields_of rows vs) bytes k (subst (λ (b : List ℕ). Fields b (fields_of rows vs)) (sym is) (laid_fields 0 rows vs ascend laid)) in
    let laws = each_law below 0 rows rows [] cs found ascend (none_before rows) laid (rw same at right) (rw same at m) in
    (laid, laws.0)
