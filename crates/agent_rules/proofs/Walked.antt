-- Canonical bytes, walked field by field.
use Rattle.std.proofs.Common.{◌≡◌, ℕ, zero, suc, ◌+◌, ◌-◌, ◌*◌, List, [], ◌∷◌, ◌++◌, length, refl, ap, sym, subst, ◌∙◌, arith, length-append}
use Rattle.std.proofs.lemmas.List.{take_at}
use Rattle.message_codec.specs.Fields.{Payload, Varint, Eight, Bytes, Four, WireField, wire_type, IsTag, SpellsField, Fields, field_spelling}
use Rattle.message_codec.specs.Reading.{tag_at, field_at}
use Rattle.message_codec.proofs.Shortest.{field_spells}
use Rattle.message_codec.proofs.WholeFields.{field_again}
use Rattle.message_codec.specs.Tables as tables
use Rattle.message_codec.specs.Tables.{Kind, Raw, Row, rows_of}
use Rattle.message_codec.specs.Values.{Value, Values, End, And}
use Rattle.message_codec.proofs.ColumnLaws.{append-nothing}
use Rattle.message_codec.specs.Canonical.{spelled, canonical_onto, column_bytes}
use Rattle.message_codec.proofs.Canonical.{canonical_after}
use Rattle.message_codec.proofs.CanonicalFields.{IsNumber, Ascend, written, fields_of}
use Rattle.agent_rules.specs.Spelled.{rest_after, piece, difference, differences, change, change_from}
use Rattle.agent_rules.proofs.Plain.{Once, none, once, Laid, AreLaid, AllAbove, laid_fields, above_fields, above_other, same_number}

-- ---- one step

pub nothing_after : (n : ℕ) → rest_after n [] ≡ []
unfolding rest_after field_at tag_at
nothing_after n = refl

-- no field of the number stands there
pub rest_none : (n : ℕ) (bytes : List ℕ) (fs : List WireField) → Fields bytes fs → AllAbove n fs → rest_after n bytes ≡ bytes
unfolding rest_after
rest_none n bytes [] k h = rw k (nothing_after n)
rest_none n bytes (f ∷ fs) (front, rest, e, s, k) h = rw (e, field_again front f rest s, above_other n f.number h.0) refl

rest_own : (n : ℕ) (c rest : List ℕ) (p : Payload) → SpellsField c (record { number = n; payload = p }) → rest_after n (c ++ rest) ≡ rest
unfolding rest_after
rest_own n c rest p s = rw (field_again c (record { number = n; payload = p }) rest s, same_number n) refl

-- the bytes of a column, and what comes behind
pub record Front (n : ℕ) (c rest : List ℕ) : Type 0 where
  pub rest_is : rest_after n (c ++ rest) ≡ rest
  pub piece_is : piece n (c ++ rest) ≡ c

front_of : (n : ℕ) (c rest : List ℕ) → rest_after n (c ++ rest) ≡ rest → Front n c rest
unfolding piece
front_of n c rest e =
    let len : length (c ++ rest) - length (rest_after n (c ++ rest)) ≡ length c = omega (arith, ap length e, length-append c rest) in
    record { rest_is = e; piece_is = rw len (take_at c rest (length c) refl) }

is_tag : (n : ℕ) (p : Payload) → IsNumber n → IsTag (n * 8 + wire_type p)
is_tag n (Varint x) h = (omega (arith, h.0), omega (arith, h.1))
is_tag n (Eight x) h = (omega (arith, h.0), omega (arith, h.1))
is_tag n (Bytes bytes) h = (omega (arith, h.0), omega (arith, h.1))
is_tag n (Four x) h = (omega (arith, h.0), omega (arith, h.1))

front_by : (n : ℕ) (ps : List Payload) (rest : List ℕ) (fs : List WireField) → IsNumber n → Once ps → Fields rest fs → AllAbove n fs → Front n (spelled n ps) rest
front_by n ps rest fs number (none e) k h = rw e (front_of n [] rest (rest_none n rest fs k h))
front_by n ps rest fs number (once p e fits) k h =
    let f : WireField = record { number = n; payload = p } in
    let spells : SpellsField (spelled n (p ∷ [])) f = rw (append-nothing (field_spelling f)) (field_spells f (is_tag n p number) fits) in
    rw e (front_of n (spelled n (p ∷ [])) rest (rest_own n (spelled n (p ∷ [])) rest p spells))

column_front : (n : ℕ) (kind : Kind) (v : Value) (rest : List ℕ) (fs : List WireField) → IsNumber n → Laid n kind v → Fields rest fs → AllAbove n fs → Front n (column_bytes n kind v) rest
column_front n kind v rest fs number laid k h =
    subst (λ (m : ℕ). Front n (spelled m (written kind v)) rest) (sym laid.own) (front_by n (written kind v) rest fs number laid.once k h)

-- ---- all steps

-- the numbers of the rows count up from this one
abbrev pub Counts : ℕ → List Row → Type 0
Counts n [] = Unit {0}
Counts n (r ∷ rows) = (r.number ≡ n) × Counts (n + 1) rows

abbrev pub many : List Row → ℕ
many [] = zero
many (r ∷ rows) = suc (many rows)

-- what a change has of two rows of columns
abbrev pub column_differences : List Row → Values → Values → Values
column_differences (r ∷ rows) (And v vs) (And w ws) = And (difference (column_bytes r.number r.kind v) (column_bytes r.number r.kind w)) (column_differences rows vs ws)
column_differences _ _ _ = End

row_front : (m : ℕ) (r : Row) (rows : List Row) (v : Value) (vs : Values) → Ascend m (r ∷ rows) → AreLaid (r ∷ rows) (And v vs) → Front r.number (column_bytes r.number r.kind v) (canonical_onto [] rows vs)
row_front m r rows v vs a laid =
    column_front r.number r.kind v (canonical_onto [] rows vs) (fields_of rows vs) (omega (arith, a.0), a.1) laid.0 (laid_fields r.number rows vs a.2 laid.1) (above_fields r.number r.number rows vs (omega arith) a.2)

pub walked : (m n : ℕ) (rows : List Row) (vs ws : Values) → Ascend m rows → Counts n rows → AreLaid rows vs → AreLaid rows ws → differences (many rows) n (canonical_onto [] rows vs) (canonical_onto [] rows ws) ≡ column_differences rows vs ws
walked m n [] End End a c h k = refl
walked m n [] (And v vs) ws a c h k = absurd h
walked m n [] End (And w ws) a c h k = absurd k
walked m n (r ∷ rows) End ws a c h k = absurd h
walked m n (r ∷ rows) (And v vs) End a c h k = absurd k
walked m n (r ∷ rows) (And v vs) (And w ws) a c h k =
    let f = row_front m r rows v vs a h in
    let g = row_front m r rows w ws a k in
    let fs = subst (λ (i : ℕ). Front i (column_bytes r.number r.kind v) (canonical_onto [] rows vs)) c.0 f in
    let gs = subst (λ (i : ℕ). Front i (column_bytes r.number r.kind w) (canonical_onto [] rows ws)) c.0 g in
    rw (canonical_after rows (column_bytes r.number r.kind v) vs, canonical_after rows (column_bytes r.number r.kind w) ws, fs.piece_is, gs.piece_is, fs.rest_is, gs.rest_is)
    (ap (And (difference (column_bytes r.number r.kind v) (column_bytes r.number r.kind w))) (walked r.number (n + 1) rows vs ws a.2 c.1 h.1 k.1))

-- ---- the change as it is written

abbrev pub RawFrom : ℕ → List Row → Type 0
RawFrom n [] = Unit {0}
RawFrom n (r ∷ rows) = (r.number ≡ n) × (r.kind ≡ Raw) × RawFrom (n + 1) rows

spelled_from : (n : ℕ) (rows : List Row) (former next : List ℕ) → RawFrom n rows → canonical_onto [] rows (differences (many rows) n former next) ≡ change_from (many rows) n former next
unfolding change_from
spelled_from n [] former next h = refl
spelled_from n (r ∷ rows) former next h =
    let d = difference (piece n former) (piece n next) in
    canonical_after rows (column_bytes r.number r.kind d) (differences (many rows) (n + 1) (rest_after n former) (rest_after n next))
    ∙ ap (λ (i : ℕ). column_bytes i r.kind d ++ canonical_onto [] rows (differences (many rows) (n + 1) (rest_after n former) (rest_after n next))) h.0
    ∙ ap (λ (k : Kind). column_bytes n k d ++ canonical_onto [] rows (differences (many rows) (n + 1) (rest_after n former) (rest_after n next))) h.1
    ∙ ap (λ (xs : List ℕ). column_bytes n Raw d ++ xs) (spelled_from (n + 1) rows (rest_after n former) (rest_after n next) h.2)

pub raw_rows : RawFrom 1 (rows_of tables.SavedChange)
raw_rows = (refl, refl, (refl, refl, (refl, refl, (refl, refl, (refl, refl, (refl, refl, (refl, refl, (refl, refl, (refl, refl, (refl, refl, (refl, refl, (refl, refl, tt))))))))))))

pub change_is : (former next : List ℕ) → change former next ≡ change_from 12 1 former next
unfolding change
change_is former next = spelled_from 1 (rows_of tables.SavedChange) former next raw_rows
