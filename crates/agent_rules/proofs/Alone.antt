-- The payload that has one field alone.
use Rattle.std.proofs.Common.{◌≡◌, ℕ, zero, suc, ◌<◌, ◌≤◌, Bool, true, false, cond, nat_eq, List, [], ◌∷◌, ◌++◌, refl, ap, subst, ◌∙◌, arith}
use Rattle.message_codec.specs.Tables as tables
use Rattle.message_codec.specs.Tables.{Name, Kind, Unsigned, Truth, Text, Blob, One, Row, rows_of}
use Rattle.message_codec.specs.Values.{Value, Values, End, And}
use Rattle.message_codec.specs.Means.{Means, default_of}
use Rattle.message_codec.proofs.ColumnLaws.{append-nothing}
use Rattle.message_codec.specs.Canonical.{number_of, canonical_onto, column_bytes}
use Rattle.message_codec.proofs.CanonicalFields.{Ascend, table_ascends, written, ColumnLaw, EachLaw, columns_law}
use Rattle.agent_rules.specs.Columns.{column_at}
use Rattle.agent_rules.specs.Payloads.{filled, all_filled, MeansFields}
use Rattle.agent_rules.proofs.Plain.{is_plain, ArePlain, same_number, below_other, above_other}

-- the columns, of which all but that of the number are at their defaults
abbrev pub lone : ℕ → List Row → Values → Values
lone number [] vs = vs
lone number (r ∷ rows) End = End
lone number (r ∷ rows) (And v vs) = And (cond (nat_eq r.number number) v (default_of r.kind)) (lone number rows vs)

-- the row at this place has this number and this kind, and its column is this one
abbrev pub IsAt : ℕ → ℕ → Kind → Value → List Row → Values → Type 0
IsAt zero number kind v (r ∷ rows) (And w vs) = (r.number ≡ number) × (r.kind ≡ kind) × (w ≡ v)
IsAt (suc place) number kind v (r ∷ rows) (And w vs) = IsAt place number kind v rows vs
IsAt _ number kind v _ _ = ⊥

-- ---- each column means itself

record Default (below n : ℕ) (kind : Kind) : Type 0 where
  own : number_of n (default_of kind) ≡ n
  law : ColumnLaw below kind (default_of kind) (written kind (default_of kind))

default_law : (below n : ℕ) (kind : Kind) → is_plain kind ≡ true → Default below n kind
default_law below n Unsigned e = record { own = refl; law = record { fits = tt; right = tt; means = refl } }
default_law below n Truth e = record { own = refl; law = record { fits = tt; right = tt; means = refl } }
default_law below n Text e = record { own = refl; law = record { fits = tt; right = tt; means = refl } }
default_law below n Blob e = record { own = refl; law = record { fits = tt; right = tt; means = refl } }
default_law below n (One t) e = record { own = refl; law = record { fits = tt; right = tt; means = refl } }
default_law below n _ e = absurd cc

abbrev OneLaw : ℕ → ℕ → Kind → Value → Type 0
OneLaw below n kind v = (number_of n v ≡ n) × ColumnLaw below kind v (written kind v)

lone_column : (below n : ℕ) (kind : Kind) (v : Value) (b : Bool) → is_plain kind ≡ true → OneLaw below n kind v → OneLaw below n kind (cond b v (default_of kind))
lone_column below n kind v true e law = law
lone_column below n kind v false e law = let d = default_law below n kind e in (d.own, d.law)

lone_laws : (below number : ℕ) (rows : List Row) (vs : Values) → ArePlain rows → EachLaw below rows vs → EachLaw below rows (lone number rows vs)
lone_laws below number [] vs plain e = e
lone_laws below number (r ∷ rows) End plain e = absurd e
lone_laws below number (r ∷ rows) (And v vs) plain e =
    let here = lone_column below r.number r.kind v (nat_eq r.number number) plain.0 (e.0, e.1) in
    (here.0, here.1, lone_laws below number rows vs plain.1 e.2)

-- ---- it is written as its own column

default_bytes : (n : ℕ) (kind : Kind) → is_plain kind ≡ true → column_bytes n kind (default_of kind) ≡ []
default_bytes n Unsigned e = refl
default_bytes n Truth e = refl
default_bytes n Text e = refl
default_bytes n Blob e = refl
default_bytes n (One t) e = refl
default_bytes n _ e = absurd cc

-- a row of another number adds nothing
other_row : (number : ℕ) (r : Row) (bytes : List ℕ) (rows : List Row) (v : Value) (vs : Values) → is_plain r.kind ≡ true → nat_eq r.number number ≡ false → canonical_onto bytes (r ∷ rows) (lone number (r ∷ rows) (And v vs)) ≡ canonical_onto bytes rows (lone number rows vs)
other_row number r bytes rows v vs plain e =
    rw e (ap (λ (xs : List ℕ). canonical_onto (bytes ++ xs) rows (lone number rows vs)) (default_bytes r.number r.kind plain) ∙ ap (λ (xs : List ℕ). canonical_onto xs rows (lone number rows vs)) (append-nothing bytes))

lone_none : (number n : ℕ) (bytes : List ℕ) (rows : List Row) (vs : Values) → number ≤ n → Ascend n rows → ArePlain rows → canonical_onto bytes rows (lone number rows vs) ≡ bytes
lone_none number n bytes [] End le a plain = refl
lone_none number n bytes [] (And v vs) le a plain = refl
lone_none number n bytes (r ∷ rows) End le a plain = refl
lone_none number n bytes (r ∷ rows) (And v vs) le a plain =
    other_row number r bytes rows v vs plain.0 (above_other number r.number (omega (arith, le, a.0))) ∙ lone_none number r.number bytes rows vs (omega (arith, le, a.0)) a.2 plain.1

at_above : (place number n : ℕ) (kind : Kind) (v : Value) (rows : List Row) (vs : Values) → Ascend n rows → IsAt place number kind v rows vs → n < number
at_above zero number n kind v (r ∷ rows) (And w vs) a h = omega (arith, a.0, h.0)
at_above (suc place) number n kind v (r ∷ rows) (And w vs) a h = let more = at_above place number r.number kind v rows vs a.2 h in omega (arith, a.0, more)
at_above zero number n kind v [] vs a h = absurd h
at_above zero number n kind v (r ∷ rows) End a h = absurd h
at_above (suc place) number n kind v [] vs a h = absurd h
at_above (suc place) number n kind v (r ∷ rows) End a h = absurd h

lone_bytes : (place number n : ℕ) (kind : Kind) (v : Value) (bytes : List ℕ) (rows : List Row) (vs : Values) → Ascend n rows → ArePlain rows → IsAt place number kind v rows vs → canonical_onto bytes rows (lone number rows vs) ≡ bytes ++ column_bytes number kind v
lone_bytes zero number n kind v bytes (r ∷ rows) (And w vs) a plain h =
    let same : nat_eq r.number number ≡ true = rw h.0 (same_number number) in
    let behind : number ≤ r.number = omega (arith, h.0) in
    rw same (lone_none number r.number (bytes ++ column_bytes r.number r.kind w) rows vs behind a.2 plain.1
    ∙ ap (λ (m : ℕ). bytes ++ column_bytes m r.kind w) h.0 ∙ ap (λ (k : Kind). bytes ++ column_bytes number k w) h.1 ∙ ap (λ (x : Value). bytes ++ column_bytes number kind x) h.2)
lone_bytes (suc place) number n kind v bytes (r ∷ rows) (And w vs) a plain h =
    other_row number r bytes rows w vs plain.0 (below_other r.number number (at_above place number r.number kind v rows vs a.2 h)) ∙ lone_bytes place number r.number kind v bytes rows vs a.2 plain.1 h
lone_bytes zero number n kind v bytes [] vs a plain h = absurd h
lone_bytes zero number n kind v bytes (r ∷ rows) End a plain h = absurd h
lone_bytes (suc place) number n kind v bytes [] vs a plain h = absurd h
lone_bytes (suc place) number n kind v bytes (r ∷ rows) End a plain h = absurd h

-- ---- and read as it

lone_at : (place number : ℕ) (kind : Kind) (v : Value) (rows : List Row) (vs : Values) → IsAt place number kind v rows vs → filled kind v ≡ v → column_at place (all_filled rows (lone number rows vs)) ≡ v
lone_at zero number kind v (r ∷ rows) (And w vs) h full =
    let same : nat_eq r.number number ≡ true = rw h.0 (same_number number) in
    rw same (ap (λ (k : Kind). filled k w) h.1 ∙ ap (filled kind) h.2 ∙ full)
lone_at (suc place) number kind v (r ∷ rows) (And w vs) h full = lone_at place number kind v rows vs h full
lone_at zero number kind v [] vs h full = absurd h
lone_at zero number kind v (r ∷ rows) End h full = absurd h
lone_at (suc place) number kind v [] vs h full = absurd h
lone_at (suc place) number kind v (r ∷ rows) End h full = absurd h

abbrev pub saved_rows : List Row
saved_rows = rows_of tables.SavedState

pub saved_plain : ArePlain saved_rows
saved_plain = (refl, (refl, (refl, (refl, (refl, (refl, (refl, (refl, (refl, (refl, (refl, (refl, tt))))))))))))

-- the bytes of one column mean the message that has it alone
pub lone_means : (place number : ℕ) (kind : Kind) (v : Value) (vs : Values) → EachLaw 99 saved_rows vs → IsAt place number kind v saved_rows vs → Means 100 tables.SavedState (column_bytes number kind v) (lone number saved_rows vs)
lone_means place number kind v vs laws h =
    subst (λ (bytes : List ℕ). Means 100 tables.SavedState bytes (lone number saved_rows vs)) (lone_bytes place number 0 kind v [] saved_rows vs (table_ascends tables.SavedState) saved_plain h)
    (columns_law 99 tables.SavedState (lone number saved_rows vs) refl (lone_laws 99 number saved_rows vs saved_plain laws))

pub lone_fields : (place number : ℕ) (kind : Kind) (v : Value) (vs : Values) → EachLaw 99 saved_rows vs → IsAt place number kind v saved_rows vs → MeansFields (column_bytes number kind v) (all_filled saved_rows (lone number saved_rows vs))
lone_fields place number kind v vs laws h = record { columns = lone number saved_rows vs; means = lone_means place number kind v vs laws h; filled = refl }

pub lone_value : (place number : ℕ) (kind : Kind) (v : Value) (vs : Values) → IsAt place number kind v saved_rows vs → filled kind v ≡ v → column_at place (all_filled saved_rows (lone number saved_rows vs)) ≡ v
lone_value place number kind v vs h full = lone_at place number kind v saved_rows vs h full
