-- The change from one payload to another leads there.
use Rattle.std.proofs.Common.{◌≡◌, ℕ, zero, suc, ◌+◌, ◌<◌, ◌≤◌, ◌^◌, Bool, true, false, cond, List, [], ◌∷◌, length, refl, ap, sym, subst, ◌∙◌, arith, inl, inr}
use Rattle.std.specs.Prelude.{Option, Some, None}
use Rattle.std.specs.Str.{bytes_eq}
use Rattle.std.proofs.lemmas.Slice.Eq.{bytes_eq-Decides}
use Rattle.message_codec.specs.Tables as tables
use Rattle.message_codec.specs.Tables.{AllOf, Kind, One, Raw, Row, rows_of}
use Rattle.message_codec.specs.Values.{Value, Absent, Content, Values, End, And}
use Rattle.message_codec.specs.Means.{Means}
use Rattle.message_codec.proofs.Laws.{one_meaning}
use Rattle.message_codec.specs.Canonical.{canonical, column_bytes}
use Rattle.message_codec.specs.Levels.{depth, deepest}
use Rattle.message_codec.specs.Fits.{FitsColumn, FitsIn}
use Rattle.message_codec.proofs.CanonicalFields.{table_ascends, found_all, EachLaw}
use Rattle.message_codec.proofs.CanonicalMeans.{canonical_means}
use Rattle.agent_rules.specs.Columns.{column_at}
use Rattle.agent_rules.specs.Payloads.{filled, all_filled, MeansFields}
use Rattle.agent_rules.specs.Changes.{TakesColumn, TakesColumns, Changes}
use Rattle.agent_rules.specs.Spelled.{difference, differences, change, piece, rest_after}
use Rattle.agent_rules.specs.Right.{are_right}
use Rattle.agent_rules.specs.Codec.{kept_if, found_in, value_of, canonical_if, after, meaning, changed}
use Rattle.agent_rules.specs.Deciding.{Decided}
use Rattle.agent_rules.specs.Next.{fields_or}
use Rattle.agent_rules.proofs.Found.{value_is, next_is}
use Rattle.agent_rules.proofs.Plain.{AreLaid, laws_of}
use Rattle.agent_rules.proofs.Alone.{lone, IsAt, saved_rows, saved_plain, lone_means, lone_fields, lone_value}
use Rattle.agent_rules.proofs.Walked.{many, Counts, column_differences, walked, RawFrom, raw_rows}

-- ---- payloads that mean themselves

record Known (bytes : List ℕ) : Type 0 where
  columns : Values
  means : MeansFields bytes columns
  kept : kept_if columns ≡ Some columns
  canonical_bytes : bytes ≡ canonical tables.SavedState columns

same_bytes : (a b : List ℕ) → Some a ≡ Some b → a ≡ b
same_bytes a b e = cc

known_by : (bytes : List ℕ) (vs : Values) (b : Bool) → are_right vs ≡ b → MeansFields bytes vs → canonical_if (cond b (Some vs) None) ≡ Some bytes → Known bytes
known_by bytes vs true right m e = record { columns = vs; means = m; kept = rw right refl; canonical_bytes = sym (same_bytes (canonical tables.SavedState vs) bytes e) }
known_by bytes vs false right m e = absurd (differ bytes e)
  where
    differ : (b : List ℕ) → None ≡ Some b → ⊥
    differ b e = cc

known_found : (bytes : List ℕ) (d : Decided ((vs : Values) × MeansFields bytes vs)) → canonical_if (found_in (MeansFields bytes) d) ≡ Some bytes → Known bytes
known_found bytes (inl f) e = known_by bytes f.0 (are_right f.0) refl f.1 e
known_found bytes (inr never) e = absurd (differ bytes e)
  where
    differ : (b : List ℕ) → None ≡ Some b → ⊥
    differ b e = cc

known_of : (bytes : List ℕ) → meaning bytes ≡ Some bytes → Known bytes
unfolding meaning value_of
known_of bytes e = known_found bytes (fields_or bytes) e

-- ---- their columns

abbrev AreFilled : List Row → Values → Type 0
AreFilled [] vs = Unit {0}
AreFilled (r ∷ rows) End = Unit {0}
AreFilled (r ∷ rows) (And v vs) = (filled r.kind v ≡ v) × AreFilled rows vs

filled_twice : (kind : Kind) (c : Value) → filled kind (filled kind c) ≡ filled kind c
filled_twice (One t) Absent = refl
filled_twice (One t) c = refl
filled_twice kind c = refl

filled_all : (rows : List Row) (cs : Values) → AreFilled rows (all_filled rows cs)
filled_all [] cs = tt
filled_all (r ∷ rows) End = tt
filled_all (r ∷ rows) (And c cs) = (filled_twice r.kind c, filled_all rows cs)

record Ordered (vs : Values) : Type 0 where
  laid : AreLaid saved_rows vs
  laws : EachLaw 99 saved_rows vs
  full : AreFilled saved_rows vs

ordered : (bytes : List ℕ) (k : Known bytes) → length bytes < 2 ^ 62 → Ordered k.columns
ordered bytes k few =
    let m = k.means in
    let is : bytes ≡ canonical tables.SavedState (all_filled saved_rows m.columns) = k.canonical_bytes ∙ ap (canonical tables.SavedState) m.filled in
    let both = laws_of 99 tables.SavedState bytes m.means.0 m.columns saved_plain (table_ascends tables.SavedState) (found_all 0 saved_rows (table_ascends tables.SavedState)) m.means.1 m.means.2 m.means.3 is (omega (arith, few)) in
    subst Ordered (sym m.filled) (record { laid = both.0; laws = both.1; full = filled_all saved_rows m.columns })

-- ---- what each field of the change does

-- the row, and those behind it, stand at this place and behind it
abbrev StandAt : ℕ → List Row → Values → List Row → Values → Type 0
StandAt zero all vs rows ws = (all ≡ rows) × (vs ≡ ws)
StandAt (suc place) (r ∷ all) (And v vs) rows ws = StandAt place all vs rows ws
StandAt (suc place) _ _ rows ws = ⊥

stand_here : (place : ℕ) (all : List Row) (vs : Values) (r : Row) (rows : List Row) (w : Value) (ws : Values) → StandAt place all vs (r ∷ rows) (And w ws) → IsAt place r.number r.kind w all vs
stand_here zero all vs r rows w ws h = subst (λ (xs : List Row). IsAt zero r.number r.kind w xs vs) (sym h.0) (subst (λ (us : Values). IsAt zero r.number r.kind w (r ∷ rows) us) (sym h.1) (refl, refl, refl))
stand_here (suc place) (s ∷ all) (And v vs) r rows w ws h = stand_here place all vs r rows w ws h
stand_here (suc place) [] vs r rows w ws h = absurd h
stand_here (suc place) (s ∷ all) End r rows w ws h = absurd h

stand_behind : (place : ℕ) (all : List Row) (vs : Values) (r : Row) (rows : List Row) (w : Value) (ws : Values) → StandAt place all vs (r ∷ rows) (And w ws) → StandAt (suc place) all vs rows ws
stand_behind zero all vs r rows w ws h = subst (λ (xs : List Row). StandAt 1 xs vs rows ws) (sym h.0) (subst (λ (us : Values). StandAt 1 (r ∷ rows) us rows ws) (sym h.1) (refl, refl))
stand_behind (suc place) (s ∷ all) (And v vs) r rows w ws h = stand_behind place all vs r rows w ws h
stand_behind (suc place) [] vs r rows w ws h = absurd h
stand_behind (suc place) (s ∷ all) End r rows w ws h = absurd h

-- columns with the same bytes are the same
same_columns : (place number : ℕ) (kind : Kind) (v w : Value) (vs ws : Values) → EachLaw 99 saved_rows vs → EachLaw 99 saved_rows ws → IsAt place number kind v saved_rows vs → IsAt place number kind w saved_rows ws → filled kind v ≡ v → filled kind w ≡ w
    → column_bytes number kind v ≡ column_bytes number kind w → w ≡ v
same_columns place number kind v w vs ws l m h k full fills e =
    let means = subst (λ (bytes : List ℕ). Means 100 tables.SavedState bytes (lone number saved_rows vs)) e (lone_means place number kind v vs l h) in
    let same = one_meaning 100 tables.SavedState (column_bytes number kind w) (lone number saved_rows vs) (lone number saved_rows ws) means (lone_means place number kind w ws m k) in
    sym (lone_value place number kind w ws k fills) ∙ ap (λ (us : Values). column_at place (all_filled saved_rows us)) (sym same) ∙ lone_value place number kind v vs h full

takes_difference : (place number : ℕ) (kind : Kind) (v w : Value) (vs ws : Values) → EachLaw 99 saved_rows vs → EachLaw 99 saved_rows ws → IsAt place number kind v saved_rows vs → IsAt place number kind w saved_rows ws → filled kind v ≡ v → filled kind w ≡ w
    → TakesColumn place (difference (column_bytes number kind v) (column_bytes number kind w)) v w
unfolding difference
takes_difference place number kind v w vs ws l m h k full fills = by (bytes_eq (column_bytes number kind v) (column_bytes number kind w)) refl
  where
    by : (b : Bool) → bytes_eq (column_bytes number kind v) (column_bytes number kind w) ≡ b → TakesColumn place (cond b Absent (Content (column_bytes number kind w))) v w
    by true e = same_columns place number kind v w vs ws l m h k full fills ((bytes_eq-Decides (column_bytes number kind v) (column_bytes number kind w)).0 e)
    by false e = (all_filled saved_rows (lone number saved_rows ws), lone_fields place number kind w ws m k, sym (lone_value place number kind w ws k fills))

takes_all : (place : ℕ) (all_vs all_ws : Values) (rows : List Row) (vs ws : Values) → EachLaw 99 saved_rows all_vs → EachLaw 99 saved_rows all_ws → StandAt place saved_rows all_vs rows vs → StandAt place saved_rows all_ws rows ws → AreLaid rows vs → AreLaid rows ws → AreFilled rows vs → AreFilled rows ws
    → TakesColumns place (column_differences rows vs ws) vs ws
takes_all place avs aws [] End End l m h k p q full fills = refl
takes_all place avs aws [] (And v vs) ws l m h k p q full fills = absurd p
takes_all place avs aws [] End (And w ws) l m h k p q full fills = absurd q
takes_all place avs aws (r ∷ rows) End ws l m h k p q full fills = absurd p
takes_all place avs aws (r ∷ rows) (And v vs) End l m h k p q full fills = absurd q
takes_all place avs aws (r ∷ rows) (And v vs) (And w ws) l m h k p q full fills = (
  w,
  ws,
  refl,
  takes_difference place r.number r.kind v w avs aws l m (stand_here place saved_rows avs r rows v vs h) (stand_here place saved_rows aws r rows w ws k) full.0 fills.0,
  takes_all (suc place) avs aws rows vs ws l m (stand_behind place saved_rows avs r rows v vs h) (stand_behind place saved_rows aws r rows w ws k) p.1 q.1 full.1 fills.1,
)

-- ---- the change means its differences

difference_fits : (x y : List ℕ) → FitsColumn Raw (difference x y)
unfolding difference
difference_fits x y = by (bytes_eq x y)
  where
    by : (b : Bool) → FitsColumn Raw (cond b Absent (Content y))
    by true = tt
    by false = tt

difference_flat : (x y : List ℕ) → depth (difference x y) ≡ 0
unfolding difference
difference_flat x y = by (bytes_eq x y)
  where
    by : (b : Bool) → depth (cond b Absent (Content y)) ≡ 0
    by true = refl
    by false = refl

differences_fit : (n : ℕ) (rows : List Row) (former next : List ℕ) → RawFrom n rows → FitsIn AllOf rows (differences (many rows) n former next)
differences_fit n [] former next h = tt
differences_fit n (r ∷ rows) former next h =
    (subst (λ (kind : Kind). FitsColumn kind (difference (piece n former) (piece n next))) (sym h.1) (difference_fits (piece n former) (piece n next)), differences_fit (n + 1) rows (rest_after n former) (rest_after n next) h.2)

differences_flat : (k n : ℕ) (former next : List ℕ) → deepest (differences k n former next) ≤ 99
differences_flat zero n former next = omega arith
differences_flat (suc k) n former next = omega (arith, difference_flat (piece n former) (piece n next), differences_flat k (n + 1) (rest_after n former) (rest_after n next))

change_means : (former next : List ℕ) → length (change former next) < 2 ^ 62 → Means 100 tables.SavedChange (change former next) (differences 12 1 former next)
unfolding change
change_means former next few = canonical_means 99 tables.SavedChange (differences 12 1 former next) (differences_fit 1 (rows_of tables.SavedChange) former next raw_rows) (differences_flat 12 1 former next) (omega (arith, few))

-- ---- it leads to the next payload

saved_counts : Counts 1 saved_rows
saved_counts = (refl, (refl, (refl, (refl, (refl, (refl, (refl, (refl, (refl, (refl, (refl, (refl, tt))))))))))))

differences_are : (former next : List ℕ) (f : Known former) (g : Known next) → Ordered f.columns → Ordered g.columns → differences 12 1 former next ≡ column_differences saved_rows f.columns g.columns
differences_are former next f g o p =
    ap (λ (bytes : List ℕ). differences 12 1 bytes next) f.canonical_bytes ∙ ap (differences 12 1 (canonical tables.SavedState f.columns)) g.canonical_bytes
    ∙ walked 0 1 saved_rows f.columns g.columns (table_ascends tables.SavedState) saved_counts o.laid p.laid

change_takes : (former next : List ℕ) (f : Known former) (g : Known next) → Ordered f.columns → Ordered g.columns → length (change former next) < 2 ^ 62 → Changes (change former next) f.columns g.columns
change_takes former next f g o p few = record {
  columns = differences 12 1 former next;
  means = change_means former next few;
  takes = subst (λ (cs : Values). TakesColumns 0 cs f.columns g.columns) (sym (differences_are former next f g o p)) (takes_all 0 f.columns g.columns saved_rows f.columns g.columns o.laws p.laws (refl, refl) (refl, refl) o.laid p.laid o.full p.full);
}

pub leads : (former next : List ℕ) → meaning former ≡ Some former → meaning next ≡ Some next → length former < 2 ^ 62 → length next < 2 ^ 62 → length (change former next) < 2 ^ 62 → changed former (change former next) ≡ Some next
unfolding changed
leads former next right right' few few' short =
    let f = known_of former right in
    let g = known_of next right' in
    let h = change_takes former next f g (ordered former f few) (ordered next g few') short in
    ap (λ (o : Option Values). canonical_if (after o (change former next))) (value_is former f.columns f.means ∙ f.kept)
    ∙ ap canonical_if (next_is (change former next) f.columns g.columns h ∙ g.kept) ∙ ap Some (sym g.canonical_bytes)
