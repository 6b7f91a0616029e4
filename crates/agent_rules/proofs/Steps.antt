-- Steps of the code.
use Rattle.std.proofs.Common.{◌≡◌, ℕ, suc, ◌+◌, ◌-◌, ◌<◌, ◌≤◌, ◌^◌, min, max, Bool, true, false, nat_eq, List, [], ◌∷◌, ◌++◌, length, take, drop, refl, ap, sym, subst, ◌∙◌, arith}
use Rattle.std.proofs.lemmas.Bool.Decides.{nat_tests}
use Rattle.std.proofs.lemmas.List.{length-drop, take_all}
use Rattle.std.specs.Prelude.{Result, Ok, Err, IfOk, OnOk, Option, Some, None, IsTrue, ◌&&◌, slice_range}
use Rattle.std.specs.Option.{option_map}
use Rattle.message_codec.specs.declared.wire.field.Why.{Why}
use Rattle.message_codec.specs.declared.wire.field.Field.{Field}
use Rattle.message_codec.specs.Fields.{WireField, seen}
use Rattle.message_codec.specs.Reading.{field_at}
use Rattle.message_codec.specs.Row as out
use Rattle.message_codec.specs.Row.{appended, Appends}
use Rattle.message_codec.specs.declared.reader.items.ReadFail.{ReadFail}
use Rattle.message_codec.specs.declared.reader.items.ReadFail.TheVariants as fails
use Rattle.message_codec.specs.Tables as tables
use Rattle.message_codec.specs.Tables.{Raw}
use Rattle.message_codec.specs.Values.{Value, Content, Flag, Number, Present, Values}
use Rattle.message_codec.specs.Means.{Means}
use Rattle.message_codec.specs.Faults.{FirstFault}
use Rattle.message_codec.specs.Read.{Refuses, FailsWith, raw_of}
use Rattle.message_codec.proofs.Laws.{one_meaning, no_fault}
use Rattle.message_codec.specs.Canonical.{column_bytes, capped, plus_length, Puts}
use Rattle.message_codec.proofs.Canonical.{appended_twice, appended_none, count_first, count_none, count_twice, length_both}
use Rattle.agent_rules.specs.declared.saved.Saved.{Saved}
use Rattle.agent_rules.specs.declared.parts.SavedParts.{SavedParts}
use Rattle.agent_rules.specs.declared.drafts.ChangeDraft.{ChangeDraft}
use Rattle.plain_values.specs.declared.memory.NoMemory.{NoMemory}
use Rattle.message_attributes.specs.PartColumns.{config_map_columns}
use Rattle.message_reports.specs.Columns.{remote_config_status_columns, package_statuses_columns}
use Rattle.message_replies.specs.ReplyColumns.{headers_columns}
use Rattle.agent_rules.specs.Columns.{saved_columns, parts_columns, change_columns}
use Rattle.agent_rules.specs.Payloads.{MeansFields, FitsTypes, canonical_saved}
use Rattle.agent_rules.specs.Changes.{TakesColumn, TakesColumns, Changes}
use Rattle.agent_rules.specs.Right.{is_right, are_right}
use Rattle.agent_rules.specs.Spelled.{rest_after, piece, difference, change, change_from}
use Rattle.agent_rules.specs.Codec.{kept_if, meaning, changed}
use Rattle.agent_rules.specs.Tells.{right_is}
use Rattle.agent_rules.proofs.Found.{kept_right, meaning_found, changed_found}
use Rattle.agent_rules.proofs.Walked.{change_is, nothing_after}

-- ---- bytes that are refused mean nothing

pub no_fields : (e : ReadFail) (bytes : List ℕ) → Refuses e (FirstFault 100 tables.SavedState bytes) → Refuses e (λ at why. (vs : Values) → MeansFields bytes vs → ⊥)
no_fields fails.NoMemory bytes h = tt
no_fields (fails.Refused r) bytes h = λ vs m. no_fault 100 tables.SavedState bytes r.at r.why (m.means.0, m.means.1, m.means.2) h

pub no_change : (e : ReadFail) (fields : List ℕ) (vs : Values) → Refuses e (FirstFault 100 tables.SavedChange fields) → Refuses e (λ at why. (ws : Values) → Changes fields vs ws → ⊥)
no_change fails.NoMemory fields vs h = tt
no_change (fails.Refused r) fields vs h = λ ws m. no_fault 100 tables.SavedChange fields r.at r.why (m.means.0, m.means.1, m.means.2) h

pub no_columns : (e : ReadFail) (fields : List ℕ) (cs us vs : Values) → Means 100 tables.SavedChange fields cs → us ≡ vs → Refuses e (λ at why. (ws : Values) → TakesColumns 0 cs us ws → ⊥) → Refuses e (λ at why. (ws : Values) → Changes fields vs ws → ⊥)
no_columns fails.NoMemory fields cs us vs m same h = tt
no_columns (fails.Refused r) fields cs us vs m same h = λ ws k.
    let takes : TakesColumns 0 cs vs ws = subst (λ (xs : Values). TakesColumns 0 xs vs ws) (one_meaning 100 tables.SavedChange fields k.columns cs k.means m) k.takes in
    h ws (subst (λ (xs : Values). TakesColumns 0 cs xs ws) (sym same) takes)

-- ---- whether fields may be kept

other_length : (n : ℕ) → (n ≡ 16 → ⊥) → nat_eq n 16 ≡ false
other_length n not = grind (arith, nat_tests)

not_true : false ≡ true → ⊥
not_true e = cc

pub wrong_uid : (p : SavedParts) → (length p.uid ≡ 16 → false ≡ true) → kept_if (parts_columns p) ≡ None
unfolding are_right
wrong_uid p not = rw (other_length (length p.uid) (λ e. not_true (not e))) refl

and_false : (a b : Bool) → b ≡ false → (a && b) ≡ false
and_false true b e = e
and_false false b e = refl

pub wrong_saved : (s : Saved) (vs : Values) → saved_columns s ≡ vs → is_right s ≡ false → None ≡ kept_if vs
wrong_saved s vs same wrong =
    let e : are_right (saved_columns s) ≡ false = right_is s ∙ and_false (nat_eq (length s.uid) 16) (is_right s) wrong in
    let k : kept_if (saved_columns s) ≡ None = rw e refl in
    sym k ∙ ap kept_if same

pub kept_saved : (s : Saved) (vs : Values) → saved_columns s ≡ vs → length s.uid ≡ 16 → IsTrue (is_right s) → Some (saved_columns s) ≡ kept_if vs
kept_saved s vs same uid right = sym (kept_right s uid right) ∙ ap kept_if same

-- ---- the field at the front

piece_of : (n number : ℕ) (bytes : List ℕ) → n ≤ length bytes → drop n bytes ≡ rest_after number bytes → take n bytes ≡ piece number bytes
unfolding piece
piece_of n number bytes le e =
    let len : length bytes - length (rest_after number bytes) ≡ n = omega (arith, ap length e, length-drop n bytes, le) in
    rw len refl

-- what is taken of the front, and what is left
pub record Cut (n number : ℕ) (bytes : List ℕ) : Type 0 where
  pub piece : take n bytes ≡ piece number bytes
  pub rest : drop n bytes ≡ rest_after number bytes

cut_of : (n number : ℕ) (bytes : List ℕ) → n ≤ length bytes → drop n bytes ≡ rest_after number bytes → Cut n number bytes
cut_of n number bytes le e = record { piece = piece_of n number bytes le e; rest = e }

whole_range : (bytes : List ℕ) → slice_range bytes 0 (length bytes) ≡ bytes
whole_range bytes = take_all (length bytes - 0) bytes (omega arith)

range_behind : (n : ℕ) (bytes : List ℕ) → n ≤ length bytes → slice_range bytes n (length bytes) ≡ drop n bytes
range_behind n bytes le = take_all (length bytes - n) (drop n bytes) (omega (arith, length-drop n bytes))

found_rest : (bytes rest : List ℕ) (f : WireField) (number : ℕ) → field_at bytes ≡ Ok (f, rest) → nat_eq f.number number ≡ true → rest_after number bytes ≡ rest
unfolding rest_after
found_rest bytes rest f number e same = rw (e, same) refl

other_rest : (bytes rest : List ℕ) (f : WireField) (number : ℕ) → field_at bytes ≡ Ok (f, rest) → nat_eq f.number number ≡ false → rest_after number bytes ≡ bytes
unfolding rest_after
other_rest bytes rest f number e other = rw (e, other) refl

refused_rest : (bytes : List ℕ) (number at : ℕ) (why : Why) → field_at bytes ≡ Err (at, why) → rest_after number bytes ≡ bytes
unfolding rest_after
refused_rest bytes number at why e = rw e refl

same_eq : (x y : ℕ) → x ≡ y → nat_eq x y ≡ true
same_eq x y e = grind (arith, nat_tests)

other_eq : (x y : ℕ) → (x ≡ y → ⊥) → nat_eq x y ≡ false
other_eq x y n = grind (arith, nat_tests)

pub field_found : (bytes : List ℕ) (field : Field) (number : ℕ) → field.next ≤ length bytes → field_at (slice_range bytes 0 (length bytes)) ≡ Ok (seen bytes field, slice_range bytes field.next (length bytes)) → field.number ≡ number → Cut field.next number bytes
field_found bytes field number le e same =
    let k : field_at bytes ≡ Ok (seen bytes field, drop field.next bytes) = ap field_at (sym (whole_range bytes)) ∙ e ∙ ap (λ (rest : List ℕ). Ok (seen bytes field, rest)) (range_behind field.next bytes le) in
    cut_of field.next number bytes le (sym (found_rest bytes (drop field.next bytes) (seen bytes field) number k (same_eq field.number number same)))

pub field_other : (bytes rest : List ℕ) (field : Field) (number : ℕ) → field_at (slice_range bytes 0 (length bytes)) ≡ Ok (seen bytes field, rest) → (field.number ≡ number → ⊥) → Cut 0 number bytes
field_other bytes rest field number e other =
    cut_of 0 number bytes (omega arith) (sym (other_rest bytes rest (seen bytes field) number (ap field_at (sym (whole_range bytes)) ∙ e) (other_eq field.number number other)))

pub field_refused : (bytes : List ℕ) (number at : ℕ) (why : Why) → field_at (slice_range bytes 0 (length bytes)) ≡ Err (at, why) → Cut 0 number bytes
field_refused bytes number at why e = cut_of 0 number bytes (omega arith) (sym (refused_rest bytes number at why (ap field_at (sym (whole_range bytes)) ∙ e)))

-- ---- the walk

-- one field, and those behind it
pub change_step : (number : ℕ) (former next : List ℕ) → number ≤ 12 → change_from (13 - number) number former next ≡ column_bytes number Raw (difference (piece number former) (piece number next)) ++ change_from (13 - (number + 1)) (number + 1) (rest_after number former) (rest_after number next)
unfolding change_from
change_step number former next le = let e : 13 - number ≡ suc (13 - (number + 1)) = omega arith in rw e refl

pub change_end : (number : ℕ) (former next : List ℕ) → 12 < number → change_from (13 - number) number former next ≡ []
unfolding change_from
change_end number former next lt = let e : 13 - number ≡ 0 = omega arith in rw e refl

-- the two fronts and what is behind them
pub record Walks (number : ℕ) (former next front former' back next' : List ℕ) : Type 0 where
  pub front_is : front ≡ piece number former
  pub former_is : former' ≡ rest_after number former
  pub back_is : back ≡ piece number next
  pub next_is : next' ≡ rest_after number next

walked_step : (number : ℕ) (former next old former' new next' : List ℕ) → Walks number former next old former' new next' → number ≤ 12 → change_from (13 - number) number former next ≡ column_bytes number Raw (difference old new) ++ change_from (13 - (number + 1)) (number + 1) former' next'
walked_step number former next old former' new next' w le =
    change_step number former next le
    ∙ ap (λ (x : List ℕ). column_bytes number Raw (difference x (piece number next)) ++ change_from (13 - (number + 1)) (number + 1) (rest_after number former) (rest_after number next)) (sym w.front_is)
    ∙ ap (λ (x : List ℕ). column_bytes number Raw (difference old x) ++ change_from (13 - (number + 1)) (number + 1) (rest_after number former) (rest_after number next)) (sym w.back_is)
    ∙ ap (λ (x : List ℕ). column_bytes number Raw (difference old new) ++ change_from (13 - (number + 1)) (number + 1) x (rest_after number next)) (sym w.former_is)
    ∙ ap (λ (x : List ℕ). column_bytes number Raw (difference old new) ++ change_from (13 - (number + 1)) (number + 1) former' x) (sym w.next_is)

pub count_step : (total middle result number : ℕ) (former next old former' new next' : List ℕ) → Walks number former next old former' new next' → number ≤ 12 → middle ≡ plus_length total (column_bytes number Raw (difference old new)) → result ≡ plus_length middle (change_from (13 - (number + 1)) (number + 1) former' next')
    → result ≡ plus_length total (change_from (13 - number) number former next)
count_step total middle result number former next old former' new next' w le m r =
    r ∙ ap (λ (t : ℕ). plus_length t (change_from (13 - (number + 1)) (number + 1) former' next')) m
    ∙ count_twice total (column_bytes number Raw (difference old new)) (change_from (13 - (number + 1)) (number + 1) former' next')
    ∙ ap (plus_length total) (sym (walked_step number former next old former' new next' w le))

pub count_end : (total number : ℕ) (former next : List ℕ) → total ≤ 2 ^ 62 → 12 < number → total ≡ plus_length total (change_from (13 - number) number former next)
count_end total number former next le lt = count_none total le ∙ ap (plus_length total) (sym (change_end number former next lt))

pub puts_end : {E : Type 0} (row : out.Row) (number : ℕ) (former next : List ℕ) → 12 < number → Puts {E = E} row row (change_from (13 - number) number former next) (Ok tt)
puts_end row number former next lt = rw (change_end number former next lt) (record { ok = sym (appended_none row); short = tt })

pub puts_step : {E : Type 0} (outcome : Result Unit E) (old middle new : out.Row) (number : ℕ) (former next front former' back next' : List ℕ) → Walks number former next front former' back next' → number ≤ 12 → middle ≡ appended old (column_bytes number Raw (difference front back)) → Puts middle new (change_from (13 - (number + 1)) (number + 1) former' next') outcome
    → Puts old new (change_from (13 - number) number former next) outcome
puts_step outcome old middle new number former next front former' back next' w le m puts =
    rw (walked_step number former next front former' back next' w le) (both outcome old middle new (column_bytes number Raw (difference front back)) (change_from (13 - (number + 1)) (number + 1) former' next') m puts)
  where
    both : {E : Type 0} (outcome : Result Unit E) (old middle new : out.Row) (a b : List ℕ) → middle ≡ appended old a → Puts middle new b outcome → Puts old new (a ++ b) outcome
    both (Ok u) old middle new a b m puts = record { ok = puts.ok ∙ ap (λ (r : out.Row). appended r b) m ∙ appended_twice old a b; short = tt }
    both (Err e) old middle new a b m puts = record { ok = tt; short = omega (arith, puts.short, ap (λ (r : out.Row). r.spare) m, length_both a b) }

pub puts_short : {E : Type 0} (error : E) (old new : out.Row) (number : ℕ) (former next front former' back next' : List ℕ) → Walks number former next front former' back next' → number ≤ 12 → old.spare < length (column_bytes number Raw (difference front back)) → Puts old new (change_from (13 - number) number former next) (Err error)
puts_short error old new number former next front former' back next' w le short =
    rw (walked_step number former next front former' back next' w le) (record { ok = tt; short = omega (arith, short, length_both (column_bytes number Raw (difference front back)) (change_from (13 - (number + 1)) (number + 1) former' next')) })

-- ---- the whole change

pub change_counts : (len : ℕ) (former next : List ℕ) → len ≡ plus_length 0 (change_from 12 1 former next) → len ≡ capped (change former next)
change_counts len former next e = e ∙ count_first (change_from 12 1 former next) ∙ ap capped (sym (change_is former next))

-- bytes that were put where there was room for them all
row_of : List ℕ → ℕ → out.Row
row_of bytes spare = record { bytes = bytes; spare = spare }

pub roomy_bytes : {E : Type 0} (outcome : Result Unit E) (old middle new : out.Row) (len : ℕ) (bytes : List ℕ) → middle ≡ record old { spare = max old.spare len } → len ≡ length bytes → Puts middle new bytes outcome → Appends old new bytes outcome
unfolding row_of
roomy_bytes (Ok u) old middle new len bytes m measured puts =
    let spare : max old.spare len - length bytes ≡ old.spare - length bytes = omega (arith, measured) in
    record { ok = puts.ok ∙ ap (λ (r : out.Row). appended r bytes) m ∙ ap (row_of (old.bytes ++ bytes)) spare; err = tt; within = λ fits. refl }
roomy_bytes (Err d) old middle new len bytes m measured puts =
    let spare : middle.spare ≡ max old.spare len = ap (λ (r : out.Row). r.spare) m in
    absurd (omega (arith, puts.short, spare, measured))

pub change_roomy : {E : Type 0} (outcome : Result Unit E) (old middle new : out.Row) (len : ℕ) (former next : List ℕ) → middle ≡ record old { spare = max old.spare len } → len ≡ length (change former next) → Puts middle new (change_from 12 1 former next) outcome → Appends old new (change former next) outcome
change_roomy outcome old middle new len former next m measured puts =
    roomy_bytes outcome old middle new len (change former next) m measured (subst (λ (bytes : List ℕ). Puts middle new bytes outcome) (sym (change_is former next)) puts)

-- ---- the payload

-- a count without its limit's word
pub capped_length : (len : ℕ) (bytes : List ℕ) → len ≡ capped bytes → len ≡ min (length bytes) (2 ^ 62)
unfolding capped
capped_length len bytes e = e

pub counted_few : (len : ℕ) (bytes : List ℕ) → len ≡ capped bytes → len < 2 ^ 62 → length bytes < 2 ^ 62
unfolding capped
counted_few len bytes e lt = omega (arith, e, lt)

-- ---- no bytes

pub no_bytes : (b : Bool) (bytes : List ℕ) → b ≡ nat_eq (length bytes) 0 → b ≡ true → bytes ≡ []
no_bytes b [] e t = refl
no_bytes b (x ∷ bytes) e t = absurd (grind (arith, nat_tests))

pub cut_empty : (number : ℕ) (bytes : List ℕ) → bytes ≡ [] → Cut 0 number bytes
cut_empty number bytes e = cut_of 0 number bytes (omega arith) (subst (λ (b : List ℕ). b ≡ rest_after number b) (sym e) (sym (nothing_after number)))

-- ---- what a refusal of a part says of the whole

-- what is refused of some columns is refused of all
refuses_weaker : (e : ReadFail) (P Q : ℕ → Why → Type 0) → ((at : ℕ) (why : Why) → P at why → Q at why) → Refuses e P → Refuses e Q
refuses_weaker fails.NoMemory P Q weaker h = tt
refuses_weaker (fails.Refused r) P Q weaker h = weaker r.at r.why h

takes_at : (place : ℕ) (c v v' w w' : Value) → v ≡ v' → w ≡ w' → TakesColumn place c v w → TakesColumn place c v' w'
takes_at place c v v' w w' before after t = subst (λ (x : Value). TakesColumn place c x w') before (subst (λ (y : Value). TakesColumn place c v y) after t)

-- the other fields stay where those of one group are changed
abbrev pub KeepsBesideIdentity : SavedParts → SavedParts → Type 0
KeepsBesideIdentity old new = new ≡ record old { uid = new.uid; limit = new.limit; uid_given = new.uid_given }

abbrev pub KeepsBesideSettings : SavedParts → SavedParts → Type 0
KeepsBesideSettings old new = new ≡ record old { endpoint = new.endpoint; headers = new.headers; interval = new.interval; settings_hash = new.settings_hash }

abbrev pub KeepsBesideOffers : SavedParts → SavedParts → Type 0
KeepsBesideOffers old new = new ≡ record old { config = new.config; remote = new.remote; packages = new.packages; config_hash = new.config_hash; components_hash = new.components_hash }

-- all columns, from those of the three groups
pub all_taken : (change : ChangeDraft) (former first second next : SavedParts)
    → KeepsBesideIdentity former first → KeepsBesideSettings first second → KeepsBesideOffers second next
    → TakesColumn 0 (raw_of change.uid) (Content former.uid) (Content first.uid)
    → TakesColumn 1 (raw_of change.limit) (Number former.limit) (Number first.limit)
    → TakesColumn 2 (raw_of change.uid_given) (Flag former.uid_given) (Flag first.uid_given)
    → TakesColumn 3 (raw_of change.endpoint) (Content first.endpoint) (Content second.endpoint)
    → TakesColumn 4 (raw_of change.headers) (Present (headers_columns first.headers)) (Present (headers_columns second.headers))
    → TakesColumn 5 (raw_of change.interval) (Number first.interval) (Number second.interval)
    → TakesColumn 6 (raw_of change.settings_hash) (Content first.settings_hash) (Content second.settings_hash)
    → TakesColumn 7 (raw_of change.config) (Present (config_map_columns second.config)) (Present (config_map_columns next.config))
    → TakesColumn 8 (raw_of change.remote) (Present (remote_config_status_columns second.remote)) (Present (remote_config_status_columns next.remote))
    → TakesColumn 9 (raw_of change.packages) (Present (package_statuses_columns second.packages)) (Present (package_statuses_columns next.packages))
    → TakesColumn 10 (raw_of change.config_hash) (Content second.config_hash) (Content next.config_hash)
    → TakesColumn 11 (raw_of change.components_hash) (Content second.components_hash) (Content next.components_hash)
    → TakesColumns 0 (change_columns change) (parts_columns former) (parts_columns next)
all_taken change former first second next beside settled offered uid limit given endpoint headers interval hash config remote packages config_hash components_hash = (
  _,
  _,
  refl,
  takes_at 0 (raw_of change.uid) (Content former.uid) (Content former.uid) (Content first.uid) (Content next.uid) refl (sym (ap (λ (p : SavedParts). Content p.uid) offered ∙ ap (λ (p : SavedParts). Content p.uid) settled)) uid,
  (
    _,
    _,
    refl,
    takes_at 1 (raw_of change.limit) (Number former.limit) (Number former.limit) (Number first.limit) (Number next.limit) refl (sym (ap (λ (p : SavedParts). Number p.limit) offered ∙ ap (λ (p : SavedParts). Number p.limit) settled)) limit,
    (
      _,
      _,
      refl,
      takes_at 2 (raw_of change.uid_given) (Flag former.uid_given) (Flag former.uid_given) (Flag first.uid_given) (Flag next.uid_given) refl (sym (ap (λ (p : SavedParts). Flag p.uid_given) offered ∙ ap (λ (p : SavedParts). Flag p.uid_given) settled)) given,
      (
        _,
        _,
        refl,
        takes_at 3 (raw_of change.endpoint) (Content first.endpoint) (Content former.endpoint) (Content second.endpoint) (Content next.endpoint) (ap (λ (p : SavedParts). Content p.endpoint) beside) (sym (ap (λ (p : SavedParts). Content p.endpoint) offered)) endpoint,
        (
          _,
          _,
          refl,
          takes_at 4 (raw_of change.headers) (Present (headers_columns first.headers)) (Present (headers_columns former.headers)) (Present (headers_columns second.headers)) (Present (headers_columns next.headers)) (ap (λ (p : SavedParts). Present (headers_columns p.headers)) beside) (sym (ap (λ (p : SavedParts). Present (headers_columns p.headers)) offered)) headers,
          (
            _,
            _,
            refl,
            takes_at 5 (raw_of change.interval) (Number first.interval) (Number former.interval) (Number second.interval) (Number next.interval) (ap (λ (p : SavedParts). Number p.interval) beside) (sym (ap (λ (p : SavedParts). Number p.interval) offered)) interval,
            (
              _,
              _,
              refl,
              takes_at 6 (raw_of change.settings_hash) (Content first.settings_hash) (Content former.settings_hash) (Content second.settings_hash) (Content next.settings_hash) (ap (λ (p : SavedParts). Content p.settings_hash) beside) (sym (ap (λ (p : SavedParts). Content p.settings_hash) offered)) hash,
              (
                _,
                _,
                refl,
                takes_at 7 (raw_of change.config) (Present (config_map_columns second.config)) (Present (config_map_columns former.config)) (Present (config_map_columns next.config)) (Present (config_map_columns next.config)) (ap (λ (p : SavedParts). Present (config_map_columns p.config)) settled ∙ ap (λ (p : SavedParts). Present (config_map_columns p.config)) beside) refl config,
                (
                  _,
                  _,
                  refl,
                  takes_at 8 (raw_of change.remote) (Present (remote_config_status_columns second.remote)) (Present (remote_config_status_columns former.remote)) (Present (remote_config_status_columns next.remote)) (Present (remote_config_status_columns next.remote)) (ap (λ (p : SavedParts). Present (remote_config_status_columns p.remote)) settled ∙ ap (λ (p : SavedParts). Present (remote_config_status_columns p.remote)) beside) refl remote,
                  (
                    _,
                    _,
                    refl,
                    takes_at 9 (raw_of change.packages) (Present (package_statuses_columns second.packages)) (Present (package_statuses_columns former.packages)) (Present (package_statuses_columns next.packages)) (Present (package_statuses_columns next.packages)) (ap (λ (p : SavedParts). Present (package_statuses_columns p.packages)) settled ∙ ap (λ (p : SavedParts). Present (package_statuses_columns p.packages)) beside) refl packages,
                    (
                      _,
                      _,
                      refl,
                      takes_at 10 (raw_of change.config_hash) (Content second.config_hash) (Content former.config_hash) (Content next.config_hash) (Content next.config_hash) (ap (λ (p : SavedParts). Content p.config_hash) settled ∙ ap (λ (p : SavedParts). Content p.config_hash) beside) refl config_hash,
                      (
                        _,
                        _,
                        refl,
                        takes_at 11 (raw_of change.components_hash) (Content second.components_hash) (Content former.components_hash) (Content next.components_hash) (Content next.components_hash) (ap (λ (p : SavedParts). Content p.components_hash) settled ∙ ap (λ (p : SavedParts). Content p.components_hash) beside) refl components_hash,
                        refl,
                      ),
                    ),
                  ),
                ),
              ),
            ),
          ),
        ),
      ),
    ),
  ),
)

pub never_offers : (e : ReadFail) (change : ChangeDraft) (former first second : SavedParts)
    → KeepsBesideIdentity former first
    → KeepsBesideSettings first second
    → Refuses e (λ at why. (config remote packages config_hash components_hash : Value)
    → TakesColumn 7 (raw_of change.config) (Present (config_map_columns second.config)) config
    → TakesColumn 8 (raw_of change.remote) (Present (remote_config_status_columns second.remote)) remote
    → TakesColumn 9 (raw_of change.packages) (Present (package_statuses_columns second.packages)) packages
    → TakesColumn 10 (raw_of change.config_hash) (Content second.config_hash) config_hash
    → TakesColumn 11 (raw_of change.components_hash) (Content second.components_hash) components_hash → ⊥)
    → Refuses e (λ at why. (ws : Values) → TakesColumns 0 (change_columns change) (parts_columns former) ws → ⊥)
never_offers e change former first second beside settled h = refuses_weaker e _ _ (λ at why no ws t.
    no t.4.4.4.4.4.4.4.0 t.4.4.4.4.4.4.4.4.0 t.4.4.4.4.4.4.4.4.4.0 t.4.4.4.4.4.4.4.4.4.4.0 t.4.4.4.4.4.4.4.4.4.4.4.0
    (takes_at 7 (raw_of change.config) (Present (config_map_columns former.config)) (Present (config_map_columns second.config)) t.4.4.4.4.4.4.4.0 t.4.4.4.4.4.4.4.0 (sym (ap (λ (p : SavedParts). Present (config_map_columns p.config)) settled ∙ ap (λ (p : SavedParts). Present (config_map_columns p.config)) beside)) refl t.4.4.4.4.4.4.4.3)
    (takes_at 8 (raw_of change.remote) (Present (remote_config_status_columns former.remote)) (Present (remote_config_status_columns second.remote)) t.4.4.4.4.4.4.4.4.0 t.4.4.4.4.4.4.4.4.0 (sym (ap (λ (p : SavedParts). Present (remote_config_status_columns p.remote)) settled ∙ ap (λ (p : SavedParts). Present (remote_config_status_columns p.remote)) beside)) refl t.4.4.4.4.4.4.4.4.3)
    (takes_at 9 (raw_of change.packages) (Present (package_statuses_columns former.packages)) (Present (package_statuses_columns second.packages)) t.4.4.4.4.4.4.4.4.4.0 t.4.4.4.4.4.4.4.4.4.0 (sym (ap (λ (p : SavedParts). Present (package_statuses_columns p.packages)) settled ∙ ap (λ (p : SavedParts). Present (package_statuses_columns p.packages)) beside)) refl t.4.4.4.4.4.4.4.4.4.3)
    (takes_at 10 (raw_of change.config_hash) (Content former.config_hash) (Content second.config_hash) t.4.4.4.4.4.4.4.4.4.4.0 t.4.4.4.4.4.4.4.4.4.4.0 (sym (ap (λ (p : SavedParts). Content p.config_hash) settled ∙ ap (λ (p : SavedParts). Content p.config_hash) beside)) refl t.4.4.4.4.4.4.4.4.4.4.3)
    (takes_at 11 (raw_of change.components_hash) (Content former.components_hash) (Content second.components_hash) t.4.4.4.4.4.4.4.4.4.4.4.0 t.4.4.4.4.4.4.4.4.4.4.4.0 (sym (ap (λ (p : SavedParts). Content p.components_hash) settled ∙ ap (λ (p : SavedParts). Content p.components_hash) beside)) refl t.4.4.4.4.4.4.4.4.4.4.4.3)) h

pub never_taken : (e : ReadFail) (place : ℕ) (change : Option (List ℕ)) (bytes slice : List ℕ) (v : Value) → change ≡ Some bytes → slice ≡ bytes → Refuses e (λ at why. (vs : Values) → MeansFields slice vs → ⊥) → Refuses e (λ at why. (w : Value) → TakesColumn place (raw_of change) v w → ⊥)
never_taken fails.NoMemory place change bytes slice v is same h = tt
never_taken (fails.Refused r) place change bytes slice v is same h = λ w t.
    let takes : TakesColumn place (Content bytes) v w = subst (λ (o : Option (List ℕ)). TakesColumn place (raw_of o) v w) is t in
    h takes.0 (subst (λ (b : List ℕ). MeansFields b takes.0) (sym same) takes.1)

-- ---- results

pub changes_lead : (result : Result SavedParts ReadFail) (fields : List ℕ) (cs us vs : Values) → Means 100 tables.SavedChange fields cs → us ≡ vs → IfOk result (λ next. TakesColumns 0 cs us (parts_columns next)) → IfOk result (λ next. Changes fields vs (parts_columns next))
changes_lead (Ok next) fields cs us vs m same h = record { columns = cs; means = m; takes = subst (λ (xs : Values). TakesColumns 0 cs xs (parts_columns next)) same h }
changes_lead (Err e) fields cs us vs m same h = tt

pub changes_fail : (result : Result SavedParts ReadFail) (fields : List ℕ) (cs us vs : Values) → Means 100 tables.SavedChange fields cs → us ≡ vs → FailsWith result (λ at why. (ws : Values) → TakesColumns 0 cs us ws → ⊥) → FailsWith result (λ at why. (ws : Values) → Changes fields vs ws → ⊥)
changes_fail (Ok next) fields cs us vs m same h = tt
changes_fail (Err e) fields cs us vs m same h = no_columns e fields cs us vs m same h

pub found_means : (result : Result (Option Saved) NoMemory) (bytes : List ℕ) (vs : Values) → MeansFields bytes vs → IfOk result (λ found. option_map saved_columns found ≡ kept_if vs) → IfOk result (λ found. option_map canonical_saved found ≡ meaning bytes)
found_means (Ok found) bytes vs m h = meaning_found bytes vs found m h
found_means (Err e) bytes vs m h = tt

pub found_changed : (result : Result (Option Saved) NoMemory) (s : Saved) (fields : List ℕ) (ws : Values) → FitsTypes s → IsTrue (is_right s) → length (canonical_saved s) < 2 ^ 62 → Changes fields (saved_columns s) ws → IfOk result (λ found. option_map saved_columns found ≡ kept_if ws) → IfOk result (λ found. option_map canonical_saved found ≡ changed (canonical_saved s) fields)
found_changed (Ok found) s fields ws typed right few k h = changed_found s fields ws found typed right few k h
found_changed (Err e) s fields ws typed right few k h = tt

pub on_ok : {E : Type 0} (result : Result Unit E) (A : Type 0) → A → OnOk result A
on_ok (Ok u) A a = a
on_ok (Err e) A a = tt
