-- What the functions over bytes are, where a value, a payload or a change is known.
use Rattle.std.proofs.Common.{◌≡◌, ℕ, ◌<◌, ◌^◌, Bool, true, false, nat_eq, length, List, refl, ap, sym, ◌∙◌, arith, inl, inr}
use Rattle.std.specs.Prelude.{Option, Some, None, IsTrue, ◌&&◌}
use Rattle.std.specs.Option.{option_map}
use Rattle.std.proofs.lemmas.Bool.Decides.{nat_tests}
use Rattle.message_codec.specs.Values.{Values}
use Rattle.agent_rules.specs.declared.saved.Saved.{Saved}
use Rattle.agent_rules.specs.Columns.{saved_columns}
use Rattle.agent_rules.specs.Payloads.{MeansFields, MeansSaved, canonical_saved, FitsTypes}
use Rattle.agent_rules.specs.Changes.{Changes}
use Rattle.agent_rules.specs.Right.{is_right, are_right}
use Rattle.agent_rules.specs.Codec.{kept_if, found_in, value_of, next_of, canonical_if, after, meaning, changed}
use Rattle.agent_rules.specs.Deciding.{Decided}
use Rattle.agent_rules.specs.Next.{fields_or, changes_or, fields_one, changes_one}
use Rattle.agent_rules.specs.Tells.{right_is}
use Rattle.agent_rules.specs.Laws.{written_fields}

found_one : (P : Values → Type 0) → ((vs ws : Values) → P vs → P ws → vs ≡ ws) → (vs : Values) → P vs → (d : Decided ((ws : Values) × P ws)) → found_in P d ≡ kept_if vs
found_one P one vs h (inl f) = ap kept_if (one f.0 vs f.1 h)
found_one P one vs h (inr never) = absurd (never (vs, h))

found_none : (P : Values → Type 0) → ((vs : Values) → P vs → ⊥) → (d : Decided ((ws : Values) × P ws)) → found_in P d ≡ None
found_none P none (inl f) = absurd (none f.0 f.1)
found_none P none (inr never) = refl

-- ---- payloads

pub value_is : (bytes : List ℕ) (vs : Values) → MeansFields bytes vs → value_of bytes ≡ kept_if vs
unfolding value_of
value_is bytes vs m = found_one (MeansFields bytes) (fields_one bytes) vs m (fields_or bytes)

pub value_none : (bytes : List ℕ) → ((vs : Values) → MeansFields bytes vs → ⊥) → value_of bytes ≡ None
unfolding value_of
value_none bytes none = found_none (MeansFields bytes) none (fields_or bytes)

pub next_is : (fields : List ℕ) (vs ws : Values) → Changes fields vs ws → next_of fields vs ≡ kept_if ws
unfolding next_of
next_is fields vs ws h = found_one (Changes fields vs) (changes_one fields vs) ws h (changes_or fields vs)

pub next_none : (fields : List ℕ) (vs : Values) → ((ws : Values) → Changes fields vs ws → ⊥) → next_of fields vs ≡ None
unfolding next_of
next_none fields vs none = found_none (Changes fields vs) none (changes_or fields vs)

-- ---- values

and_true : (a b : Bool) → a ≡ true → b ≡ true → (a && b) ≡ true
and_true true true p q = refl
and_true true false p q = q
and_true false b p q = p

same_sixteen : (n : ℕ) → n ≡ 16 → nat_eq n 16 ≡ true
same_sixteen n e = grind (arith, nat_tests)

pub kept_right : (s : Saved) → length s.uid ≡ 16 → IsTrue (is_right s) → kept_if (saved_columns s) ≡ Some (saved_columns s)
kept_right s uid right =
    let e : are_right (saved_columns s) ≡ true = right_is s ∙ and_true (nat_eq (length s.uid) 16) (is_right s) (same_sixteen (length s.uid) uid) right in
    rw e refl

pub written_value : (s : Saved) → FitsTypes s → IsTrue (is_right s) → length (canonical_saved s) < 2 ^ 62 → value_of (canonical_saved s) ≡ Some (saved_columns s)
written_value s typed right few = value_is (canonical_saved s) (saved_columns s) (written_fields s typed few) ∙ kept_right s typed.uid right

pub canonical_is : (found : Option Saved) → canonical_if (option_map saved_columns found) ≡ option_map canonical_saved found
unfolding canonical_saved
canonical_is None = refl
canonical_is (Some s) = refl

-- a payload written reads back as what was written
pub reads_back : (s : Saved) → FitsTypes s → IsTrue (is_right s) → length (canonical_saved s) < 2 ^ 62 → meaning (canonical_saved s) ≡ Some (canonical_saved s)
unfolding meaning
reads_back s typed right few = ap canonical_if (written_value s typed right few) ∙ canonical_is (Some s)

pub meaning_found : (bytes : List ℕ) (vs : Values) (found : Option Saved) → MeansFields bytes vs → option_map saved_columns found ≡ kept_if vs → option_map canonical_saved found ≡ meaning bytes
unfolding meaning
meaning_found bytes vs found m e = sym (canonical_is found) ∙ ap canonical_if (e ∙ sym (value_is bytes vs m))

pub meaning_none : (bytes : List ℕ) → ((vs : Values) → MeansFields bytes vs → ⊥) → meaning bytes ≡ None
unfolding meaning
meaning_none bytes none = ap canonical_if (value_none bytes none)

-- ---- changes

changed_after : (s : Saved) (fields : List ℕ) → FitsTypes s → IsTrue (is_right s) → length (canonical_saved s) < 2 ^ 62 → changed (canonical_saved s) fields ≡ canonical_if (next_of fields (saved_columns s))
unfolding changed
changed_after s fields typed right few = ap (λ (o : Option Values). canonical_if (after o fields)) (written_value s typed right few)

pub changed_found : (s : Saved) (fields : List ℕ) (ws : Values) (found : Option Saved) → FitsTypes s → IsTrue (is_right s) → length (canonical_saved s) < 2 ^ 62 → Changes fields (saved_columns s) ws → option_map saved_columns found ≡ kept_if ws → option_map canonical_saved found ≡ changed (canonical_saved s) fields
changed_found s fields ws found typed right few h e = sym (canonical_is found) ∙ ap canonical_if (e ∙ sym (next_is fields (saved_columns s) ws h)) ∙ sym (changed_after s fields typed right few)

pub changed_none : (s : Saved) (fields : List ℕ) → FitsTypes s → IsTrue (is_right s) → length (canonical_saved s) < 2 ^ 62 → ((ws : Values) → Changes fields (saved_columns s) ws → ⊥) → changed (canonical_saved s) fields ≡ None
changed_none s fields typed right few none = changed_after s fields typed right few ∙ ap canonical_if (next_none fields (saved_columns s) none)

-- what a store sees of bytes that mean a value
pub meaning_is : (bytes : List ℕ) (s : Saved) → MeansSaved bytes s → meaning bytes ≡ Some (canonical_saved s)
unfolding meaning
meaning_is bytes s h = ap canonical_if (value_is bytes (saved_columns s) h.fields ∙ kept_right s h.uid h.right) ∙ canonical_is (Some s)
