-- Which members are messages, and what opening and closing them does to the columns of a value.
use Rattle.std.proofs.Common.{◌≡◌, ℕ, List, refl, inl, inr, ◌⊎◌}
use Rattle.std.specs.Prelude.{Result, Ok, Err, OnOk}
use Rattle.message_values.specs.declared.attributes.AnyValue.{AnyValue}
use Rattle.message_codec.specs.Tables as tables
use Rattle.message_codec.specs.Tables.{Name, Reading, Unread, AsText, AsMessage, rows_of, kind_at}
use Rattle.message_codec.specs.Values.{Values}
use Rattle.message_codec.specs.Openings.{IsPartOf, HasPart, OpensIn}
use Rattle.message_codec.proofs.Openings.{has_part}
use Rattle.message_attributes.specs.AnyColumns.{any_columns, member_of, BeginsMember}
use Rattle.message_attributes.proofs.AnyLaws.{any_shape}

text_no_message : (name : Name) → AsText ≡ AsMessage name → ⊥
text_no_message name e = cc

unread_no_message : (name : Name) → Unread ≡ AsMessage name → ⊥
unread_no_message name e = cc

same_name : (a b : Name) → AsMessage a ≡ AsMessage b → b ≡ a
same_name a b e = cc

pub record Among (number at : ℕ) (name of : Name) : Type 0 where
  pub number_is : number ≡ at
  pub name_is : name ≡ of

pub any_parts : (number : ℕ) (name : Name) → IsPartOf (kind_at number (rows_of tables.AnyValue)) name → Among number 5 name tables.ArrayValue ⊎ Among number 6 name tables.KeyValueList
any_parts number name h = by (has_part (rows_of tables.AnyValue) number name h)
  where
    by : HasPart (rows_of tables.AnyValue) number name → Among number 5 name tables.ArrayValue ⊎ Among number 6 name tables.KeyValueList
    by (inl p) = absurd (text_no_message name p.1)
    by (inr (inl p)) = absurd (unread_no_message name p.1)
    by (inr (inr (inl p))) = absurd (unread_no_message name p.1)
    by (inr (inr (inr (inl p)))) = absurd (unread_no_message name p.1)
    by (inr (inr (inr (inr (inl p))))) = inl (record { number_is = p.0; name_is = same_name tables.ArrayValue name p.1 })
    by (inr (inr (inr (inr (inr (inl p)))))) = inr (record { number_is = p.0; name_is = same_name tables.KeyValueList name p.1 })
    by (inr (inr (inr (inr (inr (inr (inl p))))))) = absurd (unread_no_message name p.1)
    by (inr (inr (inr (inr (inr (inr (inr p))))))) = absurd p

pub array_parts : (number : ℕ) (name : Name) → IsPartOf (kind_at number (rows_of tables.ArrayValue)) name → Among number 1 name tables.AnyValue
array_parts number name h = by (has_part (rows_of tables.ArrayValue) number name h)
  where
    by : HasPart (rows_of tables.ArrayValue) number name → Among number 1 name tables.AnyValue
    by (inl p) = record { number_is = p.0; name_is = same_name tables.AnyValue name p.1 }
    by (inr p) = absurd p

pub pairs_parts : (number : ℕ) (name : Name) → IsPartOf (kind_at number (rows_of tables.KeyValueList)) name → Among number 1 name tables.KeyValue
pairs_parts number name h = by (has_part (rows_of tables.KeyValueList) number name h)
  where
    by : HasPart (rows_of tables.KeyValueList) number name → Among number 1 name tables.KeyValue
    by (inl p) = record { number_is = p.0; name_is = same_name tables.KeyValue name p.1 }
    by (inr p) = absurd p

pub pair_parts : (number : ℕ) (name : Name) → IsPartOf (kind_at number (rows_of tables.KeyValue)) name → Among number 2 name tables.AnyValue
pair_parts number name h = by (has_part (rows_of tables.KeyValue) number name h)
  where
    by : HasPart (rows_of tables.KeyValue) number name → Among number 2 name tables.AnyValue
    by (inl p) = absurd (text_no_message name p.1)
    by (inr (inl p)) = record { number_is = p.0; name_is = same_name tables.AnyValue name p.1 }
    by (inr (inr p)) = absurd p

pub opens_array : (a : AnyValue) (between part : Values) → BeginsMember tables.ArrayValue 5 (member_of (any_columns a)) part → OpensIn tables.AnyValue 5 (any_columns a) between tables.ArrayValue part
opens_array a between part b = rw (any_shape a) (refl, _, b.0, b.1)

pub opens_pairs : (a : AnyValue) (between part : Values) → BeginsMember tables.KeyValueList 6 (member_of (any_columns a)) part → OpensIn tables.AnyValue 6 (any_columns a) between tables.KeyValueList part
opens_pairs a between part b = rw (any_shape a) (refl, _, b.0, b.1)

pub on_ok : {A E : Type 0} (r : Result A E) (P Q : Type 0) → (P → Q) → OnOk r P → OnOk r Q
on_ok (Ok x) P Q f h = f h
on_ok (Err e) P Q f h = tt
