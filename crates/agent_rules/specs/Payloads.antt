-- What bytes mean as a payload, and the bytes that a value is written as.
use Rattle.std.specs.Prelude.{◌≡◌, ℕ, List, [], ◌∷◌, length, IsTrue}
use Rattle.message_codec.specs.Tables as tables
use Rattle.message_codec.specs.Tables.{Kind, One, Row, rows_of}
use Rattle.message_codec.specs.Values.{Value, Absent, Present, Values, End, And}
use Rattle.message_codec.specs.Means.{Means, empty_of}
use Rattle.message_codec.specs.Canonical.{canonical}
use Rattle.message_codec.specs.Fits.{FitsMessage}
use Rattle.agent_rules.specs.declared.saved.Saved.{Saved}
use Rattle.agent_rules.specs.Columns.{saved_columns}
use Rattle.agent_rules.specs.Right.{is_right}

-- a message that is absent counts as the empty one
abbrev pub filled : Kind → Value → Value
filled (One name) Absent = Present (empty_of name)
filled kind v = v

abbrev pub all_filled : List Row → Values → Values
all_filled rows End = End
all_filled [] (And v vs) = And v vs
all_filled (r ∷ rows) (And v vs) = And (filled r.kind v) (all_filled rows vs)

-- the bytes mean fields with these columns, with messages at most 100 deep
pub record MeansFields (bytes : List ℕ) (vs : Values) : Type 0 where
  pub columns : Values
  pub means : Means 100 tables.SavedState bytes columns
  pub filled : vs ≡ all_filled (rows_of tables.SavedState) columns

-- the bytes mean this value, and it may be kept
pub record MeansSaved (bytes : List ℕ) (saved : Saved) : Type 0 where
  pub fields : MeansFields bytes (saved_columns saved)
  pub uid : length saved.uid ≡ 16
  pub right : IsTrue (is_right saved)

-- the canonical bytes of a value
unfoldable pub canonical_saved : Saved → List ℕ
canonical_saved saved = canonical tables.SavedState (saved_columns saved)

-- what the types of a value's fields give, and its identifier's
pub record FitsTypes (saved : Saved) : Type 0 where
  pub fits : FitsMessage tables.SavedState (saved_columns saved)
  pub uid : length saved.uid ≡ 16
