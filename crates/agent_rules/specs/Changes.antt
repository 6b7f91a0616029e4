-- What a change does to the columns of a payload. It is a message with a field for each of the payload's, under the same number; a field that
-- is there holds the payload that has that field alone.
use Rattle.std.specs.Prelude.{◌≡◌, ℕ, suc, List, length, IsTrue}
use Rattle.message_codec.specs.Tables as tables
use Rattle.message_codec.specs.Values.{Value, Content, Absent, Values, End, And}
use Rattle.message_codec.specs.Means.{Means}
use Rattle.agent_rules.specs.declared.saved.Saved.{Saved}
use Rattle.agent_rules.specs.Columns.{saved_columns, column_at}
use Rattle.agent_rules.specs.Payloads.{MeansFields}
use Rattle.agent_rules.specs.Right.{is_right}

-- A field of a change and the column at its place, before and after: where the field is absent the column stays, else it is that of the
-- payload that the field holds.
abbrev pub TakesColumn : ℕ → Value → Value → Value → Type 0
TakesColumn place Absent v w = w ≡ v
TakesColumn place (Content bytes) v w = (vs : Values) × MeansFields bytes vs × (w ≡ column_at place vs)
TakesColumn place _ v w = ⊥

-- the same of all columns from a place on
abbrev pub TakesColumns : ℕ → Values → Values → Values → Type 0
TakesColumns place End End ws = ws ≡ End
TakesColumns place (And c cs) (And v vs) ws = (w : Value) × (rest : Values) × (ws ≡ And w rest) × TakesColumn place c v w × TakesColumns (suc place) cs vs rest
TakesColumns place _ _ ws = ⊥

-- the bytes are a change that leads from these columns to those
pub record Changes (fields : List ℕ) (vs ws : Values) : Type 0 where
  pub columns : Values
  pub means : Means 100 tables.SavedChange fields columns
  pub takes : TakesColumns 0 columns vs ws

-- the bytes are a change that leads from one value to the other, and that one may be kept
pub record ChangesSaved (fields : List ℕ) (former next : Saved) : Type 0 where
  pub changes : Changes fields (saved_columns former) (saved_columns next)
  pub uid : length next.uid ≡ 16
  pub right : IsTrue (is_right next)
