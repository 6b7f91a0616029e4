-- The columns of attributes and their values, which hold lists of such (OpenTelemetry, "common.proto").
use Rattle.std.specs.Prelude.{ℕ, nat_eq, cond, List}
use Rattle.message_values.specs.declared.attributes.AnyValue.{AnyValue, AnyValue-F, fold-AnyValue}
use Rattle.message_values.specs.declared.attributes.AnyValue.TheOpen as layers
use Rattle.message_values.specs.declared.attributes.KeyValue.{KeyValue, KeyValue-F}
use Rattle.message_codec.specs.Tables.{Name, One}
use Rattle.message_codec.specs.Values.{Number, Integer, Flag, Content, Absent, Present, Several, Chosen, Value, Values, End, And}
use Rattle.message_codec.specs.Read.{one_of, each_of}
use Rattle.message_codec.specs.Reads.{Chose, Began}

-- the columns of a message that has a list alone
abbrev pub list_columns : {T : Type 0} → (T → Values) → List T → Values
list_columns columns vs = And (Several (each_of columns vs)) End

abbrev pub chosen : ℕ → Value → Values
chosen number v = And (Chosen number v) End

-- one layer, with the columns of the values inside in their place
abbrev pub any_layer : AnyValue-F Values Values → Values
any_layer layers.Nothing = And Absent End
any_layer (layers.Str text) = chosen 1 (Content text)
any_layer (layers.Bool flag) = chosen 2 (Flag flag)
any_layer (layers.Int number) = chosen 3 (Integer number)
any_layer (layers.Double bits) = chosen 4 (Number bits)
any_layer (layers.Array values) = chosen 5 (Present (list_columns (λ v. v) values))
any_layer (layers.Pairs pairs) = chosen 6 (Present (list_columns (λ v. v) pairs))
any_layer (layers.Bytes bytes) = chosen 7 (Content bytes)

abbrev pub pair_layer : KeyValue-F Values Values → Values
pair_layer p = And (Content p.key) (And (one_of (λ v. v) p.value) End)

abbrev pub any_columns : AnyValue → Values
any_columns = fold-AnyValue Values Values any_layer pair_layer

abbrev pub pair_columns : KeyValue → Values
pair_columns p = And (Content p.key) (And (one_of any_columns p.value) End)

abbrev pub member_of : Values → Value
member_of End = Absent
member_of (And v vs) = v

-- the member of this number that is chosen, or nothing
abbrev pub chosen_or : ℕ → Value → Value → Value
chosen_or number d (Chosen n x) = cond (nat_eq n number) x d
chosen_or number d _ = d

-- a member that is a message begins with the columns that were chosen, or empty
abbrev pub BeginsMember : Name → ℕ → Value → Values → Type 0
BeginsMember name number old columns = Chose 0 (One name) number old (chosen_or number Absent old) × Began name (chosen_or number Absent old) columns
