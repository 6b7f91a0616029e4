-- What the types of a message's fields give of its columns.
use Rattle.std.specs.Prelude.{⊤}
use Rattle.hex.specs.Hex.{IsBytes}
use Rattle.message_codec.specs.Tables.{Name}
use Rattle.message_codec.specs.Values.{Value, Content, Present, Several, Chosen, Values, End, And}
use Rattle.message_codec.specs.Fits.{FitsMessage}

abbrev mutual
  -- texts and bytes are lists of numbers below 256
  pub HoldsBytes : Value → Type 0
  HoldsBytes (Content bytes) = IsBytes bytes
  HoldsBytes (Present vs) = EachHoldsBytes vs
  HoldsBytes (Several vs) = EachHoldsBytes vs
  HoldsBytes (Chosen n v) = HoldsBytes v
  HoldsBytes v = ⊤

  pub EachHoldsBytes : Values → Type 0
  EachHoldsBytes End = ⊤
  EachHoldsBytes (And v vs) = HoldsBytes v × EachHoldsBytes vs

-- These are the columns of a message of this name: numbers are within their bits, texts are UTF-8, maps ascend, bytes are bytes.
abbrev pub IsMessage : Name → Values → Type 0
IsMessage name vs = FitsMessage name vs × EachHoldsBytes vs
