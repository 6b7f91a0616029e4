-- What contracts see of a source and of a sink of bytes.
use Rattle.std.specs.Prelude.{ℕ, List, Option}

-- the bytes left, where the source tells them, and how many calls answered a fault
pub record SourceView : Type 0 where
  pub left : Option (List ℕ)
  pub faults : ℕ

-- the bytes taken, where the sink tells them, and how many calls answered a fault
pub record SinkView : Type 0 where
  pub taken : Option (List ℕ)
  pub faults : ℕ
