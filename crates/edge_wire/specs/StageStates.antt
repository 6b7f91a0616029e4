-- What contracts see of a connection's stage.
use Rattle.std.specs.Prelude.{ℕ}
use Rattle.edge_wire.specs.declared.stage.Phase.{Phase}

-- How far it is; when it is dropped if it isn't open, in milliseconds; and how many bytes were dropped.
pub record StageState : Type 0 where
  pub phase : Phase
  pub until : ℕ
  pub drained : ℕ
