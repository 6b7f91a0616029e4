-- What contracts see of the sources and sinks of this crate.
use Rattle.std.specs.Prelude.{◌≡◌, ◌⊎◌, ℕ, List, ◌++◌, take}
use Rattle.edge_devices.specs.Faults.{HasRisen}

-- a reader or a writer, and how many of the calls on it answered a fault
pub record Counted (Inner : Type 0) : Type 0 where
  pub inner : Inner
  pub faults : ℕ

-- A source in memory: the bytes that are left, the most that it gives in a call, the numbers of the calls
-- that are to fail, the number of the next call, and how many calls failed.
pub record SourceState : Type 0 where
  pub left : List ℕ
  pub most : ℕ
  pub failing : List ℕ
  pub calls : ℕ
  pub faults : ℕ

-- A sink in memory: the bytes that were taken, how many bytes a call that is to fail takes first, the
-- numbers of those calls, the number of the next call, how many calls failed, and in how many of them a
-- growth was refused.
pub record SinkState : Type 0 where
  pub taken : List ℕ
  pub partial : ℕ
  pub failing : List ℕ
  pub calls : ℕ
  pub faults : ℕ
  pub short : ℕ

-- A call that failed took the part that it was told to take, or it took nothing, since a growth was refused.
abbrev pub TakesPart : SinkState → SinkState → List ℕ → Type 0
TakesPart old new bytes = (new.taken ≡ old.taken ++ take old.partial bytes) ⊎ ((new.taken ≡ old.taken) × HasRisen old.short new.short)
