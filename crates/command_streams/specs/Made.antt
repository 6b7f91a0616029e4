-- What a command makes of a message.
use Rattle.std.specs.Prelude.{◌≡◌, ℕ, ◌≤◌, List, ◌++◌}
use Rattle.message_codec.specs.declared.wire.field.Why.{Why}
use Rattle.command_streams.specs.declared.handler.Handled.{Handled}
use Rattle.command_streams.specs.declared.handler.Handled.TheVariants as handled

-- these bytes are written for it, or it has a fault at this place of it, or too much would be written
pub data Made : Type 0 where
  Writes : List ℕ → Made
  HasFault : ℕ → Why → Made
  IsTooLong : Made

-- A fault stands at this place at most.
abbrev pub FaultsWithin : ℕ → Handled → Type 0
FaultsWithin len handled.Written = Unit {0}
FaultsWithin len (handled.Refused at why) = at ≤ len
FaultsWithin len handled.TooLong = Unit {0}

-- a command as a relation: what may be made of a message in a state, and the state after it
abbrev pub Gives : Type 0 → Type 1
Gives State = State → List ℕ → Made → State → Type 0

-- A message was handled so, with these bytes of output before it and behind it: what is written for it was added to them.
abbrev pub HandledAs : {State : Type 0} → Gives State → State → List ℕ → State → List ℕ → List ℕ → Handled → Type 0
HandledAs gives before message after old new handled.Written = (output : List ℕ) × (new ≡ old ++ output) × gives before message (Writes output) after
HandledAs gives before message after old new (handled.Refused at why) = (new ≡ old) × gives before message (HasFault at why) after
HandledAs gives before message after old new handled.TooLong = (new ≡ old) × gives before message IsTooLong after

-- Of a message in a state one thing is made, and one state comes after it.
abbrev pub IsSingleValued : {State : Type 0} → Gives State → Type 0
IsSingleValued {State} gives = (state : State) (message : List ℕ) (a b : Made) (after_a after_b : State) → gives state message a after_a → gives state message b after_b → (a ≡ b) × (after_a ≡ after_b)
