-- A command told in other states than it keeps, and a command that makes something of each message.
use Rattle.std.specs.Prelude.{ℕ, List}
use Rattle.message_codec.specs.Fields.{AreBytes}
use Rattle.command_streams.specs.Framing.{FitsFrame}
use Rattle.command_streams.specs.Made.{Made, Gives}

-- In each state something is made of each message that a frame can have.
abbrev pub IsTotal : {State : Type 0} → Gives State → Type 0
IsTotal {State} gives = (state : State) (message : List ℕ) → AreBytes message → FitsFrame message → (made : Made) × (after : State) × gives state message made after

-- Where a state of the first kind is told by one of the second, so is the state after each message, and the same is made of it.
abbrev pub Carries : {Kept State : Type 0} → (Kept → State → Type 0) → Gives Kept → Gives State → Type 0
Carries {Kept} {State} tells gives makes =
    (kept : Kept) (state : State) (message : List ℕ) (made : Made) (after : Kept) → tells kept state → gives kept message made after → (told : State) × makes state message made told × tells after told
