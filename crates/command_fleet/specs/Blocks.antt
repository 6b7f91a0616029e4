-- How far a reading block by block is.
use Rattle.std.specs.Prelude.{◌≡◌, ℕ, ◌+◌, ◌*◌, ◌<◌, ◌≤◌, List, [], ◌++◌, length, Option}
use Rattle.std.specs.Io.KnownBytes.{Consumes}
use Rattle.message_values.specs.declared.report.AgentToServer.{AgentToServer}
use Rattle.command_streams.specs.declared.TheConstants.{MESSAGE_LIMIT}
use Rattle.command_streams.specs.declared.answering.Halt.{Halt}
use Rattle.command_streams.specs.declared.held.Supply.{Supply}
use Rattle.command_streams.specs.declared.held.Supply.TheVariants.{More}
use Rattle.command_streams.specs.Blocks.{HaltIs}
use Rattle.command_streams.specs.Framing.{frames_of}
use Rattle.command_streams.specs.Held.{HeldState, taken_of}
use Rattle.command_streams.specs.Progress.{IsReadTo, Passes}
use Rattle.command_streams.specs.Reading.{AreSteps, Step, messages_of}
use Rattle.command_streams.specs.Replies.{TakesAll}
use Rattle.command_streams.specs.Supplies.{FilledBy}
use Rattle.command_fleet.specs.declared.blockwise.Next.{Next}
use Rattle.command_fleet.specs.declared.blockwise.Next.TheVariants.{Holds, Stops}
use Rattle.command_fleet.specs.Reading.{Collects}

-- how many bytes a block has at most: those of four of the longest frames, and the 64 KiB that a call of the source is asked for beyond them
abbrev pub most_of_block : ℕ
most_of_block = 4 * (4 + MESSAGE_LIMIT) + 65536

-- what is held of a block with the part of a frame in front of it
abbrev pub HoldsBlock : HeldState → Type 0
HoldsBlock held = length held.bytes ≤ (4 + MESSAGE_LIMIT) + most_of_block

-- What was taken of the source: the frames of these steps, and behind them two blocks and a frame at most. So behind a fault of the input no more is taken.
-- All of it is within the budget.
pub record TakesFewBehind (budget : ℕ) (left left' : Option (List ℕ)) : Type 0 where
  pub steps : List (Step (List AgentToServer))
  pub behind : List ℕ
  pub each : AreSteps Collects [] steps
  pub taken : Consumes left left' (frames_of (messages_of steps) ++ behind)
  pub few : length behind ≤ (4 + MESSAGE_LIMIT) + 2 * most_of_block
  pub within : length (frames_of (messages_of steps) ++ behind) ≤ budget

-- The frames of a block were handled up to a halt.
abbrev pub HaltsAt : List AgentToServer → List AgentToServer → HeldState → HeldState → Halt → Type 0
HaltsAt reports reports' old new halt = (state : List AgentToServer) × Passes Collects reports state old new × HaltIs Collects state reports' new halt

-- So far the input was read as these reports. A block is held at most, it was filled so, and what the source has left comes behind it.
pub record IsReadOn (budget : ℕ) (held : HeldState) (reports : List AgentToServer) (input left : Option (List ℕ)) (supply : Supply) : Type 0 where
  pub last : Option (List ℕ)
  pub read : IsReadTo Collects [] budget held reports input last
  pub few : HoldsBlock held
  pub by : FilledBy budget held last left supply

-- What comes behind a block of an input: the next block is held, or reading stops.
abbrev pub GoesOn : ℕ → HeldState → List AgentToServer → Option (List ℕ) → Option (List ℕ) → Next → Type 0
GoesOn budget held reports input left (Holds supply) = IsReadOn budget held reports input left supply
GoesOn budget held reports input left (Stops stop) = TakesAll Collects [] reports budget input stop

-- If another block follows, more of the input was taken.
abbrev pub TakesOn : HeldState → HeldState → Next → Type 0
TakesOn old new next = next ≡ Holds More → taken_of old < taken_of new
