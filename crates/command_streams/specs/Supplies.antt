-- What the source adds to the bytes that are held.
use Rattle.std.specs.Prelude.{◌≡◌, ℕ, ◌+◌, ◌*◌, ◌<◌, ◌≤◌, List, [], ◌∷◌, ◌++◌, length, take, Option}
use Rattle.std.specs.Io.KnownBytes.{Consumes, IsAtEnd, Keeps}
use Rattle.message_codec.specs.declared.wire.field.Why.TheVariants.{Truncated}
use Rattle.command_streams.specs.declared.TheConstants.{MESSAGE_LIMIT}
use Rattle.command_streams.specs.declared.held.TheConstants.{BLOCK}
use Rattle.command_streams.specs.declared.held.Supply.{Supply}
use Rattle.command_streams.specs.declared.held.Supply.TheVariants.{More, End, Spent as BudgetSpent}
use Rattle.command_streams.specs.declared.stop.Stop.{Stop}
use Rattle.command_streams.specs.declared.stop.Stop.TheVariants.{Ended, Refused}
use Rattle.command_streams.specs.Held.{HeldState, taken_of}

-- So many bytes came into the buffer, behind those that were at its front.
abbrev pub TakesBehind : List ℕ → List ℕ → Option (List ℕ) → Option (List ℕ) → ℕ → Type 0
TakesBehind front buffer left left' n = (more : List ℕ) × (length more ≡ n) × (take (length front + n) buffer ≡ front ++ more) × Consumes left left' more

-- So many bytes came behind those that were held.
abbrev pub TakesMore : HeldState → HeldState → Option (List ℕ) → Option (List ℕ) → ℕ → Type 0
TakesMore old new left left' n = (more : List ℕ) × (length more ≡ n) × (new.at ≡ old.at) × (new.bytes ≡ old.bytes ++ more) × Consumes left left' more

-- Nothing came.
abbrev pub TakesNone : HeldState → HeldState → Type 0
TakesNone old new = (new.at ≡ old.at) × (new.bytes ≡ old.bytes)

-- As many bytes were needed, and no more are held than those and a block.
abbrev pub HoldsFew : ℕ → HeldState → Type 0
HoldsFew need held = length held.bytes ≤ need + BLOCK

-- Some bytes came within the budget, or the input has ended before it, or it was taken before. In the last two cases the source gave nothing.
abbrev pub SupplyIs : ℕ → HeldState → HeldState → Option (List ℕ) → Option (List ℕ) → Supply → Type 0
SupplyIs budget old new left left' More = (n : ℕ) × (0 < n) × TakesMore old new left left' n × (taken_of new ≤ budget)
SupplyIs budget old new left left' End = TakesNone old new × IsAtEnd left × (taken_of old < budget) × Keeps left left'
SupplyIs budget old new left left' BudgetSpent = TakesNone old new × (taken_of old ≡ budget) × Keeps left left'

-- So many bytes are no more than a block, of four of the longest frames, and what one call brings beyond them.
abbrev pub IsBlockful : ℕ → Type 0
IsBlockful count = count ≤ 4 * (4 + MESSAGE_LIMIT) + BLOCK

-- The source gave some bytes, a block at most, which with those that were taken before are within the budget.
abbrev pub TakesWithin : ℕ → HeldState → Option (List ℕ) → Option (List ℕ) → Type 0
TakesWithin budget held left left' = (more : List ℕ) × IsBlockful (length more) × (taken_of held + length more ≤ budget) × Consumes left left' more

-- where reading stops, if the input ends behind these bytes at a place, which are no whole frame
abbrev pub end_stop : ℕ → List ℕ → Stop
end_stop at [] = Ended
end_stop at (byte ∷ bytes) = Refused at Truncated

-- Why no more was taken, where the source had so much left when it was asked last: a block is held, of as many bytes as four of the longest frames; or the
-- input has ended; or the budget is taken.
abbrev pub FilledBy : ℕ → HeldState → Option (List ℕ) → Option (List ℕ) → Supply → Type 0
FilledBy budget new last left' More = (left' ≡ last) × (4 * (4 + MESSAGE_LIMIT) ≤ length new.bytes)
FilledBy budget new last left' End = IsAtEnd last × (taken_of new < budget)
FilledBy budget new last left' BudgetSpent = taken_of new ≡ budget

-- Bytes came within the budget behind those that were held, by any number of calls: a block at most.
pub record Fills (budget : ℕ) (old new : HeldState) (left left' : Option (List ℕ)) (supply : Supply) : Type 0 where
  pub count : ℕ
  pub last : Option (List ℕ)
  pub takes : TakesMore old new left last count
  pub few : IsBlockful count
  pub within : taken_of new ≤ budget
  pub by : FilledBy budget new last left' supply
