-- The parts of a run over a script: what is taken from the source, and how a part fails.
use Rattle.std.specs.Prelude.{◌≡◌, ℕ, ◌+◌, ◌<◌, ◌≤◌, ◌⊎◌, List, ◌++◌, length, Option}
use Rattle.std.specs.Io.KnownBytes.{Consumes, IsAtEnd}
use Rattle.world_scripts.specs.declared.scripts.TheConstants.{SCRIPT_LIMIT}
use Rattle.command_scripts.specs.declared.simulate.TheConstants.{BLOCK}
use Rattle.command_scripts.specs.declared.simulate.PlayFail.{PlayFail}
use Rattle.command_scripts.specs.declared.simulate.PlayFail.TheVariants.{Refused, ReadFault, WriteFault, NoMemory}

-- Some bytes came from the source behind those that were taken.
abbrev pub TakesBlock : Option (List ℕ) → Option (List ℕ) → List ℕ → List ℕ → Type 0
TakesBlock left left' bytes bytes' = (more : List ℕ) × (bytes' ≡ bytes ++ more) × Consumes left left' more

-- At most so many bytes came from the source.
abbrev pub TakesAtMost : ℕ → Option (List ℕ) → Option (List ℕ) → Type 0
TakesAtMost most left left' = (bytes : List ℕ) × (length bytes ≤ most) × Consumes left left' bytes

-- how many bytes are taken at most: those of the largest script and one block more
abbrev pub most_taken : ℕ
most_taken = SCRIPT_LIMIT + BLOCK

-- These bytes came from the source: all that it had, or more than a script may have.
abbrev pub TakesScript : Option (List ℕ) → Option (List ℕ) → List ℕ → Type 0
TakesScript left left' bytes = Consumes left left' bytes × (IsAtEnd left' ⊎ (SCRIPT_LIMIT < length bytes))

-- what fails where only the source is asked; the fact is that its count of faults has risen
abbrev pub IsTakeFail : Type 0 → PlayFail → Type 0
IsTakeFail risen Refused = ⊥
IsTakeFail risen ReadFault = risen
IsTakeFail risen WriteFault = ⊥
IsTakeFail risen NoMemory = Unit {0}

-- what fails where only the sink is asked; the fact is that its count of faults has risen
abbrev pub IsPutFail : Type 0 → PlayFail → Type 0
IsPutFail risen Refused = Unit {0}
IsPutFail risen ReadFault = ⊥
IsPutFail risen WriteFault = risen
IsPutFail risen NoMemory = Unit {0}
