-- What reading a slot found, and what a load answers.
use Rattle.std.specs.Prelude.{ℕ, ◌≤◌, List, Option, Some, None, ⊤}
use Rattle.agent_store.specs.Log.{Standing, Ends, Broken}
use Rattle.agent_store.specs.Slots.{Reading, Nothing, Holds}
use Rattle.agent_store.specs.declared.log.Found.{Found}
use Rattle.agent_store.specs.declared.opened.Opened.{Opened}
use Rattle.agent_store.specs.declared.opened.Opened.TheVariants.{Fresh, Kept}

-- a part and the place of its next entry, or nothing where the slot is not right
abbrev pub standing_of : {T : Type 0} → (T → List ℕ) → Option (Found T) → Standing
standing_of canonical None = Broken
standing_of canonical (Some found) = Ends (canonical found.part) found.tail

-- what an image stands for, as load answers it
abbrev pub reading_of : {T : Type 0} → (T → List ℕ) → Opened T → Reading
reading_of canonical Fresh = Nothing
reading_of canonical (Kept part) = Holds (canonical part)

-- the canonical bytes of the part that was loaded, or none
abbrev pub part_of : {T : Type 0} → (T → List ℕ) → Opened T → Option (List ℕ)
part_of canonical Fresh = None
part_of canonical (Kept part) = Some (canonical part)

-- what was found ends at a place between these
abbrev pub EndsWithin : {T : Type 0} → ℕ → ℕ → Option (Found T) → Type 0
EndsWithin from to None = ⊤
EndsWithin from to (Some found) = (from ≤ found.tail) × (found.tail ≤ to)

-- the part that was found has this
abbrev pub HasPart : {T : Type 0} → (T → Type 0) → Option (Found T) → Type 0
HasPart has None = ⊤
HasPart has (Some found) = has found.part

-- the part that was loaded has this
abbrev pub AllKept : {T : Type 0} → (T → Type 0) → Opened T → Type 0
AllKept has Fresh = ⊤
AllKept has (Kept part) = has part
