-- What an image stands for, by its two slots and their logs.
use Rattle.std.specs.Prelude.{◌≡◌, ◌⊎◌, ℕ, ◌+◌, ◌*◌, ◌<◌, ◌≤◌, Bool, true, false, List, [], ◌∷◌, ◌++◌, length, Option, Some, None, ◌==◌, nat_lt, nat_le, if◌then◌else◌}
use Rattle.std.specs.Int.{w32, w64, from_le_bytes, to_le_bytes}
use Rattle.agent_store.specs.declared.slots.Layout.{Layout}
use Rattle.agent_store.specs.declared.slots.Side.{Side}
use Rattle.agent_store.specs.declared.slots.Side.TheVariants.{First, Second}
use Rattle.agent_store.specs.declared.slots.Choice.{Choice}
use Rattle.agent_store.specs.declared.slots.Choice.TheVariants.{Neither, Twins, Slot}
use Rattle.agent_store.specs.Codecs.{Codec}
use Rattle.agent_store.specs.Log.{bytes_at, Standing, Ends, Broken, if_some, replay}

abbrev pub other : Side → Side
other First = Second
other Second = First

abbrev pub slot_number : Side → ℕ
slot_number First = 0
slot_number Second = 1

-- where a slot begins
abbrev pub slot_start : Layout → Side → ℕ
slot_start layout First = 0
slot_start layout Second = layout.room + 16

-- where a log begins
abbrev pub log_start : Layout → Side → ℕ
log_start layout First = 2 * (layout.room + 16)
log_start layout Second = 2 * (layout.room + 16) + layout.log

-- and where it ends
abbrev pub log_stop : Layout → Side → ℕ
log_stop layout side = log_start layout side + layout.log

-- the place is one of the n from here on
pub record IsWithin (at n place : ℕ) : Type 0 where
  pub from : at ≤ place
  pub to : place < at + n

-- the places of a slot and its log
abbrev pub IsPlaceOf : Layout → Side → ℕ → Type 0
IsPlaceOf layout side place = IsWithin (slot_start layout side) (layout.room + 16) place ⊎ IsWithin (log_start layout side) layout.log place

-- the gate, the generation, the length of the payload and the payload of the slot that begins here
abbrev pub is_open_at : (ℕ → ℕ) → ℕ → Bool
is_open_at image at = image at == 1

unfoldable pub generation_at : (ℕ → ℕ) → ℕ → ℕ
generation_at image at = from_le_bytes w64 (bytes_at image (at + 1) 8)

unfoldable pub length_at : (ℕ → ℕ) → ℕ → ℕ
length_at image at = from_le_bytes w32 (bytes_at image (at + 9) 4)

unfoldable pub payload_at : (ℕ → ℕ) → ℕ → List ℕ
payload_at image at = bytes_at image (at + 16) (length_at image at)

-- A slot's part with its log. One of form 2 has the log behind both slots; one of form 1 has an empty log without room.
abbrev pub by_form : Codec → Layout → (ℕ → ℕ) → Side → ℕ → List ℕ → Standing
by_form codec layout image side form part =
    if form == 2 then replay codec image (log_stop layout side) layout.log (log_start layout side) part
    else if form == 1 then Ends part (log_stop layout side)
    else Broken

-- what an open slot stands for with its log
unfoldable pub standing : Codec → Layout → (ℕ → ℕ) → Side → Standing
standing codec layout image side =
    if nat_le (length_at image (slot_start layout side)) layout.room
    then if_some (codec.meaning (payload_at image (slot_start layout side))) (λ part. by_form codec layout image side (image (slot_start layout side + 13)) part)
    else Broken

abbrev pub is_open : Layout → (ℕ → ℕ) → Side → Bool
is_open layout image side = is_open_at image (slot_start layout side)

abbrev pub generation_of : Layout → (ℕ → ℕ) → Side → ℕ
generation_of layout image side = generation_at image (slot_start layout side)

-- by whether each is open, the generations are the same, and the first is less
abbrev pub choice_by : Bool → Bool → Bool → Bool → Choice
choice_by true true true less = Twins
choice_by true true false true = Slot Second
choice_by true true false false = Slot First
choice_by true false same less = Slot First
choice_by false true same less = Slot Second
choice_by false false same less = Neither

-- the slot that counts: the open one of greatest generation
unfoldable pub chosen : Layout → (ℕ → ℕ) → Choice
chosen layout image =
    choice_by (is_open layout image First) (is_open layout image Second)
    (generation_of layout image First == generation_of layout image Second) (nat_lt (generation_of layout image First) (generation_of layout image Second))

-- what an image stands for: nothing yet, a part, or the slot that is damaged
pub data Reading : Type 0 where
  Nothing : Reading
  Holds : List ℕ → Reading
  Damaged : ℕ → Reading

abbrev pub told : Side → Standing → Reading
told side (Ends part tail) = Holds part
told side Broken = Damaged (slot_number side)

abbrev pub choice_reading : Codec → Layout → (ℕ → ℕ) → Choice → Reading
choice_reading codec layout image Neither = Nothing
choice_reading codec layout image Twins = Damaged 0
choice_reading codec layout image (Slot side) = told side (standing codec layout image side)

unfoldable pub reading : Codec → Layout → (ℕ → ℕ) → Reading
reading codec layout image = choice_reading codec layout image (chosen layout image)

-- An image stands for none where nothing was saved yet, and for a part where the slot that counts and its log are right and give the part's
-- canonical bytes.
abbrev pub StandsFor : Codec → Layout → (ℕ → ℕ) → Option (List ℕ) → Type 0
StandsFor codec layout image None = reading codec layout image ≡ Nothing
StandsFor codec layout image (Some part) = reading codec layout image ≡ Holds part

-- the bytes of a slot behind its gate, in form 2
unfoldable pub body_bytes : ℕ → List ℕ → List ℕ
body_bytes generation payload = to_le_bytes w64 generation ++ (to_le_bytes w32 (length payload) ++ (2 ∷ 0 ∷ 0 ∷ [] ++ payload))

-- an image stands for what the former one did, or for this part
abbrev pub IsFormerOrNext : Codec → Layout → (ℕ → ℕ) → List ℕ → (ℕ → ℕ) → Type 0
IsFormerOrNext codec layout former next image = (reading codec layout image ≡ reading codec layout former) ⊎ StandsFor codec layout image (Some next)

abbrev pub NotDamaged : Codec → Layout → (ℕ → ℕ) → Type 0
NotDamaged codec layout image = (slot : ℕ) → reading codec layout image ≡ Damaged slot → ⊥
