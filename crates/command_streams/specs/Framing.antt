-- Framed streams, by the section "Framed streams" of docs/COMMANDS.md: a frame is the length of its message in four bytes, most significant first, and then
-- the message.
use Rattle.std.specs.Prelude.{◌≡◌, ℕ, ◌^◌, ◌<◌, ◌≤◌, ◌⊎◌, List, ◌++◌, length}
use Rattle.std.specs.List.{flat_map}
use Rattle.std.specs.Int.{w32, to_be_bytes}
use Rattle.command_streams.specs.declared.TheConstants.{MESSAGE_LIMIT}

unfoldable pub frame_of : List ℕ → List ℕ
frame_of message = to_be_bytes w32 (length message) ++ message

abbrev pub frames_of : List (List ℕ) → List ℕ
frames_of messages = flat_map frame_of messages

abbrev pub FitsFrame : List ℕ → Type 0
FitsFrame message = length message ≤ MESSAGE_LIMIT

-- a length above the limit stands at the front
abbrev pub BeginsTooLarge : List ℕ → Type 0
BeginsTooLarge bytes = (len : ℕ) × (more : List ℕ) × (MESSAGE_LIMIT < len) × (len < 2 ^ 32) × (bytes ≡ to_be_bytes w32 len ++ more)

-- less than a frame: fewer bytes than a length takes, or fewer than the length says
abbrev pub IsPartial : List ℕ → Type 0
IsPartial bytes = (length bytes < 4) ⊎ ((len : ℕ) × (more : List ℕ) × (len ≤ MESSAGE_LIMIT) × (length more < len) × (bytes ≡ to_be_bytes w32 len ++ more))
