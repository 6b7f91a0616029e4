-- What stands at the front of bytes of a stream.
use Rattle.std.specs.Prelude.{◌≡◌, ℕ, ◌+◌, ◌<◌, ◌≤◌, ◌⊎◌, List, ◌++◌, length, take, drop}
use Rattle.std.specs.Int.{w32, to_be_bytes}
use Rattle.command_streams.specs.declared.TheConstants.{MESSAGE_LIMIT}
use Rattle.command_streams.specs.declared.front.Front.{Front}
use Rattle.command_streams.specs.declared.front.Front.TheVariants.{Frame, Part, Large}
use Rattle.command_streams.specs.Framing.{frame_of, FitsFrame, BeginsTooLarge}

-- the message of a frame at the front, if it has so many bytes
abbrev pub front_message : ℕ → List ℕ → List ℕ
front_message len bytes = take len (drop 4 bytes)

-- The bytes are less than a frame, and by what they tell of it so many are needed: those of a length, where fewer are there, and else those and as many as it says.
abbrev pub Wants : List ℕ → ℕ → Type 0
Wants bytes need =
    ((length bytes < 4) × (need ≡ 4))
    ⊎ ((len : ℕ) × (more : List ℕ) × (len ≤ MESSAGE_LIMIT) × (length more < len) × (bytes ≡ to_be_bytes w32 len ++ more) × (need ≡ 4 + len))

-- a frame with a message of so many bytes, or less than a frame, which needs so many, or a length above the limit
abbrev pub FrontIs : List ℕ → Front → Type 0
FrontIs bytes (Frame len) = (4 + len ≤ length bytes) × FitsFrame (front_message len bytes) × (bytes ≡ frame_of (front_message len bytes) ++ drop (4 + len) bytes)
FrontIs bytes (Part need) = Wants bytes need
FrontIs bytes Large = BeginsTooLarge bytes
