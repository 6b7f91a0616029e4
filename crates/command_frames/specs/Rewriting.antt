-- What `canon` writes for a stream of messages.
use Rattle.std.specs.Prelude.{◌≡◌, ℕ, ◌<◌, ◌≤◌, ◌⊎◌, List, length}
use Rattle.message_codec.specs.Levels.{most_bytes}
use Rattle.command_streams.specs.Framing.{frame_of}
use Rattle.command_streams.specs.Made.{Writes, HasFault, IsTooLong, Gives}
use Rattle.command_frames.specs.Families.{Family}

-- a message that is written: neither its bytes nor its levels are too many
abbrev pub IsWritable : {Message : Type 0} → Family Message → Message → Type 0
IsWritable family message = (length (family.canonical message) ≤ most_bytes) × (family.depth message ≤ 100)

abbrev pub IsUnwritable : {Message : Type 0} → Family Message → Message → Type 0
IsUnwritable family message = (most_bytes < length (family.canonical message)) ⊎ (100 < family.depth message)

-- bytes that are the canonical form of the message that they mean, which is written
abbrev pub IsOwnForm : {Message : Type 0} → Family Message → List ℕ → Type 0
IsOwnForm {Message} family bytes = (message : Message) × family.means bytes message × IsWritable family message × (bytes ≡ family.canonical message)

-- What is made of bytes: the frame of the canonical form of the message that they mean, where that can be written; or their first fault.
abbrev pub Rewrites : {Message State : Type 0} → Family Message → Gives State
Rewrites {Message} family before bytes (Writes output) after = (message : Message) × family.means bytes message × IsWritable family message × (output ≡ frame_of (family.canonical message)) × (after ≡ before)
Rewrites {Message} family before bytes (HasFault at why) after = family.fault bytes at why × (after ≡ before)
Rewrites {Message} family before bytes IsTooLong after = (message : Message) × family.means bytes message × IsUnwritable family message × (after ≡ before)
