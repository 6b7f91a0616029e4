-- What `show` writes for a stream of messages.
use Rattle.std.specs.Prelude.{◌≡◌, ℕ, ◌+◌, List, ◌∷◌, ◌++◌}
use Rattle.std.specs.Fmt.{decimal}
use Rattle.command_streams.specs.Made.{Writes, HasFault, IsTooLong, Gives}
use Rattle.command_frames.specs.Families.{Family}

-- the heading of the message of this number, and its text
abbrev pub headed : {Message : Type 0} → Family Message → ℕ → Message → List ℕ
headed family number message = family.word ++ (32 ∷ (decimal number ++ (10 ∷ family.text message)))

-- What is made of bytes behind so many messages: the text of the message that they mean, by its number; or their first fault.
abbrev pub Numbers : {Message : Type 0} → Family Message → (ℕ → Message → List ℕ) → Gives ℕ
Numbers {Message} family text before bytes (Writes output) after = (message : Message) × family.means bytes message × (output ≡ text (before + 1) message) × (after ≡ before + 1)
Numbers {Message} family text before bytes (HasFault at why) after = family.fault bytes at why × (after ≡ before)
Numbers {Message} family text before bytes IsTooLong after = ⊥

-- the lines of each message, under its heading
abbrev pub Shows : {Message : Type 0} → Family Message → Gives ℕ
Shows family = Numbers family (headed family)
