-- Frames that are passed over, some behind others.
use Rattle.std.proofs.Common.{◌≡◌, ℕ, ◌+◌, ◌-◌, ◌≤◌, List, [], ◌∷◌, ◌++◌, length, take, drop, refl, sym, ap, ◌∙◌, append_assoc, append-nil, arith}
use Rattle.std.specs.Int.{w32, to_be_bytes}
use Rattle.std.proofs.Math.Seq.{take-append-add}
use Rattle.std.proofs.lemmas.List.{length-append, length-take-le, length-drop}
use Rattle.command_streams.specs.Framing.{frame_of, frames_of, FitsFrame}
use Rattle.command_streams.specs.Made.{Writes, Gives}
use Rattle.command_streams.specs.Reading.{Step, messages_of, outputs_of, place_after, state_after, AreSteps}
use Rattle.command_streams.specs.Held.{HeldState}
use Rattle.command_streams.specs.Fronts.{front_message}
use Rattle.command_streams.specs.Blocks.{FramesPass}

pub take_front : (n : ℕ) (front rest : List ℕ) → length front ≤ n → take n (front ++ rest) ≡ front ++ take (n - length front) rest
take_front n front rest le =
    let split : n ≡ length front + (n - length front) = omega arith in
    ap (λ (k : ℕ). take k (front ++ rest)) split ∙ take-append-add front rest (n - length front)

pub frame_of-len : (message : List ℕ) → length (frame_of message) ≡ 4 + length message
unfolding frame_of
frame_of-len message = length-append (to_be_bytes w32 (length message)) message

-- ---- steps behind steps

pub state_after-append : {State : Type 0} (state : State) (a b : List (Step State)) → state_after state (a ++ b) ≡ state_after (state_after state a) b
state_after-append state [] b = refl
state_after-append state (step ∷ a) b = state_after-append step.after a b

pub outputs_of-append : {State : Type 0} (a b : List (Step State)) → outputs_of (a ++ b) ≡ outputs_of a ++ outputs_of b
outputs_of-append [] b = refl
outputs_of-append (step ∷ a) b = ap (λ (t : List ℕ). step.output ++ t) (outputs_of-append a b) ∙ sym (append_assoc step.output (outputs_of a) (outputs_of b))

pub AreSteps-append : {State : Type 0} (gives : Gives State) (state : State) (a b : List (Step State)) → AreSteps gives state a → AreSteps gives (state_after state a) b → AreSteps gives state (a ++ b)
AreSteps-append gives state [] b all others = others
AreSteps-append gives state (step ∷ a) b all others = (all.0, all.1, AreSteps-append gives step.after a b all.2 others)

pub frames_of-append : {State : Type 0} (a b : List (Step State)) → frames_of (messages_of (a ++ b)) ≡ frames_of (messages_of a) ++ frames_of (messages_of b)
frames_of-append [] b = refl
frames_of-append (step ∷ a) b = ap (λ (t : List ℕ). frame_of step.message ++ t) (frames_of-append a b) ∙ sym (append_assoc (frame_of step.message) (frames_of (messages_of a)) (frames_of (messages_of b)))

-- ---- frames of held bytes

pub FramesPass-none : {State : Type 0} (gives : Gives State) (start : State) (held : HeldState) → FramesPass gives start held held []
FramesPass-none gives start held = record { each = tt; bytes = refl; place = omega arith }

pub FramesPass-append : {State : Type 0} (gives : Gives State) (start : State) (a b c : HeldState) (first second : List (Step State)) → FramesPass gives start a b first → FramesPass gives (state_after start first) b c second
    → FramesPass gives start a c (first ++ second)
FramesPass-append gives start a b c first second p q = record {
  each = AreSteps-append gives start first second p.each q.each;
  bytes = p.bytes ∙ ap (λ (t : List ℕ). frames_of (messages_of first) ++ t) q.bytes ∙ sym (append_assoc (frames_of (messages_of first)) (frames_of (messages_of second)) c.bytes) ∙ ap (λ (t : List ℕ). t ++ c.bytes) (sym (frames_of-append first second));
  place = omega (arith, p.place, q.place, ap length (frames_of-append first second), length-append (frames_of (messages_of first)) (frames_of (messages_of second)));
}

abbrev pub step_of : {State : Type 0} → List ℕ → List ℕ → State → Step State
step_of message output after = record { message = message; output = output; after = after }

-- the frame at the front, for which this output is written
pub FramesPass-one : {State : Type 0} (gives : Gives State) (state after : State) (old new : HeldState) (len : ℕ) (output : List ℕ)
    → 4 + len ≤ length old.bytes → FitsFrame (front_message len old.bytes) → old.bytes ≡ frame_of (front_message len old.bytes) ++ drop (4 + len) old.bytes
    → new.at ≡ old.at + (4 + len) → new.bytes ≡ drop (4 + len) old.bytes → gives state (front_message len old.bytes) (Writes output) after
    → FramesPass gives state old new (step_of (front_message len old.bytes) output after ∷ [])
FramesPass-one gives state after old new len output room fits whole at_is bytes_is given =
    let message : List ℕ = front_message len old.bytes in
    let message_len : length message ≡ len = length-take-le len (drop 4 old.bytes) (omega (arith, length-drop 4 old.bytes)) in
    record {
      each = (fits, given, tt);
      bytes = whole ∙ ap (λ (t : List ℕ). frame_of message ++ t) (sym bytes_is) ∙ ap (λ (t : List ℕ). t ++ new.bytes) (sym (append-nil (frame_of message)));
      place = omega (arith, at_is, message_len, frame_of-len message, ap length (append-nil (frame_of message)));
    }

-- the number of bytes that were taken stays
pub FramesPass-taken : {State : Type 0} (gives : Gives State) (start : State) (old new : HeldState) (steps : List (Step State)) → FramesPass gives start old new steps → new.at + length new.bytes ≡ old.at + length old.bytes
FramesPass-taken gives start old new steps p = omega (arith, p.place, ap length p.bytes, length-append (frames_of (messages_of steps)) new.bytes)

-- ---- counts

-- A command that counts one for a message at most has counted no further than the bytes of the frames.
pub counted_after : {State : Type 0} (gives : Gives State) (counted : State → ℕ) → ((before after : State) (message output : List ℕ) → gives before message (Writes output) after → counted after ≤ counted before + 1)
    → (state : State) (steps : List (Step State)) → AreSteps gives state steps → counted (state_after state steps) ≤ counted state + place_after steps
counted_after gives counted counts state [] all = omega arith
counted_after gives counted counts state (step ∷ steps) all =
    let others = counted_after gives counted counts step.after steps all.2 in
    let one = counts state step.after step.message step.output all.1 in
    omega (arith, length-append (frame_of step.message) (frames_of (messages_of steps)), frame_of-len step.message)
