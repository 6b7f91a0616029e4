-- Each input has a reading.
use Rattle.std.proofs.Common.{◌≡◌, ℕ, zero, suc, ◌+◌, ◌^◌, ◌<◌, ◌≤◌, ◌⊎◌, List, [], ◌∷◌, ◌++◌, length, take, drop, refl, sym, ap, subst, ◌∙◌, append_assoc, take-append-drop, arith, inl, inr}
use Rattle.std.specs.Int.{w32, to_be_bytes, from_be_bytes}
use Rattle.std.proofs.lemmas.Bool.{cases_lt}
use Rattle.std.proofs.lemmas.List.{length-append, length-take-le}
use Rattle.std.proofs.lemmas.Nat.{be_bytes_4}
use Rattle.message_codec.specs.Fields.{AreBytes}
use Rattle.message_codec.specs.declared.wire.field.Why.TheVariants.{TooLarge, Truncated}
use Rattle.command_streams.specs.declared.TheConstants.{MESSAGE_LIMIT}
use Rattle.command_streams.specs.declared.stop.Stop.{Stop}
use Rattle.command_streams.specs.declared.stop.Stop.TheVariants.{Ended, Refused, TooLong, Spent}
use Rattle.command_streams.specs.Framing.{frame_of, frames_of, FitsFrame, BeginsTooLarge, IsPartial}
use Rattle.command_streams.specs.Made.{Made, Writes, HasFault, IsTooLong, Gives}
use Rattle.command_streams.specs.Reading.{Step, messages_of, place_after, state_after, AreSteps, BeginsMade, large_frame, cut_frame, bad_message, Reads, StopsAt}
use Rattle.command_streams.specs.Telling.{IsTotal}
use Rattle.command_streams.proofs.Passing.{frame_of-len, step_of}

-- ---- bytes

bytes_after : (a b : List ℕ) → AreBytes (a ++ b) → AreBytes b
bytes_after [] b h = h
bytes_after (x ∷ a) b h = bytes_after a b (λ i. h (suc i))

bytes_before : (a b : List ℕ) → AreBytes (a ++ b) → AreBytes a
bytes_before [] b h i = omega arith
bytes_before (x ∷ a) b h zero = h zero
bytes_before (x ∷ a) b h (suc i) = bytes_before a b (λ j. h (suc j)) i

below_limit : (bytes : List ℕ) → AreBytes bytes → from_be_bytes w32 bytes < 2 ^ 32
below_limit bytes are = omega (arith, are 0, are 1, are 2, are 3)

-- ---- the front

record HasFrame (bytes : List ℕ) : Type 0 where
  message : List ℕ
  more : List ℕ
  whole : bytes ≡ frame_of message ++ more
  fits : FitsFrame message
  message_bytes : AreBytes message
  more_bytes : AreBytes more

with_message : (bytes rest : List ℕ) (len : ℕ) → AreBytes rest → bytes ≡ to_be_bytes w32 len ++ rest → len ≤ MESSAGE_LIMIT → len ≤ length rest → HasFrame bytes
unfolding frame_of
with_message bytes rest len are whole small full =
    let message : List ℕ = take len rest in
    let more : List ℕ = drop len rest in
    let is : length message ≡ len = length-take-le len rest full in
    let parts : message ++ more ≡ rest = take-append-drop len rest in
    let split : AreBytes (message ++ more) = subst AreBytes (sym parts) are in
    record {
      message = message;
      more = more;
      whole = whole ∙ ap (λ (n : ℕ). to_be_bytes w32 n ++ rest) (sym is) ∙ ap (λ (t : List ℕ). to_be_bytes w32 (length message) ++ t) (sym parts) ∙ sym (append_assoc (to_be_bytes w32 (length message)) message more);
      fits = omega arith;
      message_bytes = bytes_before message more split;
      more_bytes = bytes_after message more split;
    }

with_length : (bytes : List ℕ) → AreBytes bytes → 4 ≤ length bytes → IsPartial bytes ⊎ (BeginsTooLarge bytes ⊎ HasFrame bytes)
with_length bytes are enough =
    let head : List ℕ = take 4 bytes in
    let rest : List ℕ = drop 4 bytes in
    let parts : head ++ rest ≡ bytes = take-append-drop 4 bytes in
    let split : AreBytes (head ++ rest) = subst AreBytes (sym parts) are in
    let head_bytes : AreBytes head = bytes_before head rest split in
    let len : ℕ = from_be_bytes w32 head in
    let spells : to_be_bytes w32 len ≡ head = be_bytes_4 head len (length-take-le 4 bytes enough) head_bytes refl in
    let whole : bytes ≡ to_be_bytes w32 len ++ rest = sym parts ∙ ap (λ (t : List ℕ). t ++ rest) (sym spells) in
    elim (cases_lt MESSAGE_LIMIT len) [
      | inl large ↦ inr (inl (len, rest, large, below_limit head head_bytes, whole))
      | inr small ↦ elim (cases_lt (length rest) len) [
        | inl cut ↦ inl (inr (len, rest, small, cut, whole))
        | inr full ↦ inr (inr (with_message bytes rest len (bytes_after head rest split) whole small full))
      ]
    ]

front_is : (bytes : List ℕ) → AreBytes bytes → IsPartial bytes ⊎ (BeginsTooLarge bytes ⊎ HasFrame bytes)
front_is bytes are = elim (cases_lt (length bytes) 4) [ inl short ↦ inl (inl short) | inr enough ↦ with_length bytes are enough ]

-- ---- readings

-- From this state at this place on the rest has a reading.
record Rest {State : Type 0} (gives : Gives State) (state : State) (budget : ℕ) (bytes : List ℕ) (at : ℕ) (rest : List ℕ) : Type 0 where
  steps : List (Step State)
  last : List ℕ
  stop : Stop
  parts : rest ≡ frames_of (messages_of steps) ++ last
  each : AreSteps gives state steps
  stops : StopsAt gives (state_after state steps) budget bytes (at + place_after steps) last stop

stops_here : {State : Type 0} (gives : Gives State) (state : State) (budget : ℕ) (bytes : List ℕ) (at : ℕ) (rest : List ℕ) (stop : Stop) → StopsAt gives state budget bytes at rest stop → Rest gives state budget bytes at rest
stops_here gives state budget bytes at rest stop stops = record {
  steps = [];
  last = rest;
  stop = stop;
  parts = refl;
  each = tt;
  stops = subst (λ (n : ℕ). StopsAt gives state budget bytes n rest stop) (let e : at ≡ at + 0 = omega arith in e) stops;
}

partial_stops : {State : Type 0} (gives : Gives State) (state : State) (budget : ℕ) (bytes : List ℕ) (at : ℕ) (rest : List ℕ) → IsPartial rest → Rest gives state budget bytes at rest
partial_stops gives state budget bytes at rest cut = elim (cases_lt (length bytes) budget) [
  | inl short ↦ ends rest cut short
  | inr over ↦ stops_here gives state budget bytes at rest Spent (over, cut)
]
  where
    ends : (rest : List ℕ) → IsPartial rest → length bytes < budget → Rest gives state budget bytes at rest
    ends [] cut short = stops_here gives state budget bytes at [] Ended (short, refl)
    ends (byte ∷ more) cut short = stops_here gives state budget bytes at (byte ∷ more) (Refused at Truncated) (cut_frame refl refl short (omega (arith, length-append (byte ∷ []) more)) cut)

begins_made : {State : Type 0} (gives : Gives State) (state after : State) (rest : List ℕ) (made : Made) (front : HasFrame rest) → gives state front.message made after → BeginsMade gives state rest made
begins_made gives state after rest made front given = record { message = front.message; more = front.more; after = after; whole = front.whole; fits = front.fits; is = given }

one_more : {State : Type 0} (gives : Gives State) (state after : State) (budget : ℕ) (bytes : List ℕ) (at : ℕ) (rest output : List ℕ) (front : HasFrame rest) → gives state front.message (Writes output) after
    → Rest gives after budget bytes (at + length (frame_of front.message)) front.more → Rest gives state budget bytes at rest
one_more {State} gives state after budget bytes at rest output front given others = record {
  steps = step ∷ others.steps;
  last = others.last;
  stop = others.stop;
  parts = front.whole ∙ ap (λ (t : List ℕ). frame_of front.message ++ t) others.parts ∙ sym (append_assoc (frame_of front.message) (frames_of (messages_of others.steps)) others.last);
  each = (front.fits, given, others.each);
  stops = subst (λ (n : ℕ). StopsAt gives (state_after after others.steps) budget bytes n others.last others.stop) place others.stops;
}
  where
    step : Step State
    step = step_of front.message output after

    place : at + length (frame_of front.message) + place_after others.steps ≡ at + length (frame_of front.message ++ frames_of (messages_of others.steps))
    place = omega (arith, length-append (frame_of front.message) (frames_of (messages_of others.steps)))

-- what is made of the message at the front, and what comes behind it
by_made : {State : Type 0} (gives : Gives State) (budget : ℕ) (bytes : List ℕ) (n : ℕ) (state : State) (at : ℕ) (rest : List ℕ) (front : HasFrame rest) (made : Made) (after : State) → length rest < suc n → gives state front.message made after
    → ((state : State) (at : ℕ) (rest : List ℕ) → length rest < n → AreBytes rest → Rest gives state budget bytes at rest) → Rest gives state budget bytes at rest
by_made gives budget bytes n state at rest front (Writes output) after few given others =
    let fewer : length front.more < n = omega (arith, ap length front.whole, length-append (frame_of front.message) front.more, frame_of-len front.message) in
    one_more gives state after budget bytes at rest output front given (others after (at + length (frame_of front.message)) front.more fewer front.more_bytes)
by_made gives budget bytes n state at rest front (HasFault offset why) after few given others =
    stops_here gives state budget bytes at rest (Refused (at + 4 + offset) why) (bad_message offset refl (begins_made gives state after rest (HasFault offset why) front given))
by_made gives budget bytes n state at rest front IsTooLong after few given others = stops_here gives state budget bytes at rest TooLong (begins_made gives state after rest IsTooLong front given)

read_on : {State : Type 0} (gives : Gives State) (budget : ℕ) (bytes : List ℕ) → IsTotal gives → (n : ℕ) (state : State) (at : ℕ) (rest : List ℕ) → length rest < n → AreBytes rest → Rest gives state budget bytes at rest
read_on gives budget bytes total zero state at rest few are = absurd (omega arith)
read_on {State} gives budget bytes total (suc n) state at rest few are =
    let others : (state : State) (at : ℕ) (rest : List ℕ) → length rest < n → AreBytes rest → Rest gives state budget bytes at rest = read_on gives budget bytes total n in
    elim (front_is rest are) [
      | inl cut ↦ partial_stops gives state budget bytes at rest cut
      | inr more ↦ elim more [
        | inl large ↦ stops_here gives state budget bytes at rest (Refused at TooLarge) (large_frame refl refl large)
        | inr front ↦ let some = total state front.message front.message_bytes front.fits in by_made gives budget bytes n state at rest front some.0 some.1 few some.2 others
      ]
    ]

pub some_reading : {State : Type 0} (gives : Gives State) (start : State) (budget : ℕ) (bytes : List ℕ) → IsTotal gives → AreBytes bytes → (steps : List (Step State)) × (stop : Stop) × Reads gives start budget bytes steps stop
some_reading {State} gives start budget bytes total are =
    let within : List ℕ = take budget bytes in
    let within_bytes : AreBytes within = bytes_before within (drop budget bytes) (subst AreBytes (sym (take-append-drop budget bytes)) are) in
    let all : Rest gives start budget bytes 0 within = read_on gives budget bytes total (suc (length within)) start 0 within (omega arith) within_bytes in
    let place : 0 + place_after all.steps ≡ place_after all.steps = omega arith in (
      all.steps,
      all.stop,
      record {
        rest = all.last;
        begins = record { parts = all.parts; each = all.each };
        stops = subst (λ (n : ℕ). StopsAt gives (state_after start all.steps) budget bytes n all.last all.stop) place all.stops;
      },
    )
