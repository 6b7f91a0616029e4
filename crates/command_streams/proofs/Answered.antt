-- Frames that are held, answered one after the other.
use Rattle.std.proofs.Common.{◌≡◌, ℕ, ◌+◌, ◌≤◌, List, [], ◌∷◌, ◌++◌, drop, refl, sym, ap, subst, ◌∙◌, append_assoc, append-nil, arith, length}
use Rattle.std.proofs.lemmas.List.{length-append}
use Rattle.std.specs.Prelude.{Ok}
use Rattle.message_codec.specs.declared.wire.field.Why.{Why}
use Rattle.command_streams.specs.declared.answering.Halt.TheVariants as halt
use Rattle.command_streams.specs.declared.stop.Stop.{Stop}
use Rattle.command_streams.specs.declared.stop.Stop.TheVariants.{Refused, TooLong}
use Rattle.command_streams.specs.declared.front.Front.TheVariants.{Frame}
use Rattle.command_streams.specs.Framing.{frame_of, frames_of}
use Rattle.command_streams.specs.Made.{Made, Writes, HasFault, IsTooLong, Gives}
use Rattle.command_streams.specs.Reading.{Step, messages_of, outputs_of, place_after, state_after, BeginsMade, IsLeft, bad_message}
use Rattle.command_streams.specs.Held.{HeldState}
use Rattle.command_streams.specs.Fronts.{FrontIs, front_message}
use Rattle.command_streams.specs.Blocks.{FramesPass, StopsInHeld, AnswersHeld}
use Rattle.command_streams.proofs.Passing.{step_of, state_after-append, outputs_of-append, FramesPass-none, FramesPass-append, FramesPass-one, counted_after}

-- These frames were answered, and the command is in the state behind them.
pub record IsAnswered {State : Type 0} (gives : Gives State) (start : State) (old : HeldState) (state : State) (new : HeldState) (pending pending' : List ℕ) : Type 0 where
  pub steps : List (Step State)
  pub pass : FramesPass gives start old new steps
  pub state_is : state ≡ state_after start steps
  pub outputs : pending' ≡ pending ++ outputs_of steps

pub IsAnswered-start : {State : Type 0} (gives : Gives State) (start : State) (held : HeldState) (pending : List ℕ) → IsAnswered gives start held start held pending pending
IsAnswered-start gives start held pending = record { steps = []; pass = FramesPass-none gives start held; state_is = refl; outputs = sym (append-nil pending) }

-- one frame more
pub IsAnswered-next : {State : Type 0} (gives : Gives State) (start state after : State) (old held new : HeldState) (pending mid mid' output : List ℕ) (len : ℕ)
    → IsAnswered gives start old state held pending mid → FrontIs held.bytes (Frame len) → gives state (front_message len held.bytes) (Writes output) after
    → new.at ≡ held.at + (4 + len) → new.bytes ≡ drop (4 + len) held.bytes → mid' ≡ mid ++ output
    → IsAnswered gives start old after new pending mid'
IsAnswered-next {State} gives start state after old held new pending mid mid' output len so_far front given at_is bytes_is added =
    let step : Step State = step_of (front_message len held.bytes) output after in
    let is : gives (state_after start so_far.steps) (front_message len held.bytes) (Writes output) after = subst (λ (s : State). gives s (front_message len held.bytes) (Writes output) after) so_far.state_is given in
    record {
      steps = so_far.steps ++ step ∷ [];
      pass = FramesPass-append gives start old held new so_far.steps (step ∷ []) so_far.pass (FramesPass-one gives (state_after start so_far.steps) after held new len output front.0 front.1 front.2 at_is bytes_is is);
      state_is = sym (state_after-append start so_far.steps (step ∷ []));
      outputs = added ∙ ap (λ (t : List ℕ). t ++ output) so_far.outputs ∙ append_assoc pending (outputs_of so_far.steps) output
          ∙ ap (λ (t : List ℕ). pending ++ (outputs_of so_far.steps ++ t)) (sym (append-nil output)) ∙ ap (λ (t : List ℕ). pending ++ t) (sym (outputs_of-append so_far.steps (step ∷ [])));
    }

-- its count is small where there were few bytes
pub IsAnswered-few : {State : Type 0} (gives : Gives State) (counted : State → ℕ) (start state : State) (old held : HeldState) (pending mid : List ℕ)
    → ((before after : State) (message output : List ℕ) → gives before message (Writes output) after → counted after ≤ counted before + 1)
    → IsAnswered gives start old state held pending mid → counted state ≤ counted start + length old.bytes
IsAnswered-few {State} gives counted start state old held pending mid counts so_far =
    let behind : counted (state_after start so_far.steps) ≤ counted start + place_after so_far.steps = counted_after gives counted counts start so_far.steps so_far.pass.each in
    let here : counted state ≤ counted start + place_after so_far.steps = subst (λ (s : State). counted s ≤ counted start + place_after so_far.steps) (sym so_far.state_is) behind in
    omega (arith, ap length so_far.pass.bytes, length-append (frames_of (messages_of so_far.steps)) held.bytes)

-- ---- stops

pub IsAnswered-stops : {State : Type 0} (gives : Gives State) (start state now : State) (old new : HeldState) (pending pending' : List ℕ) (stop : Stop)
    → IsAnswered gives start old state new pending pending' → StopsInHeld gives state new stop → IsLeft gives state now → AnswersHeld gives start now old new pending pending' (Ok (halt.Stops stop))
IsAnswered-stops {State} gives start state now old new pending pending' stop so_far stops left =
    (so_far.steps, so_far.pass, so_far.outputs, (subst (λ (s : State). StopsInHeld gives s new stop) so_far.state_is stops, subst (λ (s : State). IsLeft gives s now) so_far.state_is left))

front_begins : {State : Type 0} (gives : Gives State) (state after : State) (bytes more : List ℕ) (len : ℕ) (made : Made) → FrontIs bytes (Frame len) → gives state (front_message len bytes) made after → BeginsMade gives state (bytes ++ more) made
front_begins gives state after bytes more len made front given = record {
  message = front_message len bytes;
  more = drop (4 + len) bytes ++ more;
  after = after;
  whole = ap (λ (t : List ℕ). t ++ more) front.2 ∙ append_assoc (frame_of (front_message len bytes)) (drop (4 + len) bytes) more;
  fits = front.1;
  is = given;
}

pub fault_in_held : {State : Type 0} (gives : Gives State) (state after : State) (held : HeldState) (len offset : ℕ) (why : Why) → FrontIs held.bytes (Frame len) → gives state (front_message len held.bytes) (HasFault offset why) after
    → StopsInHeld gives state held (Refused (held.at + 4 + offset) why)
fault_in_held gives state after held len offset why front given = λ budget bytes more. bad_message offset refl (front_begins gives state after held.bytes more len (HasFault offset why) front given)

pub length_in_held : {State : Type 0} (gives : Gives State) (state after : State) (held : HeldState) (len : ℕ) → FrontIs held.bytes (Frame len) → gives state (front_message len held.bytes) IsTooLong after
    → StopsInHeld gives state held TooLong
length_in_held gives state after held len front given = λ budget bytes more. front_begins gives state after held.bytes more len IsTooLong front given
