-- A run of a command over messages, one after the other.
use Rattle.std.proofs.Common.{◌≡◌, ℕ, ◌+◌, ◌-◌, ◌<◌, ◌≤◌, List, [], ◌∷◌, ◌++◌, length, take, drop, Option, None, Some, refl, sym, ap, subst, ◌∙◌, append_assoc, append-nil, arith, take-append-drop, inr}
use Rattle.std.specs.Prelude.{IfSome, Err}
use Rattle.std.specs.Io.KnownBytes.{Appends, Consumes, Keeps, IsAtEnd, prepend_known}
use Rattle.std.proofs.KnownBytes.{Appends-nil, Appends-trans, Consumes-trans, Consumes-kept}
use Rattle.std.proofs.lemmas.List.{length-append, take_all, take_at}
use Rattle.command_streams.specs.declared.stop.Stop.{Stop}
use Rattle.command_streams.specs.declared.stop.Stop.TheVariants.{Ended, Refused, TooLong, Spent}
use Rattle.command_streams.specs.declared.stop.OutputForm.{OutputForm}
use Rattle.command_streams.specs.declared.stop.RunFail.{RunFail}
use Rattle.command_streams.specs.declared.stop.RunFail.TheVariants.{ReadFault, WriteFault, NoMemory}
use Rattle.command_streams.specs.Framing.{frames_of, IsPartial}
use Rattle.command_streams.specs.Made.{Writes, Gives}
use Rattle.command_streams.specs.Reading.{Step, messages_of, outputs_of, place_after, state_after, AreSteps, IsLeft, behind_messages, large_frame, cut_frame, bad_message, Begins, Reads, StopsAt}
use Rattle.command_streams.specs.Held.{HeldState, taken_of, ahead}
use Rattle.command_streams.specs.Supplies.{TakesMore, end_stop}
use Rattle.command_streams.specs.Blocks.{FramesPass, StopsInHeld, OutputsPut}
use Rattle.command_streams.specs.Replies.{IsReplied, IsCut, IsCutShort, WritesSoFar, WritesFront, WritesAllTaken}
use Rattle.command_streams.specs.Output.{IsAnswer, OutputOf, last_words}
use Rattle.command_streams.proofs.Passing.{state_after-append, outputs_of-append, AreSteps-append, frames_of-append, FramesPass-taken, take_front, counted_after}

-- ---- where a run is

-- The frames of these steps were taken.
pub record IsTaken {State : Type 0} (gives : Gives State) (start : State) (budget at : ℕ) (input left : Option (List ℕ)) (steps : List (Step State)) : Type 0 where
  pub taken : Consumes input left (frames_of (messages_of steps))
  pub each : AreSteps gives start steps
  pub place : at ≡ place_after steps
  pub within : at ≤ budget

IsTaken-append : {State : Type 0} (gives : Gives State) (start : State) (budget at at' : ℕ) (a b c : Option (List ℕ)) (steps more : List (Step State))
    → IsTaken gives start budget at a b steps → AreSteps gives (state_after start steps) more → at' ≡ at + place_after more → at' ≤ budget → Consumes b c (frames_of (messages_of more))
    → IsTaken gives start budget at' a c (steps ++ more)
IsTaken-append gives start budget at at' a b c steps more so_far each is room taken = record {
  taken = subst (Consumes a c) (sym (frames_of-append steps more)) (Consumes-trans a b c (frames_of (messages_of steps)) (frames_of (messages_of more)) so_far.taken taken);
  each = AreSteps-append gives start steps more so_far.each each;
  place = omega (arith, is, so_far.place, ap length (frames_of-append steps more), length-append (frames_of (messages_of steps)) (frames_of (messages_of more)));
  within = room;
}

-- what the budget lets be seen of the input
seen : {State : Type 0} (gives : Gives State) (start : State) (budget at : ℕ) (bytes rest : List ℕ) (steps : List (Step State)) → IsTaken gives start budget at (Some bytes) (Some rest) steps → take budget bytes ≡ frames_of (messages_of steps) ++ take (budget - at) rest
seen gives start budget at bytes rest steps so_far =
    let short : place_after steps ≤ budget = omega (arith, so_far.place, so_far.within) in
    ap (λ (b : List ℕ). take budget b) so_far.taken ∙ take_front budget (frames_of (messages_of steps)) rest short ∙ ap (λ (n : ℕ). frames_of (messages_of steps) ++ take (budget - n) rest) (sym so_far.place)

IsTaken-begins : {State : Type 0} (gives : Gives State) (start : State) (budget at : ℕ) (input left : Option (List ℕ)) (steps : List (Step State)) → IsTaken gives start budget at input left steps → IfSome input (λ bytes. (rest : List ℕ) × Begins gives start budget bytes steps rest)
IsTaken-begins gives start budget at None left steps so_far = tt
IsTaken-begins gives start budget at (Some bytes) None steps so_far = absurd so_far.taken
IsTaken-begins gives start budget at (Some bytes) (Some rest) steps so_far = (take (budget - at) rest, record { parts = seen gives start budget at bytes rest steps so_far; each = so_far.each })

-- Reading stops so at a place, where what is left is told.
abbrev pub StopsIn : {State : Type 0} → Gives State → State → ℕ → ℕ → Option (List ℕ) → Stop → Type 0
StopsIn gives state budget at left stop = IfSome left (λ bytes. StopsAt gives state (budget - at) bytes at (take (budget - at) bytes) stop)

-- a stop behind steps is a stop
behind : {State : Type 0} (gives : Gives State) (state : State) (budget at : ℕ) (bytes left rest : List ℕ) (stop : Stop) → length bytes ≡ at + length left → at ≤ budget → StopsAt gives state (budget - at) left at rest stop → StopsAt gives state budget bytes at rest stop
behind gives state budget at bytes left rest Ended len within stops = (omega (arith, stops.0), stops.1)
behind gives state budget at bytes left rest (Refused place why) len within (large_frame here is large) = large_frame here is large
behind gives state budget at bytes left rest (Refused place why) len within (cut_frame here is short some cut) = cut_frame here is (omega arith) some cut
behind gives state budget at bytes left rest (Refused place why) len within (bad_message offset here made) = bad_message offset here made
behind gives state budget at bytes left rest TooLong len within stops = stops
behind gives state budget at bytes left rest Spent len within stops = (omega (arith, stops.0), stops.1)

IsTaken-reads : {State : Type 0} (gives : Gives State) (start state : State) (budget at : ℕ) (input left : Option (List ℕ)) (steps : List (Step State)) (stop : Stop)
    → IsTaken gives start budget at input left steps → state ≡ state_after start steps → StopsIn gives state budget at left stop → IfSome input (λ bytes. Reads gives start budget bytes steps stop)
IsTaken-reads gives start state budget at None left steps stop so_far is stops = tt
IsTaken-reads gives start state budget at (Some bytes) None steps stop so_far is stops = absurd so_far.taken
IsTaken-reads {State} gives start state budget at (Some bytes) (Some left) steps stop so_far is stops =
    let rest : List ℕ = take (budget - at) left in
    let here : StopsAt gives state budget bytes at rest stop = behind gives state budget at bytes left rest stop (omega (arith, so_far.place, ap length so_far.taken, length-append (frames_of (messages_of steps)) left)) so_far.within stops in
    record {
      rest = rest;
      begins = record { parts = seen gives start budget at bytes left steps so_far; each = so_far.each };
      stops = subst (λ (n : ℕ). StopsAt gives (state_after start steps) budget bytes n rest stop) so_far.place (subst (λ (s : State). StopsAt gives s budget bytes at rest stop) is here);
    }

-- These steps were taken, and their outputs written; what is held and what is left comes behind them.
pub record IsAt {State : Type 0} (gives : Gives State) (start : State) (budget : ℕ) (held : HeldState) (state : State) (input left old new : Option (List ℕ)) : Type 0 where
  pub steps : List (Step State)
  pub taken : IsTaken gives start budget held.at input (ahead held left) steps
  pub state_is : state ≡ state_after start steps
  pub written : Appends old new (outputs_of steps)
  pub within : taken_of held ≤ budget

nothing_held : (input : Option (List ℕ)) → Consumes input (prepend_known [] input) []
nothing_held None = tt
nothing_held (Some bytes) = refl

pub IsAt-start : {State : Type 0} (gives : Gives State) (start : State) (budget room : ℕ) (input old : Option (List ℕ)) → IsAt gives start budget (record { at = 0; bytes = []; room = room }) start input input old old
IsAt-start gives start budget room input old = record {
  steps = [];
  taken = record { taken = nothing_held input; each = tt; place = refl; within = omega arith };
  state_is = refl;
  written = Appends-nil old;
  within = omega arith;
}

ahead_passes : {State : Type 0} (gives : Gives State) (start : State) (old new : HeldState) (left : Option (List ℕ)) (steps : List (Step State)) → FramesPass gives start old new steps → Consumes (ahead old left) (ahead new left) (frames_of (messages_of steps))
ahead_passes gives start old new None steps pass = tt
ahead_passes gives start old new (Some rest) steps pass = ap (λ (t : List ℕ). t ++ rest) pass.bytes ∙ append_assoc (frames_of (messages_of steps)) new.bytes rest

-- the frames of a block, with their outputs
pub IsAt-block : {State : Type 0} (gives : Gives State) (start : State) (budget : ℕ) (held held' : HeldState) (state : State) (input left old mid new : Option (List ℕ)) (more : List (Step State))
    → IsAt gives start budget held state input left old mid → FramesPass gives state held held' more → Appends mid new (outputs_of more)
    → IsAt gives start budget held' (state_after state more) input left old new
IsAt-block {State} gives start budget held held' state input left old mid new more so_far pass added =
    let each : AreSteps gives (state_after start so_far.steps) more = subst (λ (s : State). AreSteps gives s more) so_far.state_is pass.each in
    let kept = FramesPass-taken gives state held held' more pass in
    record {
      steps = so_far.steps ++ more;
      taken = IsTaken-append gives start budget held.at held'.at input (ahead held left) (ahead held' left) so_far.steps more so_far.taken each pass.place (omega (arith, kept, so_far.within)) (ahead_passes gives state held held' left more pass);
      state_is = ap (λ (s : State). state_after s more) so_far.state_is ∙ sym (state_after-append start so_far.steps more);
      written = subst (Appends old new) (sym (outputs_of-append so_far.steps more)) (Appends-trans old mid new (outputs_of so_far.steps) (outputs_of more) so_far.written added);
      within = omega (arith, kept, so_far.within);
    }

ahead_kept : (held held' : HeldState) (left left' : Option (List ℕ)) (n : ℕ) → TakesMore held held' left left' n → Keeps (ahead held left) (ahead held' left')
ahead_kept held held' None left' n takes = tt
ahead_kept held held' (Some rest) None n takes = absurd takes.4
ahead_kept held held' (Some rest) (Some rest') n takes =
    ap (λ (t : List ℕ). t ++ rest') takes.3 ∙ append_assoc held.bytes takes.0 rest' ∙ ap (λ (t : List ℕ). held.bytes ++ t) (sym takes.4)

-- more bytes that are held
pub IsAt-more : {State : Type 0} (gives : Gives State) (start : State) (budget n : ℕ) (held held' : HeldState) (state : State) (input left left' old new : Option (List ℕ))
    → IsAt gives start budget held state input left old new → TakesMore held held' left left' n → taken_of held' ≤ budget → IsAt gives start budget held' state input left' old new
IsAt-more gives start budget n held held' state input left left' old new so_far takes within =
    let taken : IsTaken gives start budget held.at input (ahead held' left') so_far.steps = record {
      taken = Consumes-kept input (ahead held left) (ahead held' left') (frames_of (messages_of so_far.steps)) so_far.taken.taken (ahead_kept held held' left left' n takes);
      each = so_far.taken.each;
      place = so_far.taken.place;
      within = so_far.taken.within;
    } in
    record {
      steps = so_far.steps;
      taken = subst (λ (at : ℕ). IsTaken gives start budget at input (ahead held' left') so_far.steps) (sym takes.2) taken;
      state_is = so_far.state_is;
      written = so_far.written;
      within = within;
    }

-- ---- runs that are cut

pub IsAt-cut : {State : Type 0} (gives : Gives State) (start : State) (budget : ℕ) (held : HeldState) (state : State) (input left old new : Option (List ℕ)) → IsAt gives start budget held state input left old new → WritesSoFar gives start budget input old new
IsAt-cut gives start budget held state input left old new so_far =
    (outputs_of so_far.steps, so_far.written, record { steps = so_far.steps; each = so_far.taken.each; begins = IsTaken-begins gives start budget held.at input (ahead held left) so_far.steps so_far.taken; whole = refl })

-- a front of the outputs of a block was written
pub IsAt-block_cut : {State : Type 0} (gives : Gives State) (start : State) (budget n : ℕ) (held held' : HeldState) (state : State) (input left old mid new : Option (List ℕ)) (more : List (Step State))
    → IsAt gives start budget held state input left old mid → FramesPass gives state held held' more → Appends mid new (take n (outputs_of more))
    → WritesFront gives start budget input old new
IsAt-block_cut {State} gives start budget n held held' state input left old mid new more so_far pass added =
    let each : AreSteps gives (state_after start so_far.steps) more = subst (λ (s : State). AreSteps gives s more) so_far.state_is pass.each in
    let kept = FramesPass-taken gives state held held' more pass in
    let taken = IsTaken-append gives start budget held.at held'.at input (ahead held left) (ahead held' left) so_far.steps more so_far.taken each pass.place (omega (arith, kept, so_far.within)) (ahead_passes gives state held held' left more pass) in
    let out : List ℕ = outputs_of so_far.steps in
    let last : List ℕ = outputs_of more in (
      out ++ take n last,
      outputs_of (so_far.steps ++ more),
      Appends-trans old mid new out (take n last) so_far.written added,
      (drop n last, append_assoc out (take n last) (drop n last) ∙ ap (λ (t : List ℕ). out ++ t) (take-append-drop n last) ∙ sym (outputs_of-append so_far.steps more)),
      record {
        steps = so_far.steps ++ more;
        each = taken.each;
        begins = IsTaken-begins gives start budget held'.at input (ahead held' left) (so_far.steps ++ more) taken;
        whole = refl;
      },
    )

-- a block whose outputs were put, or not, before the run was ended
pub block-cut : {State : Type 0} (gives : Gives State) (start : State) (budget : ℕ) (held held' : HeldState) (state : State) (input left old mid new : Option (List ℕ)) (more : List (Step State)) (fail : RunFail)
    → IsAt gives start budget held state input left old mid → FramesPass gives state held held' more → OutputsPut mid new (outputs_of more) (Err fail)
    → IsCut gives start budget input old new fail
block-cut gives start budget held held' state input left old mid new more ReadFault so_far pass put = absurd put
block-cut gives start budget held held' state input left old mid new more WriteFault so_far pass put = IsAt-block_cut gives start budget put.0 held held' state input left old mid new more so_far pass put.1
block-cut {State} gives start budget held held' state input left old mid new more NoMemory so_far pass put =
    let all = IsAt-block gives start budget held held' state input left old mid new more so_far pass put in
    IsAt-cut gives start budget held' (state_after state more) input left old new all

-- a fault of the source, or want of memory for what it gives
pub so_far-cut : {State : Type 0} (gives : Gives State) (start : State) (budget : ℕ) (input old new : Option (List ℕ)) (fail : RunFail) → WritesSoFar gives start budget input old new → (fail ≡ WriteFault → ⊥) → IsCut gives start budget input old new fail
so_far-cut gives start budget input old new ReadFault so_far no_write = so_far
so_far-cut gives start budget input old new WriteFault so_far no_write = absurd (no_write refl)
so_far-cut gives start budget input old new NoMemory so_far no_write = so_far

-- ---- all that was taken

pub ahead_taken : (input left left' : Option (List ℕ)) (held front : List ℕ) → Consumes input (prepend_known held left) front → Keeps left left' → Consumes input left' (front ++ held)
ahead_taken None left left' held front p q = tt
ahead_taken (Some bytes) None left' held front p q = absurd p
ahead_taken (Some bytes) (Some rest) None held front p q = absurd q
ahead_taken (Some bytes) (Some rest) (Some rest') held front p q = p ∙ ap (λ (t : List ℕ). front ++ (held ++ t)) (sym q) ∙ sym (append_assoc front held rest')

-- where less than a frame is held, and the source gave nothing more
pub IsAt-all_taken : {State : Type 0} (gives : Gives State) (start : State) (budget : ℕ) (held : HeldState) (state : State) (input left left' old new : Option (List ℕ))
    → IsAt gives start budget held state input left old new → IsPartial held.bytes → Keeps left left' → WritesAllTaken gives start input left' old new
IsAt-all_taken gives start budget held state input left left' old new so_far cut kept = record {
  steps = so_far.steps;
  part = held.bytes;
  each = so_far.taken.each;
  cut = cut;
  taken = ahead_taken input left left' held.bytes (frames_of (messages_of so_far.steps)) so_far.taken.taken kept;
  written = so_far.written;
}

-- a command that counts one for a message at most has counted no further than the place
pub IsAt-few : {State : Type 0} (gives : Gives State) (counted : State → ℕ) (start : State) (budget : ℕ) (held : HeldState) (state : State) (input left old new : Option (List ℕ))
    → ((before after : State) (message output : List ℕ) → gives before message (Writes output) after → counted after ≤ counted before + 1)
    → IsAt gives start budget held state input left old new → counted state + length held.bytes ≤ counted start + budget
IsAt-few {State} gives counted start budget held state input left old new counts so_far =
    let behind : counted (state_after start so_far.steps) ≤ counted start + place_after so_far.steps = counted_after gives counted counts start so_far.steps so_far.taken.each in
    let here : counted state ≤ counted start + place_after so_far.steps = subst (λ (s : State). counted s ≤ counted start + place_after so_far.steps) (sym so_far.state_is) behind in
    omega (arith, so_far.taken.place, so_far.within)

-- ---- stops

IsAt-stop : {State : Type 0} (gives : Gives State) (start : State) (budget : ℕ) (held : HeldState) (state : State) (input left old new : Option (List ℕ)) (stop : Stop)
    → IsAt gives start budget held state input left old new → StopsIn gives state budget held.at (ahead held left) stop → (now : State) → IsLeft gives state now → IsReplied gives start now budget input old new stop
IsAt-stop {State} gives start budget held state input left old new stop so_far stops now leaves =
    (so_far.steps, so_far.taken.each, IsTaken-reads gives start state budget held.at input (ahead held left) so_far.steps stop so_far.taken so_far.state_is stops, so_far.written, subst (λ (s : State). IsLeft gives s now) so_far.state_is leaves)

-- a stop at what is held is one at the rest of the input
held_stops : {State : Type 0} (gives : Gives State) (state : State) (budget : ℕ) (held : HeldState) (left : Option (List ℕ)) (stop : Stop) → taken_of held ≤ budget → StopsInHeld gives state held stop → StopsIn gives state budget held.at (ahead held left) stop
held_stops gives state budget held None stop within stops = tt
held_stops gives state budget held (Some rest) stop within stops =
    let allowed : ℕ = budget - held.at in
    subst (λ (t : List ℕ). StopsAt gives state allowed (held.bytes ++ rest) held.at t stop) (sym (take_front allowed held.bytes rest (omega arith))) (stops allowed (held.bytes ++ rest) (take (allowed - length held.bytes) rest))

end_stops : {State : Type 0} (gives : Gives State) (state : State) (budget at : ℕ) (bytes : List ℕ) → length bytes < budget → IsPartial bytes → StopsAt gives state budget bytes at bytes (end_stop at bytes)
end_stops gives state budget at [] short cut = (short, refl)
end_stops gives state budget at (byte ∷ bytes) short cut = cut_frame refl refl short (omega (arith, length-append (byte ∷ []) bytes)) cut

-- the input ends behind what is held
ended_stops : {State : Type 0} (gives : Gives State) (state : State) (budget : ℕ) (held : HeldState) (left : Option (List ℕ)) → IsPartial held.bytes → taken_of held < budget → IsAtEnd left → StopsIn gives state budget held.at (ahead held left) (end_stop held.at held.bytes)
ended_stops gives state budget held None cut short ended = tt
ended_stops gives state budget held (Some rest) cut short ended =
    let allowed : ℕ = budget - held.at in
    let all : held.bytes ++ rest ≡ held.bytes = ap (λ (t : List ℕ). held.bytes ++ t) ended ∙ append-nil held.bytes in
    let here : StopsAt gives state allowed held.bytes held.at (take allowed held.bytes) (end_stop held.at held.bytes) =
    subst (λ (t : List ℕ). StopsAt gives state allowed held.bytes held.at t (end_stop held.at held.bytes)) (sym (take_all allowed held.bytes (omega arith))) (end_stops gives state allowed held.at held.bytes (omega arith) cut) in
    subst (λ (t : List ℕ). StopsAt gives state allowed t held.at (take allowed t) (end_stop held.at held.bytes)) (sym all) here

-- the budget ends behind what is held
spent_stops : {State : Type 0} (gives : Gives State) (state : State) (budget : ℕ) (held : HeldState) (left : Option (List ℕ)) → IsPartial held.bytes → taken_of held ≡ budget → StopsIn gives state budget held.at (ahead held left) Spent
spent_stops gives state budget held None cut spent = tt
spent_stops gives state budget held (Some rest) cut spent =
    let allowed : ℕ = budget - held.at in
    (omega (arith, length-append held.bytes rest), subst IsPartial (sym (take_at held.bytes rest allowed (omega arith))) cut)

pub IsAt-held_stop : {State : Type 0} (gives : Gives State) (start : State) (budget : ℕ) (held : HeldState) (state : State) (input left old new : Option (List ℕ)) (stop : Stop)
    → IsAt gives start budget held state input left old new → StopsInHeld gives state held stop → (now : State) → IsLeft gives state now → IsReplied gives start now budget input old new stop
IsAt-held_stop gives start budget held state input left old new stop so_far stops now leaves =
    IsAt-stop gives start budget held state input left old new stop so_far (held_stops gives state budget held left stop so_far.within stops) now leaves

pub IsAt-ended : {State : Type 0} (gives : Gives State) (start : State) (budget : ℕ) (held : HeldState) (state : State) (input left old new : Option (List ℕ))
    → IsAt gives start budget held state input left old new → IsPartial held.bytes → taken_of held < budget → IsAtEnd left → (now : State) → now ≡ state → IsReplied gives start now budget input old new (end_stop held.at held.bytes)
IsAt-ended gives start budget held state input left old new so_far cut short ended now same =
    IsAt-stop gives start budget held state input left old new (end_stop held.at held.bytes) so_far (ended_stops gives state budget held left cut short ended) now (behind_messages same)

pub IsAt-spent : {State : Type 0} (gives : Gives State) (start : State) (budget : ℕ) (held : HeldState) (state : State) (input left old new : Option (List ℕ))
    → IsAt gives start budget held state input left old new → IsPartial held.bytes → taken_of held ≡ budget → (now : State) → now ≡ state → IsReplied gives start now budget input old new Spent
IsAt-spent gives start budget held state input left old new so_far cut spent now same =
    IsAt-stop gives start budget held state input left old new Spent so_far (spent_stops gives state budget held left cut spent) now (behind_messages same)

-- ---- the last words

Reads-begins : {State : Type 0} (gives : Gives State) (start : State) (budget : ℕ) (input : Option (List ℕ)) (steps : List (Step State)) (stop : Stop) → IfSome input (λ bytes. Reads gives start budget bytes steps stop)
    → IfSome input (λ bytes. (rest : List ℕ) × Begins gives start budget bytes steps rest)
Reads-begins gives start budget None steps stop reads = tt
Reads-begins gives start budget (Some bytes) steps stop reads = (reads.rest, reads.begins)

pub Appends-keeps : (a b c : Option (List ℕ)) (bytes : List ℕ) → Appends a b bytes → Keeps b c → Appends a c bytes
Appends-keeps None b c bytes p q = tt
Appends-keeps (Some xs) None c bytes p q = absurd p
Appends-keeps (Some xs) (Some ys) None bytes p q = absurd q
Appends-keeps (Some xs) (Some ys) (Some zs) bytes p q = q ∙ p

pub IsReplied-ended : {State : Type 0} (form : OutputForm) (gives : Gives State) (start now : State) (budget : ℕ) (stop : Stop) (input old mid new : Option (List ℕ)) → IsReplied gives start now budget input old mid stop → Appends mid new (last_words form stop)
    → (out : List ℕ) × Appends old new out × IsAnswer form gives start budget input out stop
IsReplied-ended form gives start now budget stop input old mid new replied added =
    (outputs_of replied.0 ++ last_words form stop, Appends-trans old mid new (outputs_of replied.0) (last_words form stop) replied.3 added, record { steps = replied.0; each = replied.1; reads = replied.2; whole = refl })

pub IsReplied-cut : {State : Type 0} (form : OutputForm) (gives : Gives State) (start now : State) (budget : ℕ) (stop : Stop) (fail : RunFail) (input old mid new : Option (List ℕ)) → IsReplied gives start now budget input old mid stop → IsCutShort mid new (last_words form stop) fail
    → (out : List ℕ) × Appends old new out × OutputOf form gives start budget input out (Err fail)
IsReplied-cut form gives start now budget stop ReadFault input old mid new replied cut = absurd cut
IsReplied-cut form gives start now budget stop WriteFault input old mid new replied cut =
    let out : List ℕ = outputs_of replied.0 in
    let words : List ℕ = last_words form stop in
    let n : ℕ = cut.0 in (
      out ++ take n words,
      Appends-trans old mid new out (take n words) replied.3 cut.1,
      (out ++ words, (drop n words, append_assoc out (take n words) (drop n words) ∙ ap (λ (t : List ℕ). out ++ t) (take-append-drop n words)), inr (stop, record { steps = replied.0; each = replied.1; reads = replied.2; whole = refl })),
    )
IsReplied-cut {State} form gives start now budget stop NoMemory input old mid new replied cut =
    (outputs_of replied.0, Appends-keeps old mid new (outputs_of replied.0) replied.3 cut, record { steps = replied.0; each = replied.1; begins = Reads-begins gives start budget input replied.0 stop replied.2; whole = refl })
