-- A run in one kind of states, told in another kind: where each step of the first has its step of the second.
use Rattle.std.proofs.Common.{◌≡◌, ◌≤◌, ℕ, List, [], ◌∷◌, ◌++◌, length, Option, None, Some, refl, sym, ap, subst, ◌∙◌, inl, inr}
use Rattle.std.specs.Prelude.{IfSome, Result, Ok, Err}
use Rattle.command_streams.specs.declared.stop.Stop.{Stop}
use Rattle.command_streams.specs.declared.stop.Stop.TheVariants.{Ended, Refused, TooLong, Spent}
use Rattle.command_streams.specs.declared.stop.OutputForm.{OutputForm}
use Rattle.command_streams.specs.declared.stop.RunFail.{RunFail}
use Rattle.command_streams.specs.declared.stop.RunFail.TheVariants.{ReadFault, WriteFault, NoMemory}
use Rattle.command_streams.specs.Framing.{frames_of}
use Rattle.command_streams.specs.Made.{Gives, HasFault, IsTooLong, Made}
use Rattle.command_streams.specs.Reading.{Step, messages_of, outputs_of, place_after, state_after, AreSteps, BeginsMade, large_frame, cut_frame, bad_message, Begins, Reads, StopsAt}
use Rattle.command_streams.specs.Telling.{Carries}
use Rattle.command_streams.specs.Replies.{TakesNoFurther, WritesAllTaken, WritesBeforeLast}
use Rattle.std.specs.Io.KnownBytes.{Consumes, Appends}
use Rattle.command_streams.specs.Output.{Answers, IsAnswer, IsAnswerSoFar, IsCutOff, OutputOf, last_words}

-- the steps told so
record Told {A B : Type 0} (tells : A → B → Type 0) (gives' : Gives B) (a : A) (b : B) (steps : List (Step A)) : Type 0 where
  to : List (Step B)
  each : AreSteps gives' b to
  messages : messages_of to ≡ messages_of steps
  outputs : outputs_of to ≡ outputs_of steps
  state : tells (state_after a steps) (state_after b to)

told : {A B : Type 0} (tells : A → B → Type 0) (gives : Gives A) (gives' : Gives B) (a : A) (b : B) (steps : List (Step A)) → Carries tells gives gives' → tells a b → AreSteps gives a steps → Told tells gives' a b steps
told tells gives gives' a b [] carries here all = record { to = []; each = tt; messages = refl; outputs = refl; state = here }
told {A} {B} tells gives gives' a b (step ∷ steps) carries here all =
    let next = carries a b step.message _ step.after here all.1 in
    let others = told tells gives gives' step.after next.0 steps carries next.2 all.2 in
    let first : Step B = record { message = step.message; output = step.output; after = next.0 } in
    record {
      to = first ∷ others.to;
      each = (all.0, next.1, others.each);
      messages = ap (λ (ms : List (List ℕ)). step.message ∷ ms) others.messages;
      outputs = ap (λ (out : List ℕ). step.output ++ out) others.outputs;
      state = others.state;
    }

made_told : {A B : Type 0} (tells : A → B → Type 0) (gives : Gives A) (gives' : Gives B) (a : A) (b : B) (rest : List ℕ) (made : Made) → Carries tells gives gives' → tells a b → BeginsMade gives a rest made → BeginsMade gives' b rest made
made_told tells gives gives' a b rest made carries here begins =
    let next = carries a b begins.message made begins.after here begins.is in
    record { message = begins.message; more = begins.more; after = next.0; whole = begins.whole; fits = begins.fits; is = next.1 }

stop_told : {A B : Type 0} (tells : A → B → Type 0) (gives : Gives A) (gives' : Gives B) (a : A) (b : B) (budget : ℕ) (bytes : List ℕ) (at : ℕ) (rest : List ℕ) (stop : Stop) → Carries tells gives gives' → tells a b
    → StopsAt gives a budget bytes at rest stop → StopsAt gives' b budget bytes at rest stop
stop_told tells gives gives' a b budget bytes at rest Ended carries here stops = stops
stop_told tells gives gives' a b budget bytes at rest (Refused place why) carries here (large_frame is is' large) = large_frame is is' large
stop_told tells gives gives' a b budget bytes at rest (Refused place why) carries here (cut_frame is is' short some cut) = cut_frame is is' short some cut
stop_told tells gives gives' a b budget bytes at rest (Refused place why) carries here (bad_message offset is bad) = bad_message offset is (made_told tells gives gives' a b rest (HasFault offset why) carries here bad)
stop_told tells gives gives' a b budget bytes at rest TooLong carries here stops = made_told tells gives gives' a b rest IsTooLong carries here stops
stop_told tells gives gives' a b budget bytes at rest Spent carries here stops = stops

begins_told : {A B : Type 0} (tells : A → B → Type 0) (gives' : Gives B) (gives : Gives A) (a : A) (b : B) (budget : ℕ) (bytes : List ℕ) (steps : List (Step A)) (rest : List ℕ) (t : Told tells gives' a b steps)
    → Begins gives a budget bytes steps rest → Begins gives' b budget bytes t.to rest
begins_told tells gives' gives a b budget bytes steps rest t begins = record {
  parts = begins.parts ∙ ap (λ (ms : List (List ℕ)). frames_of ms ++ rest) (sym t.messages);
  each = t.each;
}

reads_told : {A B : Type 0} (tells : A → B → Type 0) (gives : Gives A) (gives' : Gives B) (a : A) (b : B) (budget : ℕ) (bytes : List ℕ) (steps : List (Step A)) (stop : Stop) → Carries tells gives gives' → (t : Told tells gives' a b steps)
    → Reads gives a budget bytes steps stop → Reads gives' b budget bytes t.to stop
reads_told {A} {B} tells gives gives' a b budget bytes steps stop carries t reads = record {
  rest = reads.rest;
  begins = begins_told tells gives' gives a b budget bytes steps reads.rest t reads.begins;
  stops = subst (λ (ms : List (List ℕ)). StopsAt gives' (state_after b t.to) budget bytes (length (frames_of ms)) reads.rest stop) (sym t.messages)
      (stop_told tells gives gives' (state_after a steps) (state_after b t.to) budget bytes (place_after steps) reads.rest stop carries t.state reads.stops);
}

answer_told : {A B : Type 0} (form : OutputForm) (tells : A → B → Type 0) (gives : Gives A) (gives' : Gives B) (a : A) (b : B) (budget : ℕ) (input : Option (List ℕ)) (output : List ℕ) (stop : Stop) → Carries tells gives gives' → tells a b
    → IsAnswer form gives a budget input output stop → IsAnswer form gives' b budget input output stop
answer_told {A} {B} form tells gives gives' a b budget input output stop carries here answer = record {
  steps = t.to;
  each = t.each;
  reads = at_input input answer.reads;
  whole = answer.whole ∙ ap (λ (out : List ℕ). out ++ last_words form stop) (sym t.outputs);
}
  where
    t : Told tells gives' a b answer.steps
    t = told tells gives gives' a b answer.steps carries here answer.each

    at_input : (known : Option (List ℕ)) → IfSome known (λ bytes. Reads gives a budget bytes answer.steps stop) → IfSome known (λ bytes. Reads gives' b budget bytes t.to stop)
    at_input None reads = tt
    at_input (Some bytes) reads = reads_told tells gives gives' a b budget bytes answer.steps stop carries t reads

so_far_told : {A B : Type 0} (tells : A → B → Type 0) (gives : Gives A) (gives' : Gives B) (a : A) (b : B) (budget : ℕ) (input : Option (List ℕ)) (output : List ℕ) → Carries tells gives gives' → tells a b
    → IsAnswerSoFar gives a budget input output → IsAnswerSoFar gives' b budget input output
so_far_told {A} {B} tells gives gives' a b budget input output carries here answer = record {
  steps = t.to;
  each = t.each;
  begins = at_input input answer.begins;
  whole = answer.whole ∙ sym t.outputs;
}
  where
    t : Told tells gives' a b answer.steps
    t = told tells gives gives' a b answer.steps carries here answer.each

    at_input : (known : Option (List ℕ)) → IfSome known (λ bytes. (rest : List ℕ) × Begins gives a budget bytes answer.steps rest) → IfSome known (λ bytes. (rest : List ℕ) × Begins gives' b budget bytes t.to rest)
    at_input None begins = tt
    at_input (Some bytes) begins = (begins.0, begins_told tells gives' gives a b budget bytes answer.steps begins.0 t begins.1)

cut_told : {A B : Type 0} (form : OutputForm) (tells : A → B → Type 0) (gives : Gives A) (gives' : Gives B) (a : A) (b : B) (budget : ℕ) (input : Option (List ℕ)) (output : List ℕ) → Carries tells gives gives' → tells a b
    → IsCutOff form gives a budget input output → IsCutOff form gives' b budget input output
cut_told form tells gives gives' a b budget input output carries here cut = (
  cut.0,
  cut.1,
  elim cut.2 [
    | inl so_far ↦ inl (so_far_told tells gives gives' a b budget input cut.0 carries here so_far)
    | inr answer ↦ inr (answer.0, answer_told form tells gives gives' a b budget input cut.0 answer.0 carries here answer.1)
  ],
)

output_told : {A B : Type 0} (form : OutputForm) (tells : A → B → Type 0) (gives : Gives A) (gives' : Gives B) (a : A) (b : B) (budget : ℕ) (input : Option (List ℕ)) (output : List ℕ) (ending : Result Stop RunFail) → Carries tells gives gives' → tells a b
    → OutputOf form gives a budget input output ending → OutputOf form gives' b budget input output ending
output_told form tells gives gives' a b budget input output (Ok stop) carries here answer = answer_told form tells gives gives' a b budget input output stop carries here answer
output_told form tells gives gives' a b budget input output (Err ReadFault) carries here answer = so_far_told tells gives gives' a b budget input output carries here answer
output_told form tells gives gives' a b budget input output (Err WriteFault) carries here answer = cut_told form tells gives gives' a b budget input output carries here answer
output_told form tells gives gives' a b budget input output (Err NoMemory) carries here answer = so_far_told tells gives gives' a b budget input output carries here answer

-- what a run answers in the one kind of states, told in the other
pub answers_told : {A B : Type 0} (form : OutputForm) (tells : A → B → Type 0) (gives : Gives A) (gives' : Gives B) (a : A) (b : B) (budget : ℕ) (input old new : Option (List ℕ)) (ending : Result Stop RunFail) → Carries tells gives gives' → tells a b
    → Answers form gives a budget input old new ending → Answers form gives' b budget input old new ending
answers_told form tells gives gives' a b budget input old new ending carries here answers = (answers.0, answers.1, output_told form tells gives gives' a b budget input answers.0 ending carries here answers.2)

-- what was written of all that was taken, told in the other
pub written_told : {A B : Type 0} (tells : A → B → Type 0) (gives : Gives A) (gives' : Gives B) (a : A) (b : B) (left left' old new : Option (List ℕ)) → Carries tells gives gives' → tells a b
    → WritesAllTaken gives a left left' old new → WritesAllTaken gives' b left left' old new
written_told {A} {B} tells gives gives' a b left left' old new carries here all =
    let t : Told tells gives' a b all.steps = told tells gives gives' a b all.steps carries here all.each in
    record {
      steps = t.to;
      part = all.part;
      each = t.each;
      cut = all.cut;
      taken = subst (λ (ms : List (List ℕ)). Consumes left left' (frames_of ms ++ all.part)) (sym t.messages) all.taken;
      written = subst (Appends old new) (sym t.outputs) all.written;
    }

-- what was taken of the source and written before its last call, told in the other
pub before_last_told : {A B : Type 0} (tells : A → B → Type 0) (gives : Gives A) (gives' : Gives B) (a : A) (b : B) (budget : ℕ) (left left' old new : Option (List ℕ)) → Carries tells gives gives' → tells a b
    → WritesBeforeLast gives a budget left left' old new → WritesBeforeLast gives' b budget left left' old new
before_last_told {A} {B} tells gives gives' a b budget left left' old new carries here all =
    let takes : TakesNoFurther gives a budget left left' = all.takes in
    let t : Told tells gives' a b takes.steps = told tells gives gives' a b takes.steps carries here takes.each in
    let rest : List ℕ = takes.cut ++ takes.last in
    record {
      takes = record {
        steps = t.to;
        cut = takes.cut;
        last = takes.last;
        need = takes.need;
        each = t.each;
        wants = takes.wants;
        taken = subst (λ (ms : List (List ℕ)). Consumes left left' (frames_of ms ++ rest)) (sym t.messages) takes.taken;
        few = takes.few;
        within = subst (λ (ms : List (List ℕ)). length (frames_of ms ++ rest) ≤ budget) (sym t.messages) takes.within;
      };
      more = all.more;
      written = subst (λ (out : List ℕ). Appends old new (out ++ all.more)) (sym t.outputs) all.written;
    }
