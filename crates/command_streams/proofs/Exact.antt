-- One input has one reading.
use Rattle.std.proofs.Common.{◌≡◌, ℕ, ◌+◌, ◌^◌, ◌<◌, ◌≤◌, List, [], ◌∷◌, ◌++◌, length, take, drop, Option, Some, refl, sym, ap, subst, ◌∙◌, append_assoc, arith, inl, inr}
use Rattle.std.specs.Prelude.{Result, Ok, Err}
use Rattle.std.specs.Int.{w32, to_be_bytes, from_be_bytes}
use Rattle.std.specs.Io.KnownBytes.{Appends}
use Rattle.std.proofs.lemmas.List.{length-append, take_at, drop_at}
use Rattle.std.proofs.lemmas.Nat.{from_be_bytes-to_be_bytes_4}
use Rattle.message_codec.specs.declared.wire.field.Why.{Why}
use Rattle.command_streams.specs.declared.stop.Stop.{Stop}
use Rattle.command_streams.specs.declared.stop.Stop.TheVariants.{Ended, Refused, TooLong, Spent}
use Rattle.command_streams.specs.declared.stop.OutputForm.{OutputForm}
use Rattle.command_streams.specs.declared.stop.RunFail.{RunFail}
use Rattle.command_streams.specs.declared.stop.RunFail.TheVariants.{ReadFault, WriteFault, NoMemory}
use Rattle.command_streams.specs.Framing.{frame_of, frames_of, FitsFrame, BeginsTooLarge, IsPartial}
use Rattle.command_streams.specs.Made.{Made, Writes, HasFault, IsTooLong, Gives, IsSingleValued}
use Rattle.command_streams.specs.Reading.{Step, messages_of, outputs_of, place_after, state_after, AreSteps, BeginsMade, FaultAt, large_frame, cut_frame, bad_message, Reads, StopsAt}
use Rattle.command_streams.specs.Output.{Framed, EndsBy, OutputOf, last_words, status_of}

-- ---- lengths at the front

same_len : (m n : ℕ) (x y : List ℕ) → m < 2 ^ 32 → n < 2 ^ 32 → to_be_bytes w32 m ++ x ≡ to_be_bytes w32 n ++ y → (m ≡ n) × (x ≡ y)
same_len m n x y fits fits' is =
    let bytes : to_be_bytes w32 m ≡ to_be_bytes w32 n = ap (take 4) is in
    (sym (from_be_bytes-to_be_bytes_4 m fits) ∙ ap (from_be_bytes w32) bytes ∙ from_be_bytes-to_be_bytes_4 n fits', ap (drop 4) is)

same_message : (m n x y : List ℕ) → FitsFrame m → FitsFrame n → frame_of m ++ x ≡ frame_of n ++ y → (m ≡ n) × (x ≡ y)
unfolding frame_of
same_message m n x y fits fits' is =
    let both = same_len (length m) (length n) (m ++ x) (n ++ y) (omega arith) (omega arith) is in (
      sym (take_at m x (length m) refl) ∙ ap (take (length m)) both.1 ∙ take_at n y (length m) (sym both.0),
      sym (drop_at m x (length m) refl) ∙ ap (drop (length m)) both.1 ∙ drop_at n y (length m) (sym both.0),
    )

-- ---- what stands at the front

nil_no_front : (len : ℕ) (more : List ℕ) → [] ≡ to_be_bytes w32 len ++ more → ⊥
nil_no_front len more is = cc

nil_no_frame : (message more : List ℕ) → [] ≡ frame_of message ++ more → ⊥
unfolding frame_of
nil_no_frame message more is = nil_no_front (length message) (message ++ more) is

large_no_frame : (rest message more : List ℕ) → BeginsTooLarge rest → FitsFrame message → rest ≡ frame_of message ++ more → ⊥
unfolding frame_of
large_no_frame rest message more large fits is =
    let both = same_len large.0 (length message) large.1 (message ++ more) large.3 (omega arith) (sym large.4 ∙ is) in
    omega (arith, both.0, large.2)

partial_no_frame : (rest message more : List ℕ) → IsPartial rest → FitsFrame message → rest ≡ frame_of message ++ more → ⊥
unfolding frame_of
partial_no_frame rest message more (inl short) fits is = omega (arith, ap length is, length-append (frame_of message) more, length-append (to_be_bytes w32 (length message)) message)
partial_no_frame rest message more (inr p) fits is =
    let both = same_len p.0 (length message) p.1 (message ++ more) (omega (arith, p.2)) (omega arith) (sym p.4 ∙ is) in
    omega (arith, both.0, p.3, ap length both.1, length-append message more)

partial_no_large : (rest : List ℕ) → IsPartial rest → BeginsTooLarge rest → ⊥
partial_no_large rest (inl short) large = omega (arith, ap length large.4, length-append (to_be_bytes w32 large.0) large.1)
partial_no_large rest (inr p) large =
    let both = same_len p.0 large.0 p.1 large.1 (omega (arith, p.2)) large.3 (sym p.4 ∙ large.4) in
    omega (arith, both.0, p.2, large.2)

nil_no_large : (rest : List ℕ) → rest ≡ [] → BeginsTooLarge rest → ⊥
nil_no_large rest none large = nil_no_front large.0 large.1 (sym none ∙ large.4)

-- of the message at the front one thing is made, and one state comes after it
made_made : {State : Type 0} (gives : Gives State) (state : State) (rest : List ℕ) (a b : Made) → IsSingleValued gives → BeginsMade gives state rest a → BeginsMade gives state rest b → a ≡ b
made_made {State} gives state rest a b single p q =
    let both = same_message p.message q.message p.more q.more p.fits q.fits (sym p.whole ∙ q.whole) in
    (single state q.message a b p.after q.after (subst (λ (m : List ℕ). gives state m a p.after) both.0 p.is) q.is).0

-- ---- no stop where another message was handled

written_no_fault : {State : Type 0} (gives : Gives State) (state : State) (budget : ℕ) (bytes : List ℕ) (at : ℕ) (rest : List ℕ) (place : ℕ) (why : Why) (output : List ℕ) → IsSingleValued gives
    → FaultAt gives state budget bytes at rest place why → BeginsMade gives state rest (Writes output) → ⊥
written_no_fault gives state budget bytes at rest place why output single (large_frame here is large) made = large_no_frame rest made.message made.more large made.fits made.whole
written_no_fault gives state budget bytes at rest place why output single (cut_frame here is short some cut) made = partial_no_frame rest made.message made.more cut made.fits made.whole
written_no_fault gives state budget bytes at rest place why output single (bad_message offset here bad) made =
    let same : HasFault offset why ≡ Writes output = made_made gives state rest (HasFault offset why) (Writes output) single bad made in
    cc

written_no_stop : {State : Type 0} (gives : Gives State) (state : State) (budget : ℕ) (bytes : List ℕ) (at : ℕ) (rest output : List ℕ) (stop : Stop) → IsSingleValued gives
    → StopsAt gives state budget bytes at rest stop → BeginsMade gives state rest (Writes output) → ⊥
written_no_stop gives state budget bytes at rest output Ended single stops made = nil_no_frame made.message made.more (sym stops.1 ∙ made.whole)
written_no_stop gives state budget bytes at rest output (Refused place why) single stops made = written_no_fault gives state budget bytes at rest place why output single stops made
written_no_stop gives state budget bytes at rest output TooLong single stops made =
    let same : IsTooLong ≡ Writes output = made_made gives state rest IsTooLong (Writes output) single stops made in
    cc
written_no_stop gives state budget bytes at rest output Spent single stops made = partial_no_frame rest made.message made.more stops.1 made.fits made.whole

-- ---- one splitting into steps

output_in : Made → List ℕ
output_in (Writes output) = output
output_in (HasFault at why) = []
output_in IsTooLong = []

same_output : (a b : List ℕ) → Writes a ≡ Writes b → a ≡ b
unfolding output_in
same_output a b is = ap output_in is

abbrev step_of : {State : Type 0} → List ℕ → List ℕ → State → Step State
step_of message output after = record { message = message; output = output; after = after }

same_step : {State : Type 0} (a b : Step State) → a.message ≡ b.message → a.output ≡ b.output → a.after ≡ b.after → a ≡ b
same_step {State} a b p q r = ap (λ (m : List ℕ). step_of m a.output a.after) p ∙ ap (λ (o : List ℕ). step_of b.message o a.after) q ∙ ap (λ (s : State). step_of b.message b.output s) r

pub one_splitting : {State : Type 0} (gives : Gives State) (state : State) (budget : ℕ) (bytes : List ℕ) (a b : List (Step State)) (x y : List ℕ) (m n : ℕ) (stop stop' : Stop) → IsSingleValued gives
    → AreSteps gives state a → AreSteps gives state b
    → StopsAt gives (state_after state a) budget bytes m x stop → StopsAt gives (state_after state b) budget bytes n y stop'
    → frames_of (messages_of a) ++ x ≡ frames_of (messages_of b) ++ y → (a ≡ b) × (x ≡ y)
one_splitting gives state budget bytes [] [] x y m n stop stop' single all all' stops stops' is = (refl, is)
one_splitting gives state budget bytes [] (s ∷ b) x y m n stop stop' single all all' stops stops' is =
    absurd (written_no_stop gives state budget bytes m x s.output stop single stops (record {
      message = s.message;
      more = frames_of (messages_of b) ++ y;
      after = s.after;
      whole = is ∙ append_assoc (frame_of s.message) (frames_of (messages_of b)) y;
      fits = all'.0;
      is = all'.1;
    }))
one_splitting gives state budget bytes (s ∷ a) [] x y m n stop stop' single all all' stops stops' is =
    absurd (written_no_stop gives state budget bytes n y s.output stop' single stops' (record {
      message = s.message;
      more = frames_of (messages_of a) ++ x;
      after = s.after;
      whole = sym is ∙ append_assoc (frame_of s.message) (frames_of (messages_of a)) x;
      fits = all.0;
      is = all.1;
    }))
one_splitting {State} gives state budget bytes (s ∷ a) (t ∷ b) x y m n stop stop' single all all' stops stops' is =
    let first = same_message s.message t.message (frames_of (messages_of a) ++ x) (frames_of (messages_of b) ++ y) all.0 all'.0
    (sym (append_assoc (frame_of s.message) (frames_of (messages_of a)) x) ∙ is ∙ append_assoc (frame_of t.message) (frames_of (messages_of b)) y) in
    let given : gives state t.message (Writes s.output) s.after = subst (λ (k : List ℕ). gives state k (Writes s.output) s.after) first.0 all.1 in
    let both = single state t.message (Writes s.output) (Writes t.output) s.after t.after given all'.1 in
    let others = one_splitting gives s.after budget bytes a b x y m n stop stop' single all.2
    (subst (λ (k : State). AreSteps gives k b) (sym both.1) all'.2)
    stops
    (subst (λ (k : State). StopsAt gives (state_after k b) budget bytes n y stop') (sym both.1) stops')
    first.1 in
    let step : s ≡ t = same_step s t first.0 (same_output s.output t.output both.0) both.1 in
    (ap (λ (k : Step State). k ∷ a) step ∙ ap (λ (ks : List (Step State)). t ∷ ks) others.0, others.1)

-- ---- one stop

offset_in : Made → ℕ
offset_in (Writes output) = 0
offset_in (HasFault at why) = at
offset_in IsTooLong = 0

why_in : Why → Made → Why
why_in default (Writes output) = default
why_in default (HasFault at why) = why
why_in default IsTooLong = default

same_offset : (m n : ℕ) (p q : Why) → HasFault m p ≡ HasFault n q → m ≡ n
unfolding offset_in
same_offset m n p q is = ap offset_in is

same_why : (m n : ℕ) (p q : Why) → HasFault m p ≡ HasFault n q → p ≡ q
unfolding why_in
same_why m n p q is = ap (why_in p) is

refused_same : (m n : ℕ) (p q : Why) → m ≡ n → p ≡ q → Refused m p ≡ Refused n q
refused_same m n p q e f = ap (λ (k : ℕ). Refused k p) e ∙ ap (λ (w : Why). Refused n w) f

one_fault : {State : Type 0} (gives : Gives State) (state : State) (budget : ℕ) (bytes : List ℕ) (at : ℕ) (rest : List ℕ) (m n : ℕ) (p q : Why) → IsSingleValued gives
    → FaultAt gives state budget bytes at rest m p → FaultAt gives state budget bytes at rest n q → Refused m p ≡ Refused n q
one_fault gives state budget bytes at rest m n p q single (large_frame here is large) (large_frame here' is' large') = refused_same m n p q (here ∙ sym here') (is ∙ sym is')
one_fault gives state budget bytes at rest m n p q single (large_frame here is large) (cut_frame here' is' short' some' cut') = absurd (partial_no_large rest cut' large)
one_fault gives state budget bytes at rest m n p q single (large_frame here is large) (bad_message offset' here' bad') = absurd (large_no_frame rest bad'.message bad'.more large bad'.fits bad'.whole)
one_fault gives state budget bytes at rest m n p q single (cut_frame here is short some cut) (large_frame here' is' large') = absurd (partial_no_large rest cut large')
one_fault gives state budget bytes at rest m n p q single (cut_frame here is short some cut) (cut_frame here' is' short' some' cut') = refused_same m n p q (here ∙ sym here') (is ∙ sym is')
one_fault gives state budget bytes at rest m n p q single (cut_frame here is short some cut) (bad_message offset' here' bad') = absurd (partial_no_frame rest bad'.message bad'.more cut bad'.fits bad'.whole)
one_fault gives state budget bytes at rest m n p q single (bad_message offset here bad) (large_frame here' is' large') = absurd (large_no_frame rest bad.message bad.more large' bad.fits bad.whole)
one_fault gives state budget bytes at rest m n p q single (bad_message offset here bad) (cut_frame here' is' short' some' cut') = absurd (partial_no_frame rest bad.message bad.more cut' bad.fits bad.whole)
one_fault gives state budget bytes at rest m n p q single (bad_message offset here bad) (bad_message offset' here' bad') =
    let same = made_made gives state rest (HasFault offset p) (HasFault offset' q) single bad bad' in
    refused_same m n p q (here ∙ ap (λ (k : ℕ). at + 4 + k) (same_offset offset offset' p q same) ∙ sym here') (same_why offset offset' p q same)

-- at a fault or a message that is too long the bytes are not at their end
ended_no_fault : {State : Type 0} (gives : Gives State) (state : State) (budget : ℕ) (bytes : List ℕ) (at : ℕ) (rest : List ℕ) (place : ℕ) (why : Why) → FaultAt gives state budget bytes at rest place why → rest ≡ [] → ⊥
ended_no_fault gives state budget bytes at rest place why (large_frame here is large) none = nil_no_large rest none large
ended_no_fault gives state budget bytes at rest place why (cut_frame here is short some cut) none = omega (arith, ap length none)
ended_no_fault gives state budget bytes at rest place why (bad_message offset here bad) none = nil_no_frame bad.message bad.more (sym none ∙ bad.whole)

spent_no_fault : {State : Type 0} (gives : Gives State) (state : State) (budget : ℕ) (bytes : List ℕ) (at : ℕ) (rest : List ℕ) (place : ℕ) (why : Why) → FaultAt gives state budget bytes at rest place why → budget ≤ length bytes → IsPartial rest → ⊥
spent_no_fault gives state budget bytes at rest place why (large_frame here is large) over cut = partial_no_large rest cut large
spent_no_fault gives state budget bytes at rest place why (cut_frame here is short some cut') over cut = omega arith
spent_no_fault gives state budget bytes at rest place why (bad_message offset here bad) over cut = partial_no_frame rest bad.message bad.more cut bad.fits bad.whole

too_long_no_fault : {State : Type 0} (gives : Gives State) (state : State) (budget : ℕ) (bytes : List ℕ) (at : ℕ) (rest : List ℕ) (place : ℕ) (why : Why) → IsSingleValued gives
    → FaultAt gives state budget bytes at rest place why → BeginsMade gives state rest IsTooLong → ⊥
too_long_no_fault gives state budget bytes at rest place why single (large_frame here is large) long = large_no_frame rest long.message long.more large long.fits long.whole
too_long_no_fault gives state budget bytes at rest place why single (cut_frame here is short some cut) long = partial_no_frame rest long.message long.more cut long.fits long.whole
too_long_no_fault gives state budget bytes at rest place why single (bad_message offset here bad) long =
    let same : HasFault offset why ≡ IsTooLong = made_made gives state rest (HasFault offset why) IsTooLong single bad long in
    cc

one_stop : {State : Type 0} (gives : Gives State) (state : State) (budget : ℕ) (bytes : List ℕ) (at : ℕ) (rest : List ℕ) (a b : Stop) → IsSingleValued gives
    → StopsAt gives state budget bytes at rest a → StopsAt gives state budget bytes at rest b → a ≡ b
one_stop gives state budget bytes at rest Ended Ended single p q = refl
one_stop gives state budget bytes at rest Ended (Refused n w) single p q = absurd (ended_no_fault gives state budget bytes at rest n w q p.1)
one_stop gives state budget bytes at rest Ended TooLong single p q = absurd (nil_no_frame q.message q.more (sym p.1 ∙ q.whole))
one_stop gives state budget bytes at rest Ended Spent single p q = absurd (omega (arith, p.0, q.0))
one_stop gives state budget bytes at rest (Refused m v) Ended single p q = absurd (ended_no_fault gives state budget bytes at rest m v p q.1)
one_stop gives state budget bytes at rest (Refused m v) (Refused n w) single p q = one_fault gives state budget bytes at rest m n v w single p q
one_stop gives state budget bytes at rest (Refused m v) TooLong single p q = absurd (too_long_no_fault gives state budget bytes at rest m v single p q)
one_stop gives state budget bytes at rest (Refused m v) Spent single p q = absurd (spent_no_fault gives state budget bytes at rest m v p q.0 q.1)
one_stop gives state budget bytes at rest TooLong Ended single p q = absurd (nil_no_frame p.message p.more (sym q.1 ∙ p.whole))
one_stop gives state budget bytes at rest TooLong (Refused n w) single p q = absurd (too_long_no_fault gives state budget bytes at rest n w single q p)
one_stop gives state budget bytes at rest TooLong TooLong single p q = refl
one_stop gives state budget bytes at rest TooLong Spent single p q = absurd (partial_no_frame rest p.message p.more q.1 p.fits p.whole)
one_stop gives state budget bytes at rest Spent Ended single p q = absurd (omega (arith, q.0, p.0))
one_stop gives state budget bytes at rest Spent (Refused n w) single p q = absurd (spent_no_fault gives state budget bytes at rest n w q p.0 p.1)
one_stop gives state budget bytes at rest Spent TooLong single p q = absurd (partial_no_frame rest q.message q.more p.1 q.fits q.whole)
one_stop gives state budget bytes at rest Spent Spent single p q = refl

-- ---- one reading, one ending

pub one_reading : {State : Type 0} (gives : Gives State) (start : State) (budget : ℕ) (bytes : List ℕ) (a b : List (Step State)) (stop stop' : Stop) → IsSingleValued gives
    → Reads gives start budget bytes a stop → Reads gives start budget bytes b stop' → (a ≡ b) × (stop ≡ stop')
one_reading {State} gives start budget bytes a b stop stop' single r s =
    let parts = one_splitting gives start budget bytes a b r.rest s.rest (place_after a) (place_after b) stop stop' single r.begins.each s.begins.each r.stops s.stops (sym r.begins.parts ∙ s.begins.parts) in
    let state : State = state_after start a in
    let second : StopsAt gives state budget bytes (place_after a) r.rest stop' =
    subst (λ (t : List ℕ). StopsAt gives state budget bytes (place_after a) t stop') (sym parts.1) (subst (λ (ks : List (Step State)). StopsAt gives (state_after start ks) budget bytes (place_after ks) s.rest stop') (sym parts.0) s.stops) in
    (parts.0, one_stop gives state budget bytes (place_after a) r.rest stop stop' single r.stops second)

pub one_ending : {State : Type 0} (form : OutputForm) (gives : Gives State) (start : State) (budget : ℕ) (bytes : List ℕ) (steps : List (Step State)) (stop : Stop) (old new : Option (List ℕ)) (status : ℕ) → IsSingleValued gives
    → Reads gives start budget bytes steps stop → Framed form gives start budget (Some bytes) old new status → EndsBy form steps stop old new status
one_ending {State} form gives start budget bytes steps stop old new status single reads framed = at_ending framed.0 framed.1 framed.2.2
  where
    at_ending : (ending : Result Stop RunFail) → status ≡ status_of ending → OutputOf form gives start budget (Some bytes) framed.2.0 ending → EndsBy form steps stop old new status
    at_ending (Ok stop') is answered =
        let same = one_reading gives start budget bytes answered.steps steps stop' stop single answered.reads reads in
        inl (
          is ∙ ap (λ (s : Stop). status_of (Ok s)) same.1,
          subst (Appends old new) (answered.whole ∙ ap (λ (ks : List (Step State)). outputs_of ks ++ last_words form stop') same.0 ∙ ap (λ (s : Stop). outputs_of steps ++ last_words form s) same.1) framed.2.1,
        )
    at_ending (Err ReadFault) is answered = inr (inl is)
    at_ending (Err WriteFault) is answered = inr (inr (inl is))
    at_ending (Err NoMemory) is answered = inr (inr (inr is))
