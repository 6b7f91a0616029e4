-- What is received of a connection.
use Rattle.std.proofs.Common.{◌≡◌, ℕ, Bool, true, List, [], ◌∷◌, ◌++◌, IsTrue, Option, Some, None, Ok, Err, refl, sym, ap, ◌∙◌, subst, append_assoc, inl, inr}
use Rattle.std.specs.Prelude.{⊤}
use Rattle.std.specs.Io.KnownBytes.{Consumes, Keeps}
use Rattle.edge_heads.specs.declared.values.Side.{Side}
use Rattle.edge_heads.specs.declared.values.HttpFail.{HttpFail}
use Rattle.edge_heads.specs.declared.values.HttpFail.TheVariants.{NoMemory}
use Rattle.edge_heads.specs.declared.values.HttpFail.TheVariants as reading
use Rattle.edge_http.specs.declared.messages.HttpMessage.{HttpMessage}
use Rattle.edge_http.specs.Streams.{Begins, Failed, Open, Reads}
use Rattle.edge_http.specs.Readers.{HasFailed}
use Rattle.edge_dialer.specs.Answers.{ReadsFirst, ReceivedIs, link_fail_of}
use Rattle.edge_http.specs.Polled.{HasPolled, PollState, PollTells}

begins-told : (state : PollState) (bytes : List ℕ) (messages : List HttpMessage) (failure : Option HttpFail) → PollTells state bytes messages failure
    → (rest : List ℕ) × Begins state.parts.side state.parts.limit bytes messages rest
begins-told state bytes messages None told = (told.rest, told.begins)
begins-told state bytes messages (Some why) (inl told) = (told.1, told.2)
begins-told state bytes messages (Some why) (inr told) = (told.rest, told.begins)

-- what holds of a state's side and limit holds of those that it took over
over : (P : Side → ℕ → Type 0) (state : PollState) (side : Side) (limit : ℕ) → state.parts.side ≡ side → state.parts.limit ≡ limit
    → P state.parts.side state.parts.limit → P side limit
over P state side limit same_side same_limit holds =
    subst (λ (l : ℕ). P side l) same_limit (subst (λ (s : Side). P s state.parts.limit) same_side holds)

-- what is told begins the bytes
pub told-begins : (side : Side) (limit : ℕ) (state : PollState) (bytes : List ℕ) (messages : List HttpMessage) (failure : Option HttpFail)
    → state.parts.side ≡ side → state.parts.limit ≡ limit → PollTells state bytes messages failure
    → (rest : List ℕ) × Begins side limit bytes messages rest
told-begins side limit state bytes messages failure same_side same_limit told =
    over (λ s l. (rest : List ℕ) × Begins s l bytes messages rest) state side limit same_side same_limit (begins-told state bytes messages failure told)

-- where nothing is told and nothing failed a response can come
pub told-none : (side : Side) (limit : ℕ) (state : PollState) (bytes : List ℕ) (messages : List HttpMessage) (failure : Option HttpFail)
    → state.parts.side ≡ side → state.parts.limit ≡ limit → PollTells state bytes messages failure → failure ≡ None → messages ≡ []
    → (under_way : Option HttpMessage) × Reads side limit bytes [] (Open under_way)
told-none side limit state bytes messages failure same_side same_limit told none empty =
    over (λ s l. (under_way : Option HttpMessage) × Reads s l bytes [] (Open under_way)) state side limit same_side same_limit
    (state.under_way, subst (λ (ms : List HttpMessage). PollTells state bytes ms None) empty (subst (λ (f : Option HttpFail). PollTells state bytes messages f) none told))

abbrev IsWanting : HttpFail → Type 0
IsWanting NoMemory = ⊤
IsWanting _ = ⊥

not-wanting : (side : Side) (limit : ℕ) (bytes : List ℕ) (why : HttpFail) → (IsWanting why → ⊥) → HasFailed side limit bytes [] why
    → (cause : HttpFail) × Reads side limit bytes [] (Failed cause)
not-wanting side limit bytes why other (inl told) = absurd (other (subst IsWanting (sym told.0) tt))
not-wanting side limit bytes why other (inr told) = (why, told)

failed-by : (side : Side) (limit : ℕ) (bytes : List ℕ) (why : HttpFail) → HasFailed side limit bytes [] why
    → ReceivedIs side limit bytes (Err (link_fail_of why))
failed-by side limit bytes reading.BadHead told = not-wanting side limit bytes reading.BadHead (λ w. w) told
failed-by side limit bytes reading.HeadTooLong told = not-wanting side limit bytes reading.HeadTooLong (λ w. w) told
failed-by side limit bytes reading.TooManyHeaders told = not-wanting side limit bytes reading.TooManyHeaders (λ w. w) told
failed-by side limit bytes reading.NoLength told = not-wanting side limit bytes reading.NoLength (λ w. w) told
failed-by side limit bytes reading.BadChunk told = not-wanting side limit bytes reading.BadChunk (λ w. w) told
failed-by side limit bytes reading.BodyTooLarge told = not-wanting side limit bytes reading.BodyTooLarge (λ w. w) told
failed-by side limit bytes reading.NoMemory told = tt

-- where nothing is told and reading failed none can come, but for want of memory
pub told-failed : (side : Side) (limit : ℕ) (state : PollState) (bytes : List ℕ) (messages : List HttpMessage) (failure : Option HttpFail) (why : HttpFail)
    → state.parts.side ≡ side → state.parts.limit ≡ limit → PollTells state bytes messages failure → failure ≡ Some why → messages ≡ []
    → ReceivedIs side limit bytes (Err (link_fail_of why))
told-failed side limit state bytes messages failure why same_side same_limit told failed empty =
    over (λ s l. ReceivedIs s l bytes (Err (link_fail_of why))) state side limit same_side same_limit
    (failed-by state.parts.side state.parts.limit bytes why
    (subst (λ (ms : List HttpMessage). PollTells state bytes ms (Some why)) empty (subst (λ (f : Option HttpFail). PollTells state bytes messages f) failed told)))

-- Bytes came of the stream that make no whole response.
pub record IsReceiving (first reader : PollState) (old new : Option (List ℕ)) : Type 0 where
  pub came : List ℕ
  pub consumed : Consumes old new came
  pub polled : HasPolled reader came []
  pub none : reader.ready ≡ []
  pub side : reader.parts.side ≡ first.parts.side
  pub limit : reader.parts.limit ≡ first.parts.limit

pub keeps-same : (a : Option (List ℕ)) → Keeps a a
keeps-same None = tt
keeps-same (Some xs) = refl

pub keeps-on : (a b c : Option (List ℕ)) → Keeps a b → Keeps b c → Keeps a c
keeps-on None b c p q = tt
keeps-on (Some xs) None c p q = absurd p
keeps-on (Some xs) (Some ys) None p q = absurd q
keeps-on (Some xs) (Some ys) (Some zs) p q = q ∙ p

pub consumes-later : (a b c : Option (List ℕ)) (bytes : List ℕ) → Keeps a b → Consumes b c bytes → Consumes a c bytes
consumes-later None b c bytes p q = tt
consumes-later (Some xs) None c bytes p q = absurd p
consumes-later (Some xs) (Some ys) None bytes p q = absurd q
consumes-later (Some xs) (Some ys) (Some zs) bytes p q = sym p ∙ q

consumes-nothing : (a : Option (List ℕ)) → Consumes a a []
consumes-nothing None = tt
consumes-nothing (Some xs) = refl

pub consumes-on : (a b c : Option (List ℕ)) (front back : List ℕ) → Consumes a b front → Consumes b c back → Consumes a c (front ++ back)
consumes-on None b c front back p q = tt
consumes-on (Some xs) None c front back p q = absurd p
consumes-on (Some xs) (Some ys) None front back p q = absurd q
consumes-on (Some xs) (Some ys) (Some zs) front back p q = p ∙ ap (λ (t : List ℕ). front ++ t) q ∙ sym (append_assoc front back zs)

-- nothing came yet
pub receiving-first : (first : PollState) (old : Option (List ℕ)) → HasPolled first [] [] → first.ready ≡ [] → IsReceiving first first old old
receiving-first first old polled none =
    record { came = []; consumed = consumes-nothing old; polled = polled; none = none; side = refl; limit = refl }

-- one more piece came that makes no response
pub receiving-on : (first before after : PollState) (old mid new : Option (List ℕ)) (piece : List ℕ) (was : IsReceiving first before old mid)
    → Consumes mid new piece → HasPolled after (was.came ++ piece) [] → after.ready ≡ []
    → (after.parts.side ≡ before.parts.side) × (after.parts.limit ≡ before.parts.limit) → IsReceiving first after old new
receiving-on first before after old mid new piece was consumed polled none kind = record {
  came = was.came ++ piece;
  consumed = consumes-on old mid new was.came piece was.consumed consumed;
  polled = polled;
  none = none;
  side = kind.0 ∙ was.side;
  limit = kind.1 ∙ was.limit;
}

-- what a reader of which nothing is left was fed is the response that was taken of it
alone-ends : (side : Side) (limit : ℕ) (after : PollState) (came : List ℕ) (message : HttpMessage) (alone : Bool)
    → after.parts.side ≡ side → after.parts.limit ≡ limit → HasPolled after came (message ∷ [])
    → (IsTrue alone → (bytes : List ℕ) (taken : List HttpMessage) → HasPolled after bytes taken → Begins after.parts.side after.parts.limit bytes taken [])
    → alone ≡ true → Begins side limit came (message ∷ []) []
alone-ends side limit after came message alone same_side same_limit polled held is =
    over (λ s l. Begins s l came (message ∷ []) []) after side limit same_side same_limit (held is came (message ∷ []) polled)

-- the piece that makes the first response whole
pub receiving-ends : (first before after : PollState) (old mid new : Option (List ℕ)) (piece : List ℕ) (message : HttpMessage) (alone : Bool)
    (was : IsReceiving first before old mid)
    → Consumes mid new piece → ReceivedIs before.parts.side before.parts.limit (was.came ++ piece) (Ok (Some message))
    → HasPolled after (was.came ++ piece) (message ∷ [])
    → (after.parts.side ≡ before.parts.side) × (after.parts.limit ≡ before.parts.limit)
    → (IsTrue alone → (bytes : List ℕ) (taken : List HttpMessage) → HasPolled after bytes taken → Begins after.parts.side after.parts.limit bytes taken [])
    → ReadsFirst first.parts.side first.parts.limit old new message alone
receiving-ends first before after old mid new piece message alone was consumed received polled kind held =
    over (λ s l. ReadsFirst s l old new message alone) before first.parts.side first.parts.limit was.side was.limit record {
      came = was.came ++ piece;
      consumed = consumes-on old mid new was.came piece was.consumed consumed;
      later = received.0;
      rest = received.1;
      begins = received.2;
      ends = alone-ends before.parts.side before.parts.limit after (was.came ++ piece) message alone kind.0 kind.1 polled held;
    }
