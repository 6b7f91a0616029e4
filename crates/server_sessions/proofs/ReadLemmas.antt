-- What a reader of parts tells of the bytes.
use Rattle.std.proofs.Common.{◌≡◌, ℕ, List, [], ◌∷◌, ◌++◌, map, Option, None, Some, Result, Ok, Err, MatchResult, All, refl, ap, ◌∙◌, subst, append_assoc, append-nil, inl, inr}
use Rattle.std.proofs.lemmas.Grind.{flat_map-append}
use Rattle.std.proofs.lemmas.List.Elements.{All-nil, All-cons, All-head, All-tail}
use Rattle.edge_heads.specs.declared.values.Side.{Side}
use Rattle.edge_heads.specs.declared.values.Side.TheVariants.{Requests}
use Rattle.edge_heads.specs.declared.values.HttpFail.{HttpFail}
use Rattle.edge_heads.specs.declared.values.HttpFail.TheVariants.{BadHead, HeadTooLong, TooManyHeaders, NoLength, BadChunk, BodyTooLarge, NoMemory}
use Rattle.edge_http.specs.declared.TheConstants.{BODY_LIMIT}
use Rattle.edge_http.specs.declared.messages.HttpMessage.{HttpMessage}
use Rattle.edge_http.specs.declared.messages.Part.{Part}
use Rattle.edge_http.specs.Joined.{Joined, join, with_parts}
use Rattle.edge_http.specs.Readers.{ReaderState, HasFailed, HasRead, ReadingIs}
use Rattle.edge_http.specs.Streams.{Message, IsMessage, message_value, print_messages, Open, Failed, Begins, Reads}
use Rattle.server_sessions.specs.Streams.{AreRead, ReadsRequests, BeginsRequests}
use Rattle.server_sessions.specs.declared.bodies.Progress.TheVariants.{Waiting}
use Rattle.server_sessions.specs.UnderWay.{HasReadAll, HasTaken}
use Rattle.server_sessions.specs.Failures.{FedIs, failure_items}
use Rattle.server_sessions.specs.Connections.{Takes}

-- nothing was fed
pub nothing_read : (parts : ReaderState) → (parts.side ≡ Requests) × (parts.limit ≡ BODY_LIMIT) → HasRead parts [] [] → parts.ready ≡ [] → parts.failure ≡ None
    → HasReadAll (record { parts = parts; progress = Waiting }) []
unfolding HasTaken with_parts
nothing_read parts kind read none unfailed = record { taken = []; read = (read, kind.0, kind.1); none_left = none; unfailed = unfailed; stands = tt }

-- a part was taken
pub part_taken : (old new : ReaderState) (part : Part) → ((bytes : List ℕ) (taken : List Part) → HasRead old bytes taken → HasRead new bytes (taken ++ part ∷ []))
    → (new.side ≡ old.side) × (new.limit ≡ old.limit) × (new.failure ≡ old.failure) → Takes old new (part ∷ [])
unfolding HasTaken
part_taken old new part read kind bytes taken was = (read bytes taken was.0, kind.0 ∙ was.1, kind.1 ∙ was.2)

-- a piece was fed
pub piece_fed : (old new : ReaderState) (piece : List ℕ) → ((bytes : List ℕ) (taken : List Part) → HasRead old bytes taken → HasRead new (bytes ++ piece) taken)
    → (new.side ≡ old.side) × (new.limit ≡ old.limit) → (bytes : List ℕ) (taken : List Part) → HasTaken old bytes taken → HasTaken new (bytes ++ piece) taken
unfolding HasTaken
piece_fed old new piece read kind bytes taken was = (read bytes taken was.0, kind.0 ∙ was.1, kind.1 ∙ was.2)

-- reading failed
failed_read : (bytes : List ℕ) (requests : List HttpMessage) (why : HttpFail) → HasFailed Requests BODY_LIMIT bytes requests why → AreRead bytes requests (failure_items why)
unfolding ReadsRequests BeginsRequests
failed_read bytes requests why (inl p) = rw p.0 (inr ((p.1, p.2), refl))
failed_read bytes requests BadHead (inr reads) = inl (Failed BadHead, reads, refl)
failed_read bytes requests HeadTooLong (inr reads) = inl (Failed HeadTooLong, reads, refl)
failed_read bytes requests TooManyHeaders (inr reads) = inl (Failed TooManyHeaders, reads, refl)
failed_read bytes requests NoLength (inr reads) = inl (Failed NoLength, reads, refl)
failed_read bytes requests BadChunk (inr reads) = inl (Failed BadChunk, reads, refl)
failed_read bytes requests BodyTooLarge (inr reads) = inl (Failed BodyTooLarge, reads, refl)
failed_read bytes requests NoMemory (inr reads) = absurd reads.is_rest

module _ (parts : ReaderState) (bytes : List ℕ) (taken : List Part) where
  -- the reader is one of requests
  of_requests : HasTaken parts bytes taken → (P : Side → ℕ → Type 0) → P parts.side parts.limit → P Requests BODY_LIMIT
  unfolding HasTaken
  of_requests was P p = subst (λ (s : Side). P s BODY_LIMIT) was.1 (subst (λ (n : ℕ). P parts.side n) was.2 p)

  reading : HasTaken parts bytes taken → (failure : Option HttpFail) → parts.failure ≡ failure → ReadingIs parts bytes (join (taken ++ parts.ready)) failure
  unfolding HasTaken
  reading was failure is = subst (λ (f : Option HttpFail). ReadingIs parts bytes (join (taken ++ parts.ready)) f) is was.0

  -- all of it, where reading didn't fail
  reads_all : HasTaken parts bytes taken → parts.failure ≡ None → ReadsRequests bytes (join (taken ++ parts.ready)).whole (Open (join (taken ++ parts.ready)).under_way)
  unfolding ReadsRequests
  reads_all was unfailed =
      of_requests was (λ s n. Reads s n bytes (join (taken ++ parts.ready)).whole (Open (join (taken ++ parts.ready)).under_way)) (reading was None unfailed).1

  -- what is told of it
  pub told_is : (told : Result Unit HttpFail) → HasTaken parts bytes taken → MatchResult told (λ _. parts.failure ≡ None) (λ why. parts.failure ≡ Some why)
      → FedIs bytes (join (taken ++ parts.ready)).whole told
  told_is (Ok done) was answer = ((join (taken ++ parts.ready)).under_way, reads_all was answer)
  told_is (Err why) was answer =
      failed_read bytes (join (taken ++ parts.ready)).whole why
      (of_requests was (λ s n. HasFailed s n bytes (join (taken ++ parts.ready)).whole why) (reading was (Some why) answer))

  -- where all of it was taken
  pub taken_is : HasTaken parts bytes taken → parts.failure ≡ None → parts.ready ≡ [] → ReadsRequests bytes (join taken).whole (Open (join taken).under_way)
  taken_is was unfailed none =
      let all : taken ++ parts.ready ≡ taken = rw none (append-nil taken) in
      subst (λ (ps : List Part). ReadsRequests bytes (join ps).whole (Open (join ps).under_way)) all (reads_all was unfailed)

-- the messages in front of others
front_written : (side : Side) (limit : ℕ) (front left : List HttpMessage) (written : List Message) → All (IsMessage side limit) written → map message_value written ≡ front ++ left
    → (first : List Message) × (later : List Message) × (written ≡ first ++ later) × All (IsMessage side limit) first × (map message_value first ≡ front)
front_written side limit [] left written each told = ([], written, refl, All-nil (IsMessage side limit), refl)
front_written side limit (m ∷ front) left [] each told = absurd (cc told)
front_written side limit (m ∷ front) left (w ∷ written) each told =
    let tail : map message_value written ≡ front ++ left = cc in
    by_later (front_written side limit front left written (All-tail (IsMessage side limit) w written each) tail)
  where
    by_later : (first : List Message) × (later : List Message) × (written ≡ first ++ later) × All (IsMessage side limit) first × (map message_value first ≡ front)
        → (first : List Message) × (later : List Message) × (w ∷ written ≡ first ++ later) × All (IsMessage side limit) first × (map message_value first ≡ m ∷ front)
    by_later (first, later, whole, are, said) =
        let head : message_value w ≡ m = cc in (
          w ∷ first,
          later,
          cc,
          All-cons (IsMessage side limit) w first (All-head (IsMessage side limit) w written each) are,
          cc,
        )

-- Bytes that begin with messages begin with those in front.
front_begins : (side : Side) (limit : ℕ) (bytes : List ℕ) (front left : List HttpMessage) (rest : List ℕ) → Begins side limit bytes (front ++ left) rest
    → (more : List ℕ) × Begins side limit bytes front more
front_begins side limit bytes front left rest begins =
    let r = front_written side limit front left begins.written begins.each begins.told in (
      print_messages r.1 ++ rest,
      record {
        written = r.0;
        each = r.3;
        told = r.4;
        parts = begins.parts ∙ ap (λ (ws : List Message). print_messages ws ++ rest) r.2 ∙ simp (flat_map-append, append_assoc);
      },
    )

begins_by : (parts : ReaderState) (bytes : List ℕ) (joined : Joined) (failure : Option HttpFail) → ReadingIs parts bytes joined failure
    → (rest : List ℕ) × Begins parts.side parts.limit bytes joined.whole rest
begins_by parts bytes joined None is = (is.1.rest, is.1.begins)
begins_by parts bytes joined (Some why) (inl p) = (p.1, p.2)
begins_by parts bytes joined (Some why) (inr reads) = (reads.rest, reads.begins)

-- The bytes begin with some of the requests that are whole in them.
pub begins_front : (parts : ReaderState) (bytes : List ℕ) (taken : List Part) (front left : List HttpMessage) → HasTaken parts bytes taken
    → (join (taken ++ parts.ready)).whole ≡ front ++ left → BeginsRequests bytes front
unfolding HasTaken BeginsRequests
begins_front parts bytes taken front left was is =
    let all = begins_by parts bytes (join (taken ++ parts.ready)) parts.failure was.0 in
    let begins : Begins parts.side parts.limit bytes (front ++ left) all.0 = subst (λ (ms : List HttpMessage). Begins parts.side parts.limit bytes ms all.0) is all.1 in
    let some = front_begins parts.side parts.limit bytes front left all.0 begins in
    (some.0, of_requests parts bytes taken was (λ s n. Begins s n bytes front some.0) some.1)
