-- From the steps of one piece to all that was read.
use Rattle.std.proofs.Common.{◌≡◌, ℕ, ◌<◌, List, [], ◌∷◌, ◌++◌, length, refl, sym, ap, ◌∙◌, subst, arith, append_assoc, append-nil, inl, inr, Option, Some, None, length-append, true}
use Rattle.std.proofs.lemmas.List.Elements.{All-nil, All-cons}
use Rattle.std.proofs.lemmas.Str.Ascii.{IsAscii-cons, IsAscii-nil}
use Rattle.std.proofs.lemmas.Str.{IsUtf8-from_ascii}
use Rattle.std.specs.Char.{is_ascii_digit}
use Rattle.httparse.specs.Grammar.{is_token_byte, is_uri_byte, lf, IsField, RequestHead, print_request, ResponseHead, print_response, is_value_byte}
use Rattle.httparse.proofs.OpenLemmas.{letter_is_token}
use Rattle.edge_heads.specs.declared.values.Side.{Side}
use Rattle.edge_heads.specs.declared.values.Side.TheVariants.{Requests, Responses}
use Rattle.edge_heads.specs.declared.values.HttpFail.{HttpFail}
use Rattle.edge_heads.specs.declared.values.HttpFail.TheVariants.{NoMemory}
use Rattle.edge_http.specs.declared.messages.HttpMessage.{HttpMessage}
use Rattle.edge_http.specs.declared.messages.Part.{Part}
use Rattle.edge_http.specs.declared.messages.Stage.TheVariants as stage
use Rattle.edge_heads.specs.Heads.{asks, answers, print_head, HasNoHead, CanBecomeHead, head_part, head_lines, head_lines_left}
use Rattle.edge_http.specs.Streams.{IsMessage, Begins, Reads, Open, Failed}
use Rattle.edge_http.specs.Joined.{Joined, join, with_parts}
use Rattle.edge_http.specs.Readers.{ReaderState, StandsAt, HasFailed, FailureIs, ReadingIs, HasRead}
use Rattle.edge_http.specs.Steps.{Moves, Stops, Waits, with_piece}
use Rattle.edge_heads.proofs.Parsers.{some_bytes}
use Rattle.edge_http.proofs.StayLaws.{begins-longer, fault-stays}
use Rattle.edge_http.proofs.StreamLaws.{one-reading}
use Rattle.edge_http.proofs.Ends.{waiting, no_memory}
use Rattle.edge_http.proofs.Moving.{parts-append, stops}

-- ---- more bytes

pub stands-longer : (state : ReaderState) (bytes piece : List ℕ) (j : Joined) → StandsAt state bytes j → StandsAt (with_piece state piece) (bytes ++ piece) j
stands-longer state bytes piece j x = record {
  used = x.used;
  begins = subst (λ (t : List ℕ). Begins state.side state.limit (bytes ++ piece) j.whole t) (append_assoc x.used state.unused piece)
      (begins-longer state.side state.limit bytes piece j.whole (x.used ++ state.unused) x.begins);
  at = x.at;
}

pub failed-longer : (side : Side) (limit : ℕ) (bytes more : List ℕ) (whole : List HttpMessage) (why : HttpFail) → HasFailed side limit bytes whole why → HasFailed side limit (bytes ++ more) whole why
failed-longer side limit bytes more whole why x = elim x [
  | inl memory ↦ inl (memory.0, memory.1 ++ more, begins-longer side limit bytes more whole memory.1 memory.2)
  | inr early ↦ inr (fault-stays side limit bytes more whole why early)
]

-- ---- a piece

joined-more : (taken ready more : List Part) (new : List Part) → new ≡ ready ++ more → join (taken ++ new) ≡ with_parts (join (taken ++ ready)) more
unfolding with_parts
joined-more taken ready more new e =
    ap (λ (t : List Part). join (taken ++ t)) e ∙ ap join (sym (append_assoc taken ready more)) ∙ parts-append (join []) (taken ++ ready) more

pub reading-at : (reader : ReaderState) (bytes : List ℕ) (j : Joined) (f g : Option HttpFail) → f ≡ g → ReadingIs reader bytes j f → ReadingIs reader bytes j g
reading-at reader bytes j f g e x = subst (λ (o : Option HttpFail). ReadingIs reader bytes j o) e x

pub fed : (old new : ReaderState) (piece bytes : List ℕ) (taken : List Part) → old.failure ≡ None → Moves (with_piece old piece) new → Waits new.side new.stage new.unused
    → HasRead old bytes taken → HasRead new (bytes ++ piece) taken
fed old new piece bytes taken none m w x =
    let j = join (taken ++ old.ready) in
    let read = reading-at old bytes j old.failure None none x in
    let s : StandsAt new (bytes ++ piece) (with_parts j m.more) = m.stands (bytes ++ piece) j (stands-longer old bytes piece j read.0) in
    let k = with_parts j m.more in
    let same : join (taken ++ new.ready) ≡ k = joined-more taken old.ready m.more new.ready m.makes.ready in
    let now : ReadingIs new (bytes ++ piece) k None = (s, waiting new.side new.limit new.stage new.unused (bytes ++ piece) k.whole k.under_way s w) in
    subst (λ (l : Joined). ReadingIs new (bytes ++ piece) l new.failure) (sym same) (reading-at new (bytes ++ piece) k None new.failure (sym (m.makes.failure ∙ none)) now)

pub fed-failed : (old mid : ReaderState) (piece bytes : List ℕ) (taken : List Part) (why : HttpFail) → old.failure ≡ None → Stops (with_piece old piece) mid why
    → HasRead old bytes taken → HasRead (record mid { failure = Some why }) (bytes ++ piece) taken
fed-failed old mid piece bytes taken why none m x =
    let j = join (taken ++ old.ready) in
    let read = reading-at old bytes j old.failure None none x in
    let k = with_parts j m.more in
    let f : HasFailed old.side old.limit (bytes ++ piece) k.whole why = m.fails (bytes ++ piece) j (stands-longer old bytes piece j read.0) in
    let same : join (taken ++ mid.ready) ≡ k = joined-more taken old.ready m.more mid.ready m.makes.ready in
    subst (λ (l : Joined). HasFailed mid.side mid.limit (bytes ++ piece) l.whole why) (sym same)
    (subst (λ (s : Side). HasFailed s mid.limit (bytes ++ piece) k.whole why) (sym m.makes.side)
    (subst (λ (n : ℕ). HasFailed old.side n (bytes ++ piece) k.whole why) (sym m.makes.limit) f))

-- a reader that has failed
pub failed-before : (old : ReaderState) (piece bytes : List ℕ) (taken : List Part) (why : HttpFail) → old.failure ≡ Some why → HasRead old bytes taken → HasRead old (bytes ++ piece) taken
failed-before old piece bytes taken why e x =
    let j = join (taken ++ old.ready) in
    let read = reading-at old bytes j old.failure (Some why) e x in
    let now : ReadingIs old (bytes ++ piece) j (Some why) = failed-longer old.side old.limit bytes piece j.whole why read in
    reading-at old (bytes ++ piece) j (Some why) old.failure (sym e) now

pub piece-refused : (old new : ReaderState) (piece : List ℕ) → new.side ≡ old.side → new.limit ≡ old.limit → new.failure ≡ old.failure → new.ready ≡ old.ready
    → Stops (with_piece old piece) new NoMemory
piece-refused old new piece side limit failure ready =
    stops (with_piece old piece) new NoMemory old.stage
    (record { side = side; limit = limit; failure = failure; ready = ready ∙ sym (append-nil old.ready) }) refl
    (λ bytes whole u s. no_memory old.side old.limit old.stage (old.unused ++ piece) bytes whole u s)

-- ---- what is answered

pub answer-open : (side : Side) (limit : ℕ) (bytes : List ℕ) (messages : List HttpMessage) (under_way : Option HttpMessage) → Reads side limit bytes messages (Open under_way) → FailureIs side limit bytes None
answer-open side limit bytes messages under_way x why fault =
    let same : Open under_way ≡ Failed why = (one-reading side limit bytes messages fault.0 (Open under_way) (Failed why) x fault.1).1 in absurd (cc)

pub answer-failed : (side : Side) (limit : ℕ) (bytes : List ℕ) (messages : List HttpMessage) (why : HttpFail) → HasFailed side limit bytes messages why → FailureIs side limit bytes (Some why)
answer-failed side limit bytes messages why (inl x) = inl x.0
answer-failed side limit bytes messages why (inr x) = inr (messages, x)

pub answered : (reader : ReaderState) (bytes : List ℕ) (taken : List Part) (f : Option HttpFail) → reader.failure ≡ f → HasRead reader bytes taken → FailureIs reader.side reader.limit bytes f
answered reader bytes taken None e x =
    let j = join (taken ++ reader.ready) in
    let y = reading-at reader bytes j reader.failure None e x in answer-open reader.side reader.limit bytes j.whole j.under_way y.1
answered reader bytes taken (Some why) e x =
    let j = join (taken ++ reader.ready) in
    answer-failed reader.side reader.limit bytes j.whole why (reading-at reader bytes j reader.failure (Some why) e x)

-- ---- a part is taken

pub part-taken : (old new : ReaderState) (bytes : List ℕ) (taken gone : List Part) → old ≡ record new { ready = gone ++ new.ready } → HasRead old bytes taken → HasRead new bytes (taken ++ gone)
part-taken old new bytes taken gone e x =
    let o : ReaderState = record new { ready = gone ++ new.ready } in
    let y : HasRead o bytes taken = subst (λ (r : ReaderState). HasRead r bytes taken) e x in
    let same : join (taken ++ (gone ++ new.ready)) ≡ join ((taken ++ gone) ++ new.ready) = ap join (sym (append_assoc taken gone new.ready)) in
    again new.failure refl (subst (λ (l : Joined). ReadingIs o bytes l new.failure) same y)
  where
    again : (f : Option HttpFail) → new.failure ≡ f → ReadingIs (record new { ready = gone ++ new.ready }) bytes (join ((taken ++ gone) ++ new.ready)) new.failure
        → ReadingIs new bytes (join ((taken ++ gone) ++ new.ready)) new.failure
    again None e z =
        reading-at new bytes (join ((taken ++ gone) ++ new.ready)) None new.failure (sym e)
        (reading-at (record new { ready = gone ++ new.ready }) bytes (join ((taken ++ gone) ++ new.ready)) new.failure None e z)
    again (Some why) e z =
        reading-at new bytes (join ((taken ++ gone) ++ new.ready)) (Some why) new.failure (sym e)
        (reading-at (record new { ready = gone ++ new.ready }) bytes (join ((taken ++ gone) ++ new.ready)) new.failure (Some why) e z)

-- ---- nothing was read

no_head : (side : Side) → HasNoHead side []
no_head side head rest x lines =
    let some : 0 < length (print_head head) = some_bytes side head [] rest x in
    absurd (omega (arith, ap length x.1, length-append (print_head head) rest))

can_request : CanBecomeHead Requests []
unfolding print_request
can_request =
    let h : RequestHead = record { blank = []; method = 65 ∷ []; target = 47 ∷ []; minor = 1; line_end = lf; fields = []; last = lf } in
    inl (
      print_request h,
      asks h,
      (
        record {
          method = (omega arith, All-cons (λ b. is_token_byte b ≡ true) 65 [] letter_is_token (All-nil (λ b. is_token_byte b ≡ true)));
          target = (omega arith, All-cons (λ b. is_uri_byte b ≡ true) 47 [] refl (All-nil (λ b. is_uri_byte b ≡ true)));
          target_text = IsUtf8-from_ascii _ (IsAscii-cons 47 [] (omega arith) IsAscii-nil);
          minor = omega arith;
          fields = All-nil IsField;
        },
        sym (append-nil (print_request h)),
      ),
    )

can_response : CanBecomeHead Responses []
unfolding print_response
can_response =
    let h : ResponseHead = record { blank = []; minor = 1; digits = 50 ∷ 48 ∷ 48 ∷ []; reason = None; line_end = lf; fields = []; last = lf } in
    let P : ℕ → Type 0 = λ b. is_ascii_digit b ≡ true in
    inl (
      print_response h,
      answers h,
      (
        record {
          minor = omega arith;
          digits = (refl, All-cons P 50 (48 ∷ 48 ∷ []) refl (All-cons P 48 (48 ∷ []) refl (All-cons P 48 [] refl (All-nil P))));
          reason = All-nil (λ b. is_value_byte b ≡ true);
          fields = All-nil IsField;
        },
        sym (append-nil (print_response h)),
      ),
    )

can_begin : (side : Side) → CanBecomeHead side []
can_begin Requests = can_request
can_begin Responses = can_response

pub nothing-read : (side : Side) (limit : ℕ) → HasRead (record { side = side; limit = limit; unused = []; stage = stage.Head; ready = []; failure = None }) [] []
unfolding with_parts head_part head_lines head_lines_left
nothing-read side limit =
    let begins : Begins side limit [] [] [] = record { written = []; each = All-nil (IsMessage side limit); told = refl; parts = refl } in (
      record { used = []; begins = begins; at = refl },
      record {
        rest = [];
        begins = begins;
        is_rest = record { begun = record { none = no_head side; can = can_begin side }; short = omega arith; lines = λ e. absurd (omega (arith, e)) };
      },
    )
