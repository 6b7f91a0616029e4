-- Parts joined to whole messages.
use Rattle.std.proofs.Common.{◌≡◌, ℕ, zero, suc, Bool, true, false, List, [], ◌∷◌, ◌++◌, length, take, drop, map, refl, sym, ap, ◌∙◌, subst, append_assoc, append-nil, inl, inr, Option, Some, None}
use Rattle.std.proofs.Math.Seq.{take-append_seam}
use Rattle.std.proofs.lemmas.List.{take-append-drop}
use Rattle.std.proofs.lemmas.List.Elements.{All-take}
use Rattle.std.proofs.lemmas.Grind.{flat_map-append}
use Rattle.edge_heads.specs.declared.values.Side.{Side}
use Rattle.edge_heads.specs.declared.values.HttpFail.{HttpFail}
use Rattle.edge_heads.specs.declared.values.HttpFail.TheVariants.{NoMemory}
use Rattle.edge_http.specs.declared.messages.HttpMessage.{HttpMessage}
use Rattle.edge_http.specs.declared.messages.Part.{Part}
use Rattle.edge_http.specs.declared.messages.Part.TheVariants as part
use Rattle.edge_http.specs.Streams.{Message, message_value, IsMessage, print_message, print_messages, Begins, Reads, Open}
use Rattle.edge_http.specs.Joined.{Joined, join, with_part, with_parts, with_message}
use Rattle.edge_http.specs.Readers.{ReaderState, HasFailed, FailureIs, ReadingIs, HasRead}
use Rattle.edge_http.specs.Polled.{PollState, Joins, WantedMemory, PolledBy, HasPolled, PollTells, poll_failure, failure_by, held, SameParts}
use Rattle.edge_http.proofs.Moving.{parts-append}
use Rattle.edge_http.proofs.Feeding.{reading-at, failed-longer, failed-before, answer-open, answer-failed}

-- ---- the first of the messages

map-take : (n : ℕ) (xs : List Message) → map message_value (take n xs) ≡ take n (map message_value xs)
map-take zero xs = refl
map-take (suc n) [] = refl
map-take (suc n) (x ∷ xs) = ap (λ (t : List HttpMessage). message_value x ∷ t) (map-take n xs)

pub begins-front : (side : Side) (limit : ℕ) (bytes : List ℕ) (a b : List HttpMessage) (rest : List ℕ) → Begins side limit bytes (a ++ b) rest
    → (more : List ℕ) × Begins side limit bytes a more
begins-front side limit bytes a b rest x =
    let n = length a in
    let front = take n x.written in
    let back = drop n x.written in (
      print_messages back ++ rest,
      record {
        written = front;
        each = All-take (IsMessage side limit) n x.written x.each;
        told = map-take n x.written ∙ ap (λ (t : List HttpMessage). take n t) x.told ∙ take-append_seam a b;
        parts = x.parts ∙ ap (λ (t : List Message). print_messages t ++ rest) (sym (take-append-drop n x.written))
            ∙ ap (λ (t : List ℕ). t ++ rest) (flat_map-append print_message front back) ∙ append_assoc (print_messages front) (print_messages back) rest;
      },
    )

-- parts add whole messages, and take none away
whole-one : (j : Joined) (p : Part) → (extra : List HttpMessage) × ((with_part j p).whole ≡ j.whole ++ extra)
whole-one j (part.Head head) = ([], sym (append-nil j.whole))
whole-one j (part.Body bytes) = ([], sym (append-nil j.whole))
whole-one j part.Done = by j.under_way
  where
    by : (u : Option HttpMessage) → (extra : List HttpMessage) × (with_message j.whole u ≡ j.whole ++ extra)
    by None = ([], sym (append-nil j.whole))
    by (Some m) = (m ∷ [], refl)

pub whole-grows : (j : Joined) (more : List Part) → (extra : List HttpMessage) × ((with_parts j more).whole ≡ j.whole ++ extra)
unfolding with_parts
whole-grows j [] = ([], sym (append-nil j.whole))
whole-grows j (p ∷ more) =
    let one = whole-one j p in
    let rest = whole-grows (with_part j p) more in
    (one.0 ++ rest.0, rest.1 ∙ ap (λ (t : List HttpMessage). t ++ rest.0) one.1 ∙ append_assoc j.whole one.0 rest.0)

-- what was read begins with the messages of its parts
begins-of : (reader : ReaderState) (bytes : List ℕ) (j : Joined) (f : Option HttpFail) → ReadingIs reader bytes j f
    → (rest : List ℕ) × Begins reader.side reader.limit bytes j.whole rest
begins-of reader bytes j None x = (_, x.0.begins)
begins-of reader bytes j (Some why) x = elim x [
  | inl memory ↦ (memory.1, memory.2)
  | inr early ↦ (early.rest, early.begins)
]

pub memory-wanted : (state : PollState) (bytes : List ℕ) (taken : List HttpMessage) → Joins state bytes taken
    → HasFailed state.parts.side state.parts.limit bytes (taken ++ state.ready) NoMemory
unfolding with_parts
memory-wanted state bytes taken x =
    let all = join (x.parts ++ state.parts.ready) in
    let b = begins-of state.parts bytes all state.parts.failure x.read in
    let grown = whole-grows (join x.parts) state.parts.ready in
    let whole : all.whole ≡ (taken ++ state.ready) ++ grown.0 =
    ap (λ (j : Joined). j.whole) (parts-append (join []) x.parts state.parts.ready) ∙ grown.1 ∙ ap (λ (j : Joined). j.whole ++ grown.0) x.joined in
    let front = begins-front state.parts.side state.parts.limit bytes (taken ++ state.ready) grown.0 b.0
    (subst (λ (w : List HttpMessage). Begins state.parts.side state.parts.limit bytes w b.0) whole b.1) in
    inl (refl, front.0, front.1)

-- ---- the loop over the parts

pub record IsJoining (old new : PollState) : Type 0 where
  pub same : SameParts old new
  pub joins : (bytes : List ℕ) (taken : List HttpMessage) → Joins old bytes taken → Joins new bytes taken

pub joining-still : (state : PollState) → IsJoining state state
joining-still state = record { same = record { side = refl; limit = refl; failure = refl; failed = refl; kept = ([], sym (append-nil state.ready)) }; joins = λ bytes taken x. x }

-- with a part joined to what is held
with_one : (taken : List HttpMessage) (j : Joined) (p : Part)
    → with_part (record { whole = taken ++ j.whole; under_way = j.under_way }) p ≡ record { whole = taken ++ (with_part j p).whole; under_way = (with_part j p).under_way }
with_one taken j (part.Head head) = refl
with_one taken j (part.Body bytes) = refl
with_one taken j part.Done = by j.under_way
  where
    by : (u : Option HttpMessage) → with_part (record { whole = taken ++ j.whole; under_way = u }) part.Done
        ≡ record { whole = taken ++ (with_part (record { whole = j.whole; under_way = u }) part.Done).whole; under_way = None }
    by None = refl
    by (Some m) = λ i. record { whole = append_assoc taken j.whole (m ∷ []) i; under_way = None }

-- a part was taken of the reader of parts, and joined
pub part-joined : (old new : PollState) (popped : ReaderState) (p : Part) → new.parts ≡ popped → held new ≡ with_part (held old) p
    → ((bytes : List ℕ) (taken : List Part) → HasRead old.parts bytes taken → HasRead popped bytes (taken ++ p ∷ []))
    → (bytes : List ℕ) (taken : List HttpMessage) → Joins old bytes taken → Joins new bytes taken
unfolding with_parts
part-joined old new popped p same is read bytes taken x = record {
  parts = x.parts ++ p ∷ [];
  read = subst (λ (r : ReaderState). HasRead r bytes (x.parts ++ p ∷ [])) (sym same) (read bytes x.parts x.read);
  joined = parts-append (join []) x.parts (p ∷ []) ∙ ap (λ (j : Joined). with_part j p) x.joined ∙ with_one taken (held old) p
      ∙ (λ i. record { whole = taken ++ (sym is i).whole; under_way = (sym is i).under_way });
}

-- ---- what is told

pub polled-tells : (state : PollState) (bytes : List ℕ) (taken : List HttpMessage) → HasPolled state bytes taken → PollTells state bytes (taken ++ state.ready) (poll_failure state)
polled-tells state bytes taken x = by state.failed refl
  where
    told : (f : Option HttpFail) → Joins state bytes taken → state.parts.ready ≡ [] → state.parts.failure ≡ f → PollTells state bytes (taken ++ state.ready) f
    told None j none e =
        let all : join (j.parts ++ state.parts.ready) ≡ record { whole = taken ++ state.ready; under_way = state.under_way } =
        ap (λ (t : List Part). join (j.parts ++ t)) none ∙ ap join (append-nil j.parts) ∙ j.joined in
        (subst (λ (k : Joined). ReadingIs state.parts bytes k None) all (reading-at state.parts bytes (join (j.parts ++ state.parts.ready)) state.parts.failure None e j.read)).1
    told (Some why) j none e =
        let all : join (j.parts ++ state.parts.ready) ≡ record { whole = taken ++ state.ready; under_way = state.under_way } =
        ap (λ (t : List Part). join (j.parts ++ t)) none ∙ ap join (append-nil j.parts) ∙ j.joined in
        subst (λ (k : Joined). ReadingIs state.parts bytes k (Some why)) all (reading-at state.parts bytes (join (j.parts ++ state.parts.ready)) state.parts.failure (Some why) e j.read)

    by : (b : Bool) → state.failed ≡ b → PollTells state bytes (taken ++ state.ready) (poll_failure state)
    by true e =
        let w : WantedMemory state bytes taken = subst (λ (b : Bool). PolledBy state bytes taken b) e x in
        subst (λ (b : Bool). PollTells state bytes (taken ++ state.ready) (failure_by b state.parts.failure)) (sym e) w
    by false e =
        let w = subst (λ (b : Bool). PolledBy state bytes taken b) e x in
        subst (λ (b : Bool). PollTells state bytes (taken ++ state.ready) (failure_by b state.parts.failure)) (sym e) (told state.parts.failure w.0 w.1 refl)

pub polled-nothing : (parts : ReaderState) → HasRead parts [] [] → parts.ready ≡ [] → HasPolled (record { parts = parts; under_way = None; ready = []; failed = false }) [] []
unfolding with_parts
polled-nothing parts read none = (record { parts = []; read = read; joined = refl }, none)

-- of no bytes nothing is read, and more can come
pub polled-open : (parts : ReaderState) → HasRead parts [] [] → parts.ready ≡ [] → parts.failure ≡ None
    → PollTells (record { parts = parts; under_way = None; ready = []; failed = false }) [] [] None
unfolding with_parts
polled-open parts read none unfailed =
    let y = reading-at parts [] (join parts.ready) parts.failure None unfailed read in
    subst (λ (t : List Part). Reads parts.side parts.limit [] (join t).whole (Open (join t).under_way)) none y.1

-- ---- steps of the loop

same-on : (old state new : PollState) (mid : PollState) (was : ReaderState) → SameParts old state
    → record { parts = was; under_way = mid.under_way; ready = mid.ready; failed = mid.failed } ≡ state
    → new.parts ≡ mid.parts → new.failed ≡ mid.failed
    → (mid.parts.side ≡ was.side) × (mid.parts.limit ≡ was.limit) × (mid.parts.failure ≡ was.failure)
    → (more : List HttpMessage) → new.ready ≡ mid.ready ++ more
    → SameParts old new
same-on old state new mid was same view parts failed kind more grows = record {
  side = ap (λ (r : ReaderState). r.side) parts ∙ kind.0 ∙ ap (λ (s : PollState). s.parts.side) view ∙ same.side;
  limit = ap (λ (r : ReaderState). r.limit) parts ∙ kind.1 ∙ ap (λ (s : PollState). s.parts.limit) view ∙ same.limit;
  failure = ap (λ (r : ReaderState). r.failure) parts ∙ kind.2 ∙ ap (λ (s : PollState). s.parts.failure) view ∙ same.failure;
  failed = failed ∙ ap (λ (s : PollState). s.failed) view ∙ same.failed;
  kept = (
    same.kept.0 ++ more,
    grows ∙ ap (λ (s : PollState). s.ready ++ more) view ∙ ap (λ (ready : List HttpMessage). ready ++ more) same.kept.1 ∙ append_assoc old.ready same.kept.0 more,
  );
}

pub joined-on : (old state new mid : PollState) (was : ReaderState) (p : Part) → IsJoining old state
    → record { parts = was; under_way = mid.under_way; ready = mid.ready; failed = mid.failed } ≡ state
    → new.parts ≡ mid.parts → new.failed ≡ mid.failed → held new ≡ with_part (held mid) p
    → (mid.parts.side ≡ was.side) × (mid.parts.limit ≡ was.limit) × (mid.parts.failure ≡ was.failure)
    → ((bytes : List ℕ) (taken : List Part) → HasRead was bytes taken → HasRead mid.parts bytes (taken ++ p ∷ []))
    → IsJoining old new
joined-on old state new mid was p j view parts failed is kind read = record {
  same = same-on old state new mid was j.same view parts failed kind (whole-one (held mid) p).0 (ap (λ (k : Joined). k.whole) is ∙ (whole-one (held mid) p).1);
  joins = λ bytes taken x.
      let o : PollState = record { parts = was; under_way = mid.under_way; ready = mid.ready; failed = mid.failed } in
      let y : Joins o bytes taken = subst (λ (s : PollState). Joins s bytes taken) (sym view) (j.joins bytes taken x) in
      part-joined o new mid.parts p parts is read bytes taken y;
}

pub stopped-on : (old state new mid : PollState) (was : ReaderState) (why : HttpFail) → IsJoining old state
    → record { parts = was; under_way = mid.under_way; ready = mid.ready; failed = mid.failed } ≡ state
    → new.parts ≡ mid.parts → new.failed ≡ mid.failed → (why ≡ NoMemory) × (new.ready ≡ mid.ready)
    → (mid.parts.side ≡ was.side) × (mid.parts.limit ≡ was.limit) × (mid.parts.failure ≡ was.failure)
    → SameParts old new × (why ≡ NoMemory) × ((bytes : List ℕ) (taken : List HttpMessage) → Joins old bytes taken → WantedMemory new bytes taken)
stopped-on old state new mid was why j view parts failed e kind = (
  same-on old state new mid was j.same view parts failed kind [] (e.1 ∙ sym (append-nil mid.ready)),
  e.0,
  λ bytes taken x.
      let o : PollState = record { parts = was; under_way = mid.under_way; ready = mid.ready; failed = mid.failed } in
      let y : Joins o bytes taken = subst (λ (s : PollState). Joins s bytes taken) (sym view) (j.joins bytes taken x) in
      let w : HasFailed was.side was.limit bytes (taken ++ mid.ready) NoMemory = memory-wanted o bytes taken y in
      subst (λ (ready : List HttpMessage). HasFailed new.parts.side new.parts.limit bytes (taken ++ ready) NoMemory) (sym e.1)
      (subst (λ (s : Side). HasFailed s new.parts.limit bytes (taken ++ mid.ready) NoMemory) (sym (ap (λ (r : ReaderState). r.side) parts ∙ kind.0))
      (subst (λ (n : ℕ). HasFailed was.side n bytes (taken ++ mid.ready) NoMemory) (sym (ap (λ (r : ReaderState). r.limit) parts ∙ kind.1)) w)),
)

-- ---- a piece, and a message taken

pub polled-joined : (old new : PollState) (fed : ReaderState) (piece bytes : List ℕ) (taken : List HttpMessage) → old.failed ≡ false
    → ((bytes : List ℕ) (parts : List Part) → HasRead old.parts bytes parts → HasRead fed (bytes ++ piece) parts)
    → HasPolled old bytes taken → Joins (record old { parts = fed }) (bytes ++ piece) taken
polled-joined old new fed piece bytes taken e read x =
    let w = subst (λ (b : Bool). PolledBy old bytes taken b) e x in
    record { parts = w.0.parts; read = read bytes w.0.parts w.0.read; joined = w.0.joined }

pub polled-failed : (old : PollState) (piece bytes : List ℕ) (taken : List HttpMessage) → old.failed ≡ true → HasPolled old bytes taken → HasPolled old (bytes ++ piece) taken
polled-failed old piece bytes taken e x =
    let w : WantedMemory old bytes taken = subst (λ (b : Bool). PolledBy old bytes taken b) e x in
    subst (λ (b : Bool). PolledBy old (bytes ++ piece) taken b) (sym e) (failed-longer old.parts.side old.parts.limit bytes piece (taken ++ old.ready) NoMemory w)

pub message-taken : (old new : PollState) (bytes : List ℕ) (taken gone : List HttpMessage) → old ≡ record new { ready = gone ++ new.ready } → HasPolled old bytes taken
    → HasPolled new bytes (taken ++ gone)
message-taken old new bytes taken gone e x =
    let o : PollState = record new { ready = gone ++ new.ready } in
    by new.failed (subst (λ (s : PollState). HasPolled s bytes taken) e x)
  where
    same : taken ++ (gone ++ new.ready) ≡ (taken ++ gone) ++ new.ready
    same = sym (append_assoc taken gone new.ready)

    by : (b : Bool) → PolledBy (record new { ready = gone ++ new.ready }) bytes taken b → PolledBy new bytes (taken ++ gone) b
    by false y = (
      record {
        parts = y.0.parts;
        read = y.0.read;
        joined = y.0.joined ∙ (λ i. record { whole = same i; under_way = new.under_way });
      },
      y.1,
    )
    by true y = subst (λ (w : List HttpMessage). HasFailed new.parts.side new.parts.limit bytes w NoMemory) same y

pub polled-ok : (old view new : PollState) (fed : ReaderState) (piece bytes : List ℕ) (taken : List HttpMessage) → view ≡ old → view.failed ≡ false
    → ((bytes : List ℕ) (parts : List Part) → HasRead view.parts bytes parts → HasRead fed (bytes ++ piece) parts)
    → SameParts (record view { parts = fed }) new → new.parts.ready ≡ []
    → ((bytes : List ℕ) (taken : List HttpMessage) → Joins (record view { parts = fed }) bytes taken → Joins new bytes taken)
    → HasPolled old bytes taken → HasPolled new (bytes ++ piece) taken
polled-ok old view new fed piece bytes taken is e read same none joins x =
    let y : HasPolled view bytes taken = subst (λ (s : PollState). HasPolled s bytes taken) (sym is) x in
    let j = joins (bytes ++ piece) taken (polled-joined view new fed piece bytes taken e read y) in
    subst (λ (b : Bool). PolledBy new (bytes ++ piece) taken b) (sym (same.failed ∙ e)) (j, none)

pub polled-err : (old view new : PollState) (fed : ReaderState) (piece bytes : List ℕ) (taken : List HttpMessage) → view ≡ old → view.failed ≡ false
    → ((bytes : List ℕ) (parts : List Part) → HasRead view.parts bytes parts → HasRead fed (bytes ++ piece) parts)
    → ((bytes : List ℕ) (taken : List HttpMessage) → Joins (record view { parts = fed }) bytes taken → WantedMemory new bytes taken)
    → HasPolled old bytes taken → WantedMemory new (bytes ++ piece) taken
polled-err old view new fed piece bytes taken is e read wants x =
    let y : HasPolled view bytes taken = subst (λ (s : PollState). HasPolled s bytes taken) (sym is) x in
    wants (bytes ++ piece) taken (polled-joined view new fed piece bytes taken e read y)

-- the reader of parts has failed
pub parts-failed : (old : PollState) (piece bytes : List ℕ) (taken : List HttpMessage) (why : HttpFail) → old.failed ≡ false → old.parts.failure ≡ Some why → HasPolled old bytes taken
    → HasPolled old (bytes ++ piece) taken
parts-failed old piece bytes taken why e f x =
    let w = subst (λ (b : Bool). PolledBy old bytes taken b) e x in
    subst (λ (b : Bool). PolledBy old (bytes ++ piece) taken b) (sym e)
    (record { parts = w.0.parts; read = failed-before old.parts piece bytes w.0.parts why f w.0.read; joined = w.0.joined }, w.1)

pub tells-answer : (state : PollState) (bytes : List ℕ) (messages : List HttpMessage) (f : Option HttpFail) → PollTells state bytes messages f → FailureIs state.parts.side state.parts.limit bytes f
tells-answer state bytes messages None x = answer-open state.parts.side state.parts.limit bytes messages state.under_way x
tells-answer state bytes messages (Some why) x = answer-failed state.parts.side state.parts.limit bytes messages why x

pub polled-answer : (state : PollState) (bytes : List ℕ) (taken : List HttpMessage) (f : Option HttpFail) → poll_failure state ≡ f → HasPolled state bytes taken
    → FailureIs state.parts.side state.parts.limit bytes f
polled-answer state bytes taken f e x =
    subst (λ (o : Option HttpFail). FailureIs state.parts.side state.parts.limit bytes o) e
    (tells-answer state bytes (taken ++ state.ready) (poll_failure state) (polled-tells state bytes taken x))

pub not-failed : (failed : Bool) (failure : Option HttpFail) (why : HttpFail) → failed ≡ false → failure ≡ None → failure_by failed failure ≡ Some why → ⊥
not-failed true failure why e f g = absurd (cc)
not-failed false failure why e f g = let z : None ≡ Some why = sym f ∙ g in absurd (cc)
