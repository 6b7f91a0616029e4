-- From what a step did to what the reader stands for.
use Rattle.std.proofs.Common.{◌≡◌, ℕ, ◌+◌, ◌-◌, ◌<◌, ◌≤◌, List, [], ◌∷◌, ◌++◌, length, take, drop, refl, sym, ap, ◌∙◌, subst, arith, append_assoc, append-nil, inl, inr, Option, Some, None, length-drop}
use Rattle.std.proofs.lemmas.List.{drop_all}
use Rattle.httparse.specs.Ascii.{crlf_bytes}
use Rattle.edge_heads.specs.declared.values.Side.{Side}
use Rattle.edge_heads.specs.declared.values.BodyForm.{BodyForm}
use Rattle.edge_heads.specs.declared.values.BodyForm.TheVariants.{Sized, Chunked}
use Rattle.edge_heads.specs.declared.values.HttpFail.{HttpFail}
use Rattle.edge_heads.specs.declared.values.HttpFail.TheVariants.{NoMemory}
use Rattle.edge_heads.specs.declared.values.HttpHead.{HttpHead}
use Rattle.edge_http.specs.declared.messages.HttpMessage.{HttpMessage}
use Rattle.edge_http.specs.declared.messages.Part.{Part}
use Rattle.edge_http.specs.declared.messages.Part.TheVariants as part
use Rattle.edge_http.specs.declared.messages.Stage.{Stage}
use Rattle.edge_http.specs.declared.messages.Stage.TheVariants as stage
use Rattle.edge_http.specs.Joined.{Joined, with_bytes, with_part, with_parts}
use Rattle.edge_heads.specs.Parsing.{IsHeadFound}
use Rattle.edge_heads.specs.Finds.{IsSizeFound, IsTrailerFound}
use Rattle.edge_http.specs.Readers.{ReaderState, Stands, StandsAt, HasFailed}
use Rattle.edge_http.specs.Steps.{Makes, Moves, Stops, Waits, Gives, body_parts}
use Rattle.edge_http.proofs.Stages.{head_to_body, head_to_chunks, head_to_done, body_on, body_done, size_to_data, size_to_trailer, data_on, data_done, ending_to_size, trailer_to_done}
use Rattle.edge_http.proofs.Ends.{no_memory}

-- ---- parts

pub parts-none : (j : Joined) → with_parts j [] ≡ j
unfolding with_parts
parts-none j = refl

pub parts-one : (j : Joined) (p : Part) → with_parts j (p ∷ []) ≡ with_part j p
unfolding with_parts
parts-one j p = refl

pub parts-append : (j : Joined) (a b : List Part) → with_parts j (a ++ b) ≡ with_parts (with_parts j a) b
unfolding with_parts
parts-append j [] b = refl
parts-append j (p ∷ a) b = parts-append (with_part j p) a b

pub parts-body : (j : Joined) (bytes : List ℕ) → with_parts j (body_parts bytes) ≡ record { whole = j.whole; under_way = with_bytes j.under_way bytes }
unfolding with_parts
parts-body j [] = λ i. record { whole = j.whole; under_way = sym (same j.under_way) i }
  where
    same : (u : Option HttpMessage) → with_bytes u [] ≡ u
    same None = refl
    same (Some m) = λ i. Some (record m { body = append-nil m.body i })
parts-body j (b ∷ bytes) = refl

-- ---- moves

pub moves : (old new : ReaderState) (more : List Part) (at : Stage) (unused : List ℕ) → Makes old new more → new.stage ≡ at → new.unused ≡ unused
    → ((bytes : List ℕ) (j : Joined) → StandsAt old bytes j → Stands old.side old.limit at unused bytes (with_parts j more).whole (with_parts j more).under_way)
    → Moves old new
moves old new more at unused makes s u step = record {
  more = more;
  makes = makes;
  stands = λ bytes j x.
      subst (λ (side : Side). Stands side new.limit new.stage new.unused bytes (with_parts j more).whole (with_parts j more).under_way) (sym makes.side)
      (subst (λ (limit : ℕ). Stands old.side limit new.stage new.unused bytes (with_parts j more).whole (with_parts j more).under_way) (sym makes.limit)
      (subst (λ (a : Stage). Stands old.side old.limit a new.unused bytes (with_parts j more).whole (with_parts j more).under_way) (sym s)
      (subst (λ (t : List ℕ). Stands old.side old.limit at t bytes (with_parts j more).whole (with_parts j more).under_way) (sym u) (step bytes j x))));
}

-- what stands at a known stage
at_stage : (old : ReaderState) (at : Stage) (bytes : List ℕ) (j : Joined) → old.stage ≡ at → StandsAt old bytes j → Stands old.side old.limit at old.unused bytes j.whole j.under_way
at_stage old at bytes j e x = subst (λ (a : Stage). Stands old.side old.limit a old.unused bytes j.whole j.under_way) e x

to_joined : (old : ReaderState) (at : Stage) (unused bytes : List ℕ) (j k : Joined) → j ≡ k → Stands old.side old.limit at unused bytes k.whole k.under_way
    → Stands old.side old.limit at unused bytes j.whole j.under_way
to_joined old at unused bytes j k e x = subst (λ (l : Joined). Stands old.side old.limit at unused bytes l.whole l.under_way) (sym e) x

pub moves-still : (state : ReaderState) → Moves state state
moves-still state =
    let makes : Makes state state [] = record { side = refl; limit = refl; failure = refl; ready = sym (append-nil state.ready) } in
    moves state state [] state.stage state.unused makes refl refl (λ bytes j x. to_joined state state.stage state.unused bytes (with_parts j []) j (parts-none j) x)

pub moves-on : (a b c : ReaderState) → Moves a b → Moves b c → Moves a c
moves-on a b c x y = record {
  more = x.more ++ y.more;
  makes = record {
    side = y.makes.side ∙ x.makes.side;
    limit = y.makes.limit ∙ x.makes.limit;
    failure = y.makes.failure ∙ x.makes.failure;
    ready = y.makes.ready ∙ ap (λ (t : List Part). t ++ y.more) x.makes.ready ∙ append_assoc a.ready x.more y.more;
  };
  stands = λ bytes j s. subst (λ (k : Joined). StandsAt c bytes k) (sym (parts-append j x.more y.more)) (y.stands bytes (with_parts j x.more) (x.stands bytes j s));
}

pub stops-on : (a b c : ReaderState) (why : HttpFail) → Moves a b → Stops b c why → Stops a c why
stops-on a b c why x y = record {
  more = x.more ++ y.more;
  makes = record {
    side = y.makes.side ∙ x.makes.side;
    limit = y.makes.limit ∙ x.makes.limit;
    failure = y.makes.failure ∙ x.makes.failure;
    ready = y.makes.ready ∙ ap (λ (t : List Part). t ++ y.more) x.makes.ready ∙ append_assoc a.ready x.more y.more;
  };
  fails = λ bytes j s.
      subst (λ (k : Joined). HasFailed a.side a.limit bytes k.whole why) (sym (parts-append j x.more y.more))
      (subst (λ (side : Side). HasFailed side a.limit bytes (with_parts (with_parts j x.more) y.more).whole why) x.makes.side
      (subst (λ (limit : ℕ). HasFailed b.side limit bytes (with_parts (with_parts j x.more) y.more).whole why) x.makes.limit
      (y.fails bytes (with_parts j x.more) (x.stands bytes j s))));
}

-- a failure where no part was made
pub stops : (old new : ReaderState) (why : HttpFail) (at : Stage) → Makes old new [] → old.stage ≡ at
    → ((bytes : List ℕ) (whole : List HttpMessage) (u : Option HttpMessage) → Stands old.side old.limit at old.unused bytes whole u → HasFailed old.side old.limit bytes whole why)
    → Stops old new why
stops old new why at makes e step = record {
  more = [];
  makes = makes;
  fails = λ bytes j s. subst (λ (k : Joined). HasFailed old.side old.limit bytes k.whole why) (sym (parts-none j)) (step bytes j.whole j.under_way (at_stage old at bytes j e s));
}

pub stops-memory : (old new : ReaderState) (why : HttpFail) → Makes old new [] → why ≡ NoMemory → Stops old new why
stops-memory old new why makes e =
    subst (λ (w : HttpFail). Stops old new w) (sym e)
    (stops old new NoMemory old.stage makes refl (λ bytes whole u s. no_memory old.side old.limit old.stage old.unused bytes whole u s))

pub makes-none : (old : ReaderState) → Makes old old []
makes-none old = record { side = refl; limit = refl; failure = refl; ready = sym (append-nil old.ready) }

-- ---- each step

pub moved-sized : (old new : ReaderState) (told : HttpHead) (form : BodyForm) (len n : ℕ) → old.stage ≡ stage.Head → IsHeadFound old.side old.unused told form len → form ≡ Sized n
    → n ≤ old.limit → 0 < n → Makes old new (part.Head told ∷ []) → new.unused ≡ drop len old.unused → new.stage ≡ stage.Sized n → Moves old new
moved-sized old new told form len n at x e within some makes u s =
    moves old new (part.Head told ∷ []) (stage.Sized n) (drop len old.unused) makes s u
    (λ bytes j z. to_joined old (stage.Sized n) (drop len old.unused) bytes (with_parts j (part.Head told ∷ [])) (with_part j (part.Head told)) (parts-one j (part.Head told))
    (head_to_body old.side old.limit n old.unused bytes j.whole j.under_way told form len x e within some (at_stage old stage.Head bytes j at z)))

pub moved-chunked : (old new : ReaderState) (told : HttpHead) (form : BodyForm) (len : ℕ) → old.stage ≡ stage.Head → IsHeadFound old.side old.unused told form len → form ≡ Chunked
    → Makes old new (part.Head told ∷ []) → new.unused ≡ drop len old.unused → new.stage ≡ stage.Size 0 → Moves old new
moved-chunked old new told form len at x e makes u s =
    moves old new (part.Head told ∷ []) (stage.Size 0) (drop len old.unused) makes s u
    (λ bytes j z. to_joined old (stage.Size 0) (drop len old.unused) bytes (with_parts j (part.Head told ∷ [])) (with_part j (part.Head told)) (parts-one j (part.Head told))
    (head_to_chunks old.side old.limit old.unused bytes j.whole j.under_way told form len x e (at_stage old stage.Head bytes j at z)))

parts-two : (j : Joined) (p q : Part) → with_parts j (p ∷ q ∷ []) ≡ with_part (with_part j p) q
unfolding with_parts
parts-two j p q = refl

pub moved-empty : (old new : ReaderState) (told : HttpHead) (form : BodyForm) (len : ℕ) → old.stage ≡ stage.Head → IsHeadFound old.side old.unused told form len → form ≡ Sized 0
    → Makes old new (part.Head told ∷ part.Done ∷ []) → new.unused ≡ drop len old.unused → new.stage ≡ stage.Head → Moves old new
moved-empty old new told form len at x e makes u s =
    moves old new (part.Head told ∷ part.Done ∷ []) stage.Head (drop len old.unused) makes s u
    (λ bytes j z. to_joined old stage.Head (drop len old.unused) bytes (with_parts j (part.Head told ∷ part.Done ∷ [])) (with_part (with_part j (part.Head told)) part.Done)
    (parts-two j (part.Head told) part.Done)
    (head_to_done old.side old.limit old.unused bytes j.whole j.under_way told form len x e (at_stage old stage.Head bytes j at z)))

-- a body goes on
pub moved-body : (old new : ReaderState) (left count : ℕ) → old.stage ≡ stage.Sized left → count ≤ length old.unused → count < left
    → Makes old new (body_parts (take count old.unused)) → new.unused ≡ drop count old.unused → new.stage ≡ stage.Sized (left - count) → Moves old new
moved-body old new left count at within less makes u s =
    moves old new (body_parts (take count old.unused)) (stage.Sized (left - count)) (drop count old.unused) makes s u
    (λ bytes j z. to_joined old (stage.Sized (left - count)) (drop count old.unused) bytes (with_parts j (body_parts (take count old.unused)))
    (record { whole = j.whole; under_way = with_bytes j.under_way (take count old.unused) }) (parts-body j (take count old.unused))
    (go bytes j.whole j.under_way (at_stage old (stage.Sized left) bytes j at z)))
  where
    go : (bytes : List ℕ) (whole : List HttpMessage) (v : Option HttpMessage) → Stands old.side old.limit (stage.Sized left) old.unused bytes whole v
        → Stands old.side old.limit (stage.Sized (left - count)) (drop count old.unused) bytes whole (with_bytes v (take count old.unused))
    go bytes whole None x = absurd x.at
    go bytes whole (Some m) x = body_on old.side old.limit left count old.unused bytes whole m within less x

parts-body-done : (j : Joined) (bytes : List ℕ) → with_parts j (body_parts bytes ++ part.Done ∷ []) ≡ with_part (record { whole = j.whole; under_way = with_bytes j.under_way bytes }) part.Done
parts-body-done j bytes =
    parts-append j (body_parts bytes) (part.Done ∷ []) ∙ ap (λ (k : Joined). with_parts k (part.Done ∷ [])) (parts-body j bytes)
    ∙ parts-one (record { whole = j.whole; under_way = with_bytes j.under_way bytes }) part.Done

pub moved-body-done : (old new : ReaderState) (left count : ℕ) → old.stage ≡ stage.Sized left → count ≤ length old.unused → count ≡ left
    → Makes old new (body_parts (take count old.unused) ++ part.Done ∷ []) → new.unused ≡ drop count old.unused → new.stage ≡ stage.Head → Moves old new
moved-body-done old new left count at within is makes u s =
    let now = take count old.unused in
    moves old new (body_parts now ++ part.Done ∷ []) stage.Head (drop count old.unused) makes s u
    (λ bytes j z. to_joined old stage.Head (drop count old.unused) bytes (with_parts j (body_parts now ++ part.Done ∷ []))
    (with_part (record { whole = j.whole; under_way = with_bytes j.under_way now }) part.Done) (parts-body-done j now)
    (go bytes j.whole j.under_way (at_stage old (stage.Sized left) bytes j at z)))
  where
    go : (bytes : List ℕ) (whole : List HttpMessage) (v : Option HttpMessage) → Stands old.side old.limit (stage.Sized left) old.unused bytes whole v
        → Stands old.side old.limit stage.Head (drop count old.unused) bytes (with_part (record { whole = whole; under_way = with_bytes v (take count old.unused) }) part.Done).whole None
    go bytes whole None x = absurd x.at
    go bytes whole (Some m) x = body_done old.side old.limit left count old.unused bytes whole m within is x

pub moved-data : (old new : ReaderState) (left sum count : ℕ) → old.stage ≡ stage.Data left sum → count ≤ length old.unused → count < left
    → Makes old new (body_parts (take count old.unused)) → new.unused ≡ drop count old.unused → new.stage ≡ stage.Data (left - count) sum → Moves old new
moved-data old new left sum count at within less makes u s =
    moves old new (body_parts (take count old.unused)) (stage.Data (left - count) sum) (drop count old.unused) makes s u
    (λ bytes j z. to_joined old (stage.Data (left - count) sum) (drop count old.unused) bytes (with_parts j (body_parts (take count old.unused)))
    (record { whole = j.whole; under_way = with_bytes j.under_way (take count old.unused) }) (parts-body j (take count old.unused))
    (go bytes j.whole j.under_way (at_stage old (stage.Data left sum) bytes j at z)))
  where
    go : (bytes : List ℕ) (whole : List HttpMessage) (v : Option HttpMessage) → Stands old.side old.limit (stage.Data left sum) old.unused bytes whole v
        → Stands old.side old.limit (stage.Data (left - count) sum) (drop count old.unused) bytes whole (with_bytes v (take count old.unused))
    go bytes whole None x = absurd x.at
    go bytes whole (Some m) x = data_on old.side old.limit left sum count old.unused bytes whole m within less x

pub moved-data-done : (old new : ReaderState) (left sum count : ℕ) → old.stage ≡ stage.Data left sum → count ≤ length old.unused → count ≡ left
    → Makes old new (body_parts (take count old.unused)) → new.unused ≡ drop count old.unused → new.stage ≡ stage.Ending sum → Moves old new
moved-data-done old new left sum count at within is makes u s =
    moves old new (body_parts (take count old.unused)) (stage.Ending sum) (drop count old.unused) makes s u
    (λ bytes j z. to_joined old (stage.Ending sum) (drop count old.unused) bytes (with_parts j (body_parts (take count old.unused)))
    (record { whole = j.whole; under_way = with_bytes j.under_way (take count old.unused) }) (parts-body j (take count old.unused))
    (go bytes j.whole j.under_way (at_stage old (stage.Data left sum) bytes j at z)))
  where
    go : (bytes : List ℕ) (whole : List HttpMessage) (v : Option HttpMessage) → Stands old.side old.limit (stage.Data left sum) old.unused bytes whole v
        → Stands old.side old.limit (stage.Ending sum) (drop count old.unused) bytes whole (with_bytes v (take count old.unused))
    go bytes whole None x = absurd x.at
    go bytes whole (Some m) x = data_done old.side old.limit left sum count old.unused bytes whole m within is x

-- a step that makes no part
quiet : (old new : ReaderState) (from at : Stage) (unused : List ℕ) → Makes old new [] → old.stage ≡ from → new.stage ≡ at → new.unused ≡ unused
    → ((bytes : List ℕ) (whole : List HttpMessage) (u : Option HttpMessage) → Stands old.side old.limit from old.unused bytes whole u → Stands old.side old.limit at unused bytes whole u)
    → Moves old new
quiet old new from at unused makes f s u step =
    moves old new [] at unused makes s u (λ bytes j z. to_joined old at unused bytes (with_parts j []) j (parts-none j) (step bytes j.whole j.under_way (at_stage old from bytes j f z)))

pub moved-size : (old new : ReaderState) (sum len size : ℕ) → old.stage ≡ stage.Size sum → IsSizeFound old.unused len size → 0 < size → sum + size ≤ old.limit
    → Makes old new [] → new.unused ≡ drop len old.unused → new.stage ≡ stage.Data size (sum + size) → Moves old new
moved-size old new sum len size at x some within makes u s = quiet old new (stage.Size sum) (stage.Data size (sum + size)) (drop len old.unused) makes at s u go
  where
    go : (bytes : List ℕ) (whole : List HttpMessage) (v : Option HttpMessage) → Stands old.side old.limit (stage.Size sum) old.unused bytes whole v
        → Stands old.side old.limit (stage.Data size (sum + size)) (drop len old.unused) bytes whole v
    go bytes whole None z = absurd z.at
    go bytes whole (Some m) z = size_to_data old.side old.limit sum len size old.unused bytes whole m x some within z

pub moved-last : (old new : ReaderState) (sum len size : ℕ) → old.stage ≡ stage.Size sum → IsSizeFound old.unused len size → size ≡ 0
    → Makes old new [] → new.unused ≡ drop len old.unused → new.stage ≡ stage.Trailer → Moves old new
moved-last old new sum len size at x none makes u s = quiet old new (stage.Size sum) stage.Trailer (drop len old.unused) makes at s u go
  where
    go : (bytes : List ℕ) (whole : List HttpMessage) (v : Option HttpMessage) → Stands old.side old.limit (stage.Size sum) old.unused bytes whole v
        → Stands old.side old.limit stage.Trailer (drop len old.unused) bytes whole v
    go bytes whole None z = absurd z.at
    go bytes whole (Some m) z = size_to_trailer old.side old.limit sum len size old.unused bytes whole m x none z

pub moved-ending : (old new : ReaderState) (sum : ℕ) → old.stage ≡ stage.Ending sum → old.unused ≡ crlf_bytes ++ drop 2 old.unused
    → Makes old new [] → new.unused ≡ drop 2 old.unused → new.stage ≡ stage.Size sum → Moves old new
moved-ending old new sum at x makes u s = quiet old new (stage.Ending sum) (stage.Size sum) (drop 2 old.unused) makes at s u go
  where
    go : (bytes : List ℕ) (whole : List HttpMessage) (v : Option HttpMessage) → Stands old.side old.limit (stage.Ending sum) old.unused bytes whole v
        → Stands old.side old.limit (stage.Size sum) (drop 2 old.unused) bytes whole v
    go bytes whole None z = absurd z.at
    go bytes whole (Some m) z = ending_to_size old.side old.limit sum old.unused bytes whole m x z

pub moved-trailer : (old new : ReaderState) (len : ℕ) → old.stage ≡ stage.Trailer → IsTrailerFound old.unused len
    → Makes old new (part.Done ∷ []) → new.unused ≡ drop len old.unused → new.stage ≡ stage.Head → Moves old new
moved-trailer old new len at x makes u s =
    moves old new (part.Done ∷ []) stage.Head (drop len old.unused) makes s u
    (λ bytes j z. to_joined old stage.Head (drop len old.unused) bytes (with_parts j (part.Done ∷ [])) (with_part j part.Done) (parts-one j part.Done)
    (go bytes j.whole j.under_way (at_stage old stage.Trailer bytes j at z)))
  where
    go : (bytes : List ℕ) (whole : List HttpMessage) (v : Option HttpMessage) → Stands old.side old.limit stage.Trailer old.unused bytes whole v
        → Stands old.side old.limit stage.Head (drop len old.unused) bytes (with_part (record { whole = whole; under_way = v }) part.Done).whole None
    go bytes whole None z = absurd z.at
    go bytes whole (Some m) z = trailer_to_done old.side old.limit len old.unused bytes whole m x z

-- some bytes were used
pub fewer : (bytes rest : List ℕ) (n : ℕ) → 0 < n → n ≤ length bytes → rest ≡ drop n bytes → length rest < length bytes
fewer bytes rest n some within e = omega (arith, ap length e, length-drop n bytes)

-- ---- states that differ in a few fields

pub same-makes : (old o : ReaderState) (at : Stage) (side : Side) (unused : List ℕ) → old ≡ o → side ≡ o.side → Makes old (record o { side = side; unused = unused; stage = at }) []
same-makes old o at side unused e s = record {
  side = s ∙ sym (ap (λ (r : ReaderState). r.side) e);
  limit = sym (ap (λ (r : ReaderState). r.limit) e);
  failure = sym (ap (λ (r : ReaderState). r.failure) e);
  ready = sym (ap (λ (r : ReaderState). r.ready) e) ∙ sym (append-nil old.ready);
}

pub staged-makes : (old mid o : ReaderState) (more : List Part) (at : Stage) → Makes old mid more → mid ≡ o → Makes old (record o { stage = at }) more
staged-makes old mid o more at m e = record {
  side = sym (ap (λ (r : ReaderState). r.side) e) ∙ m.side;
  limit = sym (ap (λ (r : ReaderState). r.limit) e) ∙ m.limit;
  failure = sym (ap (λ (r : ReaderState). r.failure) e) ∙ m.failure;
  ready = sym (ap (λ (r : ReaderState). r.ready) e) ∙ m.ready;
}

pub more-makes : (old mid new : ReaderState) (a b : List Part) → Makes old mid a → Makes mid new b → Makes old new (a ++ b)
more-makes old mid new a b x y = record {
  side = y.side ∙ x.side;
  limit = y.limit ∙ x.limit;
  failure = y.failure ∙ x.failure;
  ready = y.ready ∙ ap (λ (t : List Part). t ++ b) x.ready ∙ append_assoc old.ready a b;
}

pub waits-at : (state : ReaderState) (at : Stage) → state.stage ≡ at → Waits state.side at state.unused → Waits state.side state.stage state.unused
waits-at state at e w = subst (λ (s : Stage). Waits state.side s state.unused) (sym e) w

-- want of memory, where parts were made that end no message
pub stops-more : (old new : ReaderState) (why : HttpFail) (more : List Part) → Makes old new more → ((j : Joined) → (with_parts j more).whole ≡ j.whole) → why ≡ NoMemory → Stops old new why
stops-more old new why more makes same e =
    subst (λ (w : HttpFail). Stops old new w) (sym e) (record {
      more = more;
      makes = makes;
      fails = λ bytes j s. subst (λ (whole : List HttpMessage). HasFailed old.side old.limit bytes whole NoMemory) (sym (same j))
          (no_memory old.side old.limit old.stage old.unused bytes j.whole j.under_way s);
    })

pub whole-body : (bytes : List ℕ) (j : Joined) → (with_parts j (body_parts bytes)).whole ≡ j.whole
whole-body bytes j = ap (λ (k : Joined). k.whole) (parts-body j bytes)

pub whole-head : (told : HttpHead) (j : Joined) → (with_parts j (part.Head told ∷ [])).whole ≡ j.whole
whole-head told j = ap (λ (k : Joined). k.whole) (parts-one j (part.Head told))

pub makes-same : (old new : ReaderState) → new ≡ old → Makes old new []
makes-same old new e = subst (λ (n : ReaderState). Makes old n []) (sym e) (makes-none old)

-- nothing was changed after these parts
pub makes-then-same : (old mid new : ReaderState) (more : List Part) → Makes old mid more → new ≡ mid → Makes old new more
makes-then-same old mid new more m e = subst (λ (n : ReaderState). Makes old n more) (sym e) m

-- fewer bytes than are wanted were all that were there
pub spent : (old mid : ReaderState) (most count : ℕ) → Gives old mid most count → count < most → mid.unused ≡ []
spent old mid most count g less = elim g.all [
  | inl full ↦ absurd (omega arith)
  | inr all ↦ let out : length old.unused ≤ count = omega arith in g.unused ∙ drop_all count old.unused out
]

pub full : (old mid : ReaderState) (most count : ℕ) → Gives old mid most count → most ≤ count → count ≡ most
full old mid most count g most_le = let le : count ≤ most = g.least in omega arith

pub zero-drop : (bytes : List ℕ) → drop 0 bytes ≡ bytes
zero-drop bytes = refl
