-- Where reading waits, and where it fails.
use Rattle.std.proofs.Common.{◌≡◌, ℕ, ◌+◌, ◌<◌, ◌≤◌, List, [], ◌++◌, length, drop, refl, sym, ap, ◌∙◌, subst, arith, append_assoc, append-nil, inl, inr, Option, Some, None}
use Rattle.httparse.specs.Grammar.{print_chunk_line, chunk_size}
use Rattle.edge_heads.specs.declared.values.Side.{Side}
use Rattle.edge_heads.specs.declared.values.BodyForm.{BodyForm}
use Rattle.edge_heads.specs.declared.values.BodyForm.TheVariants.{Sized, Chunked, Missing, Wrong}
use Rattle.edge_heads.specs.declared.values.HttpFail.{HttpFail}
use Rattle.edge_heads.specs.declared.values.HttpFail.TheVariants.{BadHead, HeadTooLong, TooManyHeaders, NoLength, BadChunk, BodyTooLarge, NoMemory}
use Rattle.edge_heads.specs.declared.values.HttpHead.{HttpHead}
use Rattle.edge_http.specs.declared.messages.HttpMessage.{HttpMessage}
use Rattle.edge_http.specs.declared.messages.Stage.{Stage}
use Rattle.edge_http.specs.declared.messages.Stage.TheVariants as stage
use Rattle.edge_heads.specs.Heads.{print_head, IsFittingHead, head_value}
use Rattle.edge_heads.specs.Bodies.{Chunk, print_chunks, content_of, AreChunks, IsNoSize, IsNoTrailer, IsBadChunk, IsLargeChunk, NeverEnds}
use Rattle.edge_http.specs.Streams.{with_body, HasForm, HasChunks, Fails, IsBodyBegun, IsMessageBegun, Open, Failed, Reads}
use Rattle.edge_heads.specs.Heads.{IsHeadBegun}
use Rattle.edge_heads.specs.Parsing.{IsHeadFound, HeadFails}
use Rattle.edge_heads.specs.Finds.{IsSizeFound}
use Rattle.edge_http.specs.Readers.{UsesHead, Stands, HasFailed}
use Rattle.edge_http.specs.Steps.{Waits}

fitting : (side : Side) (used unused after content : List ℕ) (m : HttpMessage) (form : BodyForm) (x : UsesHead side used m form after content)
    → IsFittingHead side (used ++ unused) x.head (after ++ unused)
fitting side used unused after content m form x = record {
  reads = (x.is_head, ap (λ (t : List ℕ). t ++ unused) x.parts ∙ append_assoc (print_head x.head) after unused);
  fits = x.fits;
}

-- a chunked body that is begun
chunks_begun : (side : Side) (limit : ℕ) (used unused after content tail more : List ℕ) (m : HttpMessage) (x : UsesHead side used m Chunked after content)
    → (body : IsBodyBegun limit Chunked tail more) → after ++ unused ≡ tail → content ≡ more → IsMessageBegun side limit (used ++ unused) m
chunks_begun side limit used unused after content tail more m x body e f = record {
  head = x.head;
  after = tail;
  reads = subst (λ (t : List ℕ). IsFittingHead side (used ++ unused) x.head t) e (fitting side used unused after content m Chunked x);
  content = more;
  body = subst (λ (g : BodyForm). IsBodyBegun limit g tail more) (sym x.form_is) body;
  value = x.value ∙ ap (λ (t : List ℕ). with_body (head_value x.head) t) f;
}

pub waiting : (side : Side) (limit : ℕ) (at : Stage) (unused bytes : List ℕ) (whole : List HttpMessage) (under_way : Option HttpMessage)
    → Stands side limit at unused bytes whole under_way → Waits side at unused → Reads side limit bytes whole (Open under_way)
waiting side limit stage.Head unused bytes whole None s w = record {
  rest = s.used ++ unused;
  begins = s.begins;
  is_rest = subst (λ (t : List ℕ). IsHeadBegun side t) (sym (ap (λ (t : List ℕ). t ++ unused) s.at)) w;
}
waiting side limit stage.Head unused bytes whole (Some m) s w = absurd s.at
waiting side limit (stage.Sized left) unused bytes whole None s w = absurd s.at
waiting side limit (stage.Sized left) unused bytes whole (Some m) s w =
    let x = s.at in
    let some : 0 < left = x.some in
    let want : length x.content + left ≡ x.size = x.wanting in
    let short : length x.content < x.size = omega arith in
    let same : x.content ++ unused ≡ x.content = ap (λ (t : List ℕ). x.content ++ t) w ∙ append-nil x.content in
    record {
      rest = s.used ++ unused;
      begins = s.begins;
      is_rest = record {
        head = x.head.head;
        after = x.content;
        reads = subst (λ (t : List ℕ). IsFittingHead side (s.used ++ unused) x.head.head t) same (fitting side s.used unused x.content x.content m (Sized x.size) x.head);
        content = x.content;
        body = subst (λ (g : BodyForm). IsBodyBegun limit g x.content x.content) (sym x.head.form_is) (x.within, short, refl);
        value = x.head.value;
      };
    }
waiting side limit (stage.Size sum) unused bytes whole None s w = absurd s.at
waiting side limit (stage.Size sum) unused bytes whole (Some m) s w =
    let x = s.at in
    record {
      rest = s.used ++ unused;
      begins = s.begins;
      is_rest = chunks_begun side limit s.used unused (print_chunks x.chunks) (content_of x.chunks) (print_chunks x.chunks ++ unused) (content_of x.chunks ++ []) m x.head
          (x.chunks, unused, [], x.are, refl, inl (w, refl), refl) refl (sym (append-nil (content_of x.chunks)));
    }
waiting side limit (stage.Data left sum) unused bytes whole None s w = absurd s.at
waiting side limit (stage.Data left sum) unused bytes whole (Some m) s w =
    let x = s.at.1 in
    let some : 0 < left = s.at.0 in
    let want : length x.content + left ≡ chunk_size x.line = x.wanting in
    let short : length x.content < chunk_size x.line = omega arith in
    let sum_is : sum ≡ length (content_of x.chunks) + chunk_size x.line = x.sum_is in
    let within : sum ≤ limit = x.within in
    let tail = print_chunk_line x.line ++ x.content in
    record {
      rest = s.used ++ unused;
      begins = s.begins;
      is_rest = chunks_begun side limit s.used unused (print_chunks x.chunks ++ tail) (content_of x.chunks ++ x.content) (print_chunks x.chunks ++ tail) (content_of x.chunks ++ x.content) m x.head (
        x.chunks,
        tail,
        x.content,
        x.are,
        refl,
        inr (inl (record { line = x.line; is_line = x.is_line; within = omega arith; short = short; parts = refl })),
        refl,
      )
          (ap (λ (t : List ℕ). (print_chunks x.chunks ++ tail) ++ t) w ∙ append-nil (print_chunks x.chunks ++ tail)) refl;
    }
waiting side limit (stage.Ending sum) unused bytes whole None s w = absurd s.at
waiting side limit (stage.Ending sum) unused bytes whole (Some m) s w =
    let x = s.at in
    let want : length x.content + 0 ≡ chunk_size x.line = x.wanting in
    let full : length x.content ≡ chunk_size x.line = omega arith in
    let sum_is : sum ≡ length (content_of x.chunks) + chunk_size x.line = x.sum_is in
    let within : sum ≤ limit = x.within in
    let tail = print_chunk_line x.line ++ (x.content ++ unused) in
    record {
      rest = s.used ++ unused;
      begins = s.begins;
      is_rest = chunks_begun side limit s.used unused (print_chunks x.chunks ++ (print_chunk_line x.line ++ x.content)) (content_of x.chunks ++ x.content)
          (print_chunks x.chunks ++ tail) (content_of x.chunks ++ x.content) m x.head (
            x.chunks,
            tail,
            x.content,
            x.are,
            refl,
            inr (inr (inl (unused, record { line = x.line; is_line = x.is_line; some = x.some; within = omega arith; whole = full; parts = refl }, w))),
            refl,
          )
          (regroup (print_chunks x.chunks) (print_chunk_line x.line) x.content unused) refl;
    }
  where
    regroup : (a b c d : List ℕ) → (a ++ (b ++ c)) ++ d ≡ a ++ (b ++ (c ++ d))
    regroup a b c d = simp append_assoc
waiting side limit stage.Trailer unused bytes whole None s w = absurd s.at
waiting side limit stage.Trailer unused bytes whole (Some m) s w =
    let x = s.at in
    let tail = print_chunk_line x.line ++ unused in
    record {
      rest = s.used ++ unused;
      begins = s.begins;
      is_rest = chunks_begun side limit s.used unused (print_chunks x.chunks ++ print_chunk_line x.line) (content_of x.chunks)
          (print_chunks x.chunks ++ tail) (content_of x.chunks ++ []) m x.head
          (x.chunks, tail, [], x.are, refl, inr (inr (inr (unused, (x.line, x.is_last, refl), w, refl))), refl)
          (append_assoc (print_chunks x.chunks) (print_chunk_line x.line) unused) (sym (append-nil (content_of x.chunks)));
    }

-- ---- failures

pub failed : (side : Side) (limit : ℕ) (bytes : List ℕ) (whole : List HttpMessage) (why : HttpFail) → Reads side limit bytes whole (Failed why) → HasFailed side limit bytes whole why
failed side limit bytes whole why x = inr x

pub no_memory : (side : Side) (limit : ℕ) (at : Stage) (unused bytes : List ℕ) (whole : List HttpMessage) (under_way : Option HttpMessage)
    → Stands side limit at unused bytes whole under_way → HasFailed side limit bytes whole NoMemory
no_memory side limit at unused bytes whole under_way s = inl (refl, s.used ++ unused, s.begins)

at_head : (side : Side) (limit : ℕ) (unused bytes : List ℕ) (whole : List HttpMessage) (under_way : Option HttpMessage) (why : HttpFail)
    → Stands side limit stage.Head unused bytes whole under_way → Fails side limit unused why → Reads side limit bytes whole (Failed why)
at_head side limit unused bytes whole None why s f = record {
  rest = s.used ++ unused;
  begins = s.begins;
  is_rest = subst (λ (t : List ℕ). Fails side limit t why) (sym (ap (λ (t : List ℕ). t ++ unused) s.at)) f;
}
at_head side limit unused bytes whole (Some m) why s f = absurd s.at

pub head_failed : (side : Side) (limit : ℕ) (unused bytes : List ℕ) (whole : List HttpMessage) (under_way : Option HttpMessage) (why : HttpFail)
    → Stands side limit stage.Head unused bytes whole under_way → HeadFails side unused why → HasFailed side limit bytes whole why
head_failed side limit unused bytes whole u BadHead s f = failed side limit bytes whole BadHead (at_head side limit unused bytes whole u BadHead s (inl f))
head_failed side limit unused bytes whole u HeadTooLong s f = failed side limit bytes whole HeadTooLong (at_head side limit unused bytes whole u HeadTooLong s f)
head_failed side limit unused bytes whole u TooManyHeaders s f = failed side limit bytes whole TooManyHeaders (at_head side limit unused bytes whole u TooManyHeaders s f)
head_failed side limit unused bytes whole u NoLength s f = absurd f
head_failed side limit unused bytes whole u BadChunk s f = absurd f
head_failed side limit unused bytes whole u BodyTooLarge s f = absurd f
head_failed side limit unused bytes whole u NoMemory s f = no_memory side limit stage.Head unused bytes whole u s

has_form : (side : Side) (unused : List ℕ) (told : HttpHead) (form want : BodyForm) (len : ℕ) → IsHeadFound side unused told form len → form ≡ want → HasForm side unused want
has_form side unused told form want len x e = (x.head, drop len unused, x.reads, sym x.form_is ∙ e)

pub wrong_failed : (side : Side) (limit : ℕ) (unused bytes : List ℕ) (whole : List HttpMessage) (under_way : Option HttpMessage) (told : HttpHead) (form : BodyForm) (len : ℕ)
    → IsHeadFound side unused told form len → form ≡ Wrong → Stands side limit stage.Head unused bytes whole under_way → HasFailed side limit bytes whole BadHead
wrong_failed side limit unused bytes whole u told form len x e s =
    failed side limit bytes whole BadHead (at_head side limit unused bytes whole u BadHead s (inr (has_form side unused told form Wrong len x e)))

pub missing_failed : (side : Side) (limit : ℕ) (unused bytes : List ℕ) (whole : List HttpMessage) (under_way : Option HttpMessage) (told : HttpHead) (form : BodyForm) (len : ℕ)
    → IsHeadFound side unused told form len → form ≡ Missing → Stands side limit stage.Head unused bytes whole under_way → HasFailed side limit bytes whole NoLength
missing_failed side limit unused bytes whole u told form len x e s =
    failed side limit bytes whole NoLength (at_head side limit unused bytes whole u NoLength s (has_form side unused told form Missing len x e))

pub large_failed : (side : Side) (limit n : ℕ) (unused bytes : List ℕ) (whole : List HttpMessage) (under_way : Option HttpMessage) (told : HttpHead) (form : BodyForm) (len : ℕ)
    → IsHeadFound side unused told form len → form ≡ Sized n → limit < n → Stands side limit stage.Head unused bytes whole under_way → HasFailed side limit bytes whole BodyTooLarge
large_failed side limit n unused bytes whole u told form len x e large s =
    failed side limit bytes whole BodyTooLarge (at_head side limit unused bytes whole u BodyTooLarge s (inl (n, has_form side unused told form (Sized n) len x e, large)))

-- chunks, and then a tail that fails
has_chunks : (side : Side) (limit : ℕ) (used unused after content tail : List ℕ) (m : HttpMessage) (x : UsesHead side used m Chunked after content)
    (chunks : List Chunk) (are : AreChunks limit chunks) (Then : ℕ → List ℕ → Type 0) → after ++ unused ≡ print_chunks chunks ++ tail → Then (length (content_of chunks)) tail
    → HasChunks side limit (used ++ unused) Then
has_chunks side limit used unused after content tail m x chunks are Then e f = record {
  head = x.head;
  after = after ++ unused;
  reads = fitting side used unused after content m Chunked x;
  form = x.form_is;
  chunks = chunks;
  tail = tail;
  are = are;
  parts = e;
  holds = f;
}

pub size_failed : (side : Side) (limit sum : ℕ) (unused bytes : List ℕ) (whole : List HttpMessage) (under_way : Option HttpMessage)
    → Stands side limit (stage.Size sum) unused bytes whole under_way → IsNoSize unused → HasFailed side limit bytes whole BadChunk
size_failed side limit sum unused bytes whole None s f = absurd s.at
size_failed side limit sum unused bytes whole (Some m) s f =
    let x = s.at in
    failed side limit bytes whole BadChunk (record {
      rest = s.used ++ unused;
      begins = s.begins;
      is_rest = has_chunks side limit s.used unused (print_chunks x.chunks) (content_of x.chunks) unused m x.head x.chunks x.are (IsBadChunk limit) refl (inl f);
    })

pub sum_failed : (side : Side) (limit sum len size : ℕ) (unused bytes : List ℕ) (whole : List HttpMessage) (under_way : Option HttpMessage)
    → Stands side limit (stage.Size sum) unused bytes whole under_way → IsSizeFound unused len size → limit < sum + size → HasFailed side limit bytes whole BodyTooLarge
sum_failed side limit sum len size unused bytes whole None s f large = absurd s.at
sum_failed side limit sum len size unused bytes whole (Some m) s f large =
    let x = s.at in
    let is : size ≡ chunk_size f.line = f.size_is in
    let summed : sum ≡ length (content_of x.chunks) = x.sum_is in
    failed side limit bytes whole BodyTooLarge (record {
      rest = s.used ++ unused;
      begins = s.begins;
      is_rest = inr (has_chunks side limit s.used unused (print_chunks x.chunks) (content_of x.chunks) unused m x.head x.chunks x.are (IsLargeChunk limit) refl
          (f.line, drop len unused, f.begins, omega arith));
    })

pub ending_failed : (side : Side) (limit sum : ℕ) (unused bytes : List ℕ) (whole : List HttpMessage) (under_way : Option HttpMessage)
    → Stands side limit (stage.Ending sum) unused bytes whole under_way → NeverEnds unused → HasFailed side limit bytes whole BadChunk
ending_failed side limit sum unused bytes whole None s f = absurd s.at
ending_failed side limit sum unused bytes whole (Some m) s f =
    let x = s.at in
    let want : length x.content + 0 ≡ chunk_size x.line = x.wanting in
    let full : length x.content ≡ chunk_size x.line = omega arith in
    let sum_is : sum ≡ length (content_of x.chunks) + chunk_size x.line = x.sum_is in
    let within : sum ≤ limit = x.within in
    failed side limit bytes whole BadChunk (record {
      rest = s.used ++ unused;
      begins = s.begins;
      is_rest = has_chunks side limit s.used unused (print_chunks x.chunks ++ (print_chunk_line x.line ++ x.content)) (content_of x.chunks ++ x.content)
          (print_chunk_line x.line ++ (x.content ++ unused)) m x.head x.chunks x.are (IsBadChunk limit)
          (regroup (print_chunks x.chunks) (print_chunk_line x.line) x.content unused)
          (inr (inl (x.content, unused, record { line = x.line; is_line = x.is_line; some = x.some; within = omega arith; whole = full; parts = refl }, f)));
    })
  where
    regroup : (a b c d : List ℕ) → (a ++ (b ++ c)) ++ d ≡ a ++ (b ++ (c ++ d))
    regroup a b c d = simp append_assoc

pub trailer_failed : (side : Side) (limit : ℕ) (unused bytes : List ℕ) (whole : List HttpMessage) (under_way : Option HttpMessage)
    → Stands side limit stage.Trailer unused bytes whole under_way → IsNoTrailer unused → HasFailed side limit bytes whole BadChunk
trailer_failed side limit unused bytes whole None s f = absurd s.at
trailer_failed side limit unused bytes whole (Some m) s f =
    let x = s.at in
    failed side limit bytes whole BadChunk (record {
      rest = s.used ++ unused;
      begins = s.begins;
      is_rest = has_chunks side limit s.used unused (print_chunks x.chunks ++ print_chunk_line x.line) (content_of x.chunks)
          (print_chunk_line x.line ++ unused) m x.head x.chunks x.are (IsBadChunk limit)
          (append_assoc (print_chunks x.chunks) (print_chunk_line x.line) unused)
          (inr (inr (unused, (x.line, x.is_last, refl), f)));
    })
