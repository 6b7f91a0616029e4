-- What each step of a reader leaves.
use Rattle.std.proofs.Common.{◌≡◌, ℕ, ◌+◌, ◌-◌, ◌<◌, ◌≤◌, List, [], ◌∷◌, ◌++◌, length, take, drop, refl, sym, ap, ◌∙◌, subst, arith, append_assoc, append-nil, length-append, Option, Some, None}
use Rattle.std.proofs.lemmas.List.{take-append-drop, map_push, length-take-le}
use Rattle.std.proofs.lemmas.List.Elements.{All-push, All-nil}
use Rattle.std.proofs.lemmas.Grind.{flat_map-append}
use Rattle.httparse.specs.Ascii.{crlf_bytes}
use Rattle.httparse.specs.Grammar.{print_section, print_chunk_line, chunk_size}
use Rattle.edge_heads.specs.declared.values.Side.{Side}
use Rattle.edge_heads.specs.declared.values.BodyForm.{BodyForm}
use Rattle.edge_heads.specs.declared.values.BodyForm.TheVariants.{Sized, Chunked}
use Rattle.edge_heads.specs.declared.values.HttpHead.{HttpHead}
use Rattle.edge_http.specs.declared.messages.HttpMessage.{HttpMessage}
use Rattle.edge_http.specs.declared.messages.Stage.TheVariants as stage
use Rattle.edge_heads.specs.Heads.{print_head, head_value}
use Rattle.edge_heads.specs.Bodies.{Chunk, print_chunk, print_chunks, content_of, IsChunk, plain, chunked, IsBody}
use Rattle.edge_http.specs.Streams.{Message, print_message, print_messages, IsMessage, with_body, message_value, Begins}
use Rattle.edge_heads.specs.Parsing.{IsHeadFound}
use Rattle.edge_heads.specs.Finds.{IsSizeFound, IsTrailerFound}
use Rattle.edge_http.specs.Readers.{UsesHead, IsAtData, Stands}

-- ---- streams

pub begins-rest : (side : Side) (limit : ℕ) (bytes : List ℕ) (whole : List HttpMessage) (rest rest' : List ℕ) → rest ≡ rest'
    → Begins side limit bytes whole rest → Begins side limit bytes whole rest'
begins-rest side limit bytes whole rest rest' e x = subst (λ (t : List ℕ). Begins side limit bytes whole t) e x

-- one more message
pub begins-more : (side : Side) (limit : ℕ) (bytes : List ℕ) (whole : List HttpMessage) (message : Message) (value : HttpMessage) (rest after : List ℕ)
    → IsMessage side limit message → value ≡ message_value message → rest ≡ print_message message ++ after
    → Begins side limit bytes whole rest → Begins side limit bytes (whole ++ value ∷ []) after
begins-more side limit bytes whole message value rest after is told e x = record {
  written = x.written ++ message ∷ [];
  each = All-push (IsMessage side limit) x.written message x.each is;
  told = map_push message_value x.written message ∙ (λ i. x.told i ++ sym told i ∷ []);
  parts = x.parts ∙ ap (λ (t : List ℕ). print_messages x.written ++ t) e
      ∙ sym (append_assoc (print_messages x.written) (print_message message) after)
      ∙ ap (λ (t : List ℕ). t ++ after) (sym (flat_map-append print_message x.written (message ∷ [])
      ∙ ap (λ (t : List ℕ). print_messages x.written ++ t) (append-nil (print_message message))));
}

-- ---- from the head on

uses : (side : Side) (unused : List ℕ) (told : HttpHead) (form : BodyForm) (len : ℕ) (x : IsHeadFound side unused told form len) (want : BodyForm) → form ≡ want
    → UsesHead side (print_head x.head) (with_body told []) want [] []
uses side unused told form len x want e = record {
  head = x.head;
  is_head = x.reads.reads.0;
  fits = x.reads.fits;
  form_is = sym x.form_is ∙ e;
  parts = sym (append-nil (print_head x.head));
  value = ap (λ (h : HttpHead). with_body h []) x.told_is;
}

pub head_to_body : (side : Side) (limit n : ℕ) (unused bytes : List ℕ) (whole : List HttpMessage) (under_way : Option HttpMessage) (told : HttpHead) (form : BodyForm) (len : ℕ)
    → IsHeadFound side unused told form len → form ≡ Sized n → n ≤ limit → 0 < n
    → Stands side limit stage.Head unused bytes whole under_way
    → Stands side limit (stage.Sized n) (drop len unused) bytes whole (Some (with_body told []))
head_to_body side limit n unused bytes whole None told form len x e within some s = record {
  used = print_head x.head;
  begins = begins-rest side limit bytes whole _ _ (ap (λ (t : List ℕ). t ++ unused) s.at ∙ x.reads.reads.1) s.begins;
  at = record { size = n; content = []; head = uses side unused told form len x (Sized n) e; within = within; some = some; wanting = omega arith };
}
head_to_body side limit n unused bytes whole (Some m) told form len x e within some s = absurd s.at

pub head_to_chunks : (side : Side) (limit : ℕ) (unused bytes : List ℕ) (whole : List HttpMessage) (under_way : Option HttpMessage) (told : HttpHead) (form : BodyForm) (len : ℕ)
    → IsHeadFound side unused told form len → form ≡ Chunked
    → Stands side limit stage.Head unused bytes whole under_way
    → Stands side limit (stage.Size 0) (drop len unused) bytes whole (Some (with_body told []))
head_to_chunks side limit unused bytes whole None told form len x e s = record {
  used = print_head x.head;
  begins = begins-rest side limit bytes whole _ _ (ap (λ (t : List ℕ). t ++ unused) s.at ∙ x.reads.reads.1) s.begins;
  at = record { chunks = []; head = uses side unused told form len x Chunked e; are = record { each = All-nil IsChunk; within = omega arith }; sum_is = refl };
}
head_to_chunks side limit unused bytes whole (Some m) told form len x e s = absurd s.at

pub head_to_done : (side : Side) (limit : ℕ) (unused bytes : List ℕ) (whole : List HttpMessage) (under_way : Option HttpMessage) (told : HttpHead) (form : BodyForm) (len : ℕ)
    → IsHeadFound side unused told form len → form ≡ Sized 0
    → Stands side limit stage.Head unused bytes whole under_way
    → Stands side limit stage.Head (drop len unused) bytes (whole ++ with_body told [] ∷ []) None
unfolding print_message
head_to_done side limit unused bytes whole None told form len x e s = record {
  used = [];
  begins = begins-more side limit bytes whole (record { head = x.head; body = plain [] }) (with_body told []) _ (drop len unused)
      (record { head = x.reads.reads.0; fits = x.reads.fits; body = subst (λ (f : BodyForm). IsBody limit f (plain [])) (sym (sym x.form_is ∙ e)) (refl, omega arith) })
      (ap (λ (h : HttpHead). with_body h []) x.told_is)
      (ap (λ (t : List ℕ). t ++ unused) s.at ∙ x.reads.reads.1 ∙ ap (λ (t : List ℕ). t ++ drop len unused) (sym (append-nil (print_head x.head))))
      s.begins;
  at = refl;
}
head_to_done side limit unused bytes whole (Some m) told form len x e s = absurd s.at

-- ---- bytes of a body

abbrev pub with_more : HttpMessage → List ℕ → HttpMessage
with_more m bytes = record m { body = m.body ++ bytes }

more_told : (m : HttpMessage) (head : HttpHead) (content bytes : List ℕ) → m ≡ with_body head content → with_more m bytes ≡ with_body head (content ++ bytes)
more_told m head content bytes e = ap (λ (k : HttpMessage). with_more k bytes) e

taken : (used unused : List ℕ) (count : ℕ) → used ++ unused ≡ (used ++ take count unused) ++ drop count unused
taken used unused count = ap (λ (t : List ℕ). used ++ t) (sym (take-append-drop count unused)) ∙ sym (append_assoc used (take count unused) (drop count unused))

-- some bytes of a body of known length, and not all
pub body_on : (side : Side) (limit left count : ℕ) (unused bytes : List ℕ) (whole : List HttpMessage) (m : HttpMessage)
    → count ≤ length unused → count < left
    → Stands side limit (stage.Sized left) unused bytes whole (Some m)
    → Stands side limit (stage.Sized (left - count)) (drop count unused) bytes whole (Some (with_more m (take count unused)))
body_on side limit left count unused bytes whole m within less s =
    let x = s.at in
    let now = take count unused in
    let len : length now ≡ count = length-take-le count unused within in
    let sum : length (x.content ++ now) ≡ length x.content + length now = length-append x.content now in
    let want : length x.content + left ≡ x.size = x.wanting in
    record {
      used = s.used ++ now;
      begins = begins-rest side limit bytes whole _ _ (taken s.used unused count) s.begins;
      at = record {
        size = x.size;
        content = x.content ++ now;
        head = record {
          head = x.head.head;
          is_head = x.head.is_head;
          fits = x.head.fits;
          form_is = x.head.form_is;
          parts = ap (λ (t : List ℕ). t ++ now) x.head.parts ∙ append_assoc (print_head x.head.head) x.content now;
          value = more_told m (head_value x.head.head) x.content now x.head.value;
        };
        within = x.within;
        some = omega arith;
        wanting = omega arith;
      };
    }

-- all of them
pub body_done : (side : Side) (limit left count : ℕ) (unused bytes : List ℕ) (whole : List HttpMessage) (m : HttpMessage)
    → count ≤ length unused → count ≡ left
    → Stands side limit (stage.Sized left) unused bytes whole (Some m)
    → Stands side limit stage.Head (drop count unused) bytes (whole ++ with_more m (take count unused) ∷ []) None
unfolding print_message
body_done side limit left count unused bytes whole m within is s =
    let x = s.at in
    let now = take count unused in
    let len : length now ≡ count = length-take-le count unused within in
    let sum : length (x.content ++ now) ≡ length x.content + length now = length-append x.content now in
    let want : length x.content + left ≡ x.size = x.wanting in
    let full : length (x.content ++ now) ≡ x.size = omega arith in
    record {
      used = [];
      begins = begins-more side limit bytes whole (record { head = x.head.head; body = plain (x.content ++ now) }) (with_more m now) _ (drop count unused)
          (record {
            head = x.head.is_head;
            fits = x.head.fits;
            body = subst (λ (f : BodyForm). IsBody limit f (plain (x.content ++ now))) (sym x.head.form_is) (full, x.within);
          })
          (more_told m (head_value x.head.head) x.content now x.head.value)
          (taken s.used unused count ∙ ap (λ (t : List ℕ). (t ++ now) ++ drop count unused) x.head.parts
          ∙ ap (λ (t : List ℕ). t ++ drop count unused) (append_assoc (print_head x.head.head) x.content now))
          s.begins;
      at = refl;
    }

-- ---- chunks

pub size_to_data : (side : Side) (limit sum len size : ℕ) (unused bytes : List ℕ) (whole : List HttpMessage) (m : HttpMessage)
    → IsSizeFound unused len size → 0 < size → sum + size ≤ limit
    → Stands side limit (stage.Size sum) unused bytes whole (Some m)
    → Stands side limit (stage.Data size (sum + size)) (drop len unused) bytes whole (Some m)
size_to_data side limit sum len size unused bytes whole m f some within s =
    let x = s.at in
    let text = print_chunk_line f.line in
    let is : size ≡ chunk_size f.line = f.size_is in
    let summed : sum ≡ length (content_of x.chunks) = x.sum_is in
    record {
      used = s.used ++ text;
      begins = begins-rest side limit bytes whole _ _ (ap (λ (t : List ℕ). s.used ++ t) f.begins.1 ∙ sym (append_assoc s.used text (drop len unused))) s.begins;
      at = (
        some,
        record {
          chunks = x.chunks;
          line = f.line;
          content = [];
          head = record {
            head = x.head.head;
            is_head = x.head.is_head;
            fits = x.head.fits;
            form_is = x.head.form_is;
            parts = ap (λ (t : List ℕ). t ++ text) x.head.parts ∙ append_assoc (print_head x.head.head) (print_chunks x.chunks) text
                ∙ ap (λ (t : List ℕ). print_head x.head.head ++ (print_chunks x.chunks ++ t)) (sym (append-nil text));
            value = x.head.value ∙ ap (λ (t : List ℕ). with_body (head_value x.head.head) t) (sym (append-nil (content_of x.chunks)));
          };
          are = x.are;
          is_line = f.begins.0;
          some = omega arith;
          wanting = omega arith;
          sum_is = omega arith;
          within = within;
        },
      );
    }

pub size_to_trailer : (side : Side) (limit sum len size : ℕ) (unused bytes : List ℕ) (whole : List HttpMessage) (m : HttpMessage)
    → IsSizeFound unused len size → size ≡ 0
    → Stands side limit (stage.Size sum) unused bytes whole (Some m)
    → Stands side limit stage.Trailer (drop len unused) bytes whole (Some m)
size_to_trailer side limit sum len size unused bytes whole m f none s =
    let x = s.at in
    let text = print_chunk_line f.line in
    record {
      used = s.used ++ text;
      begins = begins-rest side limit bytes whole _ _ (ap (λ (t : List ℕ). s.used ++ t) f.begins.1 ∙ sym (append_assoc s.used text (drop len unused))) s.begins;
      at = record {
        chunks = x.chunks;
        line = f.line;
        head = record {
          head = x.head.head;
          is_head = x.head.is_head;
          fits = x.head.fits;
          form_is = x.head.form_is;
          parts = ap (λ (t : List ℕ). t ++ text) x.head.parts ∙ append_assoc (print_head x.head.head) (print_chunks x.chunks) text;
          value = x.head.value;
        };
        are = x.are;
        is_last = record { is_line = f.begins.0; empty = sym f.size_is ∙ none };
      };
    }

data_more : (side : Side) (limit left sum count : ℕ) (used unused : List ℕ) (m : HttpMessage) → count ≤ length unused → count ≤ left
    → IsAtData side limit left sum used m → IsAtData side limit (left - count) sum (used ++ take count unused) (with_more m (take count unused))
data_more side limit left sum count used unused m within least x =
    let now = take count unused in
    let len : length now ≡ count = length-take-le count unused within in
    let summed : length (x.content ++ now) ≡ length x.content + length now = length-append x.content now in
    let want : length x.content + left ≡ chunk_size x.line = x.wanting in
    record {
      chunks = x.chunks;
      line = x.line;
      content = x.content ++ now;
      head = record {
        head = x.head.head;
        is_head = x.head.is_head;
        fits = x.head.fits;
        form_is = x.head.form_is;
        parts = ap (λ (t : List ℕ). t ++ now) x.head.parts ∙ regroup (print_head x.head.head) (print_chunks x.chunks) (print_chunk_line x.line) x.content now;
        value = more_told m (head_value x.head.head) (content_of x.chunks ++ x.content) now x.head.value
            ∙ ap (λ (t : List ℕ). with_body (head_value x.head.head) t) (append_assoc (content_of x.chunks) x.content now);
      };
      are = x.are;
      is_line = x.is_line;
      some = x.some;
      wanting = omega arith;
      sum_is = x.sum_is;
      within = x.within;
    }
  where
    regroup : (a b c d e : List ℕ) → (a ++ (b ++ (c ++ d))) ++ e ≡ a ++ (b ++ (c ++ (d ++ e)))
    regroup a b c d e = simp append_assoc

pub data_on : (side : Side) (limit left sum count : ℕ) (unused bytes : List ℕ) (whole : List HttpMessage) (m : HttpMessage)
    → count ≤ length unused → count < left
    → Stands side limit (stage.Data left sum) unused bytes whole (Some m)
    → Stands side limit (stage.Data (left - count) sum) (drop count unused) bytes whole (Some (with_more m (take count unused)))
data_on side limit left sum count unused bytes whole m within less s = record {
  used = s.used ++ take count unused;
  begins = begins-rest side limit bytes whole _ _ (taken s.used unused count) s.begins;
  at = (omega arith, data_more side limit left sum count s.used unused m within (omega arith) s.at.1);
}

pub data_done : (side : Side) (limit left sum count : ℕ) (unused bytes : List ℕ) (whole : List HttpMessage) (m : HttpMessage)
    → count ≤ length unused → count ≡ left
    → Stands side limit (stage.Data left sum) unused bytes whole (Some m)
    → Stands side limit (stage.Ending sum) (drop count unused) bytes whole (Some (with_more m (take count unused)))
data_done side limit left sum count unused bytes whole m within is s =
    let none : left - count ≡ 0 = omega arith in
    record {
      used = s.used ++ take count unused;
      begins = begins-rest side limit bytes whole _ _ (taken s.used unused count) s.begins;
      at = subst (λ (n : ℕ). IsAtData side limit n sum (s.used ++ take count unused) (with_more m (take count unused))) none
          (data_more side limit left sum count s.used unused m within (omega arith) s.at.1);
    }

pub ending_to_size : (side : Side) (limit sum : ℕ) (unused bytes : List ℕ) (whole : List HttpMessage) (m : HttpMessage)
    → unused ≡ crlf_bytes ++ drop 2 unused
    → Stands side limit (stage.Ending sum) unused bytes whole (Some m)
    → Stands side limit (stage.Size sum) (drop 2 unused) bytes whole (Some m)
unfolding print_chunk
ending_to_size side limit sum unused bytes whole m e s =
    let x = s.at in
    let chunk : Chunk = record { line = x.line; content = x.content } in
    let want : length x.content + 0 ≡ chunk_size x.line = x.wanting in
    let size : length x.content ≡ chunk_size x.line = omega arith in
    let all : content_of (x.chunks ++ chunk ∷ []) ≡ content_of x.chunks ++ x.content =
    flat_map-append (λ (c : Chunk). c.content) x.chunks (chunk ∷ []) ∙ ap (λ (t : List ℕ). content_of x.chunks ++ t) (append-nil x.content) in
    let printed : print_chunks (x.chunks ++ chunk ∷ []) ≡ print_chunks x.chunks ++ (print_chunk_line x.line ++ (x.content ++ crlf_bytes)) =
    flat_map-append print_chunk x.chunks (chunk ∷ []) ∙ ap (λ (t : List ℕ). print_chunks x.chunks ++ t) (append-nil (print_chunk chunk)) in
    let summed : length (content_of (x.chunks ++ chunk ∷ [])) ≡ length (content_of x.chunks) + length x.content =
    ap length all ∙ length-append (content_of x.chunks) x.content in
    let sum_is : sum ≡ length (content_of x.chunks) + chunk_size x.line = x.sum_is in
    let fits : sum ≤ limit = x.within in
    record {
      used = s.used ++ crlf_bytes;
      begins = begins-rest side limit bytes whole _ _ (ap (λ (t : List ℕ). s.used ++ t) e ∙ sym (append_assoc s.used crlf_bytes (drop 2 unused))) s.begins;
      at = record {
        chunks = x.chunks ++ chunk ∷ [];
        head = record {
          head = x.head.head;
          is_head = x.head.is_head;
          fits = x.head.fits;
          form_is = x.head.form_is;
          parts = ap (λ (t : List ℕ). t ++ crlf_bytes) x.head.parts ∙ regroup (print_head x.head.head) (print_chunks x.chunks) (print_chunk_line x.line) x.content crlf_bytes
              ∙ ap (λ (t : List ℕ). print_head x.head.head ++ t) (sym printed);
          value = x.head.value ∙ ap (λ (t : List ℕ). with_body (head_value x.head.head) t) (sym all);
        };
        are = record {
          each = All-push IsChunk x.chunks chunk x.are.each (record { line = x.is_line; size = size; some = x.some });
          within = omega arith;
        };
        sum_is = omega arith;
      };
    }
  where
    regroup : (a b c d e : List ℕ) → (a ++ (b ++ (c ++ d))) ++ e ≡ a ++ (b ++ (c ++ (d ++ e)))
    regroup a b c d e = simp append_assoc

pub trailer_to_done : (side : Side) (limit len : ℕ) (unused bytes : List ℕ) (whole : List HttpMessage) (m : HttpMessage)
    → IsTrailerFound unused len
    → Stands side limit stage.Trailer unused bytes whole (Some m)
    → Stands side limit stage.Head (drop len unused) bytes (whole ++ m ∷ []) None
unfolding print_message
trailer_to_done side limit len unused bytes whole m t s =
    let x = s.at in
    let body = chunked x.chunks x.line t.fields t.end in
    record {
      used = [];
      begins = begins-more side limit bytes whole (record { head = x.head.head; body = body }) m _ (drop len unused)
          (record {
            head = x.head.is_head;
            fits = x.head.fits;
            body = subst (λ (f : BodyForm). IsBody limit f body) (sym x.head.form_is) (x.are, x.is_last, t.is_trailer);
          })
          x.head.value
          (ap (λ (u : List ℕ). s.used ++ u) t.parts ∙ ap (λ (u : List ℕ). u ++ (print_section t.fields t.end ++ drop len unused)) x.head.parts
          ∙ regroup (print_head x.head.head) (print_chunks x.chunks) (print_chunk_line x.line) (print_section t.fields t.end) (drop len unused))
          s.begins;
      at = refl;
    }
  where
    regroup : (a b c d e : List ℕ) → (a ++ (b ++ c)) ++ (d ++ e) ≡ (a ++ (b ++ (c ++ d))) ++ e
    regroup a b c d e = simp append_assoc
