-- Scripts, played line by line, and what is written of them.
use Rattle.std.proofs.Common.{◌≡◌, ◌∙◌, ℕ, ◌+◌, ◌<◌, List, [], ◌∷◌, ◌++◌, length, take, drop, get_or, Option, Some, None, ap, sym, refl, append_assoc}
use Rattle.std.proofs.lemmas.List.{take_more, take-append-drop}
use Rattle.std.specs.Io.KnownBytes.{Appends}
use Rattle.world_scripts.specs.declared.lines.Line.{Line}
use Rattle.world_lab.specs.declared.written.Written.{Written}
use Rattle.world_lab.specs.Playing.{Progress, after_line, first_progress, progress_from, script_progress}
use Rattle.world_lab.specs.Transcripts.{line_written, written_from, lines_written, text_of, text_of_all, transcript_of}
use Rattle.world_lab.specs.Labs.{AppendsFrontOf}

pub append_nothing : {X : Type 0} (xs : List X) → xs ++ [] ≡ xs
append_nothing [] = refl
append_nothing (x ∷ xs) = ap (λ ys. x ∷ ys) (append_nothing xs)

-- a script of more lines
pub progress_append : (lines more : List Line) (p : Progress) → progress_from p (lines ++ more) ≡ progress_from (progress_from p lines) more
progress_append [] more p = refl
progress_append (l ∷ lines) more p = progress_append lines more (after_line p l)

-- what is written of it
pub written_append : (lines more : List Line) (p : Progress) → written_from p (lines ++ more) ≡ written_from p lines ++ written_from (progress_from p lines) more
written_append [] more p = refl
written_append (l ∷ lines) more p = ap (λ (t : List Written). line_written p l ∷ t) (written_append lines more (after_line p l))

text_append : (xs ys : List Written) → text_of_all (xs ++ ys) ≡ text_of_all xs ++ text_of_all ys
text_append [] ys = refl
text_append (x ∷ xs) ys = ap (λ (t : List ℕ). text_of x ++ t) (text_append xs ys) ∙ sym (append_assoc (text_of x) (text_of_all xs) (text_of_all ys))

-- how far the script is after its first lines
abbrev pub progress_at : List Line → ℕ → Progress
progress_at lines i = script_progress (take i lines)

pub progress_more : (lines : List Line) (i : ℕ) (line : Line) → i < length lines → line ≡ get_or lines i line
    → progress_at lines (i + 1) ≡ after_line (progress_at lines i) line
progress_more lines i line within is =
    ap script_progress (take_more lines i line within)
    ∙ progress_append (take i lines) (get_or lines i line ∷ []) first_progress
    ∙ ap (λ l. after_line (progress_at lines i) l) (sym is)

pub written_more : (lines : List Line) (i : ℕ) (line : Line) → i < length lines → line ≡ get_or lines i line
    → lines_written (take (i + 1) lines) ≡ lines_written (take i lines) ++ line_written (progress_at lines i) line ∷ []
written_more lines i line within is =
    ap lines_written (take_more lines i line within)
    ∙ written_append (take i lines) (get_or lines i line ∷ []) first_progress
    ∙ ap (λ l. lines_written (take i lines) ++ line_written (progress_at lines i) l ∷ []) (sym is)

pub transcript_more : (lines : List Line) (i : ℕ) (line : Line) → i < length lines → line ≡ get_or lines i line
    → transcript_of (take (i + 1) lines) ≡ transcript_of (take i lines) ++ text_of (line_written (progress_at lines i) line)
transcript_more lines i line within is =
    ap text_of_all (written_more lines i line within is)
    ∙ text_append (lines_written (take i lines)) (line_written (progress_at lines i) line ∷ [])
    ∙ ap (λ (t : List ℕ). transcript_of (take i lines) ++ t) (append_nothing (text_of (line_written (progress_at lines i) line)))

-- the first lines' transcript is a front of the whole one
abbrev pub rest_of : List Line → ℕ → List ℕ
rest_of lines i = text_of_all (written_from (progress_at lines i) (drop i lines))

pub transcript_front : (lines : List Line) (i : ℕ) → transcript_of (take i lines) ++ rest_of lines i ≡ transcript_of lines
transcript_front lines i =
    sym (text_append (lines_written (take i lines)) (written_from (progress_at lines i) (drop i lines)))
    ∙ ap text_of_all (sym (written_append (take i lines) (drop i lines) first_progress))
    ∙ ap transcript_of (take-append-drop i lines)

-- ---- what a sink took

pub appends_both : (old now new : Option (List ℕ)) (xs ys : List ℕ) → Appends old now xs → Appends now new ys → Appends old new (xs ++ ys)
appends_both None now new xs ys p q = tt
appends_both (Some old) None new xs ys p q = absurd p
appends_both (Some old) (Some now) None xs ys p q = absurd q
appends_both (Some old) (Some now) (Some new) xs ys p q = q ∙ ap (λ (t : List ℕ). t ++ ys) p ∙ append_assoc old xs ys

pub appends_none : (old : Option (List ℕ)) → Appends old old []
appends_none None = tt
appends_none (Some old) = sym (append_nothing old)

-- it took the transcript of the first lines
pub front_of_lines : (old new : Option (List ℕ)) (lines : List Line) (i : ℕ) → Appends old new (transcript_of (take i lines)) → AppendsFrontOf old new (transcript_of lines)
front_of_lines old new lines i taken = record { front = transcript_of (take i lines); rest = rest_of lines i; parts = transcript_front lines i; taken = taken }

-- and a part of the next one's
pub front_of_next : (old now new : Option (List ℕ)) (lines : List Line) (i n : ℕ) (line : Line) → i < length lines → line ≡ get_or lines i line
    → Appends old now (transcript_of (take i lines)) → Appends now new (take n (text_of (line_written (progress_at lines i) line))) → AppendsFrontOf old new (transcript_of lines)
front_of_next old now new lines i n line within is taken part =
    let first = transcript_of (take i lines) in
    let next = text_of (line_written (progress_at lines i) line) in
    let rest = rest_of lines (i + 1) in
    record {
      front = first ++ take n next;
      rest = drop n next ++ rest;
      parts =
          append_assoc first (take n next) (drop n next ++ rest)
          ∙ ap (λ (t : List ℕ). first ++ t) (sym (append_assoc (take n next) (drop n next) rest) ∙ ap (λ (t : List ℕ). t ++ rest) (take-append-drop n next))
          ∙ sym (append_assoc first next rest)
          ∙ ap (λ (t : List ℕ). t ++ rest) (sym (transcript_more lines i line within is))
          ∙ transcript_front lines (i + 1);
      taken = appends_both old now new first (take n next) taken part;
    }

-- nothing was written before the first line
pub front_of_none : (old : Option (List ℕ)) (lines : List Line) → AppendsFrontOf old old (transcript_of lines)
front_of_none old lines = record { front = []; rest = transcript_of lines; parts = refl; taken = appends_none old }
