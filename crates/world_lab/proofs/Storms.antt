-- The script of a storm, line by line.
use Rattle.std.proofs.Common.{◌≡◌, ◌∙◌, ℕ, zero, suc, ◌+◌, List, [], ◌∷◌, ◌++◌, length, ap, sym, refl, arith}
use Rattle.world_scripts.specs.Storms.{next_line, next_state}
use Rattle.world_scripts.specs.declared.lines.Line.{Line}
use Rattle.world_lab.specs.declared.written.Written.{Written}
use Rattle.world_lab.specs.Playing.{Progress, after_line, first_progress, progress_from, script_progress, world_of}
use Rattle.world_lab.specs.Transcripts.{line_written, lines_written, written_from}
use Rattle.world_lab.specs.Storming.{storm_from, storm_script}
use Rattle.world_lab.proofs.Transcript.{progress_append, written_append}

-- the state of the generator after so many lines
abbrev pub state_after : ℕ → ℕ → ℕ
state_after state zero = state
state_after state (suc n) = state_after (next_state state) n

pub state_more : (state n : ℕ) → state_after state (suc n) ≡ next_state (state_after state n)
state_more state zero = refl
state_more state (suc n) = state_more (next_state state) n

storm_grows : (p : Progress) (state n : ℕ)
    → storm_from p state (suc n) ≡ storm_from p state n ++ next_line (state_after state n) (length (world_of (progress_from p (storm_from p state n))).sent) ∷ []
storm_grows p state zero = refl
storm_grows p state (suc n) = ap (λ (ls : List Line). next_line state (length (world_of p).sent) ∷ ls) (storm_grows (after_line p (next_line state (length (world_of p).sent))) (next_state state) n)

-- the line that comes next
abbrev pub next_of_storm : ℕ → ℕ → Line
next_of_storm start n = next_line (state_after start n) (length (world_of (script_progress (storm_script start n))).sent)

-- the script of one line more
pub storm_more : (start n : ℕ) → storm_script start (n + 1) ≡ storm_script start n ++ next_of_storm start n ∷ []
storm_more start n = let one : n + 1 ≡ suc n = omega arith in ap (λ (k : ℕ). storm_script start k) one ∙ storm_grows first_progress start n

-- how far it is then, and what is written of it
pub progress_last : (lines : List Line) (line : Line) → script_progress (lines ++ line ∷ []) ≡ after_line (script_progress lines) line
progress_last lines line = progress_append lines (line ∷ []) first_progress

pub written_last : (lines : List Line) (line : Line) → lines_written (lines ++ line ∷ []) ≡ lines_written lines ++ line_written (script_progress lines) line ∷ []
written_last lines line = written_append lines (line ∷ []) first_progress

-- one line more of a storm
pub storm_step : (start n : ℕ) (line : Line) → line ≡ next_of_storm start n → script_progress (storm_script start (n + 1)) ≡ after_line (script_progress (storm_script start n)) line
storm_step start n line is =
    ap script_progress (storm_more start n)
    ∙ progress_last (storm_script start n) (next_of_storm start n)
    ∙ ap (λ l. after_line (script_progress (storm_script start n)) l) (sym is)

pub storm_written : (start n : ℕ) (line : Line) (written : Written) → line ≡ next_of_storm start n → written ≡ line_written (script_progress (storm_script start n)) line
    → lines_written (storm_script start (n + 1)) ≡ lines_written (storm_script start n) ++ written ∷ []
storm_written start n line written is text =
    ap lines_written (storm_more start n)
    ∙ written_last (storm_script start n) (next_of_storm start n)
    ∙ ap (λ l. lines_written (storm_script start n) ++ line_written (script_progress (storm_script start n)) l ∷ []) (sym is)
    ∙ ap (λ (w : Written). lines_written (storm_script start n) ++ w ∷ []) (sym text)

pub state_step : (start n : ℕ) → state_after start (n + 1) ≡ next_state (state_after start n)
state_step start n = let one : n + 1 ≡ suc n = omega arith in ap (λ (k : ℕ). state_after start k) one ∙ state_more start n

-- so many lines are so many
pub storm_length : (p : Progress) (state n : ℕ) → length (storm_from p state n) ≡ n
storm_length p state zero = refl
storm_length p state (suc n) = ap (λ (k : ℕ). suc k) (storm_length (after_line p (next_line state (length (world_of p).sent))) (next_state state) n)

pub written_length : (lines : List Line) (p : Progress) → length (written_from p lines) ≡ length lines
written_length [] p = refl
written_length (l ∷ lines) p = ap (λ (k : ℕ). suc k) (written_length lines (after_line p l))
