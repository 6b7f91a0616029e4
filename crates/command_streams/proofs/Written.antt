-- What the sink has where the frames of a block were answered.
use Rattle.std.proofs.Common.{◌≡◌, ℕ, suc, List, [], ◌∷◌, ◌++◌, length, true, false, Option, None, Some, sym, ap, subst, ◌∙◌, append-nil, arith}
use Rattle.std.specs.Prelude.{◌==◌, Result, Ok, Err}
use Rattle.std.specs.Io.KnownBytes.{Appends}
use Rattle.std.proofs.lemmas.Bool.{false≢true}
use Rattle.plain_values.specs.declared.memory.NoMemory.{NoMemory as WantOfMemory}
use Rattle.command_streams.specs.declared.answering.Halt.{Halt}
use Rattle.command_streams.specs.declared.stop.RunFail.{RunFail}
use Rattle.command_streams.specs.declared.stop.RunFail.TheVariants.{NoMemory}
use Rattle.command_streams.specs.Made.{Gives}
use Rattle.command_streams.specs.Reading.{outputs_of}
use Rattle.command_streams.specs.Held.{HeldState}
use Rattle.command_streams.specs.Blocks.{AnswersHeld, AnswersBlock}
use Rattle.command_streams.proofs.Exits.{Exit}

-- nothing to be written
pub appends_none : (known : Option (List ℕ)) (bytes : List ℕ) → (length bytes == 0) ≡ true → Appends known known bytes
appends_none None bytes none = tt
appends_none (Some xs) [] none = sym (append-nil xs)
appends_none (Some xs) (byte ∷ bytes) none = absurd (false≢true (sym (some (length bytes)) ∙ none))
  where
    some : (n : ℕ) → (suc n == 0) ≡ false
    some n = grind arith

module _ {State : Type 0} (gives : Gives State) (start now : State) (old new : HeldState) (taken taken' : Option (List ℕ)) (pending pending' output : List ℕ) (none : pending ≡ []) (same : output ≡ pending') (put : Appends taken taken' output) where
  pub block_answered : (halt : Halt) → AnswersHeld gives start now old new pending pending' (Ok halt) → AnswersBlock gives start now old new taken taken' (Ok halt)
  block_answered halt held =
      let all : output ≡ outputs_of held.0 = same ∙ held.2 ∙ ap (λ (p : List ℕ). p ++ outputs_of held.0) none in
      (held.0, held.1, subst (λ (b : List ℕ). Appends taken taken' b) all put, held.3)

  pub block_wanting : (wanting : WantOfMemory) (r : Result Halt RunFail) → Exit r NoMemory → AnswersHeld gives start now old new pending pending' (Err wanting) → AnswersBlock gives start now old new taken taken' r
  block_wanting wanting r exit held =
      let all : output ≡ outputs_of held.0 = same ∙ held.2 ∙ ap (λ (p : List ℕ). p ++ outputs_of held.0) none in
      rw (exit.1, exit.2) (held.0, held.1, subst (λ (b : List ℕ). Appends taken taken' b) all put, tt)
