-- What comes of a message that a handler is asked.
use Rattle.std.proofs.Common.{◌≡◌, ℕ, ◌<◌, ◌≤◌, List, length, get_or, true, nat_le, Option, Some, None, refl, sym, ◌∙◌, ap, subst}
use Rattle.std.specs.Prelude.{Result, Ok, Err, IfOk, position, slice_get, option_and_then, MatchBool}
use Rattle.std.specs.Str.{bytes_eq}
use Rattle.std.proofs.lemmas.Bool.{le-leb}
use Rattle.std.proofs.lemmas.Option.{slice_get_read}
use Rattle.message_values.specs.declared.custom.CustomMessage.{CustomMessage}
use Rattle.message_handlers.specs.declared.handler.CustomAnswer.{CustomAnswer}
use Rattle.message_handlers.specs.Handling.{handler_at, IsAnswered, IsHandled}

module _ {H : Type 0} (names : List (List ℕ)) (handlers : List H) (message : CustomMessage) where
  found : (at : ℕ) (handler : H) → Some at ≡ position (λ name. bytes_eq name message.capability) names → at < length handlers → handler ≡ get_or handlers at handler
      → handler_at names handlers message.capability ≡ Some handler
  found at handler place within is = ap (option_and_then (slice_get handlers)) (sym place) ∙ slice_get_read handlers (length handlers) at handler refl within is

module _ {H E : Type 0} (answers : H → List ℕ → List ℕ → Option CustomAnswer → Type 0) (names : List (List ℕ)) (handlers : List H) (message : CustomMessage) where
  pub handled : (at : ℕ) (handler : H) (result : Result (Option CustomMessage) E) → Some at ≡ position (λ name. bytes_eq name message.capability) names
      → at < length handlers → handler ≡ get_or handlers at handler → length message.body ≤ 65536 → IfOk result (IsAnswered answers handler message)
      → IfOk result (IsHandled answers (handler_at names handlers message.capability) message)
  handled at handler (Err e) place within is short answered = tt
  handled at handler (Ok out) place within is short answered =
      subst (λ h. IsHandled answers h message out) (sym (found names handlers message at handler place within is))
      (subst (λ b. MatchBool b (IsAnswered answers handler message out) (out ≡ None)) (sym short_is) answered)
    where
      short_is : nat_le (length message.body) 65536 ≡ true
      short_is = le-leb (length message.body) 65536 short
