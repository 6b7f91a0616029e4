-- What comes of a custom message.
use Rattle.std.specs.Prelude.{◌≡◌, ℕ, List, position, slice_get, option_and_then, length, nat_le, Bool, Option, Some, None, option_map, MatchBool}
use Rattle.std.specs.List.{list_any}
use Rattle.std.specs.Str.{bytes_eq}
use Rattle.message_values.specs.declared.custom.CustomMessage.{CustomMessage}
use Rattle.message_handlers.specs.declared.handler.CustomAnswer.{CustomAnswer}
use Rattle.message_handlers.specs.Answers.{IsShort}

-- the answer as a message of the question's capability
abbrev pub reply_with : List ℕ → CustomAnswer → CustomMessage
reply_with capability answer = record { capability = capability; kind = answer.kind; body = answer.body }

-- the capability is one of these
abbrev pub is_held : List (List ℕ) → List ℕ → Bool
is_held names capability = list_any (λ name. bytes_eq name capability) names

-- the handler of the capability, where the handlers' capabilities are these
abbrev pub handler_at : {H : Type 0} → List (List ℕ) → List H → List ℕ → Option H
handler_at names handlers capability = option_and_then (slice_get handlers) (position (λ name. bytes_eq name capability) names)

module _ {H : Type 0} where
  -- What goes out is an answer that the handler may give to the message, of at most 65,536 bytes.
  pub record IsAnswered (answers : H → List ℕ → List ℕ → Option CustomAnswer → Type 0) (handler : H) (message : CustomMessage) (out : Option CustomMessage) : Type 0 where
    pub answer : Option CustomAnswer
    pub allowed : answers handler message.kind message.body answer
    pub short : IsShort answer
    pub sent : out ≡ option_map (reply_with message.capability) answer

  -- A message that no handler is for, and one that is too long, is not answered.
  abbrev pub IsHandled : (H → List ℕ → List ℕ → Option CustomAnswer → Type 0) → Option H → CustomMessage → Option CustomMessage → Type 0
  IsHandled answers None message out = out ≡ None
  IsHandled answers (Some handler) message out = MatchBool (nat_le (length message.body) 65536) (IsAnswered answers handler message out) (out ≡ None)
