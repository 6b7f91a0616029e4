-- What handlers may answer.
use Rattle.std.specs.Prelude.{ℕ, List, Option}
use Rattle.std.specs.declared.alloc.Global.{Global}
use Rattle.std.specs.declared.dyn_box.DynBox.{DynBox}
use Rattle.message_values.specs.declared.custom.CustomMessage.{CustomMessage}
use Rattle.message_handlers.specs.declared.handler.CustomAnswer.{CustomAnswer}
use Rattle.message_handlers.specs.declared.stored.Handlers.{Handlers}
use Rattle.message_handlers.specs.Handling.{handler_at, IsHandled}
use Rattle.message_handlers.specs.Names.{names_of}

-- What a handler of any type may answer, as a clause's `answers` says it: of the handler's type and its value, a question's kind and body, and an answer.
abbrev pub Answering : (V : Type 0) → (V → Type 0) → Type 1
Answering V P = (handler : (v : V) × P v) → List ℕ → List ℕ → Option CustomAnswer → Type 0

-- the same of a boxed handler
abbrev pub boxed : {V : Type 0} {P : V → Type 0} → Answering V P → DynBox V Global P → List ℕ → List ℕ → Option CustomAnswer → Type 0
boxed answers handler = answers (handler.vtable, handler.value)

-- The message may get this answer, or none, where each handler may give the answers of that relation.
abbrev pub MayAnswer : {V : Type 0} {P : V → Type 0} → Answering V P → Handlers V P → CustomMessage → Option CustomMessage → Type 0
MayAnswer answers handlers message out = IsHandled (boxed answers) (handler_at (names_of handlers) handlers.handlers.items message.capability) message out
