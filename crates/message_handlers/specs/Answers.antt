-- What handlers answer.
use Rattle.std.specs.Prelude.{ℕ, List, [], ◌≤◌, length, Option, Some, None}
use Rattle.message_handlers.specs.declared.handler.CustomAnswer.{CustomAnswer}

-- an answer's body, where there is an answer
abbrev pub body_of : Option CustomAnswer → List ℕ
body_of None = []
body_of (Some answer) = answer.body

-- an answer has at most 65,536 bytes
abbrev pub IsShort : Option CustomAnswer → Type 0
IsShort answer = length (body_of answer) ≤ 65536
