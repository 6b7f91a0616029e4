-- The program's own handler and judge, as contracts see them.
use Rattle.std.specs.Prelude.{◌≡◌, ℕ, List, [], ◌∷◌, length, nat_le, codes, Option, Some, None, if◌then◌else◌}
use Rattle.std.specs.Str.{bytes_eq}
use Rattle.message_values.specs.declared.custom.CustomMessage.{CustomMessage}
use Rattle.command_top.specs.Judging.{is_fine}
use Rattle.command_top.specs.Seen.{HandlersView}

-- the one custom capability that has a handler
abbrev pub echo_capability : List ℕ
echo_capability = codes "com.example.echo"

-- The answer to a message: the message again, where it is of that capability and its body has at most 65,536 bytes.
abbrev pub echo_of : CustomMessage → Option CustomMessage
echo_of message = if bytes_eq echo_capability message.capability then (if nat_le (length message.body) 65536 then Some message else None) else None

-- That capability alone has a handler, which answers with the message itself, and an agent is found fine exactly where it tells no health or is healthy.
abbrev pub own : HandlersView
own = record { names = echo_capability ∷ []; answers = λ message out. out ≡ echo_of message; fine = is_fine }
