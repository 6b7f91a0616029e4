-- What is written at the end of an agent's run.
use Rattle.std.specs.Prelude.{ℕ, List, [], ◌∷◌, ◌++◌, codes}
use Rattle.std.specs.Fmt.{decimal}
use Rattle.command_agent.specs.declared.lines.Line.{Line}
use Rattle.command_agent.specs.declared.lines.Line.TheVariants.{Restart, Rounds, Damaged}

-- the lines `restart N`, `rounds N` and `store damaged in slot K`
unfoldable pub text_of : Line → List ℕ
text_of (Restart round) = codes "restart " ++ (decimal round ++ 10 ∷ [])
text_of (Rounds rounds) = codes "rounds " ++ (decimal rounds ++ 10 ∷ [])
text_of (Damaged slot) = codes "store damaged in slot " ++ (decimal slot ++ 10 ∷ [])
