-- What is noted of words that aren't taken: each command with its options, in a line.
use Rattle.std.specs.Prelude.{ℕ, List, [], ◌∷◌, ◌++◌, codes}

abbrev pub usage_lines : List (List ℕ)
usage_lines =
    codes "usage:"
    ∷ codes "opamp answer"
    ∷ codes "opamp canon report|reply"
    ∷ codes "opamp show report|reply"
    ∷ codes "opamp check"
    ∷ codes "opamp simulate"
    ∷ codes "opamp storm START COUNT"
    ∷ codes "opamp fleet DESKS"
    ∷ codes "opamp serve [--ws ADDRESS] [--http ADDRESS] [--operator ADDRESS] [--turns N] [--agents N] [--connections N] [--push] [--journal] [--rollout WIDTH/ALLOWED/NAME/HEX]"
    ∷ codes "opamp agent [--server ENDPOINT] [--rounds N] [--request-uid] [--push] [--prove SECONDS]"
    ∷ []

abbrev pub lines_joined : List (List ℕ) → List ℕ
lines_joined [] = []
lines_joined (line ∷ more) = line ++ (10 ∷ lines_joined more)

unfoldable pub usage : List ℕ
usage = lines_joined usage_lines
