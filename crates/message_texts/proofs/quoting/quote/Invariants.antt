use Rattle.std.proofs.Common.{◌≡◌, ◌∷◌}
use lib.Utf8.{encodes}
use Rattle.std.specs.String.{string_bytes}
use Rattle.message_texts.specs.Words.{quoted_bytes}
use Rattle.message_texts.proofs.quoting.quote.Given as goal

abbrev pub invariant-loop-c : goal.invariant-loop-c
invariant-loop-c l = string_bytes l.quoted ≡ 34 ∷ quoted_bytes (encodes l.yielded)
