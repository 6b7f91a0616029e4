-- How many bytes come from a source.
use Rattle.std.proofs.Common.{◌≤◌, ◌+◌, ℕ, List, [], ◌++◌, length, Option, arith}
use Rattle.std.specs.Io.KnownBytes.{Consumes}
use Rattle.std.proofs.KnownBytes.{Consumes-nil, Consumes-trans}
use Rattle.std.proofs.lemmas.List.{length-append}
use Rattle.command_scripts.specs.TakingScripts.{TakesAtMost}

pub taken_none : (most : ℕ) (left : Option (List ℕ)) → TakesAtMost most left left
taken_none most left = ([], omega arith, Consumes-nil left)

-- some more came behind these bytes
pub taken_more : (most limit more : ℕ) (left mid left' : Option (List ℕ)) (bytes : List ℕ) → Consumes left mid bytes → length bytes ≤ limit → TakesAtMost more mid left' → limit + more ≤ most → TakesAtMost most left left'
taken_more most limit more left mid left' bytes came few on fits = (bytes ++ on.0, omega (arith, few, on.1, length-append bytes on.0, fits), Consumes-trans left mid left' bytes on.0 came on.2)
