use Rattle.std.proofs.Common.{◌≡◌}
use Rattle.std.specs.List.{flat_map}
use Rattle.std.specs.String.{string_bytes}
use Rattle.server_lines.specs.Journal.{words_of_package}
use Rattle.server_lines.proofs.ListLemmas.{with_each}
use Rattle.server_lines.proofs.journal.packages_words.Given as goal

abbrev pub invariant-loop-entry : goal.invariant-loop-entry
invariant-loop-entry l = with_each words_of_package (string_bytes l.text) l.entry-index l.packages ≡ flat_map words_of_package l.packages
