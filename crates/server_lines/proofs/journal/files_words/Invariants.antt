use Rattle.std.proofs.Common.{◌≡◌}
use Rattle.std.specs.List.{flat_map}
use Rattle.std.specs.String.{string_bytes}
use Rattle.server_lines.specs.Journal.{file_words}
use Rattle.server_lines.proofs.ListLemmas.{with_each}
use Rattle.server_lines.proofs.journal.files_words.Given as goal

abbrev pub invariant-loop-file : goal.invariant-loop-file
invariant-loop-file l = with_each file_words (string_bytes l.text) l.file-index l.files ≡ flat_map file_words l.files
