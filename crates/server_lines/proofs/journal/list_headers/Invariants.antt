use Rattle.std.proofs.Common.{◌≡◌}
use Rattle.std.specs.List.{flat_map}
use Rattle.std.specs.String.{string_bytes}
use Rattle.server_lines.specs.Journal.{header_words}
use Rattle.server_lines.proofs.ListLemmas.{with_each}
use Rattle.server_lines.proofs.journal.list_headers.Given as goal

abbrev pub invariant-loop-header : goal.invariant-loop-header
invariant-loop-header l = with_each header_words (string_bytes l.text) l.header-index l.headers ≡ flat_map header_words l.headers
