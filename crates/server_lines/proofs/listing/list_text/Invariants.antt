use Rattle.std.proofs.Common.{◌≡◌}
use Rattle.std.specs.List.{flat_map}
use Rattle.std.specs.String.{string_bytes}
use Rattle.server_lines.specs.Answers.{record_line}
use Rattle.server_lines.proofs.ListLemmas.{with_lines}
use Rattle.server_lines.proofs.listing.list_text.Given as goal

abbrev pub invariant-loop-agent : goal.invariant-loop-agent
invariant-loop-agent l = with_lines (string_bytes l.text) l.agent-index l.agents ≡ flat_map record_line l.agents
