use Rattle.std.proofs.Common.{◌≡◌}
use Rattle.std.specs.List.{flat_map}
use Rattle.std.specs.String.{string_bytes}
use Rattle.server_lines.specs.Answers.{member_line}
use Rattle.server_lines.proofs.ListLemmas.{with_each}
use Rattle.server_lines.proofs.telling.lines_of_members.Given as goal

abbrev pub invariant-loop-member : goal.invariant-loop-member
invariant-loop-member l = with_each member_line (string_bytes l.text) l.member-index l.members ≡ flat_map member_line l.members
