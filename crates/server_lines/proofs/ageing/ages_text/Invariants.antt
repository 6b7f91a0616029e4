use Rattle.std.proofs.Common.{◌≡◌}
use Rattle.std.specs.List.{flat_map}
use Rattle.std.specs.String.{string_bytes}
use Rattle.server_lines.specs.Answers.{line_of_age}
use Rattle.server_lines.specs.Sights.{numbers_in, sight_of}
use Rattle.server_lines.proofs.ListLemmas.{with_each}
use Rattle.server_lines.proofs.ageing.ages_text.Given as goal

abbrev pub invariant-loop-agent : goal.invariant-loop-agent
invariant-loop-agent g l =
    let line = line_of_age (sight_of l.seen (numbers_in l.known.entries)) in
    with_each line (string_bytes l.text) l.agent-index l.agents ≡ flat_map line l.agents
