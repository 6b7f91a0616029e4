use Rattle.std.proofs.Common.{◌≡◌, ◌≤◌, ◌*◌, not, take}
use Rattle.std.specs.Prelude.{count_by, sum_by}
use Rattle.server_core.specs.declared.rows.Record.{Record}
use Rattle.server_core.specs.Table.{pending_at}
use Rattle.server_lines.specs.Answers.{is_healthy, is_unhealthy, kinds_in}
use Rattle.server_lines.proofs.counting.totals_of.Given as goal

-- those of the agents so far are counted
abbrev pub invariant-loop-agent : goal.invariant-loop-agent
invariant-loop-agent l =
    let before = take l.agent-index l.agents in
    (l.here ≡ count_by (λ (r : Record). not r.left) before) × (l.here ≤ l.agent-index)
    × (l.healthy ≡ count_by (λ (r : Record). is_healthy r.state.health) before) × (l.healthy ≤ l.agent-index)
    × (l.unhealthy ≡ count_by (λ (r : Record). is_unhealthy r.state.health) before) × (l.unhealthy ≤ l.agent-index)
    × (l.orders ≡ sum_by (λ (r : Record). kinds_in (pending_at l.desk.server.table.pendings r.uid).offers) before) × (l.orders ≤ 3 * l.agent-index)
