use Rattle.std.proofs.Common.{List, ℕ, IfOk, subst}
use Rattle.message_values.specs.declared.report.AgentToServer.{AgentToServer}
use Rattle.message_reports.specs.Reports.{MeansReport}
use Rattle.agent_state.proofs.agent.Agent.written.Goals as goal

pub returns-in-Ok-clause-means : goal.returns-in-Ok-clause-means
returns-in-Ok-clause-means c =
    subst (λ (m : AgentToServer). IfOk c.encoded.result (λ (bytes : List ℕ). MeansReport bytes m)) c.in-Ok.ensures.report c.encoded.ensures.means
