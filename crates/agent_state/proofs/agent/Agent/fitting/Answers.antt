use Rattle.std.proofs.Common.{List, ℕ, IfOk, Err, refl, subst, ap}
use Rattle.message_values.specs.declared.report.AgentToServer.{AgentToServer}
use Rattle.message_reports.specs.Reports.{MeansReport}
use Rattle.agent_state.specs.Sound.{view_of}
use Rattle.agent_state.proofs.ReportLemmas.{told_with, told_without}
use Rattle.agent_state.proofs.agent.Agent.fitting.Goals as goal

pub returns-in-Ok-clause-means : goal.returns-in-Ok-clause-means
returns-in-Ok-clause-means c =
    subst (λ (m : AgentToServer). MeansReport c.in-Ok.bytes m)
    (told_with (view_of c.self.inside) c.args.self.now _ c.self.view_is refl c.in-Ok.ensures.small) c.in-Ok.ensures.means

pub returns-in-Err-TooLarge-clause-means : goal.returns-in-Err-TooLarge-clause-means
returns-in-Err-TooLarge-clause-means c =
    subst (λ (m : AgentToServer). IfOk c.written-in-Err-TooLarge.result (λ (bytes : List ℕ). MeansReport bytes m))
    (told_without (view_of c.self.inside) c.args.self.now _ c.self.view_is refl (c.in-Err-TooLarge.ensures.large (ap (λ f. Err f) c.in-Err-TooLarge.field-0-is))) c.written-in-Err-TooLarge.ensures.means
