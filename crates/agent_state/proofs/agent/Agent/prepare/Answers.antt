use Rattle.std.proofs.Common.{◌≡◌, None, rules, ap, ◌∙◌}
use Rattle.std.specs.Prelude.{is_none}
use Rattle.agent_rules.specs.Half.{entry_with}
use Rattle.agent_state.specs.View.{AgentView}
use Rattle.agent_state.proofs.ReportLemmas.{alone_by}
use Rattle.agent_state.proofs.agent.Agent.prepare.Goals as goal

pub returns-in-Ok-clause-prepared : goal.returns-in-Ok-clause-prepared
returns-in-Ok-clause-prepared c =
    let alone : c.is_none-whole.result ≡ is_none (entry_with c.args.self.now.half None).basis = search rules in
    record {
      number = ap (λ (v : AgentView). v.half.next) c.self.view_is;
      whole = alone ∙ alone_by c.args.self.now.half;
      bytes = c.in-Ok.ensures.bytes;
      means = c.in-Ok.ensures.means;
    }
