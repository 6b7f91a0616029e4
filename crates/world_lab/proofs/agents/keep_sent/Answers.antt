use Rattle.std.proofs.Common.{◌≡◌, subst, rules, refl}
use Rattle.message_reports.specs.Reports.{MeansReport}
use Rattle.agent_rules.specs.Half.{target}
use Rattle.world_lab.specs.Playing.{endpoint_of}
use Rattle.world_lab.proofs.Entries.{kept_report}
use Rattle.world_lab.proofs.agents.keep_sent.Goals as goal

pub returns-clause-kept : goal.returns-clause-kept
returns-clause-kept c =
    let play = c.args.play.now in
    let kept = c.in_ok-report.ensures.kept in
    let means = subst (λ bytes. MeansReport bytes kept.0) c.as_slice-bytes.ensures.value kept.1 in
    let endpoint : endpoint_of c.number_at-server.result ≡ (target play.host.agent.half).endpoint = search rules in
    λ before is at. kept_report c.one_report.ensures.one before c.args.prepared (target play.host.agent.half).endpoint c.number_at-server.result c.in_ok-report.report kept.0 play.sent.items c.keep_message.new.sent.items _
    means c.number_at-server.ensures.digit endpoint kept.2 kept.3 refl is at
