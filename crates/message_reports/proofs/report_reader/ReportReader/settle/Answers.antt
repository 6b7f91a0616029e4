use Rattle.std.proofs.Common.{sym, subst}
use Rattle.message_codec.specs.Tables as tables
use Rattle.message_codec.specs.Values.{Values}
use Rattle.message_codec.specs.Means.{Means}
use Rattle.message_reports.proofs.report_reader.ReportReader.settle.Goals as goal

pub returns-clause-means : goal.returns-clause-means
returns-clause-means c bytes h =
    let m = c.in_ok-gather.ensures.means bytes h in
    (m.0, subst (λ (vs : Values). Means 100 tables.AgentToServer bytes vs) (sym c.in_ok-settle.ensures.columns) m.1)
