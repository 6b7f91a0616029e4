use Rattle.std.proofs.Common.{sym, subst, arith}
use Rattle.message_codec.specs.Tables as tables
use Rattle.message_codec.specs.Values.{Values}
use Rattle.message_codec.specs.Means.{Means}
use Rattle.message_codec.proofs.Reading.{reads_means}
use Rattle.message_reports.proofs.decoding.read_report.Goals as goal

pub returns-clause-means : goal.returns-clause-means
returns-clause-means c =
    let means = reads_means 99 tables.AgentToServer c.args.bytes.now _ _ c.requires.empty c.in_ok-read_into.ensures.ok in
    (omega (arith, c.if-bytes-gt-MOST_BYTES.false), subst (λ (vs : Values). Means 100 tables.AgentToServer c.args.bytes.now vs) (sym c.in_ok-settle.ensures.columns) means)
