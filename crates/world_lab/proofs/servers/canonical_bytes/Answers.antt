use Rattle.std.proofs.Common.{arith}
use Rattle.message_codec.specs.Canonical.{capped}
use Rattle.world_lab.proofs.servers.canonical_bytes.Goals as goal

pub put_report-requires : goal.put_report-requires
unfolding capped
put_report-requires c = record { few = omega (arith, c.report_len.ensures.counts, c.if-report_len.false) }
