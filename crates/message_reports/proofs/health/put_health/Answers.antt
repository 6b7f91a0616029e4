use Rattle.std.proofs.Common.{suc, sym, subst, arith}
use Rattle.message_codec.specs.Tables as tables
use Rattle.message_codec.specs.Values.{Values, Content, Present, End, And}
use Rattle.message_codec.specs.Means.{empty_of}
use Rattle.message_codec.specs.Reads.{Reads}
use Rattle.message_codec.proofs.Reading.{arrived_takes}
use Rattle.message_codec.proofs.Openings.{above}
use Rattle.message_reports.specs.HealthColumns.{health_columns}
use Rattle.message_reports.proofs.health.put_health.Goals as goal

pub returns : goal.returns
returns c = record {
  closes = λ below payload r.
      let seen = subst (λ (v : Values). Reads (suc below) (tables.Entry tables.ComponentHealth) payload (empty_of (tables.Entry tables.ComponentHealth)) (And (Content c.args.entry.key) (And (Present v) End))) (sym c.in_ok-value.ensures.columns) r in
      rw c.in_ok-push.ensures.ok (arrived_takes health_columns (suc below) tables.ComponentHealth payload c.args.map.now _ (omega arith) (above below (tables.Entry tables.ComponentHealth) payload _ _ seen));
}
