use Rattle.std.proofs.Common.{◌<◌, ◌^◌, arith}
use Rattle.message_codec.specs.Tables as tables
use Rattle.message_codec.specs.Tables.{rows_of}
use Rattle.message_codec.specs.Canonical.{needed}
use Rattle.message_codec.proofs.Canonical.{needed_is}
use Rattle.message_reports.specs.HealthColumns.{health_columns}
use Rattle.message_reports.proofs.HealthFilled.{put_whole, short_whole}
use Rattle.message_reports.proofs.health_written.ComponentHealthWrittenAgent.put.Goals as goal

pub put_measured-requires-clause-few : goal.put_measured-requires-clause-few
put_measured-requires-clause-few c =
    let few : needed (rows_of tables.ComponentHealth) (health_columns c.args.self.now) < 2 ^ 62 = c.requires.few in
    omega (arith, few, needed_is (rows_of tables.ComponentHealth) (health_columns c.args.self.now))

pub put_measured-requires-clause-measured : goal.put_measured-requires-clause-measured
put_measured-requires-clause-measured c = c.health_len.ensures.counts

pub returns-clause-ok : goal.returns-clause-ok
returns-clause-ok c = put_whole c.put_measured.result c.args.out.now c.put_measured.new.out (rows_of tables.ComponentHealth) (health_columns c.args.self.now) c.put_measured.ensures.puts

pub returns-clause-short : goal.returns-clause-short
returns-clause-short c = short_whole c.put_measured.result c.args.out.now c.put_measured.new.out (rows_of tables.ComponentHealth) (health_columns c.args.self.now) c.put_measured.ensures.puts
