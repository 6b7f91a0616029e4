use Rattle.std.proofs.Common.{arith}
use Rattle.std.proofs.lemmas.Result.{err_from_is_err_and}
use Rattle.message_codec.specs.Tables as tables
use Rattle.message_codec.specs.Canonical.{canonical}
use Rattle.message_codec.proofs.Canonical.{head_short, part_length}
use Rattle.message_reports.specs.HealthColumns.{health_columns}
use Rattle.message_reports.proofs.HealthFilled.{headed_puts}
use Rattle.message_reports.proofs.health_written.put_part.Goals as goal

pub put_measured-requires-clause-few : goal.put_measured-requires-clause-few
put_measured-requires-clause-few c = omega (arith, c.requires.few, part_length c.args.number (canonical tables.ComponentHealth (health_columns c.args.health.now)))

pub returns-in_err-put_head : goal.returns-in_err-put_head
returns-in_err-put_head c =
    let p = err_from_is_err_and c.from_residual.result c.from_residual.ensures.1 in
    rw p.1 (record { puts = record { ok = tt; short = head_short c.args.out.now.spare c.args.number c.health_len-len.result _ c.health_len-len.ensures.counts c.requires.few c.in_err-put_head.ensures.puts.short } })

pub returns : goal.returns
returns c = record { puts = headed_puts c.put_measured.result c.args.out.now c.put_head.new.out c.put_measured.new.out c.args.number c.health_len-len.result _ c.health_len-len.ensures.counts c.requires.few c.in_ok-put_head.ensures.puts.ok c.put_measured.ensures.puts }
