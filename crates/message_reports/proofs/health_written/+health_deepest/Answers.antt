use Rattle.std.proofs.Common.{◌+◌, min, arith}
use Rattle.message_values.specs.declared.health.ComponentHealth.{out-ComponentHealth}
use Rattle.message_codec.specs.Means.{entry_of}
use Rattle.message_codec.specs.Levels.{deepest}
use Rattle.message_codec.proofs.Parts.{depth_more, all_depth, map_depth}
use Rattle.message_reports.specs.HealthColumns.{health_columns}
use Rattle.message_reports.proofs.HealthLaws.{health_out}
use Rattle.message_reports.proofs.health_written.+health_deepest.Goals as goal

pub loop-pair-preserved : goal.loop-pair-preserved
loop-pair-preserved t c =
    let below = deepest (health_columns c.pair-item.result.value) in
    depth_more (entry_of health_columns) c.as_slice-pair-items.result.now c.loop-pair.pair-index c.pair-item.result c.loop-pair.most (min (1 + below) 100) _ c.loop-pair-test.true c.pair-item.is c.loop-pair.invariant (omega arith) (omega (arith, c.health_deepest.ensures.levels))

pub returns : goal.returns
returns t c =
    let items = c.as_slice-pair-items.ensures.value in
    let parts = (out-ComponentHealth c.args.health.now).component_health_map in
    let whole = all_depth (entry_of health_columns) parts c.loop-pair.pair-index c.loop-pair.most _ (rw items at c.loop-pair-test.false) (rw items at c.loop-pair.invariant) (map_depth health_columns parts) in
    rw (health_out c.args.health.now) (record { levels = omega (arith, whole) })
