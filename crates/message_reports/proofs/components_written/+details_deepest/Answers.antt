use Rattle.std.proofs.Common.{◌+◌, min, arith}
use Rattle.message_values.specs.declared.components.ComponentDetails.{out-ComponentDetails}
use Rattle.message_codec.specs.Means.{entry_of}
use Rattle.message_codec.specs.Levels.{deepest}
use Rattle.message_codec.proofs.Parts.{depth_more, all_depth, map_depth}
use Rattle.message_reports.specs.ComponentColumns.{details_columns}
use Rattle.message_reports.proofs.ComponentLaws.{details_out}
use Rattle.message_reports.proofs.components_written.+details_deepest.Goals as goal

pub loop-pair-preserved : goal.loop-pair-preserved
loop-pair-preserved t c =
    let below = deepest (details_columns c.pair-item.result.value) in
    depth_more (entry_of details_columns) c.as_slice-pair-items.result.now c.loop-pair.pair-index c.pair-item.result c.loop-pair.most (min (1 + below) 100) _ c.loop-pair-test.true c.pair-item.is c.loop-pair.invariant (omega arith) (omega (arith, c.details_deepest.ensures.levels))

pub returns : goal.returns
returns t c =
    let items = c.as_slice-pair-items.ensures.value in
    let parts = (out-ComponentDetails c.args.details.now).sub_component_map in
    let whole = all_depth (entry_of details_columns) parts c.loop-pair.pair-index c.loop-pair.most _ (rw items at c.loop-pair-test.false) (rw items at c.loop-pair.invariant) (map_depth details_columns parts) in
    rw (details_out c.args.details.now) (record { levels = omega (arith, whole, c.depth_many-metadata.ensures.levels, c.max.ensures) })
