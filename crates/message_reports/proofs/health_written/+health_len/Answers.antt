use Rattle.message_values.specs.declared.health.ComponentHealth.{out-ComponentHealth}
use Rattle.message_codec.specs.Tables as tables
use Rattle.message_codec.proofs.Canonical.{count_none, entry_counted, six_counted}
use Rattle.message_codec.proofs.Parts.{parts_counted, all_counted, map_is, entry_content, hold_more, all_hold, map_fits, fits_entry}
use Rattle.message_reports.specs.HealthColumns.{health_columns}
use Rattle.message_reports.proofs.HealthLaws.{health_out}
use Rattle.message_reports.proofs.health_written.+health_len.Goals as goal

pub loop-pair-init : goal.loop-pair-init
loop-pair-init t c = record { bound = c.count_fixed-total.ensures.bound; counted = count_none _ c.count_fixed-total.ensures.bound; fit = tt }

pub loop-pair-preserved : goal.loop-pair-preserved
loop-pair-preserved t c =
    record {
      bound = c.count_part-total.ensures.bound;
      counted = parts_counted (entry_content health_columns tables.ComponentHealth) 6 c.as_slice-pair-items.result.now c.loop-pair.pair-index c.pair-item.result c.count_fixed-total.result c.loop-pair.total _ c.loop-pair-test.true c.pair-item.is c.loop-pair.invariant.counted
          (c.count_part-total.ensures.counts _ (entry_counted _ _ c.count_text-key.result c.count_part-entry.result c.count_text-key.ensures.counts (c.count_part-entry.ensures.counts _ c.health_len.ensures.counts)));
      fit = hold_more (fits_entry health_columns tables.ComponentHealth) c.as_slice-pair-items.result.now c.loop-pair.pair-index c.pair-item.result c.loop-pair-test.true c.pair-item.is c.loop-pair.invariant.fit (c.count_text-key.ensures.fits, (c.health_len.ensures.fits, tt));
    }

pub returns-clause-counts : goal.returns-clause-counts
returns-clause-counts t c =
    let items = c.as_slice-pair-items.ensures.value in
    let parts = (out-ComponentHealth c.args.health.now).component_health_map in
    let whole = all_counted (entry_content health_columns tables.ComponentHealth) 6 parts c.loop-pair.pair-index c.count_fixed-total.result c.loop-pair.total _ (rw items at c.loop-pair-test.false) (rw items at c.loop-pair.invariant.counted) (map_is health_columns 6 tables.ComponentHealth parts) in
    rw (health_out c.args.health.now) (six_counted _ _ _ _ _ _ c.count_truth-healthy.result c.count_fixed-start.result c.count_text-error.result c.count_text-status.result c.count_fixed-total.result c.loop-pair.total c.count_truth-healthy.ensures.counts c.count_fixed-start.ensures.fixed c.count_text-error.ensures.counts c.count_text-status.ensures.counts c.count_fixed-total.ensures.fixed whole)

pub returns-clause-fits : goal.returns-clause-fits
returns-clause-fits t c =
    let items = c.as_slice-pair-items.ensures.value in
    let parts = (out-ComponentHealth c.args.health.now).component_health_map in
    let all = all_hold (fits_entry health_columns tables.ComponentHealth) parts c.loop-pair.pair-index (rw items at c.loop-pair-test.false) (rw items at c.loop-pair.invariant.fit) in
    let components = map_fits health_columns tables.ComponentHealth parts c.as_slice-pair-items.ensures.ascending all in
    rw (health_out c.args.health.now) (c.count_truth-healthy.ensures.fits, (c.count_fixed-start.ensures.fits, (c.count_text-error.ensures.fits, (c.count_text-status.ensures.fits, (c.count_fixed-total.ensures.fits, (components, tt))))))
