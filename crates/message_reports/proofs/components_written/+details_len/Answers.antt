use Rattle.message_values.specs.declared.components.ComponentDetails.{out-ComponentDetails}
use Rattle.message_codec.specs.Tables as tables
use Rattle.message_codec.proofs.Canonical.{count_none, entry_counted}
use Rattle.message_codec.proofs.Parts.{parts_counted, all_counted, map_is, entry_content, hold_more, all_hold, map_fits, fits_entry}
use Rattle.message_reports.specs.ComponentColumns.{details_columns}
use Rattle.message_reports.proofs.ComponentLaws.{details_out}
use Rattle.message_reports.proofs.ComponentsWritten.{two_counted}
use Rattle.message_reports.proofs.components_written.+details_len.Goals as goal

pub loop-pair-init : goal.loop-pair-init
loop-pair-init t c = record { bound = c.count_many-total.ensures.bound; counted = count_none _ c.count_many-total.ensures.bound; fit = tt }

pub loop-pair-preserved : goal.loop-pair-preserved
loop-pair-preserved t c =
    record {
      bound = c.count_part-total.ensures.bound;
      counted = parts_counted (entry_content details_columns tables.ComponentDetails) 2 c.as_slice-pair-items.result.now c.loop-pair.pair-index c.pair-item.result c.count_many-total.result c.loop-pair.total _ c.loop-pair-test.true c.pair-item.is c.loop-pair.invariant.counted
          (c.count_part-total.ensures.counts _ (entry_counted _ _ c.count_text-key.result c.count_part-entry.result c.count_text-key.ensures.counts (c.count_part-entry.ensures.counts _ c.details_len.ensures.counts)));
      fit = hold_more (fits_entry details_columns tables.ComponentDetails) c.as_slice-pair-items.result.now c.loop-pair.pair-index c.pair-item.result c.loop-pair-test.true c.pair-item.is c.loop-pair.invariant.fit (c.count_text-key.ensures.fits, (c.details_len.ensures.fits, tt));
    }

pub returns-clause-counts : goal.returns-clause-counts
returns-clause-counts t c =
    let items = c.as_slice-pair-items.ensures.value in
    let parts = (out-ComponentDetails c.args.details.now).sub_component_map in
    let whole = all_counted (entry_content details_columns tables.ComponentDetails) 2 parts c.loop-pair.pair-index c.count_many-total.result c.loop-pair.total _ (rw items at c.loop-pair-test.false) (rw items at c.loop-pair.invariant.counted) (map_is details_columns 2 tables.ComponentDetails parts) in
    rw (details_out c.args.details.now) (two_counted _ _ c.count_many-total.result c.loop-pair.total c.count_many-total.ensures.counts whole)

pub returns-clause-fits : goal.returns-clause-fits
returns-clause-fits t c =
    let items = c.as_slice-pair-items.ensures.value in
    let parts = (out-ComponentDetails c.args.details.now).sub_component_map in
    let all = all_hold (fits_entry details_columns tables.ComponentDetails) parts c.loop-pair.pair-index (rw items at c.loop-pair-test.false) (rw items at c.loop-pair.invariant.fit) in
    let components = map_fits details_columns tables.ComponentDetails parts c.as_slice-pair-items.ensures.ascending all in
    rw (details_out c.args.details.now) (c.count_many-total.ensures.fits, (components, tt))
