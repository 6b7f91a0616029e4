use Rattle.std.proofs.Common.{◌^◌, ◌∙◌, ◌++◌, ◌<◌, length, [], ap, sym, arith, length-append}
use Rattle.std.proofs.lemmas.Result.{err_from_is_err_and}
use Rattle.message_codec.specs.Row as out
use Rattle.message_codec.specs.Row.{appended}
use Rattle.message_values.specs.declared.components.ComponentDetails.{ComponentDetails, out-ComponentDetails}
use Rattle.message_codec.specs.Tables as tables
use Rattle.message_codec.specs.Values.{Content}
use Rattle.message_codec.specs.Canonical.{canonical, column_bytes, part_spelling, entry_head}
use Rattle.message_codec.proofs.Canonical.{front_short, spare_is, head_whole, head_length, appended_twice}
use Rattle.message_codec.proofs.Parts.{one_within, parts_short, parts_put, all_put, map_is, entry_content}
use Rattle.message_reports.specs.ComponentColumns.{details_columns}
use Rattle.message_reports.proofs.ComponentLaws.{details_canonical, metadata_of, parts_of}
use Rattle.message_reports.proofs.components_written.+put_details.Goals as goal

-- the metadata is shorter than the whole
few : (d : ComponentDetails) → length (canonical tables.ComponentDetails (details_columns d)) < 2 ^ 62 → length (metadata_of d) < 2 ^ 62
few d small = omega (arith, small, ap length (details_canonical d), length-append (metadata_of d) (parts_of d))

pub returns-in_err-put_metadata : goal.returns-in_err-put_metadata
returns-in_err-put_metadata t c =
    record {
      puts = λ small.
          let d = c.args.details.now in
          let p = err_from_is_err_and c.from_residual.result c.from_residual.ensures.1 in
          rw (p.1, details_canonical d) (record { ok = tt; short = omega (arith, length-append (metadata_of d) (parts_of d), (c.in_err-put_metadata.ensures.puts (few d small)).short) });
    }

pub returns-in_err-put_entry_head : goal.returns-in_err-put_entry_head
returns-in_err-put_entry_head t c =
    record {
      puts = λ small.
          let d = c.args.details.now in
          let parts = (out-ComponentDetails d).sub_component_map in
          let items = c.as_slice-pair-items.ensures.value in
          let map = parts_of d in
          let front = metadata_of d in
          let key = column_bytes 1 tables.Text (Content c.pair-item.result.key) in
          let bytes = canonical tables.ComponentDetails (details_columns c.pair-item.result.value) in
          let one = one_within (entry_content details_columns tables.ComponentDetails) 2 parts c.loop-pair.pair-index c.pair-item.result (rw items at c.loop-pair-test.true) (rw items at c.pair-item.is) in
          let fits : length (part_spelling 2 (key ++ (part_spelling 2 bytes ++ []))) < 2 ^ 62 = omega (arith, small, ap length (map_is details_columns 2 tables.ComponentDetails parts), ap length (details_canonical d), one, length-append front map) in
          let p = err_from_is_err_and c.from_residual-in_err-put_entry_head.result c.from_residual-in_err-put_entry_head.ensures.1 in
          let whole = (c.in_ok-put_metadata.ensures.puts (few d small)).ok in
          let short = parts_short (entry_content details_columns tables.ComponentDetails) 2 parts c.loop-pair.pair-index c.pair-item.result c.put_metadata.new.out c.loop-pair.out (rw items at c.loop-pair-test.true) (rw items at c.pair-item.is) (rw items at (c.loop-pair.invariant small)) (omega (arith, head_length 2 key bytes, (c.in_err-put_entry_head.ensures.puts fits).short)) in
          rw (p.1, details_canonical d) (record { ok = tt; short = front_short c.args.out.now c.put_metadata.new.out front map whole (rw (map_is details_columns 2 tables.ComponentDetails parts) at short) });
    }

pub returns-in_err-put_details : goal.returns-in_err-put_details
returns-in_err-put_details t c =
    record {
      puts = λ small.
          let d = c.args.details.now in
          let parts = (out-ComponentDetails d).sub_component_map in
          let items = c.as_slice-pair-items.ensures.value in
          let map = parts_of d in
          let front = metadata_of d in
          let key = column_bytes 1 tables.Text (Content c.pair-item.result.key) in
          let bytes = canonical tables.ComponentDetails (details_columns c.pair-item.result.value) in
          let size = head_length 2 key bytes in
          let one = one_within (entry_content details_columns tables.ComponentDetails) 2 parts c.loop-pair.pair-index c.pair-item.result (rw items at c.loop-pair-test.true) (rw items at c.pair-item.is) in
          let fits : length (part_spelling 2 (key ++ (part_spelling 2 bytes ++ []))) < 2 ^ 62 = omega (arith, small, ap length (map_is details_columns 2 tables.ComponentDetails parts), ap length (details_canonical d), one, length-append front map) in
          let inner : length bytes < 2 ^ 62 = omega (arith, fits, size) in
          let p = err_from_is_err_and c.from_residual-in_err-put_details.result c.from_residual-in_err-put_details.ensures.1 in
          let whole = (c.in_ok-put_metadata.ensures.puts (few d small)).ok in
          let short = parts_short (entry_content details_columns tables.ComponentDetails) 2 parts c.loop-pair.pair-index c.pair-item.result c.put_metadata.new.out c.loop-pair.out (rw items at c.loop-pair-test.true) (rw items at c.pair-item.is) (rw items at (c.loop-pair.invariant small)) (omega (arith, size, (c.in_err-put_details.ensures.puts inner).short, spare_is _ _ _ (c.in_ok-put_entry_head.ensures.puts fits).ok)) in
          rw (p.1, details_canonical d) (record { ok = tt; short = front_short c.args.out.now c.put_metadata.new.out front map whole (rw (map_is details_columns 2 tables.ComponentDetails parts) at short) });
    }

pub loop-pair-preserved : goal.loop-pair-preserved
loop-pair-preserved t c small =
    let d = c.args.details.now in
    let parts = (out-ComponentDetails d).sub_component_map in
    let items = c.as_slice-pair-items.ensures.value in
    let map = parts_of d in
    let front = metadata_of d in
    let key = column_bytes 1 tables.Text (Content c.pair-item.result.key) in
    let bytes = canonical tables.ComponentDetails (details_columns c.pair-item.result.value) in
    let one = one_within (entry_content details_columns tables.ComponentDetails) 2 parts c.loop-pair.pair-index c.pair-item.result (rw items at c.loop-pair-test.true) (rw items at c.pair-item.is) in
    let fits : length (part_spelling 2 (key ++ (part_spelling 2 bytes ++ []))) < 2 ^ 62 = omega (arith, small, ap length (map_is details_columns 2 tables.ComponentDetails parts), ap length (details_canonical d), one, length-append front map) in
    let inner : length bytes < 2 ^ 62 = omega (arith, fits, head_length 2 key bytes) in
    let put = (c.in_ok-put_details.ensures.puts inner).ok ∙ ap (λ (r : out.Row). appended r bytes) (c.in_ok-put_entry_head.ensures.puts fits).ok ∙ appended_twice c.loop-pair.out (entry_head 2 key bytes) bytes ∙ ap (appended c.loop-pair.out) (sym (head_whole 2 key bytes)) in
    parts_put (entry_content details_columns tables.ComponentDetails) 2 c.as_slice-pair-items.result.now c.loop-pair.pair-index c.pair-item.result c.put_metadata.new.out c.loop-pair.out _ c.loop-pair-test.true c.pair-item.is (c.loop-pair.invariant small) put

pub returns : goal.returns
returns t c =
    record {
      puts = λ small.
          let d = c.args.details.now in
          let parts = (out-ComponentDetails d).sub_component_map in
          let items = c.as_slice-pair-items.ensures.value in
          let map = parts_of d in
          let front = (c.in_ok-put_metadata.ensures.puts (few d small)).ok in
          let done = all_put (entry_content details_columns tables.ComponentDetails) 2 parts c.loop-pair.pair-index c.put_metadata.new.out c.loop-pair.out _ (rw items at c.loop-pair-test.false) (rw items at (c.loop-pair.invariant small)) (map_is details_columns 2 tables.ComponentDetails parts) in
          record { ok = done ∙ ap (λ (r : out.Row). appended r map) front ∙ appended_twice c.args.out.now (metadata_of d) map ∙ ap (appended c.args.out.now) (sym (details_canonical d)); short = tt };
    }
