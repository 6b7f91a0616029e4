use Rattle.std.proofs.Common.{◌++◌, [], sym, arith}
use Rattle.std.proofs.lemmas.Result.{err_from_is_err_and}
use Rattle.message_codec.specs.Varint.{varint}
use Rattle.message_codec.specs.Tables as tables
use Rattle.message_codec.specs.Values.{Content}
use Rattle.message_codec.specs.Canonical.{canonical, column_bytes, part_spelling}
use Rattle.message_codec.proofs.Canonical.{spare_is, chain_length, chain_puts, entry_head_is, entry_counted, appended_none}
use Rattle.message_reports.specs.ComponentColumns.{details_columns}
use Rattle.message_reports.proofs.components_written.put_entry_head.Goals as goal

pub returns-in_err-put_head : goal.returns-in_err-put_head
returns-in_err-put_head c =
    record {
      puts = λ small.
          let key = column_bytes 1 tables.Text (Content c.args.key.now) in
          let bytes = canonical tables.ComponentDetails (details_columns c.args.value.now) in
          let counted = entry_counted key (part_spelling 2 bytes) c.count_text.result c.count_part-entry.result c.count_text.ensures.counts (c.count_part-entry.ensures.counts bytes c.details_len-len.ensures.counts) in
          let spelled = entry_head_is 2 c.count_part-entry.result c.details_len-len.result key bytes counted c.details_len-len.ensures.counts small in
          let size = chain_length (varint 18 ++ varint c.count_part-entry.result) key [] (varint 18 ++ varint c.details_len-len.result) _ spelled in
          let p = err_from_is_err_and c.from_residual.result c.from_residual.ensures.1 in
          rw p.1 (record { ok = tt; short = omega (arith, size, c.in_err-put_head.ensures.puts.short) });
    }

pub returns-in_err-put_text : goal.returns-in_err-put_text
returns-in_err-put_text c =
    record {
      puts = λ small.
          let key = column_bytes 1 tables.Text (Content c.args.key.now) in
          let bytes = canonical tables.ComponentDetails (details_columns c.args.value.now) in
          let counted = entry_counted key (part_spelling 2 bytes) c.count_text.result c.count_part-entry.result c.count_text.ensures.counts (c.count_part-entry.ensures.counts bytes c.details_len-len.ensures.counts) in
          let spelled = entry_head_is 2 c.count_part-entry.result c.details_len-len.result key bytes counted c.details_len-len.ensures.counts small in
          let size = chain_length (varint 18 ++ varint c.count_part-entry.result) key [] (varint 18 ++ varint c.details_len-len.result) _ spelled in
          let p = err_from_is_err_and c.from_residual-in_err-put_text.result c.from_residual-in_err-put_text.ensures.1 in
          rw p.1 (record { ok = tt; short = omega (arith, size, c.in_err-put_text.ensures.puts.short, spare_is _ _ _ c.in_ok-put_head.ensures.puts.ok) });
    }

pub returns : goal.returns
returns c =
    record {
      puts = λ small.
          let key = column_bytes 1 tables.Text (Content c.args.key.now) in
          let bytes = canonical tables.ComponentDetails (details_columns c.args.value.now) in
          let counted = entry_counted key (part_spelling 2 bytes) c.count_text.result c.count_part-entry.result c.count_text.ensures.counts (c.count_part-entry.ensures.counts bytes c.details_len-len.ensures.counts) in
          let spelled = entry_head_is 2 c.count_part-entry.result c.details_len-len.result key bytes counted c.details_len-len.ensures.counts small in
          chain_puts c.put_head-2.result c.args.out.now c.put_head.new.out c.put_text.new.out c.put_text.new.out c.put_head-2.new.out (varint 18 ++ varint c.count_part-entry.result) key [] (varint 18 ++ varint c.details_len-len.result) _ spelled c.in_ok-put_head.ensures.puts.ok c.in_ok-put_text.ensures.puts.ok (sym (appended_none c.put_text.new.out)) c.put_head-2.ensures.puts;
    }
