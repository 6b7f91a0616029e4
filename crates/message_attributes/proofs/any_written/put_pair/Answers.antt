use Rattle.std.proofs.Common.{length, ap}
use Rattle.std.proofs.lemmas.Result.{err_from_is_err_and}
use Rattle.message_codec.specs.Tables as tables
use Rattle.message_codec.specs.Canonical.{canonical}
use Rattle.message_codec.proofs.Backward.{place_filled, place_short}
use Rattle.message_attributes.specs.AnyColumns.{pair_columns}
use Rattle.message_attributes.proofs.any_written.put_pair.Goals as goal

pub returns-in_err-append_zeros : goal.returns-in_err-append_zeros
returns-in_err-append_zeros c =
    let bytes = canonical tables.KeyValue (pair_columns c.args.pair.now) in
    let p = err_from_is_err_and c.from_residual.result c.from_residual.ensures.1 in
    rw p.1 (record { puts = record { ok = tt; short = place_short c.in_err-append_zeros.field-0.0 c.args.out.now c.append_zeros.new.self c.pair_len.result bytes c.pair_len.ensures.counts c.requires.few c.in_err-append_zeros.ensures.appends } })

pub returns : goal.returns
returns c =
    let bytes = canonical tables.KeyValue (pair_columns c.args.pair.now) in
    record {
      puts = record {
        ok = place_filled c.args.out.now c.append_zeros.new.self c.fill_pair.new.out c.pair_len.result (length c.as_slice.result.now) c.fill_pair.result bytes c.pair_len.ensures.counts c.requires.few c.in_ok-append_zeros.ensures.appends.ok (ap length c.as_slice.ensures.bytes) c.fill_pair.ensures.fills;
        short = tt;
      };
    }
