use Rattle.std.proofs.Common.{◌++◌}
use Rattle.message_codec.specs.Tables as tables
use Rattle.message_codec.specs.Values.{Flag, Number, Content}
use Rattle.message_codec.specs.Canonical.{column_bytes}
use Rattle.message_codec.proofs.Backward.{fills_both}
use Rattle.message_values.specs.declared.health.ComponentHealth.{out-ComponentHealth}
use Rattle.message_reports.proofs.health_written.fill_front.Goals as goal

pub returns : goal.returns
returns c =
    let x = out-ComponentHealth c.args.health.now in
    let healthy = column_bytes 1 tables.Truth (Flag x.healthy) in
    let start = column_bytes 2 tables.Fixed (Number x.start_time_unix_nano) in
    let error = column_bytes 3 tables.Text (Content x.last_error) in
    let status = column_bytes 4 tables.Text (Content x.status) in
    let time = column_bytes 5 tables.Fixed (Number x.status_time_unix_nano) in
    record {
      fills = λ place.
          fills_both c.args.out.now c.fill_fixed-status_time.new.out c.fill_truth.new.out c.args.end c.fill_fixed-status_time.result c.fill_truth.result (((healthy ++ start) ++ error) ++ status) time place c.fill_fixed-status_time.ensures.fills
          (λ four. fills_both c.fill_fixed-status_time.new.out c.fill_text-status.new.out c.fill_truth.new.out c.fill_fixed-status_time.result c.fill_text-status.result c.fill_truth.result ((healthy ++ start) ++ error) status four c.fill_text-status.ensures.fills
          (λ three. fills_both c.fill_text-status.new.out c.fill_text-error.new.out c.fill_truth.new.out c.fill_text-status.result c.fill_text-error.result c.fill_truth.result (healthy ++ start) error three c.fill_text-error.ensures.fills
          (λ two. fills_both c.fill_text-error.new.out c.fill_fixed-start.new.out c.fill_truth.new.out c.fill_text-error.result c.fill_fixed-start.result c.fill_truth.result healthy start two c.fill_fixed-start.ensures.fills c.fill_truth.ensures.fills)));
    }
