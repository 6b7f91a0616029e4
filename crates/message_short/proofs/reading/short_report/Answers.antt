use Rattle.std.proofs.Common.{◌≡◌, ◌≤◌, length}
use Rattle.message_reports.specs.Reports.{MeansReport, canonical_report, report_levels}
use Rattle.message_short.specs.Short.{report_of}
use Rattle.message_short.proofs.Told.{IsShort, is_told, own_bytes, few_bytes, few_levels, meant, some_told}
use Rattle.message_short.proofs.reading.short_report.Goals as goal

pub returns : goal.returns
returns c =
    let bytes = c.args.bytes.now in
    let by = c.told_by.ensures in
    let told = is_told bytes c.told_by.result by.uid by.sequence_num by.capabilities by.spelled in
    record {
      canonical = some_told (IsShort bytes) (λ short. bytes ≡ canonical_report (report_of short)) (own_bytes bytes) c.told_by.result told;
      means = some_told (IsShort bytes) (λ short. MeansReport bytes (report_of short)) (meant bytes) c.told_by.result told;
      small = some_told (IsShort bytes) (λ short. length bytes ≤ 64) (few_bytes bytes) c.told_by.result told;
      shallow = some_told (IsShort bytes) (λ short. report_levels (report_of short) ≤ 2) (few_levels bytes) c.told_by.result told;
    }
