use Rattle.message_reports.specs.Reports.{MeansReport, ReportFault}
use Rattle.message_short.specs.Short.{report_of}
use Rattle.message_short.proofs.Told.{ok_told, never_refused}
use Rattle.message_short.proofs.decoding.decode_report.Goals as goal

pub returns-in-Some : goal.returns-in-Some
returns-in-Some c =
    let bytes = c.args.bytes.now in
    record {
      means = ok_told (MeansReport bytes) (report_of c.in-Some.short) c.report_of.result c.report_of.ensures.report c.in-Some.ensures.means;
      refused = never_refused (ReportFault bytes) c.report_of.result c.report_of.ensures.only_memory;
    }
