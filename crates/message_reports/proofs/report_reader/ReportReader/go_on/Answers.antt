use Rattle.std.proofs.Common.{ℕ, List, ◌++◌}
use Rattle.message_codec.specs.Tables as tables
use Rattle.message_attributes.proofs.PartLaws.{on_ok}
use Rattle.message_reports.specs.ReportPieces.{WasFed}
use Rattle.message_reports.proofs.ReportFed.{whole_in, boxed_fed, goes_on}
use Rattle.message_reports.proofs.report_reader.ReportReader.go_on.Goals as goal

pub feed-fed-requires : goal.feed-fed-requires
feed-fed-requires c =
    let w = c.requires.in_use in
    record { fed = record { root = tables.AgentToServer; bytes = w.bytes; fed = goes_on c.args.self.now c.replace-report.result c.begun-reader.result w.bytes c.replace-report.ensures.value c.begun-reader.ensures.fed (whole_in c.args.self.now w.bytes c.requires.whole w.fed) } }

pub returns : goal.returns
returns c = record {
  fed = on_ok c.feed-fed.result _ _
      (λ k. λ (bytes : List ℕ) (h : WasFed c.args.self.now bytes). boxed_fed _ c.feed-fed.new.self (bytes ++ c.args.rest.now) c.in_ok-boxed.ensures.ok
      (k tables.AgentToServer bytes (goes_on c.args.self.now c.replace-report.result c.begun-reader.result bytes c.replace-report.ensures.value c.begun-reader.ensures.fed (whole_in c.args.self.now bytes c.requires.whole h))))
      c.feed-fed.ensures.fed;
}
