use Rattle.std.proofs.Common.{List, ℕ}
use Rattle.message_codec.specs.Tables as tables
use Rattle.message_attributes.proofs.PartLaws.{on_ok}
use Rattle.message_reports.specs.ReportPieces.{WasFed}
use Rattle.message_reports.proofs.ReportFed.{boxed_fed}
use Rattle.message_reports.proofs.report_reader.ReportReader.feed.Goals as goal

pub feed-requires : goal.feed-requires
feed-requires c =
    let w = c.requires.in_use in
    record { fed = record { root = tables.AgentToServer; bytes = w.bytes; fed = boxed_fed c.deref_mut.result.now c.in-Some.reader.value w.bytes c.deref_mut.ensures.value (rw c.in-Some.is at w.fed) } }

pub returns-in-Some : goal.returns-in-Some
returns-in-Some c = record {
  fed = on_ok c.feed.result _ _
      (λ k. λ (bytes : List ℕ) (h : WasFed c.args.self.now bytes). k tables.AgentToServer bytes (boxed_fed c.deref_mut.result.now c.in-Some.reader.value bytes c.deref_mut.ensures.value (rw c.in-Some.is at h)))
      c.feed.ensures.fed;
}
