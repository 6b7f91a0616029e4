use Rattle.std.proofs.Common.{◌∙◌, List, ℕ, sym}
use Rattle.message_attributes.proofs.PartLaws.{on_ok}
use Rattle.message_reports.specs.ReportPieces.{WasFed}
use Rattle.message_reports.proofs.ReportFed.{whole_in, boxed_fed, means_draft}
use Rattle.message_reports.proofs.report_reader.ReportReader.gather.Goals as goal

pub end_of_pieces-requires : goal.end_of_pieces-requires
end_of_pieces-requires c =
    let w = c.requires.in_use in
    record { fed = record { bytes = w.bytes; fed = boxed_fed c.into_inner.result _ w.bytes c.into_inner.ensures (rw (sym c.take.ensures.value ∙ c.in-Some.is) at w.fed) } }

pub returns-in-None-clause-means : goal.returns-in-None-clause-means
returns-in-None-clause-means c bytes h = means_draft c.args.self.now bytes (whole_in c.args.self.now bytes (sym c.take.ensures.value ∙ c.in-None.is) h)

pub returns-in-Some-clause-means : goal.returns-in-Some-clause-means
returns-in-Some-clause-means c = on_ok c.end_of_pieces.result _ _ (λ k. λ (bytes : List ℕ) (h : WasFed c.args.self.now bytes). k bytes (boxed_fed c.into_inner.result _ bytes c.into_inner.ensures (rw (sym c.take.ensures.value ∙ c.in-Some.is) at h))) c.end_of_pieces.ensures.means

pub returns-in-Some-clause-refused : goal.returns-in-Some-clause-refused
returns-in-Some-clause-refused c = λ (bytes : List ℕ) (h : WasFed c.args.self.now bytes). c.end_of_pieces.ensures.refused bytes (boxed_fed c.into_inner.result _ bytes c.into_inner.ensures (rw (sym c.take.ensures.value ∙ c.in-Some.is) at h))
