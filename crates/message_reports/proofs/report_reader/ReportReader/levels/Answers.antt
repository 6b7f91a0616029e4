use Rattle.std.proofs.Common.{◌∙◌, ◌≡◌, ℕ, List, refl, ap, arith}
use Rattle.std.specs.Prelude.{Some}
use Rattle.message_codec.specs.declared.wire.field.Refused.{Refused}
use Rattle.message_codec.specs.declared.pieces.whole_reader.WholeReader.{WholeReader}
use Rattle.message_codec.specs.Tables as tables
use Rattle.message_codec.specs.Whole.{levels_of}
use Rattle.message_codec.proofs.FedPieces.{over_from_many, levels_over, levels_failed}
use Rattle.message_reports.specs.declared.report_parts.ReportPart.{ReportPart}
use Rattle.message_reports.specs.Pieces.{part_name, part_columns}
use Rattle.message_reports.specs.ReportPieces.{WasFed, HasFailed}
use Rattle.message_reports.proofs.ReportFed.{boxed_fed, whole_in}
use Rattle.message_reports.proofs.report_reader.ReportReader.levels.Goals as goal

pub levels-requires : goal.levels-requires
levels-requires c =
    let w = c.requires.in_use in
    record { fed = record { root = tables.AgentToServer; bytes = w.bytes; fed = boxed_fed c.deref.result.now c.in-Some.reader.value w.bytes c.deref.ensures (rw c.in-Some.is at w.fed) } }

pub returns-in-Some : goal.returns-in-Some
returns-in-Some c = record {
  count =
      let all : c.levels.result ≡ levels_of c.in-Some.reader.value = c.levels.ensures.count ∙ ap (λ (w : WholeReader ReportPart). levels_of w) c.deref.ensures in
      rw c.in-Some.is all;
  most = c.levels.ensures.most;
  failed = λ (f : HasFailed c.args.self.now).
      let found : (e : Refused) × (c.in-Some.reader.value.reader.failure ≡ Some e) = rw c.in-Some.is at f in
      c.levels.ensures.count ∙ levels_failed c.deref.result.now found.0 (ap (λ (w : WholeReader ReportPart). w.reader.failure) c.deref.ensures ∙ found.1);
  too_many = λ (bytes : List ℕ) (h : WasFed c.args.self.now bytes) many.
      c.levels.ensures.count ∙ levels_over c.deref.result.now
      (over_from_many part_name part_columns tables.AgentToServer c.deref.result.now bytes c.deref.result.now.over (boxed_fed c.deref.result.now c.in-Some.reader.value bytes c.deref.ensures (rw c.in-Some.is at h)) many);
}

pub returns-in-None : goal.returns-in-None
returns-in-None c = record {
  count = rw c.in-None.is refl;
  most = omega arith;
  failed = λ (f : HasFailed c.args.self.now). (let none : ⊥ = rw c.in-None.is at f in absurd none);
  too_many = λ (bytes : List ℕ) (h : WasFed c.args.self.now bytes) many. absurd (omega (arith, many, (whole_in c.args.self.now bytes c.in-None.is h).begun.within));
}
