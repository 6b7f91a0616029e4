use Rattle.std.proofs.Common.{◌∙◌, ◌≡◌, ℕ, ◌<◌, List, refl, sym, subst, ap, inl, arith}
use Rattle.std.specs.Prelude.{Some}
use Rattle.message_codec.specs.declared.wire.field.Refused.{Refused}
use Rattle.message_codec.specs.declared.pieces.whole_reader.WholeReader.{WholeReader}
use Rattle.message_codec.specs.Tables as tables
use Rattle.message_codec.specs.Held.{item_size}
use Rattle.message_codec.specs.Whole.{HasFed}
use Rattle.message_codec.proofs.FedPieces.{ends_in, over_from_many}
use Rattle.message_reports.specs.declared.report_parts.ReportPart.{ReportPart}
use Rattle.message_reports.specs.Pieces.{part_name, part_columns}
use Rattle.message_reports.specs.ReportPieces.{WasFed, IsPassing, HasFailed}
use Rattle.message_reports.proofs.ReportFed.{boxed_fed}
use Rattle.message_reports.proofs.report_reader.ReportReader.held.Goals as goal

pub returns-in-Some : goal.returns-in-Some
returns-in-Some c =
    let fed_at : (bytes : List ℕ) → WasFed c.args.self.now bytes → HasFed part_name part_columns tables.AgentToServer c.deref.result.now bytes =
    λ bytes h. boxed_fed c.deref.result.now c.in-Some.reader.value bytes c.deref.ensures (rw c.in-Some.is at h) in
    record {
      counts = λ (bytes : List ℕ) (h : WasFed c.args.self.now bytes).
          let size : c.held.result ≡ item_size c.in-Some.reader.value.reader.field.items =
          c.held.ensures.counts (record { root = tables.AgentToServer; bytes = bytes; fed = fed_at bytes h }) ∙ ap (λ (w : WholeReader ReportPart). item_size w.reader.field.items) c.deref.ensures in
          rw c.in-Some.is size;
      ends = λ (bytes : List ℕ) (h : WasFed c.args.self.now bytes).
          ends_in part_name part_columns tables.AgentToServer c.deref.result.now bytes c.held.result c.deref.result.now.over refl (fed_at bytes h) (c.held.ensures.holds (record { root = tables.AgentToServer; bytes = bytes; fed = fed_at bytes h }));
      passing = λ (bytes : List ℕ) (h : WasFed c.args.self.now bytes) (p : IsPassing c.args.self.now).
          let still : 0 < c.in-Some.reader.value.reader.skip = rw c.in-Some.is at p in
          (c.held.ensures.holds (record { root = tables.AgentToServer; bytes = bytes; fed = fed_at bytes h })).holds.passing (subst (λ (w : WholeReader ReportPart). 0 < w.reader.skip) (sym c.deref.ensures) still);
      failed = λ (bytes : List ℕ) (h : WasFed c.args.self.now bytes) (f : HasFailed c.args.self.now).
          let found : (e : Refused) × (c.in-Some.reader.value.reader.failure ≡ Some e) = rw c.in-Some.is at f in
          (c.held.ensures.holds (record { root = tables.AgentToServer; bytes = bytes; fed = fed_at bytes h })).holds.failed found.0 (ap (λ (w : WholeReader ReportPart). w.reader.failure) c.deref.ensures ∙ found.1);
      too_many = λ (bytes : List ℕ) (h : WasFed c.args.self.now bytes) many.
          (c.held.ensures.holds (record { root = tables.AgentToServer; bytes = bytes; fed = fed_at bytes h })).over
          (over_from_many part_name part_columns tables.AgentToServer c.deref.result.now bytes c.deref.result.now.over (fed_at bytes h) many);
    }

pub returns-in-None : goal.returns-in-None
returns-in-None c = record {
  counts = λ bytes h. rw c.in-None.is refl;
  ends = λ bytes h. inl (omega (arith));
  passing = λ bytes h p. refl;
  failed = λ bytes h f. refl;
  too_many = λ bytes h many. refl;
}
