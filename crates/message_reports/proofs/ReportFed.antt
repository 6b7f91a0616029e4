-- A report that is read straight, as long as its pieces are whole fields.
use Rattle.std.proofs.Common.{◌∙◌, ◌≡◌, ℕ, ◌+◌, ◌≤◌, List, ◌++◌, length, take, sym, subst, arith, ap, append_assoc, length-append, length-take, take-append-drop}
use Rattle.std.proofs.lemmas.List.{take_all}
use Rattle.std.specs.Prelude.{Some, None, Option, MatchOption}
use Rattle.std.specs.List.{slice_range}
use Rattle.message_codec.proofs.Steps.{to_end}
use Rattle.message_codec.specs.declared.wire.field.Why.{Why}
use Rattle.message_codec.specs.Tables as tables
use Rattle.message_codec.specs.Standing.{Fails, TakesWhole, FailsWithin, IsBegun}
use Rattle.message_codec.specs.Whole.{HasFed}
use Rattle.message_codec.specs.declared.pieces.whole_reader.WholeReader.{WholeReader}
use Rattle.message_codec.proofs.Whole.{begun_some, begun_fails, begun_means}
use Rattle.message_reports.specs.Pieces.{part_name, part_columns}
use Rattle.message_reports.specs.ReportColumns.{agent_to_server_draft_columns}
use Rattle.message_reports.specs.ReportPieces.{IsWhole, WasFed, MeansDraft}
use Rattle.message_reports.specs.declared.report.AgentToServerDraft.{AgentToServerDraft}
use Rattle.message_reports.specs.declared.report_reader.ReportReader.{ReportReader}
use Rattle.message_reports.specs.declared.report_parts.ReportPart.{ReportPart}

at_none : {A : Type 0} (o : Option A) (P : Type 0) (Q : A → Type 0) → o ≡ None → MatchOption o P Q → P
at_none None P Q e h = h
at_none (Some x) P Q e h = absurd cc

on_none : {A : Type 0} (o : Option A) (P : Type 0) (Q : A → Type 0) → o ≡ None → P → MatchOption o P Q
on_none None P Q e h = h
on_none (Some x) P Q e h = absurd cc

pub whole_in : (r : ReportReader) (bytes : List ℕ) → r.pieces ≡ None → WasFed r bytes → IsWhole r bytes
whole_in r bytes e h = at_none r.pieces (IsWhole r bytes) (λ b. HasFed part_name part_columns tables.AgentToServer b.value bytes) e h

pub fed_in : (r : ReportReader) (bytes : List ℕ) → r.pieces ≡ None → IsWhole r bytes → WasFed r bytes
fed_in r bytes e h = on_none r.pieces (IsWhole r bytes) (λ b. HasFed part_name part_columns tables.AgentToServer b.value bytes) e h

pub in_all : (bytes piece : List ℕ) (n : ℕ) → n ≤ length piece → (bytes ++ take n piece) ++ slice_range piece n (length piece) ≡ bytes ++ piece
in_all bytes piece n le = append_assoc bytes (take n piece) (slice_range piece n (length piece)) ∙ ap (λ (l : List ℕ). bytes ++ l) (ap (λ (l : List ℕ). take n piece ++ l) (to_end piece n le) ∙ take-append-drop n piece)

pub after_fields : (r : ReportReader) (draft : AgentToServerDraft) (bytes piece : List ℕ) (count : ℕ)
    → count ≤ length piece
    → r.place + length piece ≤ 4194304
    → TakesWhole 99 tables.AgentToServer (agent_to_server_draft_columns r.report) (take count piece) (agent_to_server_draft_columns draft)
    → IsWhole r bytes
    → IsWhole (record r { report = draft; place = r.place + count }) (bytes ++ take count piece)
after_fields r draft bytes piece count le few takes h = record {
  begun = begun_some tables.AgentToServer (agent_to_server_draft_columns r.report) (agent_to_server_draft_columns draft) bytes piece count le (omega (arith, few, h.place)) takes h.begun;
  place = omega (arith, h.place, length-append bytes (take count piece), length-take count piece, le);
}

pub after_all : (r : ReportReader) (draft : AgentToServerDraft) (bytes piece : List ℕ) (count : ℕ)
    → count ≡ length piece
    → r.place + length piece ≤ 4194304
    → TakesWhole 99 tables.AgentToServer (agent_to_server_draft_columns r.report) (take count piece) (agent_to_server_draft_columns draft)
    → IsWhole r bytes
    → IsWhole (record r { report = draft; place = r.place + count }) (bytes ++ piece)
after_all r draft bytes piece count e few takes h =
    let all : take count piece ≡ piece = take_all count piece (omega (arith, e)) in
    subst (λ (l : List ℕ). IsWhole (record r { report = draft; place = r.place + count }) (bytes ++ l)) all (after_fields r draft bytes piece count (omega (arith, e)) few takes h)

pub after_fault : (r : ReportReader) (bytes piece : List ℕ) (at : ℕ) (why : Why)
    → r.place + length piece ≤ 4194304
    → FailsWithin 99 tables.AgentToServer (agent_to_server_draft_columns r.report) piece at why
    → IsWhole r bytes
    → Fails tables.AgentToServer 0 (bytes ++ piece) (r.place + at) why
after_fault r bytes piece at why few fails h = begun_fails tables.AgentToServer (agent_to_server_draft_columns r.report) bytes piece r.place at why h.place (omega (arith, few, h.place)) fails h.begun

pub boxed_fed : (b w : WholeReader ReportPart) (bytes : List ℕ) → b ≡ w → HasFed part_name part_columns tables.AgentToServer w bytes → HasFed part_name part_columns tables.AgentToServer b bytes
boxed_fed b w bytes e h = subst (λ (r : WholeReader ReportPart). HasFed part_name part_columns tables.AgentToServer r bytes) (sym e) h

-- the reader of pieces goes on from there
pub goes_on : (r : ReportReader) (draft : AgentToServerDraft) (w : WholeReader ReportPart) (bytes : List ℕ)
    → draft ≡ r.report
    → ((front : List ℕ) → length front ≡ r.place → IsBegun tables.AgentToServer (agent_to_server_draft_columns draft) front → HasFed part_name part_columns tables.AgentToServer w front)
    → IsWhole r bytes
    → HasFed part_name part_columns tables.AgentToServer w bytes
goes_on r draft w bytes e begins h = begins bytes (sym h.place) (subst (λ (d : AgentToServerDraft). IsBegun tables.AgentToServer (agent_to_server_draft_columns d) bytes) (sym e) h.begun)

pub means_draft : (r : ReportReader) (bytes : List ℕ) → IsWhole r bytes → MeansDraft bytes r.report
means_draft r bytes h = (h.begun.within, begun_means tables.AgentToServer (agent_to_server_draft_columns r.report) bytes h.begun)
