-- Reports as they are encoded, and what their bytes mean.
use Rattle.std.proofs.Common.{◌≡◌, ℕ, List, inl, inr, arith}
use Rattle.std.specs.Prelude.{Result, Ok, Err, IfOk, IfErr}
use Rattle.message_codec.specs.declared.wire.field.Why.{Why}
use Rattle.message_values.specs.declared.report.AgentToServer.{AgentToServer}
use Rattle.message_codec.specs.Tables as tables
use Rattle.message_codec.specs.Means.{Means}
use Rattle.message_codec.proofs.Laws.{one_meaning, no_fault}
use Rattle.message_codec.specs.declared.writer.encoding.WriteFail.{WriteFail}
use Rattle.message_codec.specs.declared.writer.encoding.WriteFail.TheVariants.{TooLarge, TooDeep, NoMemory}
use Rattle.message_codec.specs.Levels.{WriteFails, Wrote}
use Rattle.message_reports.specs.ReportColumns.{agent_to_server_columns}
use Rattle.message_reports.specs.Reports.{canonical_report, MeansReport, ReportFails, ReportFault}
use Rattle.message_reports.proofs.Injective.{report_columns_tell}

pub reads_again : {E : Type 0} (report : AgentToServer) (result : Result (List ℕ) E) → IfOk result (Wrote tables.AgentToServer (agent_to_server_columns report)) → IfOk result (λ bytes. Means 100 tables.AgentToServer bytes (agent_to_server_columns report))
    → IfOk result (λ bytes. MeansReport bytes report)
reads_again report (Ok bytes) wrote means = (wrote.fits, means)
reads_again report (Err e) wrote means = tt

pub fails_so : {T : Type 0} (report : AgentToServer) (result : Result T WriteFail) → IfErr result (WriteFails tables.AgentToServer (agent_to_server_columns report)) → IfErr result (ReportFails report)
unfolding canonical_report
fails_so report (Ok bytes) h = tt
fails_so report (Err TooLarge) h = h
fails_so report (Err TooDeep) h = h
fails_so report (Err NoMemory) h = tt

-- bytes that mean a report have no fault
pub never_refused : (bytes : List ℕ) (report : AgentToServer) (at : ℕ) (why : Why) → MeansReport bytes report → ReportFault bytes at why → ⊥
never_refused bytes report at why means (inl large) = omega (arith, means.0, large.0)
never_refused bytes report at why means (inr fault) = no_fault 100 tables.AgentToServer bytes at why (means.1.0, means.1.1, means.1.2) fault.1

pub same_report : (bytes : List ℕ) (m n : AgentToServer) → MeansReport bytes m → MeansReport bytes n → m ≡ n
same_report bytes m n p q = report_columns_tell m n (one_meaning 100 tables.AgentToServer bytes _ _ p.1 q.1)
