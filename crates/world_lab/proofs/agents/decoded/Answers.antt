use Rattle.std.proofs.Common.{ℕ, List, inl, inr, arith}
use Rattle.message_codec.specs.declared.wire.field.Why.{Why}
use Rattle.message_values.specs.declared.report.AgentToServer.{AgentToServer}
use Rattle.message_codec.specs.Tables as tables
use Rattle.message_codec.specs.Tables.{Name}
use Rattle.message_codec.specs.Means.{Sound}
use Rattle.message_codec.specs.Faults.{FirstFault}
use Rattle.message_reports.specs.Reports.{MeansReport, ReportFault}
use Rattle.world_lab.proofs.agents.decoded.Goals as goal

-- bytes with a meaning have no fault
NoFault : Type 0
NoFault = (levels : ℕ) (name : Name) (bytes : List ℕ) (at : ℕ) (why : Why) → Sound levels name bytes → FirstFault levels name bytes at why → ⊥

-- bytes that mean a report have no fault
never_refused : NoFault → (bytes : List ℕ) (report : AgentToServer) (at : ℕ) (why : Why) → MeansReport bytes report → ReportFault bytes at why → ⊥
unfolding NoFault
never_refused no_fault bytes report at why means (inl large) = omega (arith, means.0, large.0)
never_refused no_fault bytes report at why means (inr fault) = no_fault 100 tables.AgentToServer bytes at why (means.1.0, means.1.1, means.1.2) fault.1

pub unreachable-requires : goal.unreachable-requires
unfolding NoFault
unreachable-requires c =
    never_refused c.no_fault.ensures.never c.args.bytes.now c.requires.report.0 c.in-Err-Refused.field-0-0.at c.in-Err-Refused.field-0-0.why c.requires.report.1 (rw c.in-Err-Refused.field-0-is at c.in-Err-Refused.ensures.refused)
