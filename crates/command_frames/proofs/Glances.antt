-- Bytes that are seen at a glance to be a report in canonical form.
use Rattle.std.proofs.Common.{◌≡◌, ℕ, ◌≤◌, List, length, ap, arith}
use Rattle.std.specs.Prelude.{true, Option, None, Some, IfSome, is_some}
use Rattle.message_values.specs.declared.report.AgentToServer.{AgentToServer}
use Rattle.message_reports.specs.Reports.{MeansReport, canonical_report, report_levels}
use Rattle.command_frames.specs.Families.{reports}
use Rattle.command_frames.specs.Rewriting.{IsOwnForm}

module _ {Short : Type 0} (report_of : Short → AgentToServer) (bytes : List ℕ) where
  pub seen_own_form : (seen : Option Short)
      → IfSome seen (λ short. bytes ≡ canonical_report (report_of short))
      → IfSome seen (λ short. MeansReport bytes (report_of short))
      → IfSome seen (λ short. length bytes ≤ 64)
      → IfSome seen (λ short. report_levels (report_of short) ≤ 2)
      → is_some seen ≡ true → IsOwnForm reports bytes
  seen_own_form None canonical means small shallow is = cc
  seen_own_form (Some short) canonical means small shallow is =
      let len : length bytes ≡ length (canonical_report (report_of short)) = ap length canonical in
      (report_of short, means, (omega (arith, len, small), omega (arith, shallow)), canonical)
