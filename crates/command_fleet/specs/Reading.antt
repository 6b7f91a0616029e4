-- What is made of framed reports: the list of them, in their order.
use Rattle.std.specs.Prelude.{◌≡◌, ℕ, List, [], ◌∷◌, ◌++◌, Option, IfSome}
use Rattle.message_values.specs.declared.report.AgentToServer.{AgentToServer}
use Rattle.message_reports.specs.Reports.{MeansReport, ReportFault}
use Rattle.command_streams.specs.declared.stop.Stop.{Stop}
use Rattle.command_streams.specs.Made.{Writes, HasFault, IsTooLong, Gives}
use Rattle.command_streams.specs.Reading.{Step, state_after, AreSteps, Reads}

-- A message that means a report adds it, and nothing is written for it. Another one has its first fault, and adds none.
abbrev pub Collects : Gives (List AgentToServer)
Collects reports message (Writes output) after = (report : AgentToServer) × MeansReport message report × (output ≡ []) × (after ≡ reports ++ report ∷ [])
Collects reports message (HasFault at why) after = ReportFault message at why × (after ≡ reports)
Collects reports message IsTooLong after = ⊥

-- Within the budget the input, where it is told, is read as these reports up to this stop.
pub record ReadsReports (budget : ℕ) (input : Option (List ℕ)) (reports : List AgentToServer) (stop : Stop) : Type 0 where
  pub steps : List (Step (List AgentToServer))
  pub each : AreSteps Collects [] steps
  pub reads : IfSome input (λ bytes. Reads Collects [] budget bytes steps stop)
  pub all : reports ≡ state_after [] steps
