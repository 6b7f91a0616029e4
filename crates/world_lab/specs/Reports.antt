-- What becomes of a report that the agent sends.
use Rattle.std.specs.Prelude.{◌≡◌, ◌<◌, true, false, List, [], ◌∷◌, ◌++◌, length, Option, None, Some}
use Rattle.agent_rules.specs.declared.rules.parts.Prepared.{Prepared}
use Rattle.agent_rules.specs.Half.{AgentHalf, entry_of, target}
use Rattle.agent_rules.specs.Reports.{message_of}
use Rattle.agent_rules.specs.Keeping.{Report}
use Rattle.agent_rules.specs.Calls.{may_report}
use Rattle.agent_state.specs.Refusals.{IsPrepared}
use Rattle.world_lab.specs.declared.plays.Host.{Host}
use Rattle.world_lab.specs.declared.plays.SentReport.{SentReport}
use Rattle.world_lab.specs.declared.written.Written.{Written}
use Rattle.world_lab.specs.Playing.{endpoint_of}
use Rattle.world_lab.specs.Transcripts.{sent_line}
use Rattle.world_lab.specs.Hosts.{GoesOn, StaysSo}

-- the agent reported
pub record IsReported (old new : Host) (report : Prepared) : Type 0 where
  pub may : may_report old.agent.half ≡ true
  pub goes : GoesOn old new (Report ∷ []) 1
  pub prepared : IsPrepared old.agent.half report

-- it reported, or it may not and is as it was
abbrev pub Reports : Host → Host → Option Prepared → Type 0
Reports old new None = (may_report old.agent.half ≡ false) × StaysSo old new
Reports old new (Some prepared) = IsReported old new prepared

-- the report of the agent's entry was kept last, and this is its line
pub record IsKept (a : AgentHalf) (old new : List SentReport) (line : Written) : Type 0 where
  pub report : SentReport
  pub message : report.message ≡ message_of (entry_of a)
  pub server : endpoint_of report.server ≡ (target a).endpoint
  pub digit : report.server < 10
  pub unanswered : report.reply ≡ None
  pub sent_are : new ≡ old ++ report ∷ []
  pub written : line ≡ sent_line (length old) (entry_of a)
