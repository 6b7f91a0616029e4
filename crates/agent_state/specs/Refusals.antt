-- What the agent's calls give, and why they refuse.
use Rattle.std.specs.Prelude.{◌≡◌, ◌≢◌, ◌⊎◌, true, false, is_none}
use Rattle.message_values.specs.declared.reply.ServerToAgent.{ServerToAgent}
use Rattle.message_values.specs.declared.report.AgentToServer.{AgentToServer}
use Rattle.message_reports.specs.Reports.{canonical_report, MeansReport}
use Rattle.agent_rules.specs.declared.rules.parts.AgentFail.{AgentFail}
use Rattle.agent_rules.specs.declared.rules.parts.AgentFail.TheVariants.{StoreFault, NumbersSpent, WrongUid, TooLarge, NoMemory}
use Rattle.agent_rules.specs.declared.rules.parts.Prepared.{Prepared}
use Rattle.agent_rules.specs.Reports.{message_of, fits_message}
use Rattle.agent_rules.specs.Half.{AgentHalf, entry_of}
use Rattle.agent_rules.specs.Keeping.{Report, TakeReply}
use Rattle.agent_rules.specs.Calls.{has_number}
use Rattle.agent_state.specs.View.{AgentView, CallRefusal}

-- the report that is due, in canonical form
pub record IsPrepared (a : AgentHalf) (report : Prepared) : Type 0 where
  pub number : report.number ≡ a.next
  pub whole : report.whole ≡ is_none (entry_of a).basis
  pub bytes : report.bytes ≡ canonical_report (message_of (entry_of a))
  -- whoever reads the bytes finds the report
  pub means : MeansReport report.bytes (message_of (entry_of a))

-- why a message isn't encoded: it is too large, or memory ran out
abbrev pub EncodingRefusal : AgentToServer → AgentFail → Type 0
EncodingRefusal m TooLarge = fits_message m ≡ false
EncodingRefusal m NoMemory = Unit {0}
EncodingRefusal m NumbersSpent = ⊥
EncodingRefusal m WrongUid = ⊥
EncodingRefusal m StoreFault = ⊥

-- why no number is reserved for a report: there is none; or there is one, and its block isn't kept
abbrev pub NumberRefusal : AgentView → AgentFail → Type 0
NumberRefusal a NumbersSpent = (has_number a.half ≡ false) ⊎ CallRefusal a Report NumbersSpent
NumberRefusal a TooLarge = (has_number a.half ≡ true) × CallRefusal a Report TooLarge
NumberRefusal a StoreFault = CallRefusal a Report StoreFault
NumberRefusal a NoMemory = ⊥
NumberRefusal a WrongUid = ⊥

-- why no report is made: it is too large; or it is within the limits, and no number is reserved for it
abbrev pub ReportRefusal : AgentView → AgentFail → Type 0
ReportRefusal a TooLarge = (fits_message (message_of (entry_of a.half)) ≡ false) ⊎ NumberRefusal a TooLarge
ReportRefusal a NumbersSpent = (fits_message (message_of (entry_of a.half)) ≡ true) × NumberRefusal a NumbersSpent
ReportRefusal a NoMemory = Unit {0}
ReportRefusal a WrongUid = ⊥
ReportRefusal a StoreFault = NumberRefusal a StoreFault

-- why a reply isn't taken: it is to another agent; or it is to this one, and what it teaches isn't kept, or memory ran out
abbrev pub ReplyRefusal : AgentView → ServerToAgent → AgentFail → Type 0
ReplyRefusal a reply WrongUid = reply.instance_uid ≢ a.half.saved.uid
ReplyRefusal a reply NumbersSpent = (reply.instance_uid ≡ a.half.saved.uid) × CallRefusal a (TakeReply reply) NumbersSpent
ReplyRefusal a reply TooLarge = (reply.instance_uid ≡ a.half.saved.uid) × CallRefusal a (TakeReply reply) TooLarge
ReplyRefusal a reply NoMemory = (reply.instance_uid ≡ a.half.saved.uid) × CallRefusal a (TakeReply reply) NoMemory
ReplyRefusal a reply StoreFault = (reply.instance_uid ≡ a.half.saved.uid) × CallRefusal a (TakeReply reply) StoreFault
