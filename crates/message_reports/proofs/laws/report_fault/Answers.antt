use Rattle.message_codec.specs.Tables as tables
use Rattle.message_codec.proofs.WholeMessages.{one_whole_fault, whole_within}
use Rattle.message_reports.proofs.Encoded.{never_refused}
use Rattle.message_reports.proofs.laws.report_fault.Goals as goal

pub returns-clause-not_both : goal.returns-clause-not_both
returns-clause-not_both c = never_refused

pub returns-clause-one_fault : goal.returns-clause-one_fault
returns-clause-one_fault c = one_whole_fault tables.AgentToServer

pub returns-clause-within : goal.returns-clause-within
returns-clause-within c = whole_within tables.AgentToServer
