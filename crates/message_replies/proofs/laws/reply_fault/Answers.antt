use Rattle.message_codec.specs.Tables as tables
use Rattle.message_codec.proofs.WholeMessages.{one_whole_fault, whole_within}
use Rattle.message_replies.proofs.Again.{never_refused}
use Rattle.message_replies.proofs.laws.reply_fault.Goals as goal

pub returns-clause-not_both : goal.returns-clause-not_both
returns-clause-not_both c = never_refused

pub returns-clause-one_fault : goal.returns-clause-one_fault
returns-clause-one_fault c = one_whole_fault tables.ServerToAgent

pub returns-clause-within : goal.returns-clause-within
returns-clause-within c = whole_within tables.ServerToAgent
