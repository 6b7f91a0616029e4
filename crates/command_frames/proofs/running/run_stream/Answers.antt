use Rattle.command_frames.proofs.running.run_stream.Goals as goal

pub returns-in-Answer-clause-framed : goal.returns-in-Answer-clause-framed
returns-in-Answer-clause-framed g c = rw c.in-Answer.is c.run_answer.ensures.answers

pub returns-in-CanonReport-clause-framed : goal.returns-in-CanonReport-clause-framed
returns-in-CanonReport-clause-framed g c = rw c.in-CanonReport.is c.run_canon.ensures.canonical

pub returns-in-CanonReply-clause-framed : goal.returns-in-CanonReply-clause-framed
returns-in-CanonReply-clause-framed g c = rw c.in-CanonReply.is c.run_canon-in-CanonReply.ensures.canonical

pub returns-in-ShowReport-clause-framed : goal.returns-in-ShowReport-clause-framed
returns-in-ShowReport-clause-framed g c = rw c.in-ShowReport.is c.run_show.ensures.shown

pub returns-in-ShowReply-clause-framed : goal.returns-in-ShowReply-clause-framed
returns-in-ShowReply-clause-framed g c = rw c.in-ShowReply.is c.run_show-in-ShowReply.ensures.shown

pub returns-in-Answer-clause-before_read_fault : goal.returns-in-Answer-clause-before_read_fault
returns-in-Answer-clause-before_read_fault g c = rw c.in-Answer.is c.run_answer.ensures.before_read_fault

pub returns-in-CanonReport-clause-before_read_fault : goal.returns-in-CanonReport-clause-before_read_fault
returns-in-CanonReport-clause-before_read_fault g c = rw c.in-CanonReport.is c.run_canon.ensures.before_read_fault

pub returns-in-CanonReply-clause-before_read_fault : goal.returns-in-CanonReply-clause-before_read_fault
returns-in-CanonReply-clause-before_read_fault g c = rw c.in-CanonReply.is c.run_canon-in-CanonReply.ensures.before_read_fault

pub returns-in-ShowReport-clause-before_read_fault : goal.returns-in-ShowReport-clause-before_read_fault
returns-in-ShowReport-clause-before_read_fault g c = rw c.in-ShowReport.is c.run_show.ensures.before_read_fault

pub returns-in-ShowReply-clause-before_read_fault : goal.returns-in-ShowReply-clause-before_read_fault
returns-in-ShowReply-clause-before_read_fault g c = rw c.in-ShowReply.is c.run_show-in-ShowReply.ensures.before_read_fault

pub returns-in-Check-clause-framed : goal.returns-in-Check-clause-framed
returns-in-Check-clause-framed g c = rw c.in-Check.is c.run_check.ensures.checked

pub returns-in-Check-clause-before_read_fault : goal.returns-in-Check-clause-before_read_fault
returns-in-Check-clause-before_read_fault g c = rw c.in-Check.is c.run_check.ensures.before_read_fault

pub returns-in-Answer-clause-taken : goal.returns-in-Answer-clause-taken
returns-in-Answer-clause-taken g c = rw c.in-Answer.is c.run_answer.ensures.taken

pub returns-in-CanonReport-clause-taken : goal.returns-in-CanonReport-clause-taken
returns-in-CanonReport-clause-taken g c = rw c.in-CanonReport.is c.run_canon.ensures.taken

pub returns-in-CanonReply-clause-taken : goal.returns-in-CanonReply-clause-taken
returns-in-CanonReply-clause-taken g c = rw c.in-CanonReply.is c.run_canon-in-CanonReply.ensures.taken

pub returns-in-ShowReport-clause-taken : goal.returns-in-ShowReport-clause-taken
returns-in-ShowReport-clause-taken g c = rw c.in-ShowReport.is c.run_show.ensures.taken

pub returns-in-ShowReply-clause-taken : goal.returns-in-ShowReply-clause-taken
returns-in-ShowReply-clause-taken g c = rw c.in-ShowReply.is c.run_show-in-ShowReply.ensures.taken

pub returns-in-Check-clause-taken : goal.returns-in-Check-clause-taken
returns-in-Check-clause-taken g c = rw c.in-Check.is c.run_check.ensures.taken
