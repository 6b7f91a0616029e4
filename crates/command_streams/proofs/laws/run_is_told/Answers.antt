use Rattle.command_streams.proofs.Carried.{answers_told, before_last_told, written_told}
use Rattle.command_streams.proofs.laws.run_is_told.Goals as goal

pub returns-clause-answers : goal.returns-clause-answers
returns-clause-answers g c = λ carries form kept start budget input old new ending. answers_told form g.C.Told.tells g.C.Handler.gives g.C.Told.makes kept start budget input old new ending carries

pub returns-clause-written : goal.returns-clause-written
returns-clause-written g c = λ carries kept start left left' old new. written_told g.C.Told.tells g.C.Handler.gives g.C.Told.makes kept start left left' old new carries

pub returns-clause-before_last : goal.returns-clause-before_last
returns-clause-before_last g c = λ carries kept start budget left left' old new. before_last_told g.C.Told.tells g.C.Handler.gives g.C.Told.makes kept start budget left left' old new carries
