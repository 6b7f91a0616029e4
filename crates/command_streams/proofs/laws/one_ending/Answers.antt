use Rattle.command_streams.proofs.Exact.{one_ending}
use Rattle.command_streams.proofs.laws.one_ending.Goals as goal

pub returns : goal.returns
returns g c = record { ending = λ single form start budget bytes steps stop old new status. one_ending form g.C.Told.makes start budget bytes steps stop old new status single }
