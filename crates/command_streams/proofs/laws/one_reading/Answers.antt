use Rattle.command_streams.proofs.Exact.{one_reading}
use Rattle.command_streams.proofs.laws.one_reading.Goals as goal

pub returns : goal.returns
returns g c = record { reading = λ single start budget bytes a b stop_a stop_b. one_reading g.C.Told.makes start budget bytes a b stop_a stop_b single }
