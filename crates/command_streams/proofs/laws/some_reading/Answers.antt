use Rattle.command_streams.proofs.Total.{some_reading}
use Rattle.command_streams.proofs.laws.some_reading.Goals as goal

pub returns : goal.returns
returns g c = record { reading = λ total start budget bytes are. some_reading g.C.Told.makes start budget bytes total are }
