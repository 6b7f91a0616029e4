use Rattle.command_frames.specs.Commands.{opening}
use Rattle.command_frames.proofs.Endings.{for_each, ReadsOnce, ReadsSomehow}
use Rattle.command_frames.proofs.laws.one_reading.Goals as goal

pub returns-clause-some : goal.returns-clause-some
returns-clause-some c = λ command budget bytes are.
    for_each ReadsSomehow c.some_reading.ensures.reading c.some_reading-2.ensures.reading c.some_reading-3.ensures.reading c.some_reading-4.ensures.reading c.some_reading-5.ensures.reading c.some_reading-6.ensures.reading command (c.something_is_made.ensures.total command) (opening command) budget bytes are

pub returns-clause-one : goal.returns-clause-one
returns-clause-one c = λ command budget bytes a b stop_a stop_b.
    for_each ReadsOnce c.one_reading.ensures.reading c.one_reading-2.ensures.reading c.one_reading-3.ensures.reading c.one_reading-4.ensures.reading c.one_reading-5.ensures.reading c.one_reading-6.ensures.reading command (c.one_thing_is_made.ensures.once command) (opening command) budget bytes a b stop_a stop_b
