use Rattle.command_frames.proofs.Endings.{for_each, EndsOnce, ends_once}
use Rattle.command_frames.proofs.laws.one_ending.Goals as goal

pub returns : goal.returns
returns c = record { ending = λ command. ends_once command (for_each EndsOnce c.one_ending.ensures.ending c.one_ending-2.ensures.ending c.one_ending-3.ensures.ending c.one_ending-4.ensures.ending c.one_ending-5.ensures.ending c.one_ending-6.ensures.ending command) (c.one_thing_is_made.ensures.once command) }
