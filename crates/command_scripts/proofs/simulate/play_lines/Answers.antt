use Rattle.std.proofs.Common.{inl, refl}
use Rattle.command_scripts.proofs.simulate.play_lines.Goals as goal

pub simulate-requires : goal.simulate-requires
simulate-requires g c = record { unplayed = c.requires.unplayed }

pub returns-in-Ok-clause-ends : goal.returns-in-Ok-clause-ends
returns-in-Ok-clause-ends g c = inl (refl, c.in-Ok.ensures.transcript, c.in-Ok.ensures.played)
