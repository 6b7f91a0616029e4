use Rattle.command_scripts.proofs.storm.run_storm.Goals as goal

pub storm-requires : goal.storm-requires
storm-requires g c = record { unplayed = c.requires.unplayed; few = c.requires.few }
