use Rattle.command_scripts.proofs.Unplayed.{none_simulated, none_stormed}
use Rattle.command_scripts.proofs.laws.nothing_is_played.Goals as goal

pub returns-clause-simulate : goal.returns-clause-simulate
returns-clause-simulate c = none_simulated c.one_script_reading.ensures.some

pub returns-clause-storm : goal.returns-clause-storm
returns-clause-storm c = none_stormed
