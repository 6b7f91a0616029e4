use Rattle.command_scripts.proofs.Endings.{simulate_outcome}
use Rattle.command_scripts.proofs.simulate.run_simulate_command.Goals as goal

pub returns-clause-outcome : goal.returns-clause-outcome
returns-clause-outcome g c = simulate_outcome c.one_script_reading.ensures.one _ _ c.play_script.result c.play_script.ensures.simulates c.play_script.ensures.read_fault c.play_script.ensures.write_fault c.play_script.ensures.few

pub play_script-requires : goal.play_script-requires
play_script-requires g c = record { unplayed = c.requires.unplayed }
