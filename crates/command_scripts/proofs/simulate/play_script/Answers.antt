use Rattle.std.proofs.Common.{sym, ◌∙◌}
use Rattle.command_scripts.proofs.Endings.{read_fault_run}
use Rattle.command_scripts.proofs.simulate.play_script.Goals as goal

pub returns-clause-read_fault_leaves : goal.returns-clause-read_fault_leaves
returns-clause-read_fault_leaves g c three = c.run_script.ensures.read_fault_leaves (read_fault_run c.run_script.result (sym c.script_status.ensures.status ∙ three))

pub run_script-requires : goal.run_script-requires
run_script-requires g c = record { unplayed = c.requires.unplayed }
