use Rattle.std.proofs.Common.{sym, ◌∙◌}
use Rattle.command_fleet.proofs.Endings.{fleet_outcome, read_fault_ending, write_fault_ending}
use Rattle.command_fleet.proofs.running.run_fleet_command.Goals as goal

pub returns-clause-outcome : goal.returns-clause-outcome
returns-clause-outcome g c =
    fleet_outcome c.one_reading.ensures.one c.args.desks c.args.budget _ _ c.status.result (c.fleet.result, c.status.ensures.status, c.fleet.ensures.writes)
    (λ three. c.fleet.ensures.read_fault (read_fault_ending c.fleet.result (sym c.status.ensures.status ∙ three)))
    (λ four. c.fleet.ensures.write_fault (write_fault_ending c.fleet.result (sym c.status.ensures.status ∙ four)))
    c.fleet.ensures.few
