use Rattle.command_scripts.proofs.Endings.{storm_done}
use Rattle.command_scripts.proofs.storm.run_storm_command.Goals as goal

pub returns-clause-outcome : goal.returns-clause-outcome
returns-clause-outcome g c = record {
  done = c.run_storm.ensures.done;
  cut = c.run_storm.ensures.cut;
  write_fault = c.run_storm.ensures.write_fault;
  left = c.run_storm.ensures.played;
  complete = λ no_write. storm_done c.run_storm.result c.run_storm.ensures.statuses (λ is. no_write (c.run_storm.ensures.write_fault is));
  statuses = c.run_storm.ensures.statuses;
}

pub run_storm-requires : goal.run_storm-requires
run_storm-requires g c = record { unplayed = c.requires.unplayed; few = c.requires.few }
