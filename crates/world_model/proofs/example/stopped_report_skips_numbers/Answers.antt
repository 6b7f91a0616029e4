use Rattle.std.proofs.Common.{map, is_some, ap}
use Rattle.world_model.specs.World.{World}
use Rattle.world_model.proofs.StoppedReport.{run_is}
use Rattle.world_model.proofs.example.stopped_report_skips_numbers.Goals as goal

pub returns-clause-numbers : goal.returns-clause-numbers
returns-clause-numbers c = ap (λ (w : World). map (λ e. e.number) w.sent) run_is

pub returns-clause-changes : goal.returns-clause-changes
returns-clause-changes c = ap (λ (w : World). map (λ e. is_some e.basis) w.sent) run_is

pub returns-clause-limit : goal.returns-clause-limit
returns-clause-limit c = ap (λ (w : World). w.agent.saved.limit) run_is
