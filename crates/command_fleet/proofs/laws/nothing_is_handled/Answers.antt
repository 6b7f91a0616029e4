use Rattle.command_fleet.proofs.Endings.{none_handled}
use Rattle.command_fleet.proofs.laws.nothing_is_handled.Goals as goal

pub returns : goal.returns
returns c = record { outcome = none_handled }
