-- What is told of the agents of a rollout.
use Rattle.std.specs.Prelude.{ℕ, ◌+◌, List, length, map, Bool, ◌||◌, if◌then◌else◌}
use Rattle.server_core.specs.History.{is_among}
use Rattle.server_waves.specs.Waves.{Waves}
use Rattle.server_waves.specs.declared.fates.Fate.{Fate}
use Rattle.server_waves.specs.declared.fates.Fate.TheVariants.{Waiting, Offered, Applied, Failed}
use Rattle.server_waves.specs.declared.fates.Member.{Member}
use Rattle.server_waves.specs.declared.fates.Progress.{Progress}

-- by whether the agent has the offer, applied it, and failed
abbrev pub fate_by : Bool → Bool → Bool → Fate
fate_by offered applied failed = if offered then Offered else if applied then Applied else if failed then Failed else Waiting

-- what became of the offer at an agent that joined; one that failed and is excused has failed
abbrev pub fate_of : Waves → List ℕ → Fate
fate_of waves uid = fate_by (is_among waves.offered uid) (is_among waves.applied uid) (is_among waves.failed uid || is_among waves.excused uid)

-- the agents in the order of joining, with that of each
abbrev pub members_of : Waves → List Member
members_of waves = map (λ uid. record { uid = uid; fate = fate_of waves uid }) waves.members

-- how many agents wait, have the offer and neither applied it nor failed, applied it, and failed
abbrev pub progress_of : Waves → Progress
progress_of waves = record {
  waiting = length waves.waiting;
  offered = length waves.offered;
  applied = length waves.applied;
  failed = length waves.excused + length waves.failed;
  halted = waves.halted;
}
