-- What is written at the end of serving, and the exit status.
use Rattle.std.specs.Prelude.{◌≡◌, ◌⊎◌, ℕ, List, [], ◌∷◌, ◌++◌, codes}
use Rattle.std.specs.Fmt.{decimal}
use Rattle.command_serve.specs.declared.status.RolloutStatus.{RolloutStatus}
use Rattle.command_serve.specs.declared.status.RolloutStatus.TheVariants.{Served, TooLarge}
use Rattle.command_serve.specs.declared.status.ServeStatus.{ServeStatus}
use Rattle.command_serve.specs.declared.status.ServeStatus.TheVariants.{NoMemory, Stopped, TurnsSpent, WireFault, WriteFault}

-- the line `events N`
unfoldable pub events_line : ℕ → List ℕ
events_line n = codes "events " ++ (decimal n ++ 10 ∷ [])

abbrev pub status_of : ServeStatus → ℕ
status_of Stopped = 0
status_of WriteFault = 4
status_of NoMemory = 5
status_of WireFault = 8
status_of TurnsSpent = 9

-- Serving ends with one of these exit statuses.
abbrev pub IsServeStatus : ℕ → Type 0
IsServeStatus n = (n ≡ 0) ⊎ ((n ≡ 4) ⊎ ((n ≡ 5) ⊎ ((n ≡ 8) ⊎ (n ≡ 9))))

-- the same with a rollout
abbrev pub rollout_status_of : RolloutStatus → ℕ
rollout_status_of (Served status) = status_of status
rollout_status_of TooLarge = 11
