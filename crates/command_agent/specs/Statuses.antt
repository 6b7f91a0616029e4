-- The exit statuses of an agent's run.
use Rattle.std.specs.Prelude.{◌≡◌, ◌⊎◌, ℕ}
use Rattle.command_agent.specs.declared.status.AgentStatus.{AgentStatus}
use Rattle.command_agent.specs.declared.status.AgentStatus.TheVariants.{Restarted, WriteFault, NoMemory, StoreFault, Damaged, OutsideFault, RoundsSpent, NumbersSpent, TooLarge}

abbrev pub status_of : AgentStatus → ℕ
status_of Restarted = 0
status_of WriteFault = 4
status_of NoMemory = 5
status_of StoreFault = 6
status_of Damaged = 7
status_of OutsideFault = 8
status_of RoundsSpent = 9
status_of NumbersSpent = 10
status_of TooLarge = 11

-- A run ends with one of these exit statuses.
abbrev pub IsAgentStatus : ℕ → Type 0
IsAgentStatus n = (n ≡ 0) ⊎ ((n ≡ 4) ⊎ ((n ≡ 5) ⊎ ((n ≡ 6) ⊎ ((n ≡ 7) ⊎ ((n ≡ 8) ⊎ ((n ≡ 9) ⊎ ((n ≡ 10) ⊎ (n ≡ 11))))))))

-- With these it writes nothing.
abbrev pub IsSilentStatus : ℕ → Type 0
IsSilentStatus n = (n ≡ 5) ⊎ ((n ≡ 6) ⊎ ((n ≡ 8) ⊎ ((n ≡ 10) ⊎ (n ≡ 11))))
