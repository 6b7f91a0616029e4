-- How a run of desks fails.
use Rattle.std.specs.Prelude.{◌≡◌, ◌⊎◌, ℕ, List, length}
use Rattle.message_values.specs.declared.report.AgentToServer.{AgentToServer}
use Rattle.shard_servers.specs.declared.checks.CloseFail.{CloseFail}
use Rattle.shard_servers.specs.declared.checks.CloseFail.TheVariants.{NoMemory}
use Rattle.shard_servers.specs.Agreement.{DisagreesWithKept}
use Rattle.shard_servers.specs.Desks.{AreFresh, AtDesk}
use Rattle.shard_servers.specs.Work.{AreWorked}

-- so many fresh desks had these reports handled, and what was told to them disagrees so with the journals that the shards kept
pub record DisagreesAfterWork (items : List AgentToServer) (desks : ℕ) (fail : CloseFail) : Type 0 where
  pub fresh : List AtDesk
  pub done : List AtDesk
  pub count : length fresh ≡ desks
  pub new : AreFresh fresh
  pub worked : AreWorked items desks fresh done
  pub disagrees : DisagreesWithKept done fail

abbrev pub FailsToRun : List AgentToServer → ℕ → CloseFail → Type 0
FailsToRun items desks fail = (fail ≡ NoMemory) ⊎ DisagreesAfterWork items desks fail
