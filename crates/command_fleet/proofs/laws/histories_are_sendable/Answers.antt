use Rattle.std.proofs.Common.{arith}
use Rattle.server_core.specs.declared.rows.TheConstants.{AGENT_LIMIT}
use Rattle.shard_journals.specs.Histories.{fleet_profile}
use Rattle.command_fleet.proofs.Sendable.{sendable}
use Rattle.command_fleet.proofs.laws.histories_are_sendable.Goals as goal

pub returns : goal.returns
returns c = record { sendable = sendable (c.replies_fit.ensures.fit AGENT_LIMIT) (c.few_names_fit.ensures.fit fleet_profile.custom (omega arith) tt) }
