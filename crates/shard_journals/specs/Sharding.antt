-- Which shard handles the reports of an agent. The rule is this project's own.
use Rattle.std.specs.Prelude.{ℕ, ◌%◌, List, if◌then◌else◌}
use Rattle.std.specs.Prelude.{slice_index_or}
use Rattle.server_core.specs.History.{is_uid}
use Rattle.shard_journals.specs.declared.sharding.TheConstants.{SHARDS}

-- the last of the 16 bytes of an identifier, modulo the number of shards; another length has the shard 0
abbrev pub shard_of : List ℕ → ℕ
shard_of uid = if is_uid uid then slice_index_or uid 15 0 % SHARDS else 0
