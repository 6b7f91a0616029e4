use denote.Ref.{NamedLft}
use denote.Param.Send.{IsSync, sendable}
use Rattle.plain_values.specs.contracts.lists.List as list
use Rattle.shard_journals.specs.contracts.rows.Row as row
use Rattle.shard_servers.specs.contracts.desks.Told as told
use Rattle.shard_servers.proofs.Sending.{told_sync}
use Rattle.shard_servers.proofs.checks.stand_each.Goals as goal

pub map_vec-requires-send-J : goal.map_vec-requires-send-J
map_vec-requires-send-J g c κs within =
    let shared : (l : NamedLft) → IsSync (told.the_row l) = told_sync c.journals_cross_threads.ensures.rows_shared in
    search (shared, sendable) depth 30 fits 100000

pub map_vec-requires-sync-F : goal.map_vec-requires-sync-F
map_vec-requires-sync-F g c κs within =
    let lists : (l : NamedLft) → IsSync (list.the_row (row.the_row l)) = c.journals_cross_threads.ensures.lists_shared in
    search (lists, sendable) depth 30 fits 100000
