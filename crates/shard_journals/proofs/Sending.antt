-- What may go from thread to thread, part by part: the check's own search doesn't reach so far at once.
use denote.Ref.{NamedLft}
use denote.Param.Send.{IsSend, IsSync, sendable}
use denote.Param.SendFields.{declared_send}
use Rattle.message_values.proofs.Sending.{components_send, details_send, report_sync, state_send, values_cross}
use Rattle.plain_values.specs.contracts.lists.List as list
use Rattle.plain_values.proofs.uids.Uid.TheSendSync.{the_send as uid_send}
use Rattle.server_core.specs.contracts.rows.Record as kept
use Rattle.server_core.specs.contracts.rows.Rest as rest
use Rattle.server_core.specs.contracts.rows.Row as beside
use Rattle.server_core.specs.contracts.server.Server as server
use Rattle.shard_journals.specs.contracts.rows.Row as row
use Rattle.shard_journals.specs.contracts.journal.Journal as journal

pub kept_send : IsSend kept.the_row
kept_send = declared_send kept.the_type (uid_send, (search sendable, (search sendable, (state_send, (search (details_send, values_cross) depth 30, tt)))))

pub rest_send : IsSend rest.the_row
rest_send = search (components_send, values_cross) depth 200 fits 1000000

pub beside_send : IsSend beside.the_row
beside_send = search (rest_send, values_cross) depth 200 fits 1000000

pub server_send : IsSend server.the_row
server_send = search (kept_send, beside_send, values_cross) depth 200 fits 1000000

-- ---- rows and journals

pub row_send : (a : NamedLft) → IsSend (row.the_row a)
row_send a = search (report_sync, values_cross) depth 30

pub row_sync : (a : NamedLft) → IsSync (row.the_row a)
row_sync a = search (report_sync, values_cross) depth 30

pub rows_sync : (a : NamedLft) → IsSync (list.the_row (row.the_row a))
rows_sync a = search (row_sync, values_cross) depth 30

pub journal_send : (a : NamedLft) → IsSend (journal.the_row a)
journal_send a = search (server_send, row_send, values_cross) depth 200 fits 1000000
