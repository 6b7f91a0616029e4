-- What may go from thread to thread, of what shards and desks are made of.
use denote.RattleType.{RattleType}
use denote.Ref.{NamedLft}
use denote.Param.Send.{IsSend, IsSync, sendable}
use Rattle.std.proofs.Crossing.{crosses}
use Rattle.std.proofs.sync.ledger.Share.TheSendSync.{the_send as share_send}
use Rattle.std.proofs.sync.ledger.Book.TheSendSync.{the_send as book_send}
use Rattle.std.specs.declared.sync.ledger.Ledger.{Ghosts}
use Rattle.std.specs.contracts.result.Result as result
use Rattle.plain_values.specs.contracts.memory.NoMemory as no_memory
use Rattle.shard_journals.specs.contracts.journal.Journal as journal
use Rattle.shard_journals.specs.contracts.rows.Row as row
use Rattle.shard_servers.specs.contracts.desks.Told as told
use Rattle.shard_servers.specs.contracts.desks.Desk as desk
use Rattle.shard_servers.specs.contracts.shard.Shard as shard
use Rattle.shard_servers.specs.contracts.shards.Shards as shards

pub ruleset values_cross = (sendable, crosses)

abbrev pub RowsSent : Type 0
RowsSent = (l : NamedLft) → IsSend (row.the_row l)

abbrev pub JournalsSent : Type 0
JournalsSent = (l : NamedLft) → IsSend (journal.the_row l)

pub told_send : RowsSent → (l : NamedLft) → IsSend (told.the_row l)
told_send row_send l = search (row_send, values_cross) depth 30

abbrev pub RowsShared : Type 0
RowsShared = (l : NamedLft) → IsSync (row.the_row l)

pub told_sync : RowsShared → (l : NamedLft) → IsSync (told.the_row l)
told_sync row_sync l = search (row_sync, values_cross) depth 30

pub shard_send : JournalsSent → (l : NamedLft) (L : RattleType) (g : Ghosts L.Denot) → IsSend (shard.the_row l L g)
shard_send journal_send l L g = search (journal_send, share_send, book_send, values_cross) depth 30 fits 100000

abbrev pub DesksSent : Type 1
DesksSent = (l : NamedLft) (A B C D : RattleType) (a : Ghosts A.Denot) (b : Ghosts B.Denot) (c : Ghosts C.Denot) (d : Ghosts D.Denot) → IsSend (desk.the_row l A B C D a b c d)

abbrev pub ResultsSent : Type 1
ResultsSent = (l : NamedLft) (A B C D : RattleType) (a : Ghosts A.Denot) (b : Ghosts B.Denot) (c : Ghosts C.Denot) (d : Ghosts D.Denot) → IsSend (result.the_row (desk.the_row l A B C D a b c d) no_memory.the_row)

abbrev pub ShardsShared : Type 1
ShardsShared = (l : NamedLft) (A B C D : RattleType) (a : Ghosts A.Denot) (b : Ghosts B.Denot) (c : Ghosts C.Denot) (d : Ghosts D.Denot) → IsSync (shards.the_row l A B C D a b c d)

pub desk_send : RowsSent → DesksSent
desk_send row_send l A B C D a b c d =
    let told : (l : NamedLft) → IsSend (told.the_row l) = told_send row_send in
    search (told, share_send, values_cross) depth 30 fits 100000

pub result_send : RowsSent → ResultsSent
result_send row_send l A B C D a b c d =
    let send : DesksSent = desk_send row_send in
    search (send, values_cross) depth 30 fits 100000

pub shards_sync : JournalsSent → ShardsShared
shards_sync journal_send l A B C D a b c d =
    let send : (k : NamedLft) (L : RattleType) (g : Ghosts L.Denot) → IsSend (shard.the_row k L g) = shard_send journal_send in
    search (send, values_cross) depth 30 fits 100000
