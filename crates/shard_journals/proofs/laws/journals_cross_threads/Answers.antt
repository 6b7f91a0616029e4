use Rattle.message_values.proofs.Sending.{report_send, report_sync}
use Rattle.shard_journals.proofs.Sending.{journal_send, row_send, row_sync, rows_sync, server_send}
use Rattle.shard_journals.proofs.laws.journals_cross_threads.Goals as goal

pub returns : goal.returns
returns c = record { reports_sent = report_send; reports_shared = report_sync; rows_sent = row_send; rows_shared = row_sync; lists_shared = rows_sync; journals_sent = journal_send; servers_sent = server_send }
