use Rattle.message_reports.proofs.Encoded.{fails_so, reads_again}
use Rattle.message_reports.proofs.encoding.encode_report.Goals as goal

pub returns-clause-read_again : goal.returns-clause-read_again
returns-clause-read_again c = reads_again c.args.message.now c.encode.result c.encode.ensures.written c.encode.ensures.read_again

pub returns-clause-failed : goal.returns-clause-failed
returns-clause-failed c = fails_so c.args.message.now c.encode.result c.encode.ensures.failed
