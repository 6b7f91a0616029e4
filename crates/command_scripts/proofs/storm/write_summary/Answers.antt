use Rattle.command_scripts.specs.Storming.{summary_line}
use Rattle.command_scripts.proofs.Scripts.{taken_front}
use Rattle.command_scripts.proofs.storm.write_summary.Goals as goal

pub returns-clause-cut : goal.returns-clause-cut
returns-clause-cut g c =
    let part = rw (c.as_bytes.ensures.value, c.in-Ok.ensures.line) at c.in-Err.ensures.bytes in
    taken_front (g.K.Sink.taken c.args.sink.now) (g.K.Sink.taken c.put.new.self) part.0 (summary_line c.args.summary.now) part.1
