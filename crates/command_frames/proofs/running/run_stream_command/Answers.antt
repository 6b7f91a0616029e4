use Rattle.command_frames.proofs.Endings.{stream_outcome}
use Rattle.command_frames.proofs.running.run_stream_command.Goals as goal

pub returns-clause-outcome : goal.returns-clause-outcome
returns-clause-outcome g c =
    stream_outcome c.one_ending.ensures.ending c.args.command _ _ c.run_stream.result c.run_stream.ensures.framed c.run_stream.ensures.read_fault c.run_stream.ensures.write_fault c.run_stream.ensures.before_read_fault c.run_stream.ensures.taken
