use Rattle.std.proofs.Common.{◌+◌, ◌-◌, arith}
use Rattle.command_streams.proofs.Taking.{TakesBehind-read}
use Rattle.command_streams.proofs.held.take_behind.Goals as goal

pub returns-clause-more : goal.returns-clause-more
returns-clause-more g c =
    TakesBehind-read c.args.end (c.args.end + c.args.most - c.args.end) c.args.buffer.now c.take.new.into _ _ c.take.result (omega arith) c.take.ensures.within c.take.ensures.bytes
