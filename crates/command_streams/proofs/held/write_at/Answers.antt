use Rattle.std.proofs.Common.{◌≡◌, ◌+◌, ◌-◌, length, arith}
use Rattle.command_streams.proofs.Taking.{put_before}
use Rattle.command_streams.proofs.held.write_at.Goals as goal

pub returns-clause-put : goal.returns-clause-put
returns-clause-put c = λ end behind within.
    let len = length c.args.bytes.now in
    let size : len ≡ c.args.from + len - c.args.from = omega arith in
    rw c.copy_from_slice.ensures.after
    (put_before c.args.from (c.args.from + len - c.args.from) end c.args.buffer.now c.args.bytes.now (omega (arith, behind)) within size)
