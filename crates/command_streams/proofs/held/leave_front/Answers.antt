use Rattle.std.proofs.Common.{◌+◌, ◌-◌, ◌∙◌, ap, drop, take, arith}
use Rattle.command_streams.proofs.Taking.{copied_on, longer_buffer}
use Rattle.command_streams.proofs.held.leave_front.Goals as goal

pub returns-clause-kept : goal.returns-clause-kept
returns-clause-kept c =
    let len = c.args.end - c.args.start in
    let long = c.lengthen.new.buffer.items in
    ap (λ t. drop c.args.front (take (c.args.front + len) t)) c.copy_within.ensures.items
    ∙ copied_on long c.args.start c.args.end c.args.front c.requires.within.0 (omega (arith, c.requires.within.1, c.lengthen.ensures.longer)) (omega (arith, c.in_ok-lengthen.ensures.long))
    ∙ longer_buffer c.args.buffer.now.items long c.args.start c.args.end c.in_ok-lengthen.ensures.begins (omega (arith, c.requires.within.1))
