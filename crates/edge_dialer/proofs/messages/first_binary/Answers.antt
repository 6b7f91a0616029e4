use Rattle.std.proofs.Common.{arith, inl}
use Rattle.edge_dialer.specs.Messages.{IsOther}
use Rattle.edge_dialer.proofs.Passing.{passes-all, passes-most, passing-first, passing-on, takes-binary}
use Rattle.edge_dialer.proofs.messages.first_binary.Goals as goal

pub loop-init : goal.loop-init
loop-init g c = passing-first IsOther g.S.Read.remaining c.args.socket.now

pub loop-preserved : goal.loop-preserved
loop-preserved g c =
    let other = c.read_message.ensures.other c.in-Other.is in
    passing-on IsOther g.S.Read.remaining c.args.socket.now c.loop.socket c.read_message.new.socket c.loop.counter c.loop.invariant other.0 other.1 other.2

pub returns-in-Binary-clause-binary : goal.returns-in-Binary-clause-binary
returns-in-Binary-clause-binary g c =
    takes-binary g.S.Read.remaining c.args.socket.now c.loop.socket c.read_message.new.socket c.in-Binary.payload c.loop.counter c.loop.invariant
    c.loop-test.true c.in-Binary.ensures.binary

pub returns-in-Nothing-clause-none : goal.returns-in-Nothing-clause-none
returns-in-Nothing-clause-none g c _ = inl
    (passes-all IsOther g.S.Read.remaining c.args.socket.now c.loop.socket c.read_message.new.socket c.loop.counter c.loop.invariant c.loop-test.true
    (c.read_message.ensures.nothing c.in-Nothing.is))

pub returns-clause-none : goal.returns-clause-none
returns-clause-none g c _ =
    passes-most g.S.Read.remaining c.args.socket.now c.loop.socket c.loop.counter c.loop.invariant (omega arith)
