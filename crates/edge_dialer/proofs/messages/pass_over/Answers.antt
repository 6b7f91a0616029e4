use Rattle.edge_dialer.specs.Messages.{IsNoClose}
use Rattle.edge_dialer.proofs.Passing.{no-close, passes-all, passing-first, passing-on}
use Rattle.edge_dialer.proofs.messages.pass_over.Goals as goal

pub loop-init : goal.loop-init
loop-init g c = passing-first IsNoClose g.S.Read.remaining c.args.socket.now

pub loop-preserved : goal.loop-preserved
loop-preserved g c =
    let read =
    no-close g.S.Read.remaining c.loop.socket c.read_message.new.socket c.read_message.result c.read_message.ensures.binary c.read_message.ensures.other
    c.in-Binary.is in
    passing-on IsNoClose g.S.Read.remaining c.args.socket.now c.loop.socket c.read_message.new.socket c.loop.counter c.loop.invariant read.0 read.1 read.2

pub returns-in-Nothing : goal.returns-in-Nothing
returns-in-Nothing g c = record {
  passed = passes-all IsNoClose g.S.Read.remaining c.args.socket.now c.loop.socket c.read_message.new.socket c.loop.counter c.loop.invariant c.loop-test.true
      (c.read_message.ensures.nothing c.in-Nothing.is);
}
