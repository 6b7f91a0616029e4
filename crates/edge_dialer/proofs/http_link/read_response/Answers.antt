use Rattle.std.proofs.Common.{◌++◌, Option, Ok, subst, option_to_list, take}
use Rattle.edge_http.specs.declared.messages.HttpMessage.{HttpMessage}
use Rattle.edge_http.specs.Polled.{HasPolled}
use Rattle.edge_dialer.specs.Answers.{ReceivedIs}
use Rattle.edge_dialer.proofs.Receiving.{receiving-ends, receiving-first, receiving-on}
use Rattle.edge_dialer.proofs.http_link.read_response.Goals as goal

pub loop-init : goal.loop-init
loop-init g c = receiving-first c.args.reader.now (g.S.Read.remaining c.args.stream.now) c.requires.unused c.requires.fresh

pub returns-in-Some : goal.returns-in-Some
returns-in-Some g c =
    let before = c.loop.reader in
    let after = c.receive_piece.new.reader in
    let piece = take c.in_ok-count.count c.read_piece.new.buffer in
    record {
      first = receiving-ends c.args.reader.now before after (g.S.Read.remaining c.args.stream.now) (g.S.Read.remaining c.loop.stream)
          (g.S.Read.remaining c.read_piece.new.stream) piece c.in-Some.message c.holds_nothing-alone.result c.loop.invariant c.in_ok-count.ensures.bytes
          (subst (λ (m : Option HttpMessage). ReceivedIs before.parts.side before.parts.limit (c.loop.invariant.came ++ piece) (Ok m)) c.in-Some.is
          (c.in_ok-receive_piece.ensures.received c.loop.invariant.came c.loop.invariant.polled))
          (subst (λ (m : Option HttpMessage). HasPolled after (c.loop.invariant.came ++ piece) (option_to_list m)) c.in-Some.is
          (c.in_ok-receive_piece.ensures.polled c.loop.invariant.came c.loop.invariant.polled))
          c.in_ok-receive_piece.ensures.kind
          c.holds_nothing-alone.ensures.messages;
    }

pub loop-preserved : goal.loop-preserved
loop-preserved g c =
    let after = c.receive_piece.new.reader in
    let piece = take c.in_ok-count.count c.read_piece.new.buffer in
    receiving-on c.args.reader.now c.loop.reader after (g.S.Read.remaining c.args.stream.now) (g.S.Read.remaining c.loop.stream)
    (g.S.Read.remaining c.read_piece.new.stream) piece c.loop.invariant c.in_ok-count.ensures.bytes
    (subst (λ (m : Option HttpMessage). HasPolled after (c.loop.invariant.came ++ piece) (option_to_list m)) c.in-None.is
    (c.in_ok-receive_piece.ensures.polled c.loop.invariant.came c.loop.invariant.polled))
    (c.in_ok-receive_piece.ensures.still c.in-None.is) c.in_ok-receive_piece.ensures.kind
