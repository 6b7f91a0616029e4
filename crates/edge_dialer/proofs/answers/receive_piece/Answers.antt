use Rattle.std.proofs.Common.{List, [], ◌++◌, Err, refl, sym, subst}
use Rattle.edge_devices.specs.declared.dialers.LinkFail.{LinkFail}
use Rattle.edge_http.specs.declared.messages.HttpMessage.{HttpMessage}
use Rattle.edge_http.specs.Streams.{Begins}
use Rattle.edge_http.specs.Polled.{poll_failure}
use Rattle.edge_dialer.specs.Answers.{ReceivedIs}
use Rattle.edge_dialer.proofs.Receiving.{told-begins, told-failed, told-none}
use Rattle.edge_dialer.proofs.answers.receive_piece.Goals as goal

pub returns-in-Some-clause-received : goal.returns-in-Some-clause-received
returns-in-Some-clause-received c bytes polled =
    let old = c.args.reader.now in
    let new = c.feed-fed.new.self in
    let all = bytes ++ c.args.piece.now in
    let found = told-begins old.parts.side old.parts.limit new all new.ready (poll_failure new) c.feed-fed.ensures.kind.0 c.feed-fed.ensures.kind.1
    (c.feed-fed.ensures.tells bytes [] polled) in (
      c.take.new.self.ready,
      found.0,
      subst (λ (ms : List HttpMessage). Begins old.parts.side old.parts.limit all ms found.0) c.in-Some.ensures.oldest found.1,
    )

pub returns-in-Some-clause-polled : goal.returns-in-Some-clause-polled
returns-in-Some-clause-polled c bytes polled =
    c.in-Some.ensures.read (bytes ++ c.args.piece.now) [] (c.feed-fed.ensures.read bytes [] polled)

pub returns-in-Ok-clause-polled : goal.returns-in-Ok-clause-polled
returns-in-Ok-clause-polled c bytes polled =
    c.in-None.ensures.read (bytes ++ c.args.piece.now) [] (c.feed-fed.ensures.read bytes [] polled)

pub returns-in-Ok-clause-received : goal.returns-in-Ok-clause-received
returns-in-Ok-clause-received c bytes polled =
    let old = c.args.reader.now in
    let new = c.feed-fed.new.self in
    told-none old.parts.side old.parts.limit new (bytes ++ c.args.piece.now) new.ready (poll_failure new) c.feed-fed.ensures.kind.0 c.feed-fed.ensures.kind.1
    (c.feed-fed.ensures.tells bytes [] polled) c.in-Ok.ensures.answer (c.in-None.ensures.none refl).0

pub returns-in-Err-clause-received : goal.returns-in-Err-clause-received
returns-in-Err-clause-received c bytes polled =
    let old = c.args.reader.now in
    let new = c.feed-fed.new.self in
    let all = bytes ++ c.args.piece.now in
    subst (λ (fail : LinkFail). ReceivedIs old.parts.side old.parts.limit all (Err fail)) (sym c.reader_fail.ensures)
    (told-failed old.parts.side old.parts.limit new all new.ready (poll_failure new) c.in-Err.fail c.feed-fed.ensures.kind.0 c.feed-fed.ensures.kind.1
    (c.feed-fed.ensures.tells bytes [] polled) c.in-Err.ensures.answer (c.in-None.ensures.none refl).0)
