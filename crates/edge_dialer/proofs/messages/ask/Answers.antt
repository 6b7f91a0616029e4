use Rattle.edge_dialer.proofs.Passing.{answered-by}
use Rattle.edge_dialer.proofs.messages.ask.Goals as goal

pub returns : goal.returns
returns g c = record {
  answered = answered-by g.S.Write.contents g.S.Read.remaining c.args.socket.now c.send_question.new.socket c.next_binary.new.socket c.args.question.now
      c.in_ok-send_question.ensures.sent c.next_binary.result c.next_binary.ensures.binary;
}
