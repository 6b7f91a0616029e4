use Rattle.std.proofs.lemmas.Result.{on_ok_weaker}
use Rattle.server_sessions.proofs.RequestLemmas.{passed_more, read_more, waiting_more}
use Rattle.server_sessions.proofs.bodies.read_on.Goals as goal

pub returns-in-Reading : goal.returns-in-Reading
returns-in-Reading c = record {
  read = on_ok_weaker c.feed.result (λ more under_way is. read_more c.in-Reading.body c.feed.new.self c.in-Reading.close c.args.bytes.now under_way more (rw c.in-Reading.is at is)) c.feed.ensures.came;
}

pub returns-in-Waiting : goal.returns-in-Waiting
returns-in-Waiting c = record { read = λ under_way is. rw c.in-Waiting.is (waiting_more c.args.bytes.now under_way (rw c.in-Waiting.is at is)) }

pub returns-in-PassingOver : goal.returns-in-PassingOver
returns-in-PassingOver c = record {
  read = λ under_way is. rw c.in-PassingOver.is (passed_more c.in-PassingOver.status c.in-PassingOver.close c.args.bytes.now under_way (rw c.in-PassingOver.is at is));
}
