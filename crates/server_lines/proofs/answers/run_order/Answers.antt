use Rattle.server_lines.specs.Sights.{numbers_in, sight_of}
use Rattle.server_lines.proofs.answers.run_order.Goals as goal

pub returns-in-Act-clause-run : goal.returns-in-Act-clause-run
returns-in-Act-clause-run g c = rw c.in-Act.is (c.act.ensures.run (sight_of c.args.seen.now (numbers_in c.args.known.now.entries)))

pub returns-in-Steer-clause-run : goal.returns-in-Steer-clause-run
returns-in-Steer-clause-run g c = rw c.in-Steer.is (c.steer.ensures.run (sight_of c.args.seen.now (numbers_in c.args.known.now.entries)))
