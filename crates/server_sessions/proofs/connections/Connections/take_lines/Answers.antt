use Rattle.server_sessions.specs.declared.connection.Connection.TheVariants as connection
use Rattle.server_sessions.proofs.PieceLemmas.{known_with, still_with}
use Rattle.server_sessions.proofs.connections.Connections.take_lines.Goals as goal

pub returns-clause-takes : goal.returns-clause-takes
returns-clause-takes g c = λ entropy. (c.serve_lines-stays.new.front, c.keep_front.ensures.kept, λ one. rw c.self.view_is at (c.serve_lines-stays.ensures.serves one entropy))

pub returns-clause-known : goal.returns-clause-known
returns-clause-known g c = λ other there.
    known_with c.args.self.now c.keep_front.new.self c.args.conn other (connection.Operator c.serve_lines-stays.new.front) c.keep_front.ensures.kept there

pub returns-clause-still : goal.returns-clause-still
returns-clause-still g c = λ other there.
    still_with c.args.self.now c.keep_front.new.self c.args.conn other (connection.Operator c.serve_lines-stays.new.front) c.keep_front.ensures.kept there
