use Rattle.server_deliveries.proofs.Tying.{tied_put}
use Rattle.server_deliveries.proofs.routes.Routes.note_one.Goals as goal

pub invariant_of-self-2 : goal.invariant_of-self-2
invariant_of-self-2 c = record {
  tied = tied_put c.self.inside.conns c.put_conn.new.conns c.tie.new.agents c.args.handled.now.conn c.bytes_of-uid.result c.put_conn.result
      (c.tie.ensures.tied c.self.invariant.tied) (c.in_ok-tie.ensures.own c.self.invariant.tied) c.put_conn.ensures.first c.put_conn.ensures.err;
  filled = c.put_conn.ensures.filled c.self.invariant.filled;
  owned = c.tie.ensures.owned c.self.invariant.owned;
}
