use Rattle.std.proofs.Common.{◌≡◌, [], Some, sym, ap, ◌∙◌, refl, length, arith}
use Rattle.server_deliveries.specs.Lists.{items_in}
use Rattle.server_deliveries.specs.Routes.{without}
use Rattle.std.proofs.lemmas.List.{nil_from_length}
use Rattle.server_deliveries.proofs.Filled.{filled, filled_out}
use Rattle.server_deliveries.proofs.Keyed.{keyed, keyed_out}
use Rattle.server_deliveries.proofs.lists.drop_at.Goals as goal

pub returns-then-is_empty : goal.returns-then-is_empty
returns-then-is_empty c =
    let lent = keyed c.args.conns.now (c.get_mut.follows.lender c.drop_conn.new.conns) c.args.uid.now (Some c.drop_conn.new.conns) (without c.args.conn)
    ((c.get_mut.follows.holds c.drop_conn.new.conns).3 (rw (sym c.in-Some.ensures.value) refl)).0
    (c.drop_conn.ensures.dropped ∙ ap (λ o. without c.args.conn (items_in o)) c.in-Some.ensures.value) in
    let none : c.drop_conn.new.conns.items ≡ [] = nil_from_length c.drop_conn.new.conns.items (grind arith) in
    record {
      dropped = keyed_out c.args.conns.now (c.get_mut.follows.lender c.drop_conn.new.conns) c.remove.new.self c.args.uid.now (without c.args.conn) lent c.remove.ensures.updates.0 (ap (λ o. without c.args.conn (items_in o)) (sym c.in-Some.ensures.value) ∙ sym c.drop_conn.ensures.dropped ∙ none);
      filled = filled_out c.args.conns.now (c.get_mut.follows.lender c.drop_conn.new.conns) c.remove.new.self c.args.uid.now (Some c.drop_conn.new.conns)
          ((c.get_mut.follows.holds c.drop_conn.new.conns).3 (rw (sym c.in-Some.ensures.value) refl)).0 c.remove.ensures.updates.0;
    }

pub returns-else-is_empty : goal.returns-else-is_empty
returns-else-is_empty c = record {
  dropped = keyed c.args.conns.now (c.get_mut.follows.lender c.drop_conn.new.conns) c.args.uid.now (Some c.drop_conn.new.conns) (without c.args.conn)
      ((c.get_mut.follows.holds c.drop_conn.new.conns).3 (rw (sym c.in-Some.ensures.value) refl)).0
      (c.drop_conn.ensures.dropped ∙ ap (λ o. without c.args.conn (items_in o)) c.in-Some.ensures.value);
  filled = filled c.args.conns.now (c.get_mut.follows.lender c.drop_conn.new.conns) c.args.uid.now (Some c.drop_conn.new.conns)
      ((c.get_mut.follows.holds c.drop_conn.new.conns).3 (rw (sym c.in-Some.ensures.value) refl)).0
      (λ none. let short : length c.drop_conn.new.conns.items ≡ 0 = ap length none in grind arith);
}
