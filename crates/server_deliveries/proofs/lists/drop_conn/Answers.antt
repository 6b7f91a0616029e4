use Rattle.std.proofs.Common.{rules, ℕ, not, ◌==◌}
use Rattle.std.proofs.lemmas.Fn.{filter_same}
use Rattle.server_deliveries.proofs.lists.drop_conn.Goals as goal

pub returns : goal.returns
returns c = record { dropped = filter_same _ (λ (d : ℕ). not (d == c.args.conn)) _ (λ x b q r. search rules) _ _ c.retain.ensures.filtered }
