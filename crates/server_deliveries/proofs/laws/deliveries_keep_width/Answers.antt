use Rattle.server_deliveries.proofs.DeliveryLemmas.{each_keeps}
use Rattle.server_deliveries.proofs.laws.deliveries_keep_width.Goals as goal

pub returns : goal.returns
returns c = record { width = λ fine heard rollouts table. each_keeps fine heard (λ t r. (c.points_keep_width.ensures.width fine heard t r, c.points_keep_width.ensures.halt fine heard t r)) rollouts table }
