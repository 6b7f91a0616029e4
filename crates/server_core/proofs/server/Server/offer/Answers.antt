use Rattle.std.proofs.Common.{sym, subst}
use Rattle.server_core.specs.Offers.{FitOffers}
use Rattle.server_core.proofs.Sound.{fit_in}
use Rattle.server_core.proofs.server.Server.offer.Goals as goal

pub put_standing-requires-clause-fit : goal.put_standing-requires-clause-fit
put_standing-requires-clause-fit c =
    let made = c.in_ok-made.ensures.made in
    subst FitOffers (sym made.0) (fit_in c.args.offer made.1)
