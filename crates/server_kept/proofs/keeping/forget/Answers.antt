use Rattle.std.proofs.Common.{None, refl}
use Rattle.server_core.specs.Offers.{no_offers}
use Rattle.server_kept.proofs.KeepLemmas.{changed}
use Rattle.server_kept.proofs.keeping.forget.Goals as goal

pub returns-clause-keeps : goal.returns-clause-keeps
returns-clause-keeps g c = changed c.args.uid.now c.in_ok-name.name no_offers None _ _ c.remove.result _ c.in_ok-name.ensures.name c.told.ensures.ok refl c.remove.ensures.changes
