use Rattle.std.proofs.Common.{None, Some, sym, ◌∙◌}
use Rattle.server_kept.proofs.KeepLemmas.{changed, none_stands}
use Rattle.server_kept.proofs.keeping.keep.Goals as goal

pub returns-clause-keeps : goal.returns-clause-keeps
returns-clause-keeps g c =
    changed c.args.uid.now c.in_ok-name.name c.args.offers.now None _ _ c.remove.result _ c.in_ok-name.ensures.name c.told-else-has_offer.ensures.ok
    (none_stands c.args.offers.now c.has_offer.result c.has_offer.ensures c.if-has_offer.false) c.remove.ensures.changes

pub returns-then-has_offer-clause-keeps : goal.returns-then-has_offer-clause-keeps
returns-then-has_offer-clause-keeps g c =
    changed c.args.uid.now c.in_ok-name.name c.args.offers.now (Some c.in_ok-body.body) _ _ c.write.result _ c.in_ok-name.ensures.name c.told.ensures.ok
    (record { some = sym c.has_offer.ensures ∙ c.if-has_offer.true; means = c.in_ok-body.ensures.means; canonical = c.in_ok-body.ensures.bytes }) c.write.ensures.changes
