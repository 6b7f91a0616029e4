use Rattle.std.proofs.Common.{rules}
use Rattle.agent_rules.proofs.Steps.{all_taken, never_offers}
use Rattle.agent_rules.proofs.applying.change_parts.Goals as goal

pub returns-in_err-change_offers-clause-refused : goal.returns-in_err-change_offers-clause-refused
returns-in_err-change_offers-clause-refused c =
    let h = never_offers c.in_err-change_offers.field-0.0 c.args.change c.args.former c.change_identity.new.parts c.change_settings.new.parts c.in_ok-change_identity.ensures.kept c.in_ok-change_settings.ensures.kept c.in_err-change_offers.ensures.refused in
    search rules

pub returns-clause-takes : goal.returns-clause-takes
returns-clause-takes c =
    let identity = c.in_ok-change_identity.ensures in
    let settings = c.in_ok-change_settings.ensures in
    let offers = c.in_ok-change_offers.ensures in
    rw c.into_parts.ensures.parts (all_taken c.args.change c.args.former c.change_identity.new.parts c.change_settings.new.parts c.change_offers.new.parts identity.kept settings.kept offers.kept
    identity.uid identity.limit identity.given settings.endpoint settings.headers settings.interval settings.hash offers.config offers.remote offers.packages offers.config_hash offers.components_hash)
