use Rattle.std.proofs.Common.{sym, ◌∙◌}
use Rattle.agent_rounds.proofs.LinkLemmas.{holds_found, holds_none}
use Rattle.agent_rounds.proofs.linking.holds_link.Goals as goal

pub returns-in-Some-clause-found : goal.returns-in-Some-clause-found
returns-in-Some-clause-found g c =
    λ number right. holds_found number c.args.uid.now c.args.target.now c.args.held.now c.in-Some.dialled c.in-Some.is (sym (c.is_to.ensures number) ∙ right)

pub returns-in-Some-clause-none : goal.returns-in-Some-clause-none
returns-in-Some-clause-none g c =
    λ number wrong. holds_none number c.args.uid.now c.args.target.now c.args.held.now c.in-Some.dialled c.in-Some.is (sym (c.is_to.ensures number) ∙ wrong)
