use Rattle.std.proofs.Common.{refl, sym, ◌∙◌}
use Rattle.agent_packages.proofs.Dues.{asks_only_none, asks_own, on_ok, only_none, only_own}
use Rattle.agent_packages.proofs.Visiting.{visited_held, visited_new}
use Rattle.agent_packages.proofs.syncing.visit.Goals as goal

pub returns-then-is_held-clause-visited : goal.returns-then-is_held-clause-visited
returns-then-is_held-clause-visited g c =
    on_ok c.keep_status.result _ _ (λ made. visited_held _ _ _ _ _ _ (sym c.is_held.ensures ∙ c.if-is_held.true) made) c.keep_status.ensures.kept

pub returns-then-is_held-clause-only : goal.returns-then-is_held-clause-only
returns-then-is_held-clause-only g c = only_none _ _

pub returns-in_err-ended-clause-only : goal.returns-in_err-ended-clause-only
returns-in_err-ended-clause-only g c = only_own c.args.held.now c.args.item.now _ _ (sym c.is_held.ensures ∙ c.if-is_held.false) c.in_err-ended.ensures.only

pub returns-clause-visited : goal.returns-clause-visited
returns-clause-visited g c =
    on_ok c.put_status.result _ _ (λ made. visited_new _ _ _ _ _ _ _ _ c.in_ok-ended.ended _ _ (sym c.is_held.ensures ∙ c.if-is_held.false) c.in_ok-ended.ensures.installs refl refl made) c.put_status.ensures.put

pub returns-clause-only : goal.returns-clause-only
returns-clause-only g c = only_own c.args.held.now c.args.item.now _ _ (sym c.is_held.ensures ∙ c.if-is_held.false) c.in_ok-ended.ensures.only

pub returns-then-is_held-clause-fetches : goal.returns-then-is_held-clause-fetches
returns-then-is_held-clause-fetches g c = asks_only_none _ _

pub returns-in_err-ended-clause-fetches : goal.returns-in_err-ended-clause-fetches
returns-in_err-ended-clause-fetches g c = asks_own c.args.held.now c.args.item.now _ _ (sym c.is_held.ensures ∙ c.if-is_held.false) c.in_err-ended.ensures.fetches

pub returns-clause-fetches : goal.returns-clause-fetches
returns-clause-fetches g c = asks_own c.args.held.now c.args.item.now _ _ (sym c.is_held.ensures ∙ c.if-is_held.false) c.in_ok-ended.ensures.fetches
