use Rattle.std.proofs.Common.{refl}
use Rattle.agent_packages.specs.Statuses.{status_left}
use Rattle.agent_packages.proofs.Dues.{on_ok}
use Rattle.agent_packages.proofs.Visiting.{cleared_left, cleared_out}
use Rattle.agent_packages.proofs.syncing.clear.Goals as goal

pub returns-then-branch-clause-cleared : goal.returns-then-branch-clause-cleared
returns-then-branch-clause-cleared g c = cleared_out _ _ c.args.item.now _ _ c.in_ok-leaves_out.ensures.removed c.if-branch.true

pub returns-clause-cleared : goal.returns-clause-cleared
returns-clause-cleared g c =
    on_ok c.leave_status.result _ _
    (λ put. cleared_left _ _ c.args.item.now _ _ _ c.args.item.now.key (status_left c.args.item.now.value) c.in_ok-leaves_out.ensures.removed c.if-branch.false refl refl put)
    c.leave_status.ensures.put
