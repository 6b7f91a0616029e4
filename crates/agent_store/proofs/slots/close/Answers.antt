use Rattle.std.proofs.Common.{◌∙◌, sym}
use Rattle.std.proofs.lemmas.Bool.{eqb-true}
use Rattle.edge_devices.specs.Disks.{disk_bytes, IsTorn, IsClosing}
use Rattle.edge_devices.proofs.DiskMoments.{weaker, torn-closing}
use Rattle.agent_store.proofs.slots.close.Goals as goal

pub returns-then-is_open-clause-any_moment : goal.returns-then-is_open-clause-any_moment
returns-then-is_open-clause-any_moment g c = λ told.
    let old = g.D.Disk.state c.args.disk.now in
    weaker old (g.D.Disk.state c.put.new.disk) (IsClosing c.args.at (disk_bytes old)) (IsTorn c.args.at 1 (disk_bytes old)) c.put.ensures.any_moment
    (λ image torn. torn-closing c.args.at (disk_bytes old) image (eqb-true _ _ (sym (c.requires.gate told) ∙ c.if-is_open.true)) torn)
