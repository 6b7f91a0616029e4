use Rattle.std.proofs.Common.{IsTrue, ◌∙◌, subst}
use Rattle.edge_devices.specs.Disks.{LeftSince}
use Rattle.edge_devices.proofs.DiskMoments.{goes_on}
use Rattle.agent_store.specs.declared.slots.Layout.{Layout}
use Rattle.agent_store.specs.Slots.{NotDamaged}
use Rattle.agent_store.proofs.Undamaged.{load-never}
use Rattle.agent_store.proofs.runs.load_and_save.Goals as goal

pub returns-in_err-store-clause-never : goal.returns-in_err-store-clause-never
returns-in_err-store-clause-never g c = λ told. load-never g.P.Payload.codec c.args.layout (g.D.Disk.state c.args.disk.now) (g.D.Disk.state c.load.new.disk) (c.requires.whole told) c.load.ensures.any_moment

pub returns-clause-never : goal.returns-clause-never
returns-clause-never g c = λ told.
    let codec = g.P.Payload.codec in
    let old = g.D.Disk.state c.args.disk.now in
    let mid = g.D.Disk.state c.load.new.disk in
    let new = g.D.Disk.state c.save_all.new.disk in
    let before = load-never codec c.args.layout old mid (c.requires.whole told) c.load.ensures.any_moment in
    let told_mid : IsTrue mid.told = before.told ∙ told in
    let after = subst (λ (l : Layout). LeftSince mid new (NotDamaged codec l)) c.in_ok-store.ensures.layout (c.save_all.ensures.never told_mid) in
    goes_on old mid new (NotDamaged codec c.args.layout) (NotDamaged codec c.args.layout) before after (λ image is. is)
