use Rattle.std.proofs.Common.{IsTrue, ◌≡◌, ◌∙◌, Err, refl, sym, ap, subst}
use Rattle.std.specs.Prelude.{IfOk}
use Rattle.edge_devices.specs.Disks.{disk_bytes}
use Rattle.agent_store.specs.declared.fail.StoreFail.TheVariants.{Damaged}
use Rattle.agent_store.specs.Found.{reading_of}
use Rattle.agent_store.specs.Slots.{reading}
use Rattle.agent_store.proofs.Undamaged.{new-never}
use Rattle.agent_store.proofs.Values.{error-is, fresh-value, nothing-damaged}
use Rattle.agent_store.proofs.laws.load_new.Goals as goal

pub returns-in-Ok-clause-fresh : goal.returns-in-Ok-clause-fresh
returns-in-Ok-clause-fresh g c = λ told.
    let image = disk_bytes (g.D.Disk.state c.args.disk.now) in
    let codec = g.P.Payload.codec in
    let opened = subst (λ r. IfOk r (λ pair. IsTrue (g.D.Disk.state c.args.disk.now).told → reading_of g.P.Payload.canonical pair.1 ≡ reading codec c.args.layout image)) c.in-Ok.is c.load.ensures.opened in
    fresh-value g.P.Payload.canonical c.in-Ok.opened (opened told ∙ new-never codec c.args.layout image c.requires.blank)

pub returns-clause-no_damage : goal.returns-clause-no_damage
returns-clause-no_damage g c = λ slot is told.
    nothing-damaged slot (sym (new-never g.P.Payload.codec c.args.layout (disk_bytes (g.D.Disk.state c.args.disk.now)) c.requires.blank)
    ∙ c.load.ensures.damaged slot (c.in-Err.is ∙ ap Err (error-is _ _ c.in-Err.fail (Damaged slot) refl refl is)) told)
