use Rattle.std.proofs.Common.{◌≡◌, IsTrue, ◌∙◌, subst}
use Rattle.edge_devices.specs.Disks.{disk_bytes}
use Rattle.agent_store.specs.declared.slots.Layout.{Layout}
use Rattle.agent_store.specs.Slots.{reading, Holds}
use Rattle.agent_store.proofs.Values.{loaded-value}
use Rattle.agent_store.proofs.laws.save_and_load.Goals as goal

pub returns-clause-loaded : goal.returns-clause-loaded
returns-clause-loaded g c = λ told.
    let P = g.P.Payload in
    let S = g.D.Disk.state in
    let saved = S c.save.new.disk in
    let itself = c.in_ok-save.ensures.itself in
    let told_saved : IsTrue saved.told = c.save.ensures.told ∙ told in
    let held : reading P.codec c.args.layout (disk_bytes saved) ≡ Holds (P.canonical c.args.next.now) =
    subst (λ (l : Layout). reading P.codec l (disk_bytes saved) ≡ Holds (P.canonical c.args.next.now)) c.requires.layout (c.in_ok-save.ensures.saved told) in
    loaded-value P.codec P.canonical P.right P.typed g.met.P.Payload.one_value c.args.next.now c.requires.right itself.0 itself.1 itself.2
    c.in_ok-opened.opened c.in_ok-opened.ensures.right c.in_ok-opened.ensures.typed (c.in_ok-opened.ensures.opened told_saved ∙ held)
