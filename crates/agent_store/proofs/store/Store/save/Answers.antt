use Rattle.std.proofs.Common.{◌≤◌, ◌<◌, ◌^◌, length, inl, subst, refl, arith}
use Rattle.edge_devices.specs.Disks.{disk_bytes}
use Rattle.edge_devices.proofs.DiskMoments.{starts}
use Rattle.agent_store.specs.Codecs.{IsRight}
use Rattle.agent_store.specs.Slots.{IsFormerOrNext}
use Rattle.agent_store.specs.Store.{StoreState}
use Rattle.agent_store.proofs.Results.{on-ok}
use Rattle.agent_store.proofs.store.Store.save.Goals as goal

pub returns-then-len-from-clause-any_moment : goal.returns-then-len-from-clause-any_moment
returns-then-len-from-clause-any_moment g c = λ told.
    let old = g.D.Disk.state c.args.disk.now in
    starts old (IsFormerOrNext g.P.Payload.codec c.args.self.now.layout (disk_bytes old) (g.P.Payload.canonical c.args.next.now)) c.requires.fits.settled (inl refl)

pub save_fitting-requires-clause-short : goal.save_fitting-requires-clause-short
save_fitting-requires-clause-short g c =
    subst (λ (s : StoreState). length (g.P.Payload.canonical c.args.next.now) ≤ s.layout.room) c.self.view_is (omega (arith, c.len.ensures.len, c.from.ensures, c.if-len-from.false, c.self.invariant.small_room))

pub returns-clause-itself : goal.returns-clause-itself
returns-clause-itself g c =
    let next = g.P.Payload.canonical c.args.next.now in
    on-ok c.save_fitting.result (g.P.Payload.typed c.args.next.now × (length next < 2 ^ 62) × IsRight g.P.Payload.codec next)
    (c.len.ensures.typed, c.save_fitting.ensures.saves.few, c.save_fitting.ensures.saves.right)

pub returns-clause-too_big : goal.returns-clause-too_big
returns-clause-too_big g c =
    let short : length (g.P.Payload.canonical c.args.next.now) ≤ c.args.self.now.layout.room =
    subst (λ (s : StoreState). length (g.P.Payload.canonical c.args.next.now) ≤ s.layout.room) c.self.view_is (omega (arith, c.len.ensures.len, c.from.ensures, c.if-len-from.false, c.self.invariant.small_room)) in
    (λ is. absurd (c.save_fitting.ensures.saves.fitting is), λ big. absurd (omega (arith, big, short)))
