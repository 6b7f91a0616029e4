use Rattle.std.proofs.Common.{Err, ap, arith}
use Rattle.store_tests.proofs.KeepingLemmas.{holds_one_of, holds_still, left_last}
use Rattle.store_tests.proofs.keeping.KeeperKeep.keep.Goals as goal

pub returns-in-Ok-clause-any_moment : goal.returns-in-Ok-clause-any_moment
returns-in-Ok-clause-any_moment g c =
    let itself = c.in-Ok.ensures.itself in
    λ former kept left l.
    holds_one_of g.P.Payload.right g.P.Payload.typed (record { codec = g.P.Payload.codec; canonical = g.P.Payload.canonical })
    (g.D.Disk.state c.args.device.now) (g.D.Disk.state c.save.new.disk) c.args.self.now.store.layout c.requires.admits.0.layout former c.args.value.now
    (c.in-Ok.ensures.any_moment c.requires.admits.0.told) kept.1 c.requires.admits.1 itself.0 itself.1 itself.2 (g.D.Disk.state left) l

pub returns-in-Ok-clause-at_last : goal.returns-in-Ok-clause-at_last
returns-in-Ok-clause-at_last g c =
    left_last (g.D.Disk.state c.args.device.now) (g.D.Disk.state c.save.new.disk) (c.in-Ok.ensures.any_moment c.requires.admits.0.told)

pub returns-in-Err-DiskFault-clause-any_moment : goal.returns-in-Err-DiskFault-clause-any_moment
returns-in-Err-DiskFault-clause-any_moment g c =
    let can = c.in-Err-DiskFault.ensures.can_save (ap Err c.in-Err-DiskFault.field-0-is) in
    λ former kept left l.
    holds_one_of g.P.Payload.right g.P.Payload.typed (record { codec = g.P.Payload.codec; canonical = g.P.Payload.canonical })
    (g.D.Disk.state c.args.device.now) (g.D.Disk.state c.save.new.disk) c.args.self.now.store.layout c.requires.admits.0.layout former c.args.value.now
    (c.in-Err-DiskFault.ensures.any_moment c.requires.admits.0.told) kept.1 c.requires.admits.1 c.in-Err-DiskFault.ensures.typed
    (omega (arith, can.short, can.small_room)) can.follows.right (g.D.Disk.state left) l

pub returns-in-Err-DiskFault-clause-at_last : goal.returns-in-Err-DiskFault-clause-at_last
returns-in-Err-DiskFault-clause-at_last g c =
    left_last (g.D.Disk.state c.args.device.now) (g.D.Disk.state c.save.new.disk) (c.in-Err-DiskFault.ensures.any_moment c.requires.admits.0.told)

pub returns-in-Err-TooBig-clause-any_moment : goal.returns-in-Err-TooBig-clause-any_moment
returns-in-Err-TooBig-clause-any_moment g c =
    let same = (c.in-Err-TooBig.ensures.unchanged (λ fault. cc)).1 in
    λ former kept left l.
    holds_still g.P.Payload.right g.P.Payload.typed (record { codec = g.P.Payload.codec; canonical = g.P.Payload.canonical })
    (g.D.Disk.state c.args.device.now) (g.D.Disk.state left) former c.args.value.now c.requires.admits.0.fits.settled kept.1 (g.D.Disk.state c.save.new.disk)
    (ap g.D.Disk.state same) l

pub returns-in-Err-Spent-clause-any_moment : goal.returns-in-Err-Spent-clause-any_moment
returns-in-Err-Spent-clause-any_moment g c =
    let same = (c.in-Err-Spent.ensures.unchanged (λ fault. cc)).1 in
    λ former kept left l.
    holds_still g.P.Payload.right g.P.Payload.typed (record { codec = g.P.Payload.codec; canonical = g.P.Payload.canonical })
    (g.D.Disk.state c.args.device.now) (g.D.Disk.state left) former c.args.value.now c.requires.admits.0.fits.settled kept.1 (g.D.Disk.state c.save.new.disk)
    (ap g.D.Disk.state same) l
