use Rattle.std.proofs.Common.{◌≡◌, ◌⊎◌, ◌<◌, ℕ, inl, inr, length, IsTrue, sym, ◌∙◌, ap, subst, refl}
use Rattle.edge_devices.specs.Faults.{HasRisen}
use Rattle.edge_devices.specs.Disks.{DiskState, Countdown, disk_bytes, medium, IsSettled}
use Rattle.edge_devices.specs.DiskCalls.{cut_at, EndsAmid, MadeAll}
use Rattle.edge_devices.specs.DiskStops.{settled, bytes_after}
use Rattle.edge_devices.specs.MemoryDisks.{memory_disk, disk_countdown}
use Rattle.edge_devices.proofs.DiskStops.{left-on}
use Rattle.agent_store.specs.declared.fail.StoreFail.TheVariants.{DiskFault}
use Rattle.agent_store.specs.Slots.{reading, Holds}
use Rattle.agent_store.specs.Store.{Fits}
use Rattle.agent_store.specs.Plans.{planned}
use Rattle.agent_store.proofs.Results.{on-ok-map, on-ok-with}
use Rattle.agent_store.proofs.Stopping.{cut-reads}
use Rattle.agent_store.proofs.laws.stop_and_crash.Goals as goal

pub save-saved-requires-clause-fits : goal.save-saved-requires-clause-fits
save-saved-requires-clause-fits g c = subst (λ (s : DiskState). Fits g.P.Payload.codec s c.args.store.now) (sym c.arm.ensures.same) c.requires.fits

pub returns-clause-stopped : goal.returns-clause-stopped
returns-clause-stopped g c = λ failed.
    let codec = g.P.Payload.codec in
    let store = c.args.store.now in
    let next = g.P.Payload.canonical c.args.next.now in
    let plan = planned codec store next in
    let armed = c.arm.new.self in
    let mid = c.save-saved.new.disk in
    let same : memory_disk armed ≡ memory_disk c.args.disk.now = c.arm.ensures.same in
    let amid : EndsAmid plan (memory_disk armed) (memory_disk mid) (disk_countdown armed) (disk_countdown mid) = c.save-saved.ensures.made_part failed refl in
    let still = subst (λ (s : DiskState). IsSettled (medium s)) (sym same) c.requires.fits.settled in
    let last : disk_countdown c.crash.new.self ≡ disk_countdown mid = c.crash.ensures.countdown in
    let risen : HasRisen (disk_countdown armed).others (disk_countdown mid).others → HasRisen (disk_countdown c.args.disk.now).others (disk_countdown c.crash.new.self).others =
    λ rose. subst (λ (k : ℕ). HasRisen k (disk_countdown c.crash.new.self).others) c.arm.ensures.others (subst (λ (k : Countdown). HasRisen (disk_countdown armed).others k.others) (sym last) rose) in
    elim amid.made [
      | inr both ↦ inl (risen both.1)
      | inl cut ↦ elim amid.cause [
        | inr rose ↦ inl (risen rose)
        | inl is ↦ inr (cut-reads codec store (disk_bytes (memory_disk c.args.disk.now)) (disk_bytes (memory_disk c.crash.new.self)) (c.requires.fits.contents refl) next (c.save-saved.ensures.can_save failed) c.args.mode amid.number c.args.stop
            amid.within (is ∙ c.arm.ensures.armed)
            ((λ i p. c.crash.ensures.left p i) ∙ left-on armed.calls.items armed.tally.faults still (memory_disk mid).calls (cut_at amid.number plan) cut c.args.mode
            ∙ ap (λ (s : DiskState). (bytes_after (settled (disk_bytes s)) (cut_at amid.number plan)).left c.args.mode) same))
      ]
    ]

pub returns-clause-done : goal.returns-clause-done
returns-clause-done g c =
    let codec = g.P.Payload.codec in
    let next = g.P.Payload.canonical c.args.next.now in
    let plan = planned codec c.args.store.now next in
    let armed = c.arm.new.self in
    let mid = c.save-saved.new.disk in
    on-ok-map c.save-saved.result (IsTrue (memory_disk armed).told → MadeAll plan (memory_disk armed) (memory_disk mid) (disk_countdown armed) (disk_countdown mid)) ((c.args.stop ≡ 0) ⊎ (length plan < c.args.stop))
    (λ made. subst (λ (k : ℕ). (k ≡ 0) ⊎ (length plan < k)) c.arm.ensures.armed (made refl).before) c.save-saved.ensures.made

pub returns-clause-saved : goal.returns-clause-saved
returns-clause-saved g c =
    let codec = g.P.Payload.codec in
    let next = g.P.Payload.canonical c.args.next.now in
    let layout = c.args.store.now.layout in
    let mid = memory_disk c.save-saved.new.disk in
    let new = memory_disk c.crash.new.self in
    on-ok-with c.save-saved.result DiskFault (Fits codec mid c.save-saved.new.self) (IsTrue (memory_disk c.arm.new.self).told → reading codec layout (disk_bytes mid) ≡ Holds next) (reading codec layout (disk_bytes new) ≡ Holds next) c.save-saved.ensures.fits
    (λ fits saved. let same : disk_bytes new ≡ disk_bytes mid = λ i p. c.crash.ensures.image p (fits.settled p) i in ap (reading codec layout) same ∙ saved refl) c.save-saved.ensures.saved
