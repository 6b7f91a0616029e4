use Rattle.std.proofs.Common.{◌≡◌, ℕ, ◌∙◌, inl, inr, ap, sym, subst, IsTrue, arith}
use Rattle.edge_devices.specs.DiskCalls.{EndsAmidOrAfter}
use Rattle.edge_devices.specs.Disks.{DiskState, Medium, medium, disk_bytes, IsSettled, StaysSettled, MayLeave, Elapses, Reads, LeftSince}
use Rattle.edge_devices.proofs.DiskMoments.{step, step-reads, sync-images, goes_on}
use Rattle.agent_store.specs.Slots.{slot_start}
use Rattle.agent_store.specs.Headers.{TellsHeader}
use Rattle.agent_store.specs.declared.slots.Side.TheVariants.{Second}
use Rattle.agent_store.proofs.Results.{on-err, failed-cause}
use Rattle.edge_devices.proofs.DiskCalls.{made-on, sync-done, sync-failed}
use Rattle.agent_store.specs.Plans.{load_plan}
use Rattle.agent_store.proofs.header.Header.read_both.Goals as goal

-- what a crash leaves while a sync and two reads go on
module _ (old synced : DiskState) (time : Elapses old synced) (same : disk_bytes synced ≡ disk_bytes old) (kept : StaysSettled (medium old) (medium synced)) where
  by-sync : (image : ℕ → ℕ) → MayLeave (medium synced) image → MayLeave (medium old) image
  by-sync = sync-images old synced same kept

  left-synced : LeftSince old synced (MayLeave (medium old))
  left-synced = step old synced (MayLeave (medium old)) time (λ image may. may) by-sync

  left-read : (read : DiskState) → Reads synced read → LeftSince old read (MayLeave (medium old))
  left-read read reads = goes_on old synced read (MayLeave (medium old)) (MayLeave (medium synced)) left-synced (step-reads synced read (MayLeave (medium synced)) reads (λ image may. may)) by-sync

  left-both : (read again : DiskState) → Reads synced read → Reads read again → LeftSince old again (MayLeave (medium old))
  left-both read again first second =
      goes_on old read again (MayLeave (medium old)) (MayLeave (medium read)) (left-read read first) (step-reads read again (MayLeave (medium read)) second (λ image may. may))
      (λ image may. by-sync image (subst (λ (m : Medium). MayLeave m image) first.same may))

same-bytes : (old new : DiskState) → Reads old new → disk_bytes new ≡ disk_bytes old
same-bytes old new reads = ap (λ (m : Medium). m.seen) reads.same

pub returns-in_err-first-clause-made_part : goal.returns-in_err-first-clause-made_part
returns-in_err-first-clause-made_part g c = on-err c.from_residual-in_err-first.result (IsTrue (g.D.Disk.state c.args.disk.now).told → EndsAmidOrAfter load_plan (g.D.Disk.state c.args.disk.now) (g.D.Disk.state c.read.new.disk) (g.D.Disk.countdown c.args.disk.now) (g.D.Disk.countdown c.read.new.disk)) (λ told.
    let S = g.D.Disk.state in
    let C = g.D.Disk.countdown in
    let told1 : IsTrue (S c.sync.new.self).told = c.sync.ensures.time.told ∙ told in
    let first = sync-done _ _ (S c.args.disk.now) (S c.sync.new.self) (C c.args.disk.now) (C c.sync.new.self) _ (c.in_ok-sync.ensures.calls told) (c.in_ok-sync.ensures.counts told) in
    inr (made-on load_plan (S c.args.disk.now) (S c.sync.new.self) (S c.read.new.disk) (C c.args.disk.now) (C c.sync.new.self) (C c.read.new.disk) first c.read.ensures.reads.calls (c.read.ensures.counts told1)))

pub returns-in_err-second-clause-made_part : goal.returns-in_err-second-clause-made_part
returns-in_err-second-clause-made_part g c = on-err c.from_residual-in_err-second.result (IsTrue (g.D.Disk.state c.args.disk.now).told → EndsAmidOrAfter load_plan (g.D.Disk.state c.args.disk.now) (g.D.Disk.state c.read-2.new.disk) (g.D.Disk.countdown c.args.disk.now) (g.D.Disk.countdown c.read-2.new.disk)) (λ told.
    let S = g.D.Disk.state in
    let C = g.D.Disk.countdown in
    let told1 : IsTrue (S c.sync.new.self).told = c.sync.ensures.time.told ∙ told in
    let told2 : IsTrue (S c.read.new.disk).told = c.read.ensures.reads.time.told ∙ told1 in
    let first = sync-done _ _ (S c.args.disk.now) (S c.sync.new.self) (C c.args.disk.now) (C c.sync.new.self) _ (c.in_ok-sync.ensures.calls told) (c.in_ok-sync.ensures.counts told) in
    let second = made-on load_plan (S c.args.disk.now) (S c.sync.new.self) (S c.read.new.disk) (C c.args.disk.now) (C c.sync.new.self) (C c.read.new.disk) first c.read.ensures.reads.calls (c.read.ensures.counts told1) in
    inr (made-on load_plan (S c.args.disk.now) (S c.read.new.disk) (S c.read-2.new.disk) (C c.args.disk.now) (C c.read.new.disk) (C c.read-2.new.disk) second c.read-2.ensures.reads.calls (c.read-2.ensures.counts told2)))

pub returns-clause-made : goal.returns-clause-made
returns-clause-made g c = λ told.
    let S = g.D.Disk.state in
    let C = g.D.Disk.countdown in
    let told1 : IsTrue (S c.sync.new.self).told = c.sync.ensures.time.told ∙ told in
    let told2 : IsTrue (S c.read.new.disk).told = c.read.ensures.reads.time.told ∙ told1 in
    let first = sync-done _ _ (S c.args.disk.now) (S c.sync.new.self) (C c.args.disk.now) (C c.sync.new.self) _ (c.in_ok-sync.ensures.calls told) (c.in_ok-sync.ensures.counts told) in
    let second = made-on load_plan (S c.args.disk.now) (S c.sync.new.self) (S c.read.new.disk) (C c.args.disk.now) (C c.sync.new.self) (C c.read.new.disk) first c.read.ensures.reads.calls (c.read.ensures.counts told1) in
    made-on load_plan (S c.args.disk.now) (S c.read.new.disk) (S c.read-2.new.disk) (C c.args.disk.now) (C c.read.new.disk) (C c.read-2.new.disk) second c.read-2.ensures.reads.calls (c.read-2.ensures.counts told2)

pub returns-in_err-sync-clause-same : goal.returns-in_err-sync-clause-same
returns-in_err-sync-clause-same g c = c.sync.ensures.same

pub returns-in_err-sync-clause-any_moment : goal.returns-in_err-sync-clause-any_moment
returns-in_err-sync-clause-any_moment g c = left-synced (g.D.Disk.state c.args.disk.now) (g.D.Disk.state c.sync.new.self) c.sync.ensures.time c.sync.ensures.same c.sync.ensures.kept

pub returns-in_err-sync-clause-cause : goal.returns-in_err-sync-clause-cause
returns-in_err-sync-clause-cause g c = failed-cause (g.D.Disk.state c.args.disk.now) (g.D.Disk.state c.args.disk.now) (g.D.Disk.state c.sync.new.self) c.from_residual.result (omega arith) c.sync.ensures.cause.later c.in_err-sync.ensures.cause.fault

pub returns-in_err-first-clause-same : goal.returns-in_err-first-clause-same
returns-in_err-first-clause-same g c = same-bytes (g.D.Disk.state c.sync.new.self) (g.D.Disk.state c.read.new.disk) c.read.ensures.reads ∙ c.sync.ensures.same

pub returns-in_err-first-clause-any_moment : goal.returns-in_err-first-clause-any_moment
returns-in_err-first-clause-any_moment g c = left-read (g.D.Disk.state c.args.disk.now) (g.D.Disk.state c.sync.new.self) c.sync.ensures.time c.sync.ensures.same c.sync.ensures.kept (g.D.Disk.state c.read.new.disk) c.read.ensures.reads

pub returns-in_err-first-clause-cause : goal.returns-in_err-first-clause-cause
returns-in_err-first-clause-cause g c = failed-cause (g.D.Disk.state c.args.disk.now) (g.D.Disk.state c.sync.new.self) (g.D.Disk.state c.read.new.disk) c.from_residual-in_err-first.result c.sync.ensures.cause.later c.read.ensures.cause.later c.in_err-first.ensures.cause.fault

pub returns-in_err-second-clause-same : goal.returns-in_err-second-clause-same
returns-in_err-second-clause-same g c = same-bytes (g.D.Disk.state c.read.new.disk) (g.D.Disk.state c.read-2.new.disk) c.read-2.ensures.reads ∙ same-bytes (g.D.Disk.state c.sync.new.self) (g.D.Disk.state c.read.new.disk) c.read.ensures.reads ∙ c.sync.ensures.same

pub returns-in_err-second-clause-any_moment : goal.returns-in_err-second-clause-any_moment
returns-in_err-second-clause-any_moment g c = left-both (g.D.Disk.state c.args.disk.now) (g.D.Disk.state c.sync.new.self) c.sync.ensures.time c.sync.ensures.same c.sync.ensures.kept (g.D.Disk.state c.read.new.disk) (g.D.Disk.state c.read-2.new.disk) c.read.ensures.reads c.read-2.ensures.reads

pub returns-in_err-second-clause-cause : goal.returns-in_err-second-clause-cause
returns-in_err-second-clause-cause g c = failed-cause (g.D.Disk.state c.args.disk.now) (g.D.Disk.state c.read.new.disk) (g.D.Disk.state c.read-2.new.disk) c.from_residual-in_err-second.result (omega (arith, c.sync.ensures.cause.later, c.read.ensures.cause.later)) c.read-2.ensures.cause.later c.in_err-second.ensures.cause.fault

pub returns-in_err-sync-clause-made_part : goal.returns-in_err-sync-clause-made_part
returns-in_err-sync-clause-made_part g c = on-err c.from_residual.result (IsTrue (g.D.Disk.state c.args.disk.now).told → EndsAmidOrAfter load_plan (g.D.Disk.state c.args.disk.now) (g.D.Disk.state c.sync.new.self) (g.D.Disk.countdown c.args.disk.now) (g.D.Disk.countdown c.sync.new.self)) (λ told.
    inl (sync-failed _ _ (g.D.Disk.state c.args.disk.now) (g.D.Disk.state c.sync.new.self) (g.D.Disk.countdown c.args.disk.now) (g.D.Disk.countdown c.sync.new.self) _ (c.in_err-sync.ensures.calls told) (c.in_err-sync.ensures.counts told)))

pub returns-clause-same : goal.returns-clause-same
returns-clause-same g c = same-bytes (g.D.Disk.state c.read.new.disk) (g.D.Disk.state c.read-2.new.disk) c.read-2.ensures.reads ∙ same-bytes (g.D.Disk.state c.sync.new.self) (g.D.Disk.state c.read.new.disk) c.read.ensures.reads ∙ c.sync.ensures.same

pub returns-clause-any_moment : goal.returns-clause-any_moment
returns-clause-any_moment g c = left-both (g.D.Disk.state c.args.disk.now) (g.D.Disk.state c.sync.new.self) c.sync.ensures.time c.sync.ensures.same c.sync.ensures.kept (g.D.Disk.state c.read.new.disk) (g.D.Disk.state c.read-2.new.disk) c.read.ensures.reads c.read-2.ensures.reads

pub returns-clause-cause : goal.returns-clause-cause
returns-clause-cause g c = record { later = omega (arith, c.sync.ensures.cause.later, c.read.ensures.cause.later, c.read-2.ensures.cause.later); fault = tt }

pub returns-clause-settled : goal.returns-clause-settled
returns-clause-settled g c = subst IsSettled (sym (c.read-2.ensures.reads.same ∙ c.read.ensures.reads.same)) c.in_ok-sync.ensures.settled

pub returns-clause-first : goal.returns-clause-first
returns-clause-first g c = λ told. subst (λ (image : ℕ → ℕ). TellsHeader image 0 c.in_ok-first.first) c.sync.ensures.same (c.in_ok-first.ensures.header (c.sync.ensures.time.told ∙ told))

pub returns-clause-second : goal.returns-clause-second
returns-clause-second g c = λ told. subst (λ (image : ℕ → ℕ). TellsHeader image (slot_start c.args.layout Second) c.in_ok-second.second) (same-bytes (g.D.Disk.state c.sync.new.self) (g.D.Disk.state c.read.new.disk) c.read.ensures.reads ∙ c.sync.ensures.same)
    (subst (λ (at : ℕ). TellsHeader (disk_bytes (g.D.Disk.state c.read.new.disk)) at c.in_ok-second.second) c.slot_start.ensures (c.in_ok-second.ensures.header (c.read.ensures.reads.time.told ∙ c.sync.ensures.time.told ∙ told)))
