use Rattle.std.proofs.Common.{◌≡◌, ◌≤◌, ◌+◌, ℕ, List, length, [], ◌∷◌, ◌∙◌, inl, ap, arith}
use Rattle.edge_devices.specs.Disks.{DiskState, medium, disk_bytes, IsSettled, IsTornBoth, SameOutside, StaysSettled, HasBytes, MayLeave, Elapses, LeftSince, Writes, Syncs}
use Rattle.edge_devices.proofs.DiskMoments.{step, sync-images, goes_on}
use Rattle.agent_store.proofs.Results.{failed-cause}
use Rattle.edge_devices.proofs.DiskCalls.{amid-longer, amid-later, then-all, write-done, write-failed, sync-done, sync-failed, passed-on}
use Rattle.agent_store.proofs.slots.put_both.Goals as goal

-- what two writes and a sync leave, and what a crash does while they go on
module _ (at n other m : ℕ) (old wrote : DiskState) (settled : IsSettled (medium old)) (time : Elapses old wrote) (one : SameOutside at n (medium old) (medium wrote)) where
  abbrev Torn : (ℕ → ℕ) → Type 0
  Torn = IsTornBoth at n other m (disk_bytes old)

  torn-wrote : (image : ℕ → ℕ) → MayLeave (medium wrote) image → Torn image
  torn-wrote image may = λ p out _. may p (one.pending p out ∙ settled p) ∙ one.seen p out

  left-wrote : LeftSince old wrote Torn
  left-wrote = step old wrote Torn time (λ image may p _ _. may p (settled p)) torn-wrote

  module _ (both : DiskState) (later : Elapses wrote both) (two : SameOutside other m (medium wrote) (medium both)) where
    torn-both : (image : ℕ → ℕ) → MayLeave (medium both) image → Torn image
    torn-both image may = λ p out beyond. may p (two.pending p beyond ∙ one.pending p out ∙ settled p) ∙ two.seen p beyond ∙ one.seen p out

    torn-seen : Torn (disk_bytes both)
    torn-seen = λ p out beyond. two.seen p beyond ∙ one.seen p out

    left-both : LeftSince old both Torn
    left-both = goes_on old wrote both Torn Torn left-wrote (step wrote both Torn later torn-wrote torn-both) (λ image torn. torn)

    left-synced : (synced : DiskState) → Elapses both synced → disk_bytes synced ≡ disk_bytes both → StaysSettled (medium both) (medium synced) → LeftSince old synced Torn
    left-synced synced last same kept = goes_on old both synced Torn Torn left-both (step both synced Torn last torn-both (λ image may. torn-both image (sync-images both synced same kept image may))) (λ image torn. torn)

same-at : (f h : ℕ → ℕ) → h ≡ f → (p : ℕ) → h p ≡ f p
same-at f h same p = ap (λ (image : ℕ → ℕ). image p) same

kept-bytes : (wrote both synced : DiskState) (at other m : ℕ) (bytes : List ℕ) → SameOutside other m (medium wrote) (medium both) → disk_bytes synced ≡ disk_bytes both → at + length bytes ≤ other → HasBytes (disk_bytes wrote) at bytes → HasBytes (disk_bytes synced) at bytes
kept-bytes wrote both synced at other m bytes two same apart has k less = same-at (disk_bytes both) (disk_bytes synced) same (at + k) ∙ two.seen (at + k) (inl (omega (arith, less, apart))) ∙ has k less

pub returns-in_err-write_at-2-clause-made : goal.returns-in_err-write_at-2-clause-made
returns-in_err-write_at-2-clause-made g c = λ told.
    let S = g.D.Disk.state in
    let C = g.D.Disk.countdown in
    let old = S c.args.disk.now in
    let mid = S c.write_at.new.self in
    let new = S c.write_at-2.new.self in
    let a = C c.args.disk.now in
    let m = C c.write_at.new.self in
    let b = C c.write_at-2.new.self in
    let one = Writes c.args.at c.args.bytes.now in
    let two = Writes c.args.other_at c.args.other_bytes.now in
    let told1 = c.write_at.ensures.time.told ∙ told in
    let first = write-done _ _ c.args.at c.args.bytes.now old mid a m _ (c.in_ok-write_at.ensures.calls told) (c.in_ok-write_at.ensures.counts told) in
    let amid = write-failed _ _ c.args.other_at c.args.other_bytes.now mid new m b _ (c.in_err-write_at-2.ensures.calls told1) (c.in_err-write_at-2.ensures.counts told1) in
    passed-on (one ∷ two ∷ Syncs ∷ []) old new a b c.from_residual-in_err-write_at-2.result c.from_residual-in_err-write_at-2.ensures
    (amid-later (one ∷ []) (two ∷ Syncs ∷ []) old mid new a m b first (amid-longer (two ∷ []) (Syncs ∷ []) mid new m b amid))

pub returns-in_err-sync-clause-made : goal.returns-in_err-sync-clause-made
returns-in_err-sync-clause-made g c = λ told.
    let S = g.D.Disk.state in
    let C = g.D.Disk.countdown in
    let old = S c.args.disk.now in
    let mid = S c.write_at.new.self in
    let both = S c.write_at-2.new.self in
    let new = S c.sync.new.self in
    let a = C c.args.disk.now in
    let m = C c.write_at.new.self in
    let n = C c.write_at-2.new.self in
    let b = C c.sync.new.self in
    let one = Writes c.args.at c.args.bytes.now in
    let two = Writes c.args.other_at c.args.other_bytes.now in
    let told1 = c.write_at.ensures.time.told ∙ told in
    let told2 = c.write_at-2.ensures.time.told ∙ told1 in
    let first = write-done _ _ c.args.at c.args.bytes.now old mid a m _ (c.in_ok-write_at.ensures.calls told) (c.in_ok-write_at.ensures.counts told) in
    let second = write-done _ _ c.args.other_at c.args.other_bytes.now mid both m n _ (c.in_ok-write_at-2.ensures.calls told1) (c.in_ok-write_at-2.ensures.counts told1) in
    let made = then-all (one ∷ []) (two ∷ []) old mid both a m n first second in
    passed-on (one ∷ two ∷ Syncs ∷ []) old new a b c.from_residual-in_err-sync.result c.from_residual-in_err-sync.ensures
    (amid-later (one ∷ two ∷ []) (Syncs ∷ []) old both new a n b made (sync-failed _ _ both new n b _ (c.in_err-sync.ensures.calls told2) (c.in_err-sync.ensures.counts told2)))

pub returns-in_err-write_at-clause-elsewhere : goal.returns-in_err-write_at-clause-elsewhere
returns-in_err-write_at-clause-elsewhere g c = λ p out _. c.write_at.ensures.elsewhere.seen p out

pub returns-in_err-write_at-clause-any_moment : goal.returns-in_err-write_at-clause-any_moment
returns-in_err-write_at-clause-any_moment g c = left-wrote c.args.at (length c.args.bytes.now) c.args.other_at (length c.args.other_bytes.now) (g.D.Disk.state c.args.disk.now) (g.D.Disk.state c.write_at.new.self) c.requires.settled c.write_at.ensures.time c.write_at.ensures.elsewhere

pub returns-in_err-write_at-clause-cause : goal.returns-in_err-write_at-clause-cause
returns-in_err-write_at-clause-cause g c = failed-cause (g.D.Disk.state c.args.disk.now) (g.D.Disk.state c.args.disk.now) (g.D.Disk.state c.write_at.new.self) c.from_residual.result (omega arith) c.write_at.ensures.cause.later c.in_err-write_at.ensures.cause.fault

pub returns-in_err-write_at-2-clause-elsewhere : goal.returns-in_err-write_at-2-clause-elsewhere
returns-in_err-write_at-2-clause-elsewhere g c = torn-seen c.args.at (length c.args.bytes.now) c.args.other_at (length c.args.other_bytes.now) (g.D.Disk.state c.args.disk.now) (g.D.Disk.state c.write_at.new.self) c.requires.settled c.write_at.ensures.time c.write_at.ensures.elsewhere (g.D.Disk.state c.write_at-2.new.self) c.write_at-2.ensures.time c.write_at-2.ensures.elsewhere

pub returns-in_err-write_at-2-clause-any_moment : goal.returns-in_err-write_at-2-clause-any_moment
returns-in_err-write_at-2-clause-any_moment g c = left-both c.args.at (length c.args.bytes.now) c.args.other_at (length c.args.other_bytes.now) (g.D.Disk.state c.args.disk.now) (g.D.Disk.state c.write_at.new.self) c.requires.settled c.write_at.ensures.time c.write_at.ensures.elsewhere (g.D.Disk.state c.write_at-2.new.self) c.write_at-2.ensures.time c.write_at-2.ensures.elsewhere

pub returns-in_err-write_at-2-clause-cause : goal.returns-in_err-write_at-2-clause-cause
returns-in_err-write_at-2-clause-cause g c = failed-cause (g.D.Disk.state c.args.disk.now) (g.D.Disk.state c.write_at.new.self) (g.D.Disk.state c.write_at-2.new.self) c.from_residual-in_err-write_at-2.result c.write_at.ensures.cause.later c.write_at-2.ensures.cause.later c.in_err-write_at-2.ensures.cause.fault

pub returns-in_err-sync-clause-elsewhere : goal.returns-in_err-sync-clause-elsewhere
returns-in_err-sync-clause-elsewhere g c = λ p out beyond. same-at (disk_bytes (g.D.Disk.state c.write_at-2.new.self)) (disk_bytes (g.D.Disk.state c.sync.new.self)) c.sync.ensures.same p ∙ torn-seen c.args.at (length c.args.bytes.now) c.args.other_at (length c.args.other_bytes.now) (g.D.Disk.state c.args.disk.now) (g.D.Disk.state c.write_at.new.self) c.requires.settled c.write_at.ensures.time c.write_at.ensures.elsewhere (g.D.Disk.state c.write_at-2.new.self) c.write_at-2.ensures.time c.write_at-2.ensures.elsewhere p out beyond

pub returns-in_err-sync-clause-any_moment : goal.returns-in_err-sync-clause-any_moment
returns-in_err-sync-clause-any_moment g c = left-synced c.args.at (length c.args.bytes.now) c.args.other_at (length c.args.other_bytes.now) (g.D.Disk.state c.args.disk.now) (g.D.Disk.state c.write_at.new.self) c.requires.settled c.write_at.ensures.time c.write_at.ensures.elsewhere (g.D.Disk.state c.write_at-2.new.self) c.write_at-2.ensures.time c.write_at-2.ensures.elsewhere (g.D.Disk.state c.sync.new.self) c.sync.ensures.time c.sync.ensures.same c.sync.ensures.kept

pub returns-in_err-sync-clause-cause : goal.returns-in_err-sync-clause-cause
returns-in_err-sync-clause-cause g c = failed-cause (g.D.Disk.state c.args.disk.now) (g.D.Disk.state c.write_at-2.new.self) (g.D.Disk.state c.sync.new.self) c.from_residual-in_err-sync.result (omega (arith, c.write_at.ensures.cause.later, c.write_at-2.ensures.cause.later)) c.sync.ensures.cause.later c.in_err-sync.ensures.cause.fault

pub returns-clause-elsewhere : goal.returns-clause-elsewhere
returns-clause-elsewhere g c = λ p out beyond. same-at (disk_bytes (g.D.Disk.state c.write_at-2.new.self)) (disk_bytes (g.D.Disk.state c.sync.new.self)) c.sync.ensures.same p ∙ torn-seen c.args.at (length c.args.bytes.now) c.args.other_at (length c.args.other_bytes.now) (g.D.Disk.state c.args.disk.now) (g.D.Disk.state c.write_at.new.self) c.requires.settled c.write_at.ensures.time c.write_at.ensures.elsewhere (g.D.Disk.state c.write_at-2.new.self) c.write_at-2.ensures.time c.write_at-2.ensures.elsewhere p out beyond

pub returns-clause-any_moment : goal.returns-clause-any_moment
returns-clause-any_moment g c = left-synced c.args.at (length c.args.bytes.now) c.args.other_at (length c.args.other_bytes.now) (g.D.Disk.state c.args.disk.now) (g.D.Disk.state c.write_at.new.self) c.requires.settled c.write_at.ensures.time c.write_at.ensures.elsewhere (g.D.Disk.state c.write_at-2.new.self) c.write_at-2.ensures.time c.write_at-2.ensures.elsewhere (g.D.Disk.state c.sync.new.self) c.sync.ensures.time c.sync.ensures.same c.sync.ensures.kept

pub returns-clause-settled : goal.returns-clause-settled
returns-clause-settled g c = c.in_ok-sync.ensures.settled

pub returns-clause-written : goal.returns-clause-written
returns-clause-written g c = λ told. kept-bytes (g.D.Disk.state c.write_at.new.self) (g.D.Disk.state c.write_at-2.new.self) (g.D.Disk.state c.sync.new.self) c.args.at c.args.other_at (length c.args.other_bytes.now) c.args.bytes.now c.write_at-2.ensures.elsewhere c.sync.ensures.same c.requires.apart (c.in_ok-write_at.ensures.written told)

pub returns-clause-other_written : goal.returns-clause-other_written
returns-clause-other_written g c = λ told k less. same-at (disk_bytes (g.D.Disk.state c.write_at-2.new.self)) (disk_bytes (g.D.Disk.state c.sync.new.self)) c.sync.ensures.same (c.args.other_at + k) ∙ c.in_ok-write_at-2.ensures.written (c.write_at.ensures.time.told ∙ told) k less

pub returns-clause-cause : goal.returns-clause-cause
returns-clause-cause g c = record { later = omega (arith, c.write_at.ensures.cause.later, c.write_at-2.ensures.cause.later, c.sync.ensures.cause.later); fault = tt }

pub returns-in_err-write_at-clause-made : goal.returns-in_err-write_at-clause-made
returns-in_err-write_at-clause-made g c = λ told.
    let old = g.D.Disk.state c.args.disk.now in
    let new = g.D.Disk.state c.write_at.new.self in
    let a = g.D.Disk.countdown c.args.disk.now in
    let b = g.D.Disk.countdown c.write_at.new.self in
    let one = Writes c.args.at c.args.bytes.now in
    let two = Writes c.args.other_at c.args.other_bytes.now in
    passed-on (one ∷ two ∷ Syncs ∷ []) old new a b c.from_residual.result c.from_residual.ensures
    (amid-longer (one ∷ []) (two ∷ Syncs ∷ []) old new a b (write-failed _ _ c.args.at c.args.bytes.now old new a b _ (c.in_err-write_at.ensures.calls told) (c.in_err-write_at.ensures.counts told)))

pub returns-clause-made : goal.returns-clause-made
returns-clause-made g c = λ told.
    let S = g.D.Disk.state in
    let C = g.D.Disk.countdown in
    let old = S c.args.disk.now in
    let mid = S c.write_at.new.self in
    let both = S c.write_at-2.new.self in
    let new = S c.sync.new.self in
    let a = C c.args.disk.now in
    let m = C c.write_at.new.self in
    let n = C c.write_at-2.new.self in
    let b = C c.sync.new.self in
    let one = Writes c.args.at c.args.bytes.now in
    let two = Writes c.args.other_at c.args.other_bytes.now in
    let told1 = c.write_at.ensures.time.told ∙ told in
    let told2 = c.write_at-2.ensures.time.told ∙ told1 in
    let first = write-done _ _ c.args.at c.args.bytes.now old mid a m _ (c.in_ok-write_at.ensures.calls told) (c.in_ok-write_at.ensures.counts told) in
    let second = write-done _ _ c.args.other_at c.args.other_bytes.now mid both m n _ (c.in_ok-write_at-2.ensures.calls told1) (c.in_ok-write_at-2.ensures.counts told1) in
    let made = then-all (one ∷ []) (two ∷ []) old mid both a m n first second in
    then-all (one ∷ two ∷ []) (Syncs ∷ []) old both new a n b made (sync-done _ _ both new n b _ (c.in_ok-sync.ensures.calls told2) (c.in_ok-sync.ensures.counts told2))
