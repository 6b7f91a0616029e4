use Rattle.std.proofs.Common.{◌≡◌, ◌+◌, ℕ, length, [], ◌∷◌, ◌∙◌, ap, IsTrue, arith}
use Rattle.edge_devices.specs.Disks.{DiskState, medium, disk_bytes, HasBytes, IsSettled, IsTorn, SameOutside, StaysSettled, MayLeave, Elapses, LeftSince, Writes, Syncs}
use Rattle.edge_devices.proofs.DiskMoments.{step, sync-images, goes_on}
use Rattle.agent_store.proofs.Results.{on-ok, failed-cause, later-cause}
use Rattle.edge_devices.proofs.DiskCalls.{amid-longer, then-makes, write-done, write-failed, sync-makes, passed-on}
use Rattle.agent_store.proofs.slots.put.Goals as goal

-- what a crash leaves while a write and a sync go on
module _ (at n : ℕ) (old wrote : DiskState) (settled : IsSettled (medium old)) (time : Elapses old wrote) (one : SameOutside at n (medium old) (medium wrote)) where
  abbrev Torn : (ℕ → ℕ) → Type 0
  Torn = IsTorn at n (disk_bytes old)

  torn-wrote : (image : ℕ → ℕ) → MayLeave (medium wrote) image → Torn image
  torn-wrote image may = λ p out. may p (one.pending p out ∙ settled p) ∙ one.seen p out

  left-wrote : LeftSince old wrote Torn
  left-wrote = step old wrote Torn time (λ image may p _. may p (settled p)) torn-wrote

  left-synced : (synced : DiskState) → Elapses wrote synced → disk_bytes synced ≡ disk_bytes wrote → StaysSettled (medium wrote) (medium synced) → LeftSince old synced Torn
  left-synced synced last same kept = goes_on old wrote synced Torn Torn left-wrote (step wrote synced Torn last torn-wrote (λ image may. torn-wrote image (sync-images wrote synced same kept image may))) (λ image torn. torn)

same-at : (f h : ℕ → ℕ) → h ≡ f → (p : ℕ) → h p ≡ f p
same-at f h same p = ap (λ (image : ℕ → ℕ). image p) same

pub returns-clause-made : goal.returns-clause-made
returns-clause-made g c = λ told.
    let S = g.D.Disk.state in
    let C = g.D.Disk.countdown in
    let old = S c.args.disk.now in
    let mid = S c.write_at.new.self in
    let new = S c.sync.new.self in
    let a = C c.args.disk.now in
    let m = C c.write_at.new.self in
    let b = C c.sync.new.self in
    let told1 = c.write_at.ensures.time.told ∙ told in
    let first = write-done _ _ c.args.at c.args.bytes.now old mid a m _ (c.in_ok-write_at.ensures.calls told) (c.in_ok-write_at.ensures.counts told) in
    then-makes (Writes c.args.at c.args.bytes.now ∷ []) (Syncs ∷ []) old mid new a m b c.sync.result first (sync-makes mid new m b c.sync.result (c.sync.ensures.calls told1) (c.sync.ensures.counts told1))

pub returns-in_err-write_at-clause-elsewhere : goal.returns-in_err-write_at-clause-elsewhere
returns-in_err-write_at-clause-elsewhere g c = c.write_at.ensures.elsewhere.seen

pub returns-in_err-write_at-clause-any_moment : goal.returns-in_err-write_at-clause-any_moment
returns-in_err-write_at-clause-any_moment g c = left-wrote c.args.at (length c.args.bytes.now) (g.D.Disk.state c.args.disk.now) (g.D.Disk.state c.write_at.new.self) c.requires.settled c.write_at.ensures.time c.write_at.ensures.elsewhere

pub returns-in_err-write_at-clause-cause : goal.returns-in_err-write_at-clause-cause
returns-in_err-write_at-clause-cause g c = failed-cause (g.D.Disk.state c.args.disk.now) (g.D.Disk.state c.args.disk.now) (g.D.Disk.state c.write_at.new.self) c.from_residual.result (omega arith) c.write_at.ensures.cause.later c.in_err-write_at.ensures.cause.fault

pub returns-in_err-write_at-clause-made : goal.returns-in_err-write_at-clause-made
returns-in_err-write_at-clause-made g c = λ told.
    let old = g.D.Disk.state c.args.disk.now in
    let new = g.D.Disk.state c.write_at.new.self in
    let a = g.D.Disk.countdown c.args.disk.now in
    let b = g.D.Disk.countdown c.write_at.new.self in
    let one = Writes c.args.at c.args.bytes.now in
    passed-on (one ∷ Syncs ∷ []) old new a b c.from_residual.result c.from_residual.ensures
    (amid-longer (one ∷ []) (Syncs ∷ []) old new a b (write-failed _ _ c.args.at c.args.bytes.now old new a b _ (c.in_err-write_at.ensures.calls told) (c.in_err-write_at.ensures.counts told)))

pub returns-clause-settled : goal.returns-clause-settled
returns-clause-settled g c = c.sync.ensures.settled

pub returns-clause-written : goal.returns-clause-written
returns-clause-written g c = on-ok c.sync.result (IsTrue (g.D.Disk.state c.args.disk.now).told → HasBytes (disk_bytes (g.D.Disk.state c.sync.new.self)) c.args.at c.args.bytes.now) (λ told k less. same-at (disk_bytes (g.D.Disk.state c.write_at.new.self)) (disk_bytes (g.D.Disk.state c.sync.new.self)) c.sync.ensures.same (c.args.at + k) ∙ c.in_ok-write_at.ensures.written told k less)

pub returns-clause-elsewhere : goal.returns-clause-elsewhere
returns-clause-elsewhere g c = λ p out. same-at (disk_bytes (g.D.Disk.state c.write_at.new.self)) (disk_bytes (g.D.Disk.state c.sync.new.self)) c.sync.ensures.same p ∙ c.write_at.ensures.elsewhere.seen p out

pub returns-clause-any_moment : goal.returns-clause-any_moment
returns-clause-any_moment g c = left-synced c.args.at (length c.args.bytes.now) (g.D.Disk.state c.args.disk.now) (g.D.Disk.state c.write_at.new.self) c.requires.settled c.write_at.ensures.time c.write_at.ensures.elsewhere (g.D.Disk.state c.sync.new.self) c.sync.ensures.time c.sync.ensures.same c.sync.ensures.kept

pub returns-clause-cause : goal.returns-clause-cause
returns-clause-cause g c = later-cause (g.D.Disk.state c.args.disk.now) (g.D.Disk.state c.write_at.new.self) (g.D.Disk.state c.sync.new.self) c.sync.result c.write_at.ensures.cause.later c.sync.ensures.cause
