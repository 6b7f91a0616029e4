use Rattle.std.proofs.Common.{◌≡◌, ℕ, ◌<◌, true, inl, List, [], ◌∷◌, ◌++◌, length, get_or, ◌∙◌, ap, arith}
use Rattle.std.proofs.lemmas.Bool.{true≢false}
use Rattle.edge_devices.specs.declared.disk_calls.Call.{Call}
use Rattle.edge_devices.specs.declared.disk_calls.Call.TheVariants.{Crashed}
use Rattle.edge_devices.specs.DiskReplays.{after, left_byte}
use Rattle.edge_devices.proofs.DiskReplays.{elapses-maybe, settled-crashed, image-crashed}
use Rattle.edge_devices.proofs.DiskContents.{device-crashed, content-crashed, none-crashed, settled-none, still-crashes}
use Rattle.edge_devices.proofs.DiskReplays.{crashes}
use Rattle.edge_devices.proofs.DiskStops.{crash-is}
use Rattle.edge_devices.proofs.memory_disk.MemDisk.crash.Goals as goal

pub returns-then-self-clause-settled : goal.returns-then-self-clause-settled
returns-then-self-clause-settled c = settled-none c.args.self.now.calls.items c.args.self.now.tally.faults (c.args.self.now.none_pending c.if-self.true)

pub invariant_of-self : goal.invariant_of-self
invariant_of-self c =
    let old = c.args.self.now.calls.items in
    let is : c.put_last.new.items.items ≡ old ++ Crashed c.args.mode ∷ [] = c.put_last.ensures.items in
    let content = c.args.self.now.content.items in
    let left = c.leave.new.content.items in
    let long : length left ≡ length content = omega (arith, c.leave.ensures.len, c.leave.new.content.ok, c.args.self.now.content.ok) in
    let changed : (p : ℕ) → p < length left → get_or left p 0 ≡ left_byte c.args.mode (after old p) =
    λ p low. c.leave.ensures.left p (omega (arith, c.leave.new.content.ok, low)) ∙ ap (λ (l : List Call). left_byte c.args.mode (after l p)) c.deref.ensures.value in record {
      matches = content-crashed content left old c.put_last.new.items.items c.args.mode is long changed c.args.self.now.matches;
      spare = λ no_way. absurd (true≢false no_way);
      none_pending = λ _. none-crashed old c.put_last.new.items.items c.args.mode is;
    }

pub returns-clause-image : goal.returns-clause-image
returns-clause-image c =
    let old = c.args.self.now.calls.items in
    let is : c.put_last.new.items.items ≡ old ++ Crashed c.args.mode ∷ [] = c.put_last.ensures.items in
    image-crashed old c.put_last.new.items.items c.args.mode c.args.self.now.tally.faults c.args.self.now.tally.faults is

pub returns-clause-settled : goal.returns-clause-settled
returns-clause-settled c =
    let old = c.args.self.now.calls.items in
    let is : c.put_last.new.items.items ≡ old ++ Crashed c.args.mode ∷ [] = c.put_last.ensures.items in
    settled-crashed old c.put_last.new.items.items c.args.mode c.args.self.now.tally.faults is

pub returns-clause-time : goal.returns-clause-time
returns-clause-time c =
    let old = c.args.self.now.calls.items in
    let is : c.put_last.new.items.items ≡ old ++ Crashed c.args.mode ∷ [] = c.put_last.ensures.items in
    elapses-maybe old c.put_last.new.items.items (Crashed c.args.mode) true c.args.self.now.tally.faults c.args.self.now.tally.faults is

pub returns-clause-calls : goal.returns-clause-calls
returns-clause-calls c =
    let old = c.args.self.now.calls.items in
    let is : c.put_last.new.items.items ≡ old ++ Crashed c.args.mode ∷ [] = c.put_last.ensures.items in
    inl (device-crashed old c.put_last.new.items.items c.args.mode is)

pub returns-clause-left : goal.returns-clause-left
returns-clause-left c = λ p.
    let old = c.args.self.now.calls.items in
    let is : c.put_last.new.items.items ≡ old ++ Crashed c.args.mode ∷ [] = c.put_last.ensures.items in
    crash-is old c.put_last.new.items.items c.args.mode c.args.self.now.tally.faults (crashes old c.put_last.new.items.items c.args.mode is) p

pub returns-then-self-clause-left : goal.returns-then-self-clause-left
returns-then-self-clause-left c = λ p.
    let old = c.args.self.now.calls.items in
    crash-is old old c.args.mode c.args.self.now.tally.faults (still-crashes c.args.mode old (c.args.self.now.none_pending c.if-self.true)) p
