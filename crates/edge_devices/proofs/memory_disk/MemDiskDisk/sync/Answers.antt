use Rattle.std.proofs.Common.{◌≡◌, ◌+◌, ◌≤◌, true, List, [], ◌∷◌, ◌++◌, sym, ◌∙◌, ap, subst, arith, vec_len, vec_capacity}
use Rattle.std.proofs.lemmas.Bool.{true≢false}
use Rattle.edge_devices.specs.declared.disk_calls.Call.{Call}
use Rattle.edge_devices.specs.declared.disk_calls.Call.TheVariants.{Synced}
use Rattle.edge_devices.specs.DiskReplays.{device_calls, IsContent, NonePending}
use Rattle.edge_devices.proofs.DiskReplays.{elapses-maybe, seen-synced, settled-synced, stays-synced}
use Rattle.edge_devices.proofs.DiskMoments.{ok_part}
use Rattle.edge_devices.proofs.DiskContents.{device-synced, content-synced}
use Rattle.edge_devices.proofs.memory_disk.MemDiskDisk.sync.Goals as goal

pub invariant_of-self-then-is_err : goal.invariant_of-self-then-is_err
invariant_of-self-then-is_err c = record {
  matches = subst (λ (l : List Call). IsContent c.args.self.now.content.items l) (sym c.reserve.ensures.items) c.args.self.now.matches;
  spare = λ is. omega (arith, c.args.self.now.spare is, c.reserve.ensures.len, c.reserve.ensures.capacity);
  none_pending = λ is. subst NonePending (sym c.reserve.ensures.items) (c.args.self.now.none_pending is);
}

pub invariant_of-self-2 : goal.invariant_of-self-2
invariant_of-self-2 c =
    let old = c.args.self.now.calls.items in
    let is : c.put_last.new.items.items ≡ old ++ Synced ∷ [] = c.put_last.ensures.items ∙ ap (λ (l : List Call). l ++ Synced ∷ []) c.reserve.ensures.items in
    let long : vec_len c.put_last.new.items ≡ vec_len c.reserve.new.self + 1 = c.put_last.ensures.len in
    let reserved : vec_len c.reserve.new.self + 2 ≤ vec_capacity c.reserve.new.self = ok_part c.reserve.result (vec_len c.reserve.new.self + 2 ≤ vec_capacity c.reserve.new.self) (sym c.is_err.ensures.value ∙ c.if-is_err.false) c.reserve.ensures.ok in record {
      matches = content-synced c.args.self.now.content.items old c.put_last.new.items.items is c.args.self.now.matches;
      spare = λ _. omega (arith, long, reserved, c.put_last.ensures.capacity);
      none_pending = λ no_way. absurd (true≢false (sym no_way));
    }

pub returns-clause-settled : goal.returns-clause-settled
returns-clause-settled c =
    let old = c.args.self.now.calls.items in
    let is : c.put_last.new.items.items ≡ old ++ Synced ∷ [] = c.put_last.ensures.items ∙ ap (λ (l : List Call). l ++ Synced ∷ []) c.reserve.ensures.items in
    settled-synced old c.put_last.new.items.items c.args.self.now.tally.faults is

pub returns-clause-same : goal.returns-clause-same
returns-clause-same c =
    let old = c.args.self.now.calls.items in
    let is : c.put_last.new.items.items ≡ old ++ Synced ∷ [] = c.put_last.ensures.items ∙ ap (λ (l : List Call). l ++ Synced ∷ []) c.reserve.ensures.items in
    seen-synced old c.put_last.new.items.items true c.args.self.now.tally.faults c.args.self.now.tally.faults is

pub returns-clause-kept : goal.returns-clause-kept
returns-clause-kept c =
    let old = c.args.self.now.calls.items in
    let is : c.put_last.new.items.items ≡ old ++ Synced ∷ [] = c.put_last.ensures.items ∙ ap (λ (l : List Call). l ++ Synced ∷ []) c.reserve.ensures.items in
    stays-synced old c.put_last.new.items.items true c.args.self.now.tally.faults c.args.self.now.tally.faults is

pub returns-clause-time : goal.returns-clause-time
returns-clause-time c =
    let old = c.args.self.now.calls.items in
    let is : c.put_last.new.items.items ≡ old ++ Synced ∷ [] = c.put_last.ensures.items ∙ ap (λ (l : List Call). l ++ Synced ∷ []) c.reserve.ensures.items in
    elapses-maybe old c.put_last.new.items.items Synced true c.args.self.now.tally.faults c.args.self.now.tally.faults is

pub returns-clause-calls : goal.returns-clause-calls
returns-clause-calls c = λ told.
    let old = c.args.self.now.calls.items in
    let is : c.put_last.new.items.items ≡ old ++ Synced ∷ [] = c.put_last.ensures.items ∙ ap (λ (l : List Call). l ++ Synced ∷ []) c.reserve.ensures.items in
    device-synced old c.put_last.new.items.items is

pub returns-then-is_err-clause-calls : goal.returns-then-is_err-clause-calls
returns-then-is_err-clause-calls c = λ told. ap device_calls c.reserve.ensures.items
