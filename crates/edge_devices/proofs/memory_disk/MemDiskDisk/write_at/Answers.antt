use Rattle.std.proofs.Common.{◌≡◌, ◌+◌, ◌≤◌, true, inl, inr, List, [], ◌∷◌, ◌++◌, length, sym, ◌∙◌, ap, subst, refl, arith, vec_len}
use Rattle.std.proofs.lemmas.Bool.{true≢false}
use Rattle.edge_devices.specs.declared.disk_calls.Call.{Call}
use Rattle.edge_devices.specs.declared.disk_calls.Call.TheVariants.{Wrote, Cut}
use Rattle.edge_devices.specs.DiskReplays.{device_calls, after, IsContent, NonePending}
use Rattle.edge_devices.proofs.DiskReplays.{elapses-maybe, outside-maybe, outside_wrote, outside_cut, has-wrote, covered-wrote}
use Rattle.edge_devices.proofs.DiskContents.{device-wrote, device-cut, content-longer, content-wrote, content-cut}
use Rattle.edge_devices.proofs.memory_disk.MemDiskDisk.write_at.Goals as goal

pub invariant_of-self-in-Err : goal.invariant_of-self-in-Err
invariant_of-self-in-Err c =
    let wide : length c.args.self.now.content.items ≤ length c.prepare.new.content.items = omega (arith, c.prepare.ensures.longer, c.args.self.now.content.ok, c.prepare.new.content.ok) in
    let grown : IsContent c.prepare.new.content.items c.args.self.now.calls.items = content-longer c.args.self.now.content.items c.prepare.new.content.items c.args.self.now.calls.items c.args.self.now.calls.items refl c.prepare.ensures.content wide c.args.self.now.matches in
    record {
      matches = subst (λ (l : List Call). IsContent c.prepare.new.content.items l) (sym c.prepare.ensures.calls) grown;
      spare = λ is. omega (arith, c.args.self.now.spare is, ap length c.prepare.ensures.calls, c.args.self.now.calls.ok, c.prepare.new.calls.ok, c.prepare.ensures.capacity);
      none_pending = λ is. subst NonePending (sym c.prepare.ensures.calls) (c.args.self.now.none_pending is);
    }

pub invariant_of-self-then-stop : goal.invariant_of-self-then-stop
invariant_of-self-then-stop c =
    let wide : length c.args.self.now.content.items ≤ length c.prepare.new.content.items = omega (arith, c.prepare.ensures.longer, c.args.self.now.content.ok, c.prepare.new.content.ok) in
    let grown : IsContent c.prepare.new.content.items c.args.self.now.calls.items = content-longer c.args.self.now.content.items c.prepare.new.content.items c.args.self.now.calls.items c.args.self.now.calls.items refl c.prepare.ensures.content wide c.args.self.now.matches in
    let old = c.args.self.now.calls.items in
    let copy = c.in-Ok.copy in
    let call = Cut c.args.at copy in
    let is : c.put_last.new.items.items ≡ old ++ call ∷ [] = c.put_last.ensures.items ∙ ap (λ (l : List Call). l ++ call ∷ []) c.prepare.ensures.calls in
    let long : vec_len c.put_last.new.items ≡ vec_len c.prepare.new.calls + 1 = c.put_last.ensures.len in
    let fits : c.args.at + length c.args.bytes.now ≤ length c.prepare.new.content.items = omega (arith, c.in-Ok.ensures.end, c.prepare.new.content.ok) in
    record {
      matches = content-cut c.prepare.new.content.items old c.put_last.new.items.items c.args.at copy c.args.bytes.now is c.in-Ok.ensures.copy fits grown;
      spare = λ _. omega (arith, long, c.in-Ok.ensures.room, c.put_last.ensures.capacity);
      none_pending = λ no_way. absurd (true≢false (sym no_way));
    }

pub invariant_of-self-2 : goal.invariant_of-self-2
invariant_of-self-2 c =
    let wide : length c.args.self.now.content.items ≤ length c.prepare.new.content.items = omega (arith, c.prepare.ensures.longer, c.args.self.now.content.ok, c.prepare.new.content.ok) in
    let grown : IsContent c.prepare.new.content.items c.args.self.now.calls.items = content-longer c.args.self.now.content.items c.prepare.new.content.items c.args.self.now.calls.items c.args.self.now.calls.items refl c.prepare.ensures.content wide c.args.self.now.matches in
    let old = c.args.self.now.calls.items in
    let copy = c.in-Ok.copy in
    let call = Wrote c.args.at copy in
    let is : c.put_last-2.new.items.items ≡ old ++ call ∷ [] = c.put_last-2.ensures.items ∙ ap (λ (l : List Call). l ++ call ∷ []) c.prepare.ensures.calls in
    let long : vec_len c.put_last-2.new.items ≡ vec_len c.prepare.new.calls + 1 = c.put_last-2.ensures.len in
    let fits : c.args.at + length c.args.bytes.now ≤ length c.prepare.new.content.items = omega (arith, c.in-Ok.ensures.end, c.prepare.new.content.ok) in
    let same : length c.write_over.new.content.items ≡ length c.prepare.new.content.items = omega (arith, c.write_over.ensures.len, c.write_over.new.content.ok, c.prepare.new.content.ok) in record {
      matches = content-wrote c.prepare.new.content.items c.write_over.new.content.items old c.put_last-2.new.items.items c.args.at copy c.args.bytes.now is c.in-Ok.ensures.copy fits same c.write_over.ensures.over grown;
      spare = λ _. omega (arith, long, c.in-Ok.ensures.room, c.put_last-2.ensures.capacity);
      none_pending = λ no_way. absurd (true≢false (sym no_way));
    }

pub returns-then-stop-clause-elsewhere : goal.returns-then-stop-clause-elsewhere
returns-then-stop-clause-elsewhere c =
    let old = c.args.self.now.calls.items in
    let copy = c.in-Ok.copy in
    let call = Cut c.args.at copy in
    let is : c.put_last.new.items.items ≡ old ++ call ∷ [] = c.put_last.ensures.items ∙ ap (λ (l : List Call). l ++ call ∷ []) c.prepare.ensures.calls in
    outside-maybe old c.put_last.new.items.items call true c.args.at (length c.args.bytes.now) c.args.self.now.tally.faults c.args.self.now.tally.faults is
    (outside_cut (after old) c.args.at (length c.args.bytes.now) copy (ap length c.in-Ok.ensures.copy))

pub returns-then-stop-clause-time : goal.returns-then-stop-clause-time
returns-then-stop-clause-time c =
    let old = c.args.self.now.calls.items in
    let copy = c.in-Ok.copy in
    let call = Cut c.args.at copy in
    let is : c.put_last.new.items.items ≡ old ++ call ∷ [] = c.put_last.ensures.items ∙ ap (λ (l : List Call). l ++ call ∷ []) c.prepare.ensures.calls in
    elapses-maybe old c.put_last.new.items.items call true c.args.self.now.tally.faults c.fail.new.self.faults is

pub returns-clause-written : goal.returns-clause-written
returns-clause-written c = λ told.
    let old = c.args.self.now.calls.items in
    let copy = c.in-Ok.copy in
    let call = Wrote c.args.at copy in
    let is : c.put_last-2.new.items.items ≡ old ++ call ∷ [] = c.put_last-2.ensures.items ∙ ap (λ (l : List Call). l ++ call ∷ []) c.prepare.ensures.calls in
    has-wrote old c.put_last-2.new.items.items c.args.at c.args.self.now.tally.faults copy c.args.bytes.now is c.in-Ok.ensures.copy

pub returns-clause-covered : goal.returns-clause-covered
returns-clause-covered c = λ told.
    let old = c.args.self.now.calls.items in
    let copy = c.in-Ok.copy in
    let call = Wrote c.args.at copy in
    let is : c.put_last-2.new.items.items ≡ old ++ call ∷ [] = c.put_last-2.ensures.items ∙ ap (λ (l : List Call). l ++ call ∷ []) c.prepare.ensures.calls in
    covered-wrote old c.put_last-2.new.items.items c.args.at c.args.self.now.tally.faults (length c.args.bytes.now) copy is (ap length c.in-Ok.ensures.copy)

pub returns-clause-elsewhere : goal.returns-clause-elsewhere
returns-clause-elsewhere c =
    let old = c.args.self.now.calls.items in
    let copy = c.in-Ok.copy in
    let call = Wrote c.args.at copy in
    let is : c.put_last-2.new.items.items ≡ old ++ call ∷ [] = c.put_last-2.ensures.items ∙ ap (λ (l : List Call). l ++ call ∷ []) c.prepare.ensures.calls in
    outside-maybe old c.put_last-2.new.items.items call true c.args.at (length c.args.bytes.now) c.args.self.now.tally.faults c.args.self.now.tally.faults is
    (outside_wrote (after old) c.args.at (length c.args.bytes.now) copy (ap length c.in-Ok.ensures.copy))

pub returns-clause-time : goal.returns-clause-time
returns-clause-time c =
    let old = c.args.self.now.calls.items in
    let copy = c.in-Ok.copy in
    let call = Wrote c.args.at copy in
    let is : c.put_last-2.new.items.items ≡ old ++ call ∷ [] = c.put_last-2.ensures.items ∙ ap (λ (l : List Call). l ++ call ∷ []) c.prepare.ensures.calls in
    elapses-maybe old c.put_last-2.new.items.items call true c.args.self.now.tally.faults c.args.self.now.tally.faults is

pub returns-clause-calls : goal.returns-clause-calls
returns-clause-calls c = λ told.
    let old = c.args.self.now.calls.items in
    let copy = c.in-Ok.copy in
    let call = Wrote c.args.at copy in
    let is : c.put_last-2.new.items.items ≡ old ++ call ∷ [] = c.put_last-2.ensures.items ∙ ap (λ (l : List Call). l ++ call ∷ []) c.prepare.ensures.calls in
    device-wrote old c.put_last-2.new.items.items c.args.at copy c.args.bytes.now is c.in-Ok.ensures.copy

pub returns-then-stop-clause-calls : goal.returns-then-stop-clause-calls
returns-then-stop-clause-calls c = λ told.
    let old = c.args.self.now.calls.items in
    let copy = c.in-Ok.copy in
    let call = Cut c.args.at copy in
    let is : c.put_last.new.items.items ≡ old ++ call ∷ [] = c.put_last.ensures.items ∙ ap (λ (l : List Call). l ++ call ∷ []) c.prepare.ensures.calls in
    inl (device-cut old c.put_last.new.items.items c.args.at copy c.args.bytes.now is c.in-Ok.ensures.copy)

pub returns-in-Err-clause-calls : goal.returns-in-Err-clause-calls
returns-in-Err-clause-calls c = λ told. inr (ap device_calls c.prepare.ensures.calls, c.refuse.ensures.others)
