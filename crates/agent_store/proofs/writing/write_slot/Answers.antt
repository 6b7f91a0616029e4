use Rattle.std.proofs.Common.{◌≡◌, ◌≢◌, ◌+◌, ◌∷◌, [], ℕ, length, IsTrue, ◌∙◌, ◌++◌, ◌==◌, subst, sym, ap, arith}
use Rattle.edge_devices.specs.Disks.{disk_bytes, HasBytes, IsTorn, IsTornBoth, IsClosing, LeftSince}
use Rattle.agent_store.specs.Slots.{slot_start, log_start}
use Rattle.agent_store.specs.Images.{HasSlot, IsClosed}
use Rattle.edge_devices.specs.Disks.{Writes, Syncs}
use Rattle.edge_devices.specs.DiskCalls.{EndsAmid, MadeAll}
use Rattle.edge_devices.proofs.DiskCalls.{amid-longer, amid-later, then-all, passed-on}
use Rattle.agent_store.specs.Plans.{put_plan, close_plan, slot_plan, slot_plan_at}
use Rattle.agent_store.proofs.Moments.{while-closing, while-writing, while-opening, closed-is, torn-is, written-is, byte-is}
use Rattle.agent_store.proofs.Results.{failed-cause}
use Rattle.agent_store.proofs.writing.write_slot.Goals as goal

pub returns-in_err-close-clause-any_moment : goal.returns-in_err-close-clause-any_moment
returns-in_err-close-clause-any_moment g c = λ told.
    let S = g.D.Disk.state in
    let old = S c.args.disk.now in
    let closed = S c.close.new.disk in
    let layout = c.args.layout in
    let side = c.args.side in
    let body = c.args.body.now in
    let at = slot_start layout side in
    let is_at : c.slot_start-at.result ≡ at = c.slot_start-at.ensures in
    let closing = subst (λ (a : ℕ). LeftSince old closed (IsClosing a (disk_bytes old))) is_at (c.close.ensures.any_moment told) in
    let first = while-closing layout side body c.requires.short old closed closing in
    first

pub returns-in_err-put_both-clause-any_moment : goal.returns-in_err-put_both-clause-any_moment
returns-in_err-put_both-clause-any_moment g c = λ told.
    let S = g.D.Disk.state in
    let old = S c.args.disk.now in
    let closed = S c.close.new.disk in
    let layout = c.args.layout in
    let side = c.args.side in
    let body = c.args.body.now in
    let at = slot_start layout side in
    let is_at : c.slot_start-at.result ≡ at = c.slot_start-at.ensures in
    let closing = subst (λ (a : ℕ). LeftSince old closed (IsClosing a (disk_bytes old))) is_at (c.close.ensures.any_moment told) in
    let first = while-closing layout side body c.requires.short old closed closing in
    let told1 : IsTrue closed.told = c.close.ensures.told ∙ told in
    let shut : disk_bytes closed at ≢ 1 = subst (λ (a : ℕ). disk_bytes closed a ≢ 1) is_at (c.in_ok-close.ensures.shut told) in
    let torn = subst (λ (a : ℕ). IsTorn a 1 (disk_bytes old) (disk_bytes closed)) is_at c.close.ensures.elsewhere in
    let closed_now : IsClosed layout side (disk_bytes old) (disk_bytes closed) = closed-is layout side body c.requires.short (disk_bytes old) (disk_bytes closed) torn shut in
    let staged = S c.put_both.new.disk in
    let is_log : c.log_start.result ≡ log_start layout side = c.log_start.ensures in
    let writing = subst (λ (l : ℕ). LeftSince closed staged (IsTornBoth (at + 1) (length body) l 1 (disk_bytes closed))) is_log
    (subst (λ (a : ℕ). LeftSince closed staged (IsTornBoth (a + 1) (length body) c.log_start.result 1 (disk_bytes closed))) is_at c.put_both.ensures.any_moment) in
    let second = while-writing layout side body c.requires.short old closed staged closed_now first writing in
    second

pub returns-in_err-put-clause-any_moment : goal.returns-in_err-put-clause-any_moment
returns-in_err-put-clause-any_moment g c = λ told.
    let S = g.D.Disk.state in
    let old = S c.args.disk.now in
    let closed = S c.close.new.disk in
    let layout = c.args.layout in
    let side = c.args.side in
    let body = c.args.body.now in
    let at = slot_start layout side in
    let is_at : c.slot_start-at.result ≡ at = c.slot_start-at.ensures in
    let closing = subst (λ (a : ℕ). LeftSince old closed (IsClosing a (disk_bytes old))) is_at (c.close.ensures.any_moment told) in
    let first = while-closing layout side body c.requires.short old closed closing in
    let told1 : IsTrue closed.told = c.close.ensures.told ∙ told in
    let shut : disk_bytes closed at ≢ 1 = subst (λ (a : ℕ). disk_bytes closed a ≢ 1) is_at (c.in_ok-close.ensures.shut told) in
    let torn = subst (λ (a : ℕ). IsTorn a 1 (disk_bytes old) (disk_bytes closed)) is_at c.close.ensures.elsewhere in
    let closed_now : IsClosed layout side (disk_bytes old) (disk_bytes closed) = closed-is layout side body c.requires.short (disk_bytes old) (disk_bytes closed) torn shut in
    let staged = S c.put_both.new.disk in
    let is_log : c.log_start.result ≡ log_start layout side = c.log_start.ensures in
    let writing = subst (λ (l : ℕ). LeftSince closed staged (IsTornBoth (at + 1) (length body) l 1 (disk_bytes closed))) is_log
    (subst (λ (a : ℕ). LeftSince closed staged (IsTornBoth (a + 1) (length body) c.log_start.result 1 (disk_bytes closed))) is_at c.put_both.ensures.any_moment) in
    let second = while-writing layout side body c.requires.short old closed staged closed_now first writing in
    let told2 : IsTrue staged.told = c.put_both.ensures.any_moment.told ∙ told1 in
    let cut = subst (λ (l : ℕ). IsTornBoth (at + 1) (length body) l 1 (disk_bytes closed) (disk_bytes staged)) is_log
    (subst (λ (a : ℕ). IsTornBoth (a + 1) (length body) c.log_start.result 1 (disk_bytes closed) (disk_bytes staged)) is_at c.put_both.ensures.elsewhere) in
    let staged_now : IsClosed layout side (disk_bytes old) (disk_bytes staged) = torn-is layout side body c.requires.short (disk_bytes old) (disk_bytes closed) (disk_bytes staged) closed_now cut in
    let has : HasSlot layout side body (disk_bytes staged) = record {
      bytes = subst (λ (a : ℕ). HasBytes (disk_bytes staged) (a + 1) body) is_at (c.in_ok-put_both.ensures.written told1);
      log = byte-is (disk_bytes staged) (log_start layout side) 0 (subst (λ (l : ℕ). HasBytes (disk_bytes staged) l (0 ∷ [])) is_log (c.in_ok-put_both.ensures.other_written told1));
    } in
    let done = S c.put.new.disk in
    let opens = subst (λ (a : ℕ). LeftSince staged done (IsTorn a 1 (disk_bytes staged))) is_at c.put.ensures.any_moment in
    while-opening layout side body c.requires.short old staged done staged_now has second opens

pub returns-clause-any_moment : goal.returns-clause-any_moment
returns-clause-any_moment g c = λ told.
    let S = g.D.Disk.state in
    let old = S c.args.disk.now in
    let closed = S c.close.new.disk in
    let layout = c.args.layout in
    let side = c.args.side in
    let body = c.args.body.now in
    let at = slot_start layout side in
    let is_at : c.slot_start-at.result ≡ at = c.slot_start-at.ensures in
    let closing = subst (λ (a : ℕ). LeftSince old closed (IsClosing a (disk_bytes old))) is_at (c.close.ensures.any_moment told) in
    let first = while-closing layout side body c.requires.short old closed closing in
    let told1 : IsTrue closed.told = c.close.ensures.told ∙ told in
    let shut : disk_bytes closed at ≢ 1 = subst (λ (a : ℕ). disk_bytes closed a ≢ 1) is_at (c.in_ok-close.ensures.shut told) in
    let torn = subst (λ (a : ℕ). IsTorn a 1 (disk_bytes old) (disk_bytes closed)) is_at c.close.ensures.elsewhere in
    let closed_now : IsClosed layout side (disk_bytes old) (disk_bytes closed) = closed-is layout side body c.requires.short (disk_bytes old) (disk_bytes closed) torn shut in
    let staged = S c.put_both.new.disk in
    let is_log : c.log_start.result ≡ log_start layout side = c.log_start.ensures in
    let writing = subst (λ (l : ℕ). LeftSince closed staged (IsTornBoth (at + 1) (length body) l 1 (disk_bytes closed))) is_log
    (subst (λ (a : ℕ). LeftSince closed staged (IsTornBoth (a + 1) (length body) c.log_start.result 1 (disk_bytes closed))) is_at c.put_both.ensures.any_moment) in
    let second = while-writing layout side body c.requires.short old closed staged closed_now first writing in
    let told2 : IsTrue staged.told = c.put_both.ensures.any_moment.told ∙ told1 in
    let cut = subst (λ (l : ℕ). IsTornBoth (at + 1) (length body) l 1 (disk_bytes closed) (disk_bytes staged)) is_log
    (subst (λ (a : ℕ). IsTornBoth (a + 1) (length body) c.log_start.result 1 (disk_bytes closed) (disk_bytes staged)) is_at c.put_both.ensures.elsewhere) in
    let staged_now : IsClosed layout side (disk_bytes old) (disk_bytes staged) = torn-is layout side body c.requires.short (disk_bytes old) (disk_bytes closed) (disk_bytes staged) closed_now cut in
    let has : HasSlot layout side body (disk_bytes staged) = record {
      bytes = subst (λ (a : ℕ). HasBytes (disk_bytes staged) (a + 1) body) is_at (c.in_ok-put_both.ensures.written told1);
      log = byte-is (disk_bytes staged) (log_start layout side) 0 (subst (λ (l : ℕ). HasBytes (disk_bytes staged) l (0 ∷ [])) is_log (c.in_ok-put_both.ensures.other_written told1));
    } in
    let done = S c.put.new.disk in
    let opens = subst (λ (a : ℕ). LeftSince staged done (IsTorn a 1 (disk_bytes staged))) is_at c.put.ensures.any_moment in
    while-opening layout side body c.requires.short old staged done staged_now has second opens

pub returns-clause-written : goal.returns-clause-written
returns-clause-written g c = λ told.
    let S = g.D.Disk.state in
    let old = S c.args.disk.now in
    let closed = S c.close.new.disk in
    let layout = c.args.layout in
    let side = c.args.side in
    let body = c.args.body.now in
    let at = slot_start layout side in
    let is_at : c.slot_start-at.result ≡ at = c.slot_start-at.ensures in
    let closing = subst (λ (a : ℕ). LeftSince old closed (IsClosing a (disk_bytes old))) is_at (c.close.ensures.any_moment told) in
    let first = while-closing layout side body c.requires.short old closed closing in
    let told1 : IsTrue closed.told = c.close.ensures.told ∙ told in
    let shut : disk_bytes closed at ≢ 1 = subst (λ (a : ℕ). disk_bytes closed a ≢ 1) is_at (c.in_ok-close.ensures.shut told) in
    let torn = subst (λ (a : ℕ). IsTorn a 1 (disk_bytes old) (disk_bytes closed)) is_at c.close.ensures.elsewhere in
    let closed_now : IsClosed layout side (disk_bytes old) (disk_bytes closed) = closed-is layout side body c.requires.short (disk_bytes old) (disk_bytes closed) torn shut in
    let staged = S c.put_both.new.disk in
    let is_log : c.log_start.result ≡ log_start layout side = c.log_start.ensures in
    let writing = subst (λ (l : ℕ). LeftSince closed staged (IsTornBoth (at + 1) (length body) l 1 (disk_bytes closed))) is_log
    (subst (λ (a : ℕ). LeftSince closed staged (IsTornBoth (a + 1) (length body) c.log_start.result 1 (disk_bytes closed))) is_at c.put_both.ensures.any_moment) in
    let second = while-writing layout side body c.requires.short old closed staged closed_now first writing in
    let told2 : IsTrue staged.told = c.put_both.ensures.any_moment.told ∙ told1 in
    let cut = subst (λ (l : ℕ). IsTornBoth (at + 1) (length body) l 1 (disk_bytes closed) (disk_bytes staged)) is_log
    (subst (λ (a : ℕ). IsTornBoth (a + 1) (length body) c.log_start.result 1 (disk_bytes closed) (disk_bytes staged)) is_at c.put_both.ensures.elsewhere) in
    let staged_now : IsClosed layout side (disk_bytes old) (disk_bytes staged) = torn-is layout side body c.requires.short (disk_bytes old) (disk_bytes closed) (disk_bytes staged) closed_now cut in
    let has : HasSlot layout side body (disk_bytes staged) = record {
      bytes = subst (λ (a : ℕ). HasBytes (disk_bytes staged) (a + 1) body) is_at (c.in_ok-put_both.ensures.written told1);
      log = byte-is (disk_bytes staged) (log_start layout side) 0 (subst (λ (l : ℕ). HasBytes (disk_bytes staged) l (0 ∷ [])) is_log (c.in_ok-put_both.ensures.other_written told1));
    } in
    let done = S c.put.new.disk in
    let opens = subst (λ (a : ℕ). LeftSince staged done (IsTorn a 1 (disk_bytes staged))) is_at c.put.ensures.any_moment in
    let gate = subst (λ (a : ℕ). HasBytes (disk_bytes done) a (1 ∷ [])) is_at (c.in_ok-put.ensures.written told2) in
    let torn_gate = subst (λ (a : ℕ). IsTorn a 1 (disk_bytes staged) (disk_bytes done)) is_at c.put.ensures.elsewhere in
    written-is layout side body c.requires.short (disk_bytes old) (disk_bytes staged) (disk_bytes done) staged_now has torn_gate (byte-is (disk_bytes done) at 1 gate)

pub returns-in_err-put_both-clause-made : goal.returns-in_err-put_both-clause-made
returns-in_err-put_both-clause-made g c = λ told.
    let S = g.D.Disk.state in
    let C = g.D.Disk.countdown in
    let old = S c.args.disk.now in
    let closed = S c.close.new.disk in
    let a = C c.args.disk.now in
    let m = C c.close.new.disk in
    let layout = c.args.layout in
    let side = c.args.side in
    let open_before = c.args.is_open in
    let body = c.args.body.now in
    let at = c.slot_start-at.result in
    let log_at = c.log_start.result in
    let new = S c.put_both.new.disk in
    let b = C c.put_both.new.disk in
    let both = Writes (at + 1) body ∷ Writes log_at (0 ∷ []) ∷ Syncs ∷ [] in
    let amid = c.in_err-put_both.ensures.made (c.close.ensures.told ∙ told) in
    let whole : EndsAmid (slot_plan_at at log_at open_before body) old new a b =
    amid-later (close_plan at open_before) (both ++ put_plan at (1 ∷ [])) old closed new a m b (c.in_ok-close.ensures.made told) (amid-longer both (put_plan at (1 ∷ [])) closed new m b amid) in
    passed-on (slot_plan layout side open_before body) old new a b c.from_residual-in_err-put_both.result c.from_residual-in_err-put_both.ensures
    (subst (λ (l : ℕ). EndsAmid (slot_plan_at (slot_start layout side) l open_before body) old new a b) c.log_start.ensures
    (subst (λ (p : ℕ). EndsAmid (slot_plan_at p log_at open_before body) old new a b) c.slot_start-at.ensures whole))

pub returns-in_err-put-clause-made : goal.returns-in_err-put-clause-made
returns-in_err-put-clause-made g c = λ told.
    let S = g.D.Disk.state in
    let C = g.D.Disk.countdown in
    let old = S c.args.disk.now in
    let closed = S c.close.new.disk in
    let a = C c.args.disk.now in
    let m = C c.close.new.disk in
    let layout = c.args.layout in
    let side = c.args.side in
    let open_before = c.args.is_open in
    let body = c.args.body.now in
    let at = c.slot_start-at.result in
    let log_at = c.log_start.result in
    let staged = S c.put_both.new.disk in
    let new = S c.put.new.disk in
    let n = C c.put_both.new.disk in
    let b = C c.put.new.disk in
    let both = Writes (at + 1) body ∷ Writes log_at (0 ∷ []) ∷ Syncs ∷ [] in
    let told1 = c.close.ensures.told ∙ told in
    let told2 = c.put_both.ensures.any_moment.told ∙ told1 in
    let later : EndsAmid (both ++ put_plan at (1 ∷ [])) closed new m b = amid-later both (put_plan at (1 ∷ [])) closed staged new m n b (c.in_ok-put_both.ensures.made told1) (c.in_err-put.ensures.made told2) in
    let whole : EndsAmid (slot_plan_at at log_at open_before body) old new a b = amid-later (close_plan at open_before) (both ++ put_plan at (1 ∷ [])) old closed new a m b (c.in_ok-close.ensures.made told) later in
    passed-on (slot_plan layout side open_before body) old new a b c.from_residual-in_err-put.result c.from_residual-in_err-put.ensures
    (subst (λ (l : ℕ). EndsAmid (slot_plan_at (slot_start layout side) l open_before body) old new a b) c.log_start.ensures
    (subst (λ (p : ℕ). EndsAmid (slot_plan_at p log_at open_before body) old new a b) c.slot_start-at.ensures whole))

pub close-requires-clause-settled : goal.close-requires-clause-settled
close-requires-clause-settled g c = c.requires.settled

pub close-requires-clause-gate : goal.close-requires-clause-gate
close-requires-clause-gate g c = λ told. c.requires.gate told ∙ ap (λ (a : ℕ). disk_bytes (g.D.Disk.state c.args.disk.now) a == 1) (sym c.slot_start-at.ensures)

pub put_both-requires-clause-settled : goal.put_both-requires-clause-settled
put_both-requires-clause-settled g c = c.in_ok-close.ensures.settled

pub put-requires-clause-settled : goal.put-requires-clause-settled
put-requires-clause-settled g c = c.in_ok-put_both.ensures.settled

pub returns-in_err-close-clause-told : goal.returns-in_err-close-clause-told
returns-in_err-close-clause-told g c = c.close.ensures.told

pub returns-in_err-close-clause-cause : goal.returns-in_err-close-clause-cause
returns-in_err-close-clause-cause g c = failed-cause (g.D.Disk.state c.args.disk.now) (g.D.Disk.state c.args.disk.now) (g.D.Disk.state c.close.new.disk) c.from_residual.result (omega arith) c.close.ensures.cause.later c.in_err-close.ensures.cause.fault

pub returns-in_err-put_both-clause-told : goal.returns-in_err-put_both-clause-told
returns-in_err-put_both-clause-told g c = c.put_both.ensures.any_moment.told ∙ c.close.ensures.told

pub returns-in_err-put_both-clause-cause : goal.returns-in_err-put_both-clause-cause
returns-in_err-put_both-clause-cause g c = failed-cause (g.D.Disk.state c.args.disk.now) (g.D.Disk.state c.close.new.disk) (g.D.Disk.state c.put_both.new.disk) c.from_residual-in_err-put_both.result c.close.ensures.cause.later c.put_both.ensures.cause.later c.in_err-put_both.ensures.cause.fault

pub returns-in_err-put-clause-told : goal.returns-in_err-put-clause-told
returns-in_err-put-clause-told g c = c.put.ensures.any_moment.told ∙ c.put_both.ensures.any_moment.told ∙ c.close.ensures.told

pub returns-in_err-put-clause-cause : goal.returns-in_err-put-clause-cause
returns-in_err-put-clause-cause g c = failed-cause (g.D.Disk.state c.args.disk.now) (g.D.Disk.state c.put_both.new.disk) (g.D.Disk.state c.put.new.disk) c.from_residual-in_err-put.result (omega (arith, c.close.ensures.cause.later, c.put_both.ensures.cause.later)) c.put.ensures.cause.later c.in_err-put.ensures.cause.fault

pub returns-clause-settled : goal.returns-clause-settled
returns-clause-settled g c = c.in_ok-put.ensures.settled

pub returns-clause-told : goal.returns-clause-told
returns-clause-told g c = c.put.ensures.any_moment.told ∙ c.put_both.ensures.any_moment.told ∙ c.close.ensures.told

pub returns-clause-cause : goal.returns-clause-cause
returns-clause-cause g c = record { later = omega (arith, c.close.ensures.cause.later, c.put_both.ensures.cause.later, c.put.ensures.cause.later); fault = tt }

pub returns-in_err-close-clause-made : goal.returns-in_err-close-clause-made
returns-in_err-close-clause-made g c = λ told.
    let S = g.D.Disk.state in
    let C = g.D.Disk.countdown in
    let old = S c.args.disk.now in
    let new = S c.close.new.disk in
    let a = C c.args.disk.now in
    let b = C c.close.new.disk in
    let layout = c.args.layout in
    let side = c.args.side in
    let open_before = c.args.is_open in
    let body = c.args.body.now in
    let at = c.slot_start-at.result in
    let log_at = log_start layout side in
    let both = Writes (at + 1) body ∷ Writes log_at (0 ∷ []) ∷ Syncs ∷ [] in
    let whole : EndsAmid (slot_plan_at at log_at open_before body) old new a b =
    amid-longer (close_plan at open_before) (both ++ put_plan at (1 ∷ [])) old new a b (c.in_err-close.ensures.made told) in
    passed-on (slot_plan layout side open_before body) old new a b c.from_residual.result c.from_residual.ensures
    (subst (λ (p : ℕ). EndsAmid (slot_plan_at p log_at open_before body) old new a b) c.slot_start-at.ensures whole)

pub returns-clause-made : goal.returns-clause-made
returns-clause-made g c = λ told.
    let S = g.D.Disk.state in
    let C = g.D.Disk.countdown in
    let old = S c.args.disk.now in
    let closed = S c.close.new.disk in
    let a = C c.args.disk.now in
    let m = C c.close.new.disk in
    let layout = c.args.layout in
    let side = c.args.side in
    let open_before = c.args.is_open in
    let body = c.args.body.now in
    let at = c.slot_start-at.result in
    let log_at = c.log_start.result in
    let staged = S c.put_both.new.disk in
    let new = S c.put.new.disk in
    let n = C c.put_both.new.disk in
    let b = C c.put.new.disk in
    let both = Writes (at + 1) body ∷ Writes log_at (0 ∷ []) ∷ Syncs ∷ [] in
    let told1 = c.close.ensures.told ∙ told in
    let told2 = c.put_both.ensures.any_moment.told ∙ told1 in
    let later : MadeAll (both ++ put_plan at (1 ∷ [])) closed new m b = then-all both (put_plan at (1 ∷ [])) closed staged new m n b (c.in_ok-put_both.ensures.made told1) (c.in_ok-put.ensures.made told2) in
    let whole : MadeAll (slot_plan_at at log_at open_before body) old new a b = then-all (close_plan at open_before) (both ++ put_plan at (1 ∷ [])) old closed new a m b (c.in_ok-close.ensures.made told) later in
    subst (λ (l : ℕ). MadeAll (slot_plan_at (slot_start layout side) l open_before body) old new a b) c.log_start.ensures
    (subst (λ (p : ℕ). MadeAll (slot_plan_at p log_at open_before body) old new a b) c.slot_start-at.ensures whole)
