use Rattle.std.proofs.Common.{◌≡◌, ℕ, ◌+◌, ◌<◌, ◌≤◌, ◌^◌, ◌&&◌, List, length, Some, Ok, Err, true, false, nat_le, sym, ◌∙◌, ap, subst, refl, arith}
use Rattle.std.proofs.lemmas.Bool.{leb-true, and_parts}
use Rattle.message_codec.specs.Row.{Row}
use Rattle.edge_devices.specs.Disks.{disk_bytes}
use Rattle.agent_store.specs.Codecs.{IsRight}
use Rattle.agent_store.specs.declared.fail.StoreFail.TheVariants.{DiskFault, Spent}
use Rattle.agent_store.specs.Log.{entry_bytes}
use Rattle.agent_store.specs.Saves.{Saves}
use Rattle.agent_store.specs.Slots.{other, log_start, log_stop}
use Rattle.agent_store.specs.Store.{StoreState, Fits, entry_fits}
use Rattle.agent_store.specs.Kept.{state_of}
use Rattle.agent_store.proofs.Standings.{end-shut, log-high}
use Rattle.agent_store.proofs.Saving.{checkpointed, appended, length-body}
use Rattle.agent_store.proofs.SaveEnds.{leads-on, spent-ends, entry-stops, entry-done, slot-stops, slot-done}
use Rattle.agent_store.proofs.store.Store.save_fitting.Goals as goal

pub stage-requires-clause-few : goal.stage-requires-clause-few
stage-requires-clause-few g c =
    let next = g.P.Payload.canonical c.args.next.now in
    let short : length next ≤ c.self.inside.layout.room = subst (λ (s : StoreState). length next ≤ s.layout.room) (sym c.self.view_is) c.requires.short in
    omega (arith, short, c.self.invariant.small_room)

pub stage-requires-clause-room : goal.stage-requires-clause-room
stage-requires-clause-room g c =
    let next = g.P.Payload.canonical c.args.next.now in
    let short : length next ≤ c.self.inside.layout.room = subst (λ (s : StoreState). length next ≤ s.layout.room) (sym c.self.view_is) c.requires.short in
    omega (arith, short, c.self.invariant.next)

pub has_place-requires : goal.has_place-requires
has_place-requires g c =
    let codec = g.P.Payload.codec in
    let old = g.D.Disk.state c.args.disk.now in
    let store : StoreState = state_of c.self.inside in
    let next = g.P.Payload.canonical c.args.next.now in
    let fits : Fits codec old store = subst (λ (s : StoreState). Fits codec old s) (sym c.self.view_is) c.requires.fits in
    let short : length next ≤ store.layout.room = subst (λ (s : StoreState). length next ≤ s.layout.room) (sym c.self.view_is) c.requires.short in
    let right : IsRight codec next = c.stage.ensures.right c.requires.right in
    record {
      to = c.self.invariant.sound.to;
      former_few = c.self.invariant.sound.short;
      next_few = omega (arith, ap length c.stage.ensures.bytes, short, c.self.invariant.small_room);
      former = λ kept. fits.right kept;
      next = subst (IsRight codec) (sym c.stage.ensures.bytes) right;
    }

pub join-requires : goal.join-requires
join-requires g c =
    let codec = g.P.Payload.codec in
    let old = g.D.Disk.state c.args.disk.now in
    let store : StoreState = state_of c.self.inside in
    let next = g.P.Payload.canonical c.args.next.now in
    let fits : Fits codec old store = subst (λ (s : StoreState). Fits codec old s) (sym c.self.view_is) c.requires.fits in
    let short : length next ≤ store.layout.room = subst (λ (s : StoreState). length next ≤ s.layout.room) (sym c.self.view_is) c.requires.short in
    let right : IsRight codec next = c.stage.ensures.right c.requires.right in
    let place : entry_fits codec store next ≡ true =
    subst (λ (n : List ℕ). (store.kept && nat_le (store.tail + 5 + length (codec.change store.part n) + 1) (log_stop store.layout (other store.target))) ≡ true) c.stage.ensures.bytes (sym c.has_place.ensures.place ∙ c.if-has_place.true) in
    let is_former : c.as_slice-former.result.now ≡ store.part = c.as_slice-former.ensures.bytes in
    let is_staged : c.as_slice-staged.result.now ≡ next = λ i. (c.as_slice-staged.ensures.bytes ∙ c.stage.ensures.bytes) i in
    let kept : store.kept ≡ true = (and_parts _ _ place).0 in
    let ends : store.tail + 5 + length (codec.change store.part next) + 1 ≤ log_stop store.layout (other store.target) = leb-true _ _ (and_parts _ _ place).1 in
    let from : log_start store.layout (other store.target) ≤ store.tail = c.self.invariant.sound.from kept in
    let size : length (codec.change c.as_slice-former.result.now c.as_slice-staged.result.now) ≡ length (codec.change store.part next) = λ i. length (codec.change (is_former i) (is_staged i)) in
    let high = log-high store.layout (other store.target) in
    record {
      former_few = omega (arith, ap length is_former, c.self.invariant.sound.short);
      next_few = omega (arith, ap length is_staged, short, c.self.invariant.small_room);
      former = subst (IsRight codec) (sym is_former) (fits.right kept);
      next = subst (IsRight codec) (sym is_staged) right;
      few = omega (arith, size, ends, from, c.self.invariant.small_log);
      room = omega (arith, size, ends, from, c.self.invariant.entry);
      range = omega (arith, size, ends, high, c.self.invariant.small_room, c.self.invariant.small_log);
      settled = fits.settled;
      gate = λ told. end-shut codec store.layout (disk_bytes old) (other store.target) store.part store.tail ((fits.contents told).stands kept) (omega (arith, ends));
    }

pub checkpoint-requires : goal.checkpoint-requires
checkpoint-requires g c =
    let codec = g.P.Payload.codec in
    let old = g.D.Disk.state c.args.disk.now in
    let store : StoreState = state_of c.self.inside in
    let next = g.P.Payload.canonical c.args.next.now in
    let fits : Fits codec old store = subst (λ (s : StoreState). Fits codec old s) (sym c.self.view_is) c.requires.fits in
    let short : length next ≤ store.layout.room = subst (λ (s : StoreState). length next ≤ s.layout.room) (sym c.self.view_is) c.requires.short in
    let right : IsRight codec next = c.stage.ensures.right c.requires.right in
    let is_next : c.as_slice-payload.result.now ≡ next = λ i. (c.as_slice-payload.ensures.bytes ∙ c.stage.ensures.bytes) i in record {
      short = omega (arith, ap length is_next, short);
      room = omega (arith, ap length is_next, short, c.self.invariant.former);
      settled = fits.settled;
      gate = λ told. (fits.contents told).target;
    }

pub returns-then-self-clause-saves : goal.returns-then-self-clause-saves
returns-then-self-clause-saves g c =
    let codec = g.P.Payload.codec in
    let old = g.D.Disk.state c.args.disk.now in
    let store : StoreState = state_of c.self.inside in
    let next = g.P.Payload.canonical c.args.next.now in
    let fits : Fits codec old store = subst (λ (s : StoreState). Fits codec old s) (sym c.self.view_is) c.requires.fits in
    let short : length next ≤ store.layout.room = subst (λ (s : StoreState). length next ≤ s.layout.room) (sym c.self.view_is) c.requires.short in
    let right : IsRight codec next = c.stage.ensures.right c.requires.right in
    let place : entry_fits codec store next ≡ false =
    subst (λ (n : List ℕ). (store.kept && nat_le (store.tail + 5 + length (codec.change store.part n) + 1) (log_stop store.layout (other store.target))) ≡ false) c.stage.ensures.bytes (sym c.has_place.ensures.place ∙ c.if-has_place.false) in
    let a = g.D.Disk.countdown c.args.disk.now in
    subst (λ (s : StoreState). Saves codec s store old old a a next (Err Spent)) c.self.view_is
    (spent-ends codec store old next fits c.self.invariant.sound c.self.invariant.small_room c.self.invariant.small_log right short a (omega (arith, c.if-self.true)) place)

pub returns-in-Err-clause-saves : goal.returns-in-Err-clause-saves
returns-in-Err-clause-saves g c =
    let codec = g.P.Payload.codec in
    let old = g.D.Disk.state c.args.disk.now in
    let store : StoreState = state_of c.self.inside in
    let next = g.P.Payload.canonical c.args.next.now in
    let fits : Fits codec old store = subst (λ (s : StoreState). Fits codec old s) (sym c.self.view_is) c.requires.fits in
    let short : length next ≤ store.layout.room = subst (λ (s : StoreState). length next ≤ s.layout.room) (sym c.self.view_is) c.requires.short in
    let right : IsRight codec next = c.stage.ensures.right c.requires.right in
    let place : entry_fits codec store next ≡ true =
    subst (λ (n : List ℕ). (store.kept && nat_le (store.tail + 5 + length (codec.change store.part n) + 1) (log_stop store.layout (other store.target))) ≡ true) c.stage.ensures.bytes (sym c.has_place.ensures.place ∙ c.if-has_place.true) in
    let is_former : c.as_slice-former.result.now ≡ store.part = c.as_slice-former.ensures.bytes in
    let is_staged : c.as_slice-staged.result.now ≡ next = λ i. (c.as_slice-staged.ensures.bytes ∙ c.stage.ensures.bytes) i in
    let leads : codec.changed store.part (codec.change store.part next) ≡ Some next = leads-on codec c.as_slice-former.result.now c.as_slice-staged.result.now store.part next is_former is_staged c.join.ensures.leads in
    let entry = entry_bytes (codec.change c.as_slice-former.result.now c.as_slice-staged.result.now) in
    let is_entry : entry ≡ entry_bytes (codec.change store.part next) = λ i. entry_bytes (codec.change (is_former i) (is_staged i)) in
    let new = g.D.Disk.state c.join.new.disk in
    let a = g.D.Disk.countdown c.args.disk.now in
    let b = g.D.Disk.countdown c.join.new.disk in
    let after : StoreState = record store { broken = true } in
    subst (λ (s : StoreState). Saves codec s after old new a b next (Err DiskFault)) c.self.view_is
    (entry-stops codec store old next fits c.self.invariant.sound c.self.invariant.small_room c.self.invariant.small_log right short place leads entry is_entry new a b after refl refl c.join.ensures.told c.join.ensures.cause.later c.in-Err.ensures.cause.fault c.join.ensures.any_moment c.in-Err.ensures.made)

pub returns-then-has_place-clause-saves : goal.returns-then-has_place-clause-saves
returns-then-has_place-clause-saves g c =
    let codec = g.P.Payload.codec in
    let old = g.D.Disk.state c.args.disk.now in
    let store : StoreState = state_of c.self.inside in
    let next = g.P.Payload.canonical c.args.next.now in
    let fits : Fits codec old store = subst (λ (s : StoreState). Fits codec old s) (sym c.self.view_is) c.requires.fits in
    let short : length next ≤ store.layout.room = subst (λ (s : StoreState). length next ≤ s.layout.room) (sym c.self.view_is) c.requires.short in
    let right : IsRight codec next = c.stage.ensures.right c.requires.right in
    let place : entry_fits codec store next ≡ true =
    subst (λ (n : List ℕ). (store.kept && nat_le (store.tail + 5 + length (codec.change store.part n) + 1) (log_stop store.layout (other store.target))) ≡ true) c.stage.ensures.bytes (sym c.has_place.ensures.place ∙ c.if-has_place.true) in
    let is_former : c.as_slice-former.result.now ≡ store.part = c.as_slice-former.ensures.bytes in
    let is_staged : c.as_slice-staged.result.now ≡ next = λ i. (c.as_slice-staged.ensures.bytes ∙ c.stage.ensures.bytes) i in
    let leads : codec.changed store.part (codec.change store.part next) ≡ Some next = leads-on codec c.as_slice-former.result.now c.as_slice-staged.result.now store.part next is_former is_staged c.join.ensures.leads in
    let entry = entry_bytes (codec.change c.as_slice-former.result.now c.as_slice-staged.result.now) in
    let is_entry : entry ≡ entry_bytes (codec.change store.part next) = λ i. entry_bytes (codec.change (is_former i) (is_staged i)) in
    let new = g.D.Disk.state c.join.new.disk in
    let a = g.D.Disk.countdown c.args.disk.now in
    let b = g.D.Disk.countdown c.join.new.disk in
    let tail : store.tail + 5 + length (codec.change store.part next) ≡ store.tail + c.in-Ok.len =
    let size : length (codec.change c.as_slice-former.result.now c.as_slice-staged.result.now) ≡ length (codec.change store.part next) = λ i. length (codec.change (is_former i) (is_staged i)) in
    omega (arith, c.in-Ok.ensures.len, size) in
    let part : next ≡ c.swap.new.x.bytes = λ i. (sym c.stage.ensures.bytes ∙ ap (λ (r : Row). r.bytes) (sym c.swap.ensures.x_after)) i in
    let after : StoreState = record store { tail = store.tail + c.in-Ok.len; part = c.swap.new.x.bytes; broken = false } in
    let is_after : appended codec store next ≡ after = λ i. record store { tail = tail i; part = part i; broken = false } in
    subst (λ (s : StoreState). Saves codec s after old new a b next (Ok tt)) c.self.view_is
    (entry-done codec store old next fits c.self.invariant.sound c.self.invariant.small_room c.self.invariant.small_log right short place leads entry is_entry new a b after is_after c.join.ensures.told c.join.ensures.cause.later c.in-Ok.ensures.settled c.in-Ok.ensures.joined c.join.ensures.any_moment c.in-Ok.ensures.made)

pub returns-in-Err-checkpoint-clause-saves : goal.returns-in-Err-checkpoint-clause-saves
returns-in-Err-checkpoint-clause-saves g c =
    let codec = g.P.Payload.codec in
    let old = g.D.Disk.state c.args.disk.now in
    let store : StoreState = state_of c.self.inside in
    let next = g.P.Payload.canonical c.args.next.now in
    let fits : Fits codec old store = subst (λ (s : StoreState). Fits codec old s) (sym c.self.view_is) c.requires.fits in
    let short : length next ≤ store.layout.room = subst (λ (s : StoreState). length next ≤ s.layout.room) (sym c.self.view_is) c.requires.short in
    let right : IsRight codec next = c.stage.ensures.right c.requires.right in
    let place : entry_fits codec store next ≡ false =
    subst (λ (n : List ℕ). (store.kept && nat_le (store.tail + 5 + length (codec.change store.part n) + 1) (log_stop store.layout (other store.target))) ≡ false) c.stage.ensures.bytes (sym c.has_place.ensures.place ∙ c.if-has_place.false) in
    let is_next : c.as_slice-payload.result.now ≡ next = λ i. (c.as_slice-payload.ensures.bytes ∙ c.stage.ensures.bytes) i in
    let unspent : store.generation + 1 < 2 ^ 64 = omega (arith, c.if-self.false) in
    let new = g.D.Disk.state c.checkpoint.new.disk in
    let a = g.D.Disk.countdown c.args.disk.now in
    let b = g.D.Disk.countdown c.checkpoint.new.disk in
    let after : StoreState = record store { part = c.checkpoint.new.row.bytes; broken = true } in
    subst (λ (s : StoreState). Saves codec s after old new a b next (Err DiskFault)) c.self.view_is
    (slot-stops codec store old next fits c.self.invariant.sound c.self.invariant.small_room c.self.invariant.small_log right short place unspent c.as_slice-payload.result.now is_next new a b after refl refl c.checkpoint.ensures.told c.checkpoint.ensures.cause.later c.in-Err-checkpoint.ensures.cause.fault c.checkpoint.ensures.any_moment c.in-Err-checkpoint.ensures.made)

pub returns-clause-saves : goal.returns-clause-saves
returns-clause-saves g c =
    let codec = g.P.Payload.codec in
    let old = g.D.Disk.state c.args.disk.now in
    let store : StoreState = state_of c.self.inside in
    let next = g.P.Payload.canonical c.args.next.now in
    let fits : Fits codec old store = subst (λ (s : StoreState). Fits codec old s) (sym c.self.view_is) c.requires.fits in
    let short : length next ≤ store.layout.room = subst (λ (s : StoreState). length next ≤ s.layout.room) (sym c.self.view_is) c.requires.short in
    let right : IsRight codec next = c.stage.ensures.right c.requires.right in
    let place : entry_fits codec store next ≡ false =
    subst (λ (n : List ℕ). (store.kept && nat_le (store.tail + 5 + length (codec.change store.part n) + 1) (log_stop store.layout (other store.target))) ≡ false) c.stage.ensures.bytes (sym c.has_place.ensures.place ∙ c.if-has_place.false) in
    let is_next : c.as_slice-payload.result.now ≡ next = λ i. (c.as_slice-payload.ensures.bytes ∙ c.stage.ensures.bytes) i in
    let unspent : store.generation + 1 < 2 ^ 64 = omega (arith, c.if-self.false) in
    let new = g.D.Disk.state c.checkpoint.new.disk in
    let a = g.D.Disk.countdown c.args.disk.now in
    let b = g.D.Disk.countdown c.checkpoint.new.disk in
    let part : next ≡ c.swap-2.new.x.bytes = λ i. (sym c.stage.ensures.bytes ∙ ap (λ (r : Row). r.bytes) (sym c.swap-2.ensures.x_after)) i in
    let after : StoreState = record store {
      target = c.other-self-inside.result;
      target_open = store.kept;
      kept = true;
      generation = store.generation + 1;
      tail = c.log_start-self-inside.result;
      part = c.swap-2.new.x.bytes;
      broken = false;
    } in
    let is_after : checkpointed store next ≡ after = λ i. record store {
      target = sym c.other-self-inside.ensures i;
      target_open = store.kept;
      kept = true;
      generation = store.generation + 1;
      tail = sym c.log_start-self-inside.ensures i;
      part = part i;
      broken = false;
    } in
    subst (λ (s : StoreState). Saves codec s after old new a b next (Ok tt)) c.self.view_is
    (slot-done codec store old next fits c.self.invariant.sound c.self.invariant.small_room c.self.invariant.small_log right short place unspent c.as_slice-payload.result.now is_next new a b after is_after c.checkpoint.ensures.told c.checkpoint.ensures.cause.later c.in-Ok-checkpoint.ensures.settled c.in-Ok-checkpoint.ensures.written c.checkpoint.ensures.any_moment c.in-Ok-checkpoint.ensures.made)

pub invariant_of-self-in-Err-checkpoint : goal.invariant_of-self-in-Err-checkpoint
invariant_of-self-in-Err-checkpoint g c =
    let store : StoreState = state_of c.self.inside in
    let next = g.P.Payload.canonical c.args.next.now in
    let payload = c.as_slice-payload.result.now in
    let short : length next ≤ store.layout.room = subst (λ (s : StoreState). length next ≤ s.layout.room) (sym c.self.view_is) c.requires.short in
    let size : length payload ≡ length next = λ i. length ((c.as_slice-payload.ensures.bytes ∙ c.stage.ensures.bytes) i) in record {
      sound = record {
        from = c.self.invariant.sound.from;
        to = c.self.invariant.sound.to;
        fresh = c.self.invariant.sound.fresh;
        short = omega (arith, ap length c.checkpoint.ensures.bytes, length-body (c.self.inside.generation + 1) payload, size, short, c.self.invariant.small_room);
      };
      former = omega (arith, c.self.invariant.former, c.checkpoint.ensures.larger);
      next = omega (arith, c.self.invariant.next, c.stage.ensures.larger);
      entry = c.self.invariant.entry;
      small_room = c.self.invariant.small_room;
      small_log = c.self.invariant.small_log;
    }
