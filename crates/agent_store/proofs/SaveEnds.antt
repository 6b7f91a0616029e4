-- How a save of a part that has room ends, by what its way made of the disk.
use Rattle.std.proofs.Common.{◌≡◌, ℕ, ◌+◌, ◌-◌, ◌<◌, ◌≤◌, ◌^◌, inl, true, false, cond, List, length, Some, Result, Ok, Err, IsTrue, sym, ◌∙◌, ap, subst, refl, arith}
use Rattle.std.proofs.lemmas.Bool.{leb-true, true≢false, and_parts}
use Rattle.edge_devices.specs.Faults.{HasRisen}
use Rattle.edge_devices.specs.Disks.{DiskState, DeviceCall, Countdown, medium, disk_bytes, IsSettled, LeftSince}
use Rattle.edge_devices.specs.DiskCalls.{MadeAll, EndsAmid}
use Rattle.edge_devices.proofs.DiskMoments.{starts, weaker}
use Rattle.agent_store.specs.Codecs.{Codec, IsRight}
use Rattle.agent_store.specs.declared.fail.StoreFail.{StoreFail}
use Rattle.agent_store.specs.declared.fail.StoreFail.TheVariants.{DiskFault, Damaged, TooBig, NoMemory, Spent}
use Rattle.agent_store.specs.Images.{IsWriting, IsWritten, IsJoining, IsJoined}
use Rattle.agent_store.specs.Log.{entry_bytes}
use Rattle.agent_store.specs.Plans.{entry_plan, slot_plan, planned}
use Rattle.agent_store.specs.Saves.{Saves}
use Rattle.agent_store.specs.Slots.{other, log_start, log_stop, Holds, body_bytes, IsFormerOrNext}
use Rattle.agent_store.specs.Stops.{CanSave}
use Rattle.agent_store.specs.Store.{StoreState, IsSound, Fits, entry_fits}
use Rattle.agent_store.proofs.Remaining.{only-read}
use Rattle.agent_store.proofs.Saving.{checkpointed, appended, joined-next, joining-either, joined-matches, written-next, writing-either, written-matches}

abbrev done : Result Unit StoreFail
done = Ok tt

abbrev failed : StoreFail → Result Unit StoreFail
failed fail = Err fail

not-done : (fail : StoreFail) → done ≡ failed fail → ⊥
not-done fail is = cc

spent-only : (fail : StoreFail) → (Spent ≡ fail → ⊥) → failed Spent ≡ failed fail → ⊥
spent-only fail not is = not cc

fault-only : (fail : StoreFail) → (DiskFault ≡ fail → ⊥) → failed DiskFault ≡ failed fail → ⊥
fault-only fail not is = not cc

-- the change leads on for rows that have the same bytes
pub leads-on : (codec : Codec) (f n former next : List ℕ) → f ≡ former → n ≡ next → codec.changed f (codec.change f n) ≡ Some n → codec.changed former (codec.change former next) ≡ Some next
leads-on codec f n former next is_former is_next leads = (λ i. codec.changed (sym is_former i) (codec.change (sym is_former i) (sym is_next i))) ∙ leads ∙ ap Some is_next

module _ (codec : Codec) (store : StoreState) (old : DiskState) (next : List ℕ) (fits : Fits codec old store) (sound : IsSound store) (small_room : store.layout.room < 2 ^ 32) (small_log : store.layout.log < 2 ^ 32)
    (right : IsRight codec next) (short : length next ≤ store.layout.room) where
  few : length next < 2 ^ 62
  few = omega (arith, small_room, short)

  -- no generation is left, and nothing was done
  pub spent-ends : (a : Countdown) → store.generation ≡ 2 ^ 64 - 1 → entry_fits codec store next ≡ false → Saves codec store store old old a a next (Err Spent)
  spent-ends a last full = record {
    few = few;
    right = right;
    saved = tt;
    left = tt;
    generation = tt;
    fits = λ no_fault. fits;
    layout = refl;
    told = refl;
    any_moment = λ told. starts old (IsFormerOrNext codec store.layout (disk_bytes old) next) fits.settled (inl refl);
    made = tt;
    made_part = λ is. absurd (spent-only DiskFault (λ same. cc) is);
    can_save = λ is. absurd (spent-only DiskFault (λ same. cc) is);
    fault = λ is. absurd (spent-only DiskFault (λ same. cc) is);
    counts = omega arith;
    fitting = λ is. spent-only TooBig (λ same. cc) is;
    spent = (λ is. (short, last, full), λ is. refl);
    no_memory = λ is. spent-only NoMemory (λ same. cc) is;
    no_damage = λ slot is. spent-only (Damaged slot) (λ same. cc) is;
  }

  module _ (entered : entry_fits codec store next ≡ true) (leads : codec.changed store.part (codec.change store.part next) ≡ Some next) (entry : List ℕ) (is_entry : entry ≡ entry_bytes (codec.change store.part next))
      (new : DiskState) (a b : Countdown) where
    kept : store.kept ≡ true
    kept = (and_parts _ _ entered).0

    ends : store.tail + 5 + length (codec.change store.part next) + 1 ≤ log_stop store.layout (other store.target)
    ends = leb-true _ _ (and_parts _ _ entered).1

    from : log_start store.layout (other store.target) ≤ store.tail
    from = sound.from kept

    either : (image : ℕ → ℕ) → IsTrue old.told → IsJoining store.tail entry (disk_bytes old) image → IsFormerOrNext codec store.layout (disk_bytes old) next image
    either image told joining = joining-either codec store (disk_bytes old) (fits.contents told) next small_log kept from leads ends image
        (subst (λ (e : List ℕ). IsJoining store.tail e (disk_bytes old) image) is_entry joining)

    plan_is : entry_plan store.tail entry ≡ planned codec store next
    plan_is = λ i. cond (sym entered i) (entry_plan store.tail (is_entry i)) (slot_plan store.layout store.target store.target_open (body_bytes (store.generation + 1) next))

    can : CanSave codec store next
    can = record {
      sound = sound;
      intact = fits.intact;
      small_room = small_room;
      small_log = small_log;
      follows = record { right = right; leads = λ _. leads };
      short = short;
      unspent = λ full. absurd (true≢false (sym entered ∙ full));
    }

    -- the write of the entry failed
    pub entry-stops : (after : StoreState) → after.layout ≡ store.layout → after.broken ≡ true → new.told ≡ old.told → old.faults ≤ new.faults → HasRisen old.faults new.faults
        → (IsTrue old.told → LeftSince old new (IsJoining store.tail entry (disk_bytes old))) → (IsTrue old.told → EndsAmid (entry_plan store.tail entry) old new a b)
        → Saves codec store after old new a b next (Err DiskFault)
    entry-stops after layout broken same counts risen run amid = record {
      few = few;
      right = right;
      saved = tt;
      left = tt;
      generation = tt;
      fits = λ no_fault. absurd (no_fault refl);
      layout = layout;
      told = same;
      any_moment = λ told. weaker old new (IsFormerOrNext codec store.layout (disk_bytes old) next) (IsJoining store.tail entry (disk_bytes old)) (run told) (λ image joining. either image told joining);
      made = tt;
      made_part = λ is told. subst (λ (plan : List DeviceCall). EndsAmid plan old new a b) plan_is (amid told);
      can_save = λ is. can;
      fault = λ is. (risen, broken);
      counts = counts;
      fitting = λ is. fault-only TooBig (λ same. cc) is;
      spent = (λ is. absurd (fault-only Spent (λ same. cc) is), λ is. absurd (true≢false (sym entered ∙ is.2)));
      no_memory = λ is. fault-only NoMemory (λ same. cc) is;
      no_damage = λ slot is. fault-only (Damaged slot) (λ same. cc) is;
    }

    -- the entry was written
    pub entry-done : (after : StoreState) → appended codec store next ≡ after → new.told ≡ old.told → old.faults ≤ new.faults → IsSettled (medium new)
        → (IsTrue old.told → IsJoined store.tail entry (disk_bytes old) (disk_bytes new))
        → (IsTrue old.told → LeftSince old new (IsJoining store.tail entry (disk_bytes old))) → (IsTrue old.told → MadeAll (entry_plan store.tail entry) old new a b)
        → Saves codec store after old new a b next (Ok tt)
    entry-done after is_after same counts settled joined run made =
        let there : IsTrue old.told → IsJoined store.tail (entry_bytes (codec.change store.part next)) (disk_bytes old) (disk_bytes new) =
        λ told. subst (λ (e : List ℕ). IsJoined store.tail e (disk_bytes old) (disk_bytes new)) is_entry (joined told) in
        subst (λ (s : StoreState). Saves codec store s old new a b next (Ok tt)) is_after (record {
          few = few;
          right = right;
          saved = λ told. joined-next codec store (disk_bytes old) (fits.contents told) next small_log kept from leads ends (disk_bytes new) (there told);
          left = λ told. only-read codec store.layout new (Holds next) settled
              (joined-next codec store (disk_bytes old) (fits.contents told) next small_log kept from leads ends (disk_bytes new) (there told));
          generation = λ i. cond (sym entered i) store.generation (store.generation + 1);
          fits = λ no_fault. record {
            intact = refl;
            fresh = λ none. absurd (true≢false (sym kept ∙ none));
            right = λ is. right;
            settled = settled;
            contents = λ told_now. let told : IsTrue old.told = sym same ∙ told_now in
                joined-matches codec store (disk_bytes old) (fits.contents told) next small_log kept from leads ends (disk_bytes new) (there told);
          };
          layout = refl;
          told = same;
          any_moment = λ told. weaker old new (IsFormerOrNext codec store.layout (disk_bytes old) next) (IsJoining store.tail entry (disk_bytes old)) (run told) (λ image joining. either image told joining);
          made = λ told. subst (λ (plan : List DeviceCall). MadeAll plan old new a b) plan_is (made told);
          made_part = λ is. absurd (not-done DiskFault is);
          can_save = λ is. absurd (not-done DiskFault is);
          fault = λ is. absurd (not-done DiskFault is);
          counts = counts;
          fitting = λ is. not-done TooBig is;
          spent = (λ is. absurd (not-done Spent is), λ is. absurd (true≢false (sym entered ∙ is.2)));
          no_memory = λ is. not-done NoMemory is;
          no_damage = λ slot is. not-done (Damaged slot) is;
        })

  module _ (full : entry_fits codec store next ≡ false) (unspent : store.generation + 1 < 2 ^ 64) (payload : List ℕ) (is_next : payload ≡ next) (new : DiskState) (a b : Countdown) where
    abbrev body : List ℕ
    body = body_bytes (store.generation + 1) payload

    slot_plan_is : slot_plan store.layout store.target store.target_open body ≡ planned codec store next
    slot_plan_is = λ i. cond (sym full i) (entry_plan store.tail (entry_bytes (codec.change store.part next))) (slot_plan store.layout store.target store.target_open (body_bytes (store.generation + 1) (is_next i)))

    can_write : CanSave codec store next
    can_write = record {
      sound = sound;
      intact = fits.intact;
      small_room = small_room;
      small_log = small_log;
      follows = record { right = right; leads = λ fit. absurd (true≢false (sym fit ∙ full)) };
      short = short;
      unspent = λ _. unspent;
    }

    either_slot : (image : ℕ → ℕ) → IsTrue old.told → IsWriting store.layout store.target body (disk_bytes old) image → IsFormerOrNext codec store.layout (disk_bytes old) next image
    either_slot image told writing = writing-either codec store (disk_bytes old) (fits.contents told) next small_room unspent short right image
        (subst (λ (p : List ℕ). IsWriting store.layout store.target (body_bytes (store.generation + 1) p) (disk_bytes old) image) is_next writing)

    -- the write of the slot failed
    pub slot-stops : (after : StoreState) → after.layout ≡ store.layout → after.broken ≡ true → new.told ≡ old.told → old.faults ≤ new.faults → HasRisen old.faults new.faults
        → (IsTrue old.told → LeftSince old new (IsWriting store.layout store.target body (disk_bytes old)))
        → (IsTrue old.told → EndsAmid (slot_plan store.layout store.target store.target_open body) old new a b)
        → Saves codec store after old new a b next (Err DiskFault)
    slot-stops after layout broken same counts risen run amid = record {
      few = few;
      right = right;
      saved = tt;
      left = tt;
      generation = tt;
      fits = λ no_fault. absurd (no_fault refl);
      layout = layout;
      told = same;
      any_moment = λ told. weaker old new (IsFormerOrNext codec store.layout (disk_bytes old) next) (IsWriting store.layout store.target body (disk_bytes old)) (run told) (λ image writing. either_slot image told writing);
      made = tt;
      made_part = λ is told. subst (λ (plan : List DeviceCall). EndsAmid plan old new a b) slot_plan_is (amid told);
      can_save = λ is. can_write;
      fault = λ is. (risen, broken);
      counts = counts;
      fitting = λ is. fault-only TooBig (λ same. cc) is;
      spent = (λ is. absurd (fault-only Spent (λ same. cc) is), λ is. absurd (omega (arith, is.1, unspent)));
      no_memory = λ is. fault-only NoMemory (λ same. cc) is;
      no_damage = λ slot is. fault-only (Damaged slot) (λ same. cc) is;
    }

    -- the slot was written
    pub slot-done : (after : StoreState) → checkpointed store next ≡ after → new.told ≡ old.told → old.faults ≤ new.faults → IsSettled (medium new)
        → (IsTrue old.told → IsWritten store.layout store.target body (disk_bytes old) (disk_bytes new))
        → (IsTrue old.told → LeftSince old new (IsWriting store.layout store.target body (disk_bytes old)))
        → (IsTrue old.told → MadeAll (slot_plan store.layout store.target store.target_open body) old new a b)
        → Saves codec store after old new a b next (Ok tt)
    slot-done after is_after same counts settled written run made =
        let there : IsTrue old.told → IsWritten store.layout store.target (body_bytes (store.generation + 1) next) (disk_bytes old) (disk_bytes new) =
        λ told. subst (λ (p : List ℕ). IsWritten store.layout store.target (body_bytes (store.generation + 1) p) (disk_bytes old) (disk_bytes new)) is_next (written told) in
        subst (λ (s : StoreState). Saves codec store s old new a b next (Ok tt)) is_after (record {
          few = few;
          right = right;
          saved = λ told. written-next codec store (disk_bytes old) (fits.contents told) next small_room unspent short right (disk_bytes new) (there told);
          left = λ told. only-read codec store.layout new (Holds next) settled
              (written-next codec store (disk_bytes old) (fits.contents told) next small_room unspent short right (disk_bytes new) (there told));
          generation = λ i. cond (sym full i) store.generation (store.generation + 1);
          fits = λ no_fault. record {
            intact = refl;
            fresh = λ none. absurd (true≢false none);
            right = λ is. right;
            settled = settled;
            contents = λ told_now. let told : IsTrue old.told = sym same ∙ told_now in
                written-matches codec store (disk_bytes old) (fits.contents told) next small_room unspent short right (disk_bytes new) (there told);
          };
          layout = refl;
          told = same;
          any_moment = λ told. weaker old new (IsFormerOrNext codec store.layout (disk_bytes old) next) (IsWriting store.layout store.target body (disk_bytes old)) (run told) (λ image writing. either_slot image told writing);
          made = λ told. subst (λ (plan : List DeviceCall). MadeAll plan old new a b) slot_plan_is (made told);
          made_part = λ is. absurd (not-done DiskFault is);
          can_save = λ is. absurd (not-done DiskFault is);
          fault = λ is. absurd (not-done DiskFault is);
          counts = counts;
          fitting = λ is. not-done TooBig is;
          spent = (λ is. absurd (not-done Spent is), λ is. absurd (omega (arith, is.1, unspent)));
          no_memory = λ is. not-done NoMemory is;
          no_damage = λ slot is. not-done (Damaged slot) is;
        })
