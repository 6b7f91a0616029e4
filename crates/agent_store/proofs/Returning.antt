-- The store of an image, and the image that device calls leave.
use Rattle.std.proofs.Common.{◌≡◌, ℕ, ◌+◌, ◌-◌, ◌≤◌, inl, inr, Bool, true, false, cond, List, ◌++◌, length, IsTrue, sym, ◌∙◌, ap, subst, refl, arith}
use Rattle.std.proofs.lemmas.Bool.{cases_Bool, and_parts, leb-true, true≢false}
use Rattle.edge_devices.specs.Faults.{HasRisen}
use Rattle.edge_devices.specs.Disks.{DiskState, DeviceCall, disk_bytes, medium, IsSettled}
use Rattle.edge_devices.specs.DiskCalls.{cut_at, EndsAmid}
use Rattle.edge_devices.specs.DiskStops.{Bytes, settled, bytes_after, bytes_of, stopped_image}
use Rattle.edge_devices.specs.MemoryDisks.{memory_disk, disk_countdown}
use Rattle.edge_devices.specs.declared.disk_calls.Mode.{Mode}
use Rattle.edge_devices.specs.declared.memory_disk.MemDisk.{MemDisk}
use Rattle.edge_devices.proofs.DiskStops.{seen-is, bytes-both, settled-bytes, left-on}
use Rattle.agent_store.specs.declared.slots.Layout.{Layout}
use Rattle.agent_store.specs.declared.slots.Choice.TheVariants.{Neither, Slot}
use Rattle.agent_store.specs.Codecs.{Codec}
use Rattle.agent_store.specs.Loads.{store_with, store_by, store_of, image_after}
use Rattle.agent_store.specs.Slots.{other, reading, standing, is_open, log_stop}
use Rattle.agent_store.specs.Store.{StoreState, Matches, Fits, fresh_store, entry_fits}
use Rattle.agent_store.specs.Plans.{planned}
use Rattle.agent_store.specs.Stops.{IsStop, CanSave, stopped_reading, leaves_next}
use Rattle.agent_store.proofs.Choosing.{other-other}
use Rattle.agent_store.proofs.Saving.{checkpointed, appended, closed-matches, waiting-matches, joined-matches, written-matches}
use Rattle.agent_store.proofs.Stopping.{TellsSave, stop-leaves, stop-tells}

-- a store that matches an image is the one of the image
module _ (codec : Codec) (image : ℕ → ℕ) (store : StoreState) (m : Matches codec image store) (intact : store.broken ≡ false) where
  of_slot : store.kept ≡ true → store_with store.layout image (other store.target) (standing codec store.layout image (other store.target)) ≡ store
  of_slot is =
      ap (store_with store.layout image (other store.target)) (m.stands is)
      ∙ (λ i. record {
        layout = store.layout;
        target = other-other store.target i;
        target_open = (ap (is_open store.layout image) (other-other store.target) ∙ sym m.target) i;
        kept = sym is i;
        generation = sym (m.generation is) i;
        tail = store.tail;
        part = store.part;
        broken = sym intact i;
      })

  pub matches-store : (store.kept ≡ false → store ≡ fresh_store store.layout) → store_of codec store.layout image ≡ store
  unfolding store_of
  matches-store fresh = elim (cases_Bool store.kept) [
    | inl is ↦ ap (store_by codec store.layout image) (m.choice ∙ (λ i. cond (is i) (Slot (other store.target)) Neither)) ∙ of_slot is
    | inr none ↦ ap (store_by codec store.layout image) (m.choice ∙ (λ i. cond (none i) (Slot (other store.target)) Neither)) ∙ sym (fresh none)
  ]

pub fits-store : (codec : Codec) (disk : DiskState) (store : StoreState) → Fits codec disk store → IsTrue disk.told → store_of codec store.layout (disk_bytes disk) ≡ store
fits-store codec disk store fits told = matches-store codec (disk_bytes disk) store (fits.contents told) fits.intact fits.fresh

-- the bytes after device calls that were made
pub bytes-made : (old new : MemDisk) (plan : List DeviceCall) → IsSettled (medium (memory_disk old)) → (memory_disk new).calls ≡ (memory_disk old).calls ++ plan
    → disk_bytes (memory_disk new) ≡ image_after (disk_bytes (memory_disk old)) plan
unfolding image_after
bytes-made old new plan still is = λ i p. (seen-is new.calls.items new.tally.faults p
    ∙ ap (λ (l : List DeviceCall). (bytes_of l).seen p) is
    ∙ ap (λ (b : Bytes). b.seen p) (bytes-both (settled (λ _. 0)) (memory_disk old).calls plan)
    ∙ ap (λ (b : Bytes). (bytes_after b plan).seen p) (settled-bytes old.calls.items old.tally.faults still)) i

-- a save that was stopped, on a disk with no other fault
module _ (codec : Codec) (old new : MemDisk) (store : StoreState) (next : List ℕ) (fits : Fits codec (memory_disk old) store)
    (amid : EndsAmid (planned codec store next) (memory_disk old) (memory_disk new) (disk_countdown old) (disk_countdown new))
    (none : HasRisen (disk_countdown old).others (disk_countdown new).others → ⊥) where
  abbrev plan : List DeviceCall
  plan = planned codec store next

  abbrev stop : ℕ
  stop = (disk_countdown old).left

  at_stop : amid.number + 1 ≡ stop
  at_stop = elim amid.cause [
    | inl is ↦ is
    | inr rose ↦ absurd (none rose)
  ]

  pub stop-is : IsStop stop plan
  stop-is = record { from = omega (arith, at_stop); to = omega (arith, at_stop, amid.within) }

  pub left-is : (mode : Mode) → (bytes_of (memory_disk new).calls).left mode ≡ stopped_image mode (disk_bytes (memory_disk old)) plan stop
  left-is mode = elim amid.made [
    | inl cut ↦ left-on old.calls.items old.tally.faults fits.settled (memory_disk new).calls (cut_at amid.number plan) cut mode
        ∙ ap (λ (n : ℕ). (bytes_after (settled (disk_bytes (memory_disk old))) (cut_at n plan)).left mode) (number amid.number stop at_stop)
    | inr both ↦ absurd (none both.1)
  ]
    where
      number : (n j : ℕ) → n + 1 ≡ j → n ≡ j - 1
      number n j is = omega (arith, is)

  pub left-reads : (mode : Mode) → CanSave codec store next → reading codec store.layout ((bytes_of (memory_disk new).calls).left mode) ≡ stopped_reading codec mode store (disk_bytes (memory_disk old)) next stop
  left-reads mode can = ap (reading codec store.layout) (left-is mode) ∙ stop-leaves codec store (disk_bytes (memory_disk old)) (fits.contents refl) next can mode stop stop-is

-- the generation of the store that a load of an image gives
abbrev generation_on : Codec → Layout → (ℕ → ℕ) → ℕ
generation_on codec layout image = (store_of codec layout image).generation

module _ (codec : Codec) (store : StoreState) (old : ℕ → ℕ) (m : Matches codec old store) (fresh : store.kept ≡ false → store ≡ fresh_store store.layout) (next : List ℕ) (can : CanSave codec store next) where
  generation-is : (image : ℕ → ℕ) (other : StoreState) → Matches codec image other → other.broken ≡ false → (other.kept ≡ false → other ≡ fresh_store other.layout) → other.layout ≡ store.layout
      → generation_on codec store.layout image ≡ other.generation
  generation-is image other matches intact new layout =
      ap (λ (l : Layout). generation_on codec l image) (sym layout) ∙ ap (λ (s : StoreState). s.generation) (matches-store codec image other matches intact new)

  before : generation_on codec store.layout old ≡ store.generation
  before = generation-is old store m can.intact fresh refl

  shut_fresh : store.kept ≡ false → record store { target_open = false } ≡ fresh_store store.layout
  shut_fresh none = ap (λ (s : StoreState). record s { target_open = false }) (fresh none)

  generations : TellsSave ℕ (generation_on codec store.layout) store.generation (store.generation + 1) codec store old next
  generations = record {
    entry = λ fit.
        let kept : store.kept ≡ true = (and_parts store.kept _ fit).0 in
        let room : store.tail + 5 + length (codec.change store.part next) + 1 ≤ log_stop store.layout (other store.target) = leb-true _ _ ((and_parts store.kept _ fit).1) in
        record {
          waits = λ image waiting. generation-is image store (waiting-matches codec store old m next can.small_log kept (can.sound.from kept) (can.follows.leads fit) room image waiting) can.intact fresh refl ∙ sym before;
          joins = λ image join. generation-is image (appended codec store next) (joined-matches codec store old m next can.small_log kept (can.sound.from kept) (can.follows.leads fit) room image join) refl
              (λ none. absurd (true≢false (sym kept ∙ none))) refl;
        };
    slot = λ none. record {
      closed = λ image is. generation-is image (record store { target_open = false }) (closed-matches codec store old m image is) can.intact shut_fresh refl ∙ sym before;
      written = λ image is. generation-is image (checkpointed store next) (written-matches codec store old m next can.small_room (can.unspent none) can.short can.follows.right image is) refl
          (λ no_way. absurd (true≢false no_way)) refl;
    };
  }

  most : (leaves fits : Bool) (now : ℕ) → now ≡ cond leaves (cond fits store.generation (store.generation + 1)) (generation_on codec store.layout old) → now ≤ store.generation + 1
  most true true now is = omega (arith, is)
  most true false now is = omega (arith, is)
  most false fits now is = omega (arith, is, before)

  pub stopped-generation : (mode : Mode) (j : ℕ) → IsStop j (planned codec store next) → generation_on codec store.layout (stopped_image mode old (planned codec store next) j) ≤ store.generation + 1
  stopped-generation mode j stop = most (leaves_next mode (planned codec store next) j) (entry_fits codec store next) (generation_on codec store.layout (stopped_image mode old (planned codec store next) j))
      (stop-tells codec store old m next can ℕ (generation_on codec store.layout) store.generation (store.generation + 1) generations mode j stop)

module _ (codec : Codec) (old new : MemDisk) (store : StoreState) (next : List ℕ) (fits : Fits codec (memory_disk old) store)
    (amid : EndsAmid (planned codec store next) (memory_disk old) (memory_disk new) (disk_countdown old) (disk_countdown new))
    (none : HasRisen (disk_countdown old).others (disk_countdown new).others → ⊥) where
  pub left-generation : (mode : Mode) → CanSave codec store next → (store_of codec store.layout ((bytes_of (memory_disk new).calls).left mode)).generation ≤ store.generation + 1
  left-generation mode can = subst (λ (image : ℕ → ℕ). generation_on codec store.layout image ≤ store.generation + 1) (sym (left-is codec old new store next fits amid none mode))
      (stopped-generation codec store (disk_bytes (memory_disk old)) (fits.contents refl) fits.fresh next can mode (disk_countdown old).left (stop-is codec old new store next fits amid none))
