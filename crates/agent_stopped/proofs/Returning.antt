-- What an agent that starts again has.
use Rattle.std.proofs.Common.{◌≡◌, ◌⊎◌, ℕ, zero, suc, ◌<◌, inl, inr, length, take, Bool, true, false, cond, None, Some, IsTrue, refl, sym, ◌∙◌, ap, subst, arith, eqb, ltb}
use Rattle.std.specs.Prelude.{nat_le}
use Rattle.std.proofs.lemmas.Bool.{cases_Bool, true≢false, lt-leb, and_left, and_right}
use Rattle.edge_devices.specs.Disks.{DiskState, disk_bytes, medium, IsSettled}
use Rattle.edge_devices.specs.DiskCalls.{cut_at, EndsAmidOrAfter}
use Rattle.edge_devices.specs.DiskStops.{settled, bytes_after}
use Rattle.edge_devices.specs.MemoryDisks.{memory_disk, disk_countdown}
use Rattle.edge_devices.specs.declared.disk_calls.Mode.{Mode}
use Rattle.edge_devices.specs.declared.memory_disk.MemDisk.{MemDisk}
use Rattle.edge_devices.proofs.DiskStops.{left-on}
use Rattle.agent_store.specs.declared.slots.Layout.{Layout}
use Rattle.agent_store.specs.declared.slots.Side.TheVariants.{First, Second}
use Rattle.agent_store.specs.declared.opened.Opened.{Opened}
use Rattle.agent_store.specs.declared.opened.Opened.TheVariants.{Fresh, Kept}
use Rattle.agent_store.specs.Found.{AllKept, reading_of}
use Rattle.agent_store.specs.Loads.{store_of, store_by}
use Rattle.agent_store.specs.Plans.{load_plan}
use Rattle.agent_store.specs.Slots.{Nothing, Holds, Damaged, NotDamaged, reading, choice_reading, choice_by, chosen, slot_start, generation_of}
use Rattle.agent_store.specs.Store.{StoreState, Fits}
use Rattle.agent_rules.specs.declared.saved.Saved.{Saved}
use Rattle.agent_rules.specs.Codec.{codec}
use Rattle.agent_rules.specs.Laws.{one_value}
use Rattle.agent_rules.specs.Payloads.{canonical_saved, FitsTypes}
use Rattle.agent_rules.specs.Right.{is_right}
use Rattle.agent_rules.specs.declared.rules.parts.LocalState.{LocalState}
use Rattle.agent_rules.specs.Half.{AgentHalf, first_saved, kept_part, started}
use Rattle.agent_state.specs.Starting.{started_with}
use Rattle.agent_state.specs.View.{AgentView, HasPart, MeansItself}
use Rattle.agent_stopped.specs.declared.opening.Opening.{Opening}
use Rattle.agent_stopped.specs.declared.starting.Loaded.{Loaded}
use Rattle.agent_stopped.specs.Endings.{stops_in}
use Rattle.agent_stopped.specs.Loading.{IsLoaded}
use Rattle.agent_stopped.specs.Stages.{left_on}
use Rattle.agent_stopped.specs.Starts.{CanReturn, StartsAs, IsAtRest}
use Rattle.agent_stopped.proofs.Leading.{cut-leaves}

module _ (opening : Opening) (local : LocalState) (image : ℕ → ℕ) (half : AgentHalf) (is : StartsAs opening local image half) where
  abbrev with_kept : Bool → Type 0
  with_kept kept = HasPart opening.layout (cond kept (Some half.saved) None) image

  kept-reads : half.is_kept ≡ true → reading codec opening.layout image ≡ Holds (canonical_saved half.saved)
  kept-reads kept = subst with_kept kept is.stands

  none-reads : half.is_kept ≡ false → reading codec opening.layout image ≡ Nothing
  none-reads none = subst with_kept none is.stands

  pub undamaged : NotDamaged codec opening.layout image
  undamaged slot bad = elim (cases_Bool half.is_kept) [
    | inl kept ↦ (let clash : Holds (canonical_saved half.saved) ≡ Damaged slot = sym (kept-reads kept) ∙ bad in cc)
    | inr none ↦ (let clash : Nothing ≡ Damaged slot = sym (none-reads none) ∙ bad in cc)
  ]

  kept-half : half.is_kept ≡ true → started local half.saved true opening.layout.room opening.asks_uid ≡ half
  kept-half kept = (λ i. started local half.saved (sym kept i) opening.layout.room opening.asks_uid) ∙ sym is.start

  none-half : half.is_kept ≡ false → started local (first_saved opening.uid opening.settings) false opening.layout.room opening.asks_uid ≡ half
  none-half none = (λ i. started local (sym (is.returns.first none) i) (sym none i) opening.layout.room opening.asks_uid) ∙ sym is.start

  same_part : (s : Saved) → IsTrue (is_right s) → FitsTypes s → half.is_kept ≡ true → Holds (canonical_saved s) ≡ Holds (canonical_saved half.saved) → s ≡ half.saved
  same_part s right typed kept reads =
      let means : MeansItself half.saved = is.returns.itself kept in
      let bytes : canonical_saved half.saved ≡ canonical_saved s = cc in
      sym (one_value half.saved s means.right means.typed right typed means.short means.bytes bytes)

  pub returns-as : (opened : Opened Saved) → AllKept (λ s. IsTrue (is_right s)) opened → AllKept FitsTypes opened
      → reading_of canonical_saved opened ≡ reading codec opening.layout image
      → started_with opened local opening.uid opening.settings opening.layout.room opening.asks_uid ≡ half
  returns-as Fresh right typed reads = elim (cases_Bool half.is_kept) [
    | inl kept ↦ (let clash : Nothing ≡ Holds (canonical_saved half.saved) = reads ∙ kept-reads kept in cc)
    | inr none ↦ none-half none
  ]
  returns-as (Kept s) right typed reads = elim (cases_Bool half.is_kept) [
    | inl kept ↦ ap (λ (p : Saved). started local p true opening.layout.room opening.asks_uid) (same_part s right typed kept (reads ∙ kept-reads kept)) ∙ kept-half kept
    | inr none ↦ (let clash : Holds (canonical_saved s) ≡ Nothing = reads ∙ none-reads none in cc)
  ]

-- a disk that was never written stands for nothing
reads-nothing : (layout : Layout) (image : ℕ → ℕ) → ((place : ℕ) → image place ≡ 0) → reading codec layout image ≡ Nothing
unfolding reading chosen
reads-nothing layout image blank = λ i. choice_reading codec layout image (choice_by (eqb (blank (slot_start layout First) i) 1) (eqb (blank (slot_start layout Second) i) 1)
    (eqb (generation_of layout image First) (generation_of layout image Second)) (ltb (generation_of layout image First) (generation_of layout image Second)))

-- an agent that never kept anything, on a disk that was never written
pub starts-blank : (opening : Opening) (local : LocalState) (image : ℕ → ℕ) → ((place : ℕ) → image place ≡ 0)
    → StartsAs opening local image (started local (first_saved opening.uid opening.settings) false opening.layout.room opening.asks_uid)
starts-blank opening local image blank = record {
  start = refl;
  returns = record { itself = λ no_way. absurd (true≢false (sym no_way)); first = λ none. refl; room = refl; asks = refl };
  stands = reads-nothing opening.layout image blank;
}

-- and a store without a generation
pub blank-generation : (layout : Layout) (image : ℕ → ℕ) → ((place : ℕ) → image place ≡ 0) → (store_of codec layout image).generation ≡ 0
unfolding store_of chosen
blank-generation layout image blank = λ i. (store_by codec layout image (choice_by (eqb (blank (slot_start layout First) i) 1) (eqb (blank (slot_start layout Second) i) 1)
    (eqb (generation_of layout image First) (generation_of layout image Second)) (ltb (generation_of layout image First) (generation_of layout image Second)))).generation

-- a load's device call
pub load-passes : (stop : ℕ) → (stop ≡ 0) ⊎ (length load_plan < stop) → false ≡ stops_in stop load_plan
load-passes stop (inl none) = sym (and_left (nat_le 1 stop) (nat_le stop 1) (lt-leb 1 stop (omega arith)))
load-passes stop (inr later) = sym (and_right (nat_le 1 stop) (nat_le stop 1) (lt-leb stop 1 later))

pub load-stops : (stop : ℕ) → stop ≡ 1 → true ≡ stops_in stop load_plan
load-stops stop is = ap (λ (n : ℕ). stops_in n load_plan) (sym is)

front-leaves : (image : ℕ → ℕ) (mode : Mode) (n : ℕ) → n < length load_plan → (bytes_after (settled image) (take n load_plan)).left mode ≡ image
front-leaves image mode zero less = refl
front-leaves image mode (suc n) less = absurd (omega (arith, less))

-- a load that failed leaves the disk's bytes, whatever crash comes
pub load-leaves : (old new : MemDisk) → IsSettled (medium (memory_disk old)) → EndsAmidOrAfter load_plan (memory_disk old) (memory_disk new) (disk_countdown old) (disk_countdown new)
    → (mode : Mode) → left_on new mode ≡ disk_bytes (memory_disk old)
load-leaves old new still (inl amid) mode = elim amid.made [
  | inl cut ↦ left-on old.calls.items old.tally.faults still (memory_disk new).calls (cut_at amid.number load_plan) cut mode ∙ cut-leaves (disk_bytes (memory_disk old)) mode amid.number
  | inr front ↦ left-on old.calls.items old.tally.faults still (memory_disk new).calls (take amid.number load_plan) front.0 mode ∙ front-leaves (disk_bytes (memory_disk old)) mode amid.number amid.within
]
load-leaves old new still (inr all) mode = left-on old.calls.items old.tally.faults still (memory_disk new).calls load_plan all.calls mode

-- and the same with the stop that was armed for it
pub leaves-armed : (first armed new : MemDisk) → memory_disk armed ≡ memory_disk first → IsSettled (medium (memory_disk first))
    → EndsAmidOrAfter load_plan (memory_disk armed) (memory_disk new) (disk_countdown armed) (disk_countdown new) → (mode : Mode) → left_on new mode ≡ disk_bytes (memory_disk first)
leaves-armed first armed new same still ends mode =
    load-leaves armed new (subst (λ (d : DiskState). IsSettled (medium d)) (sym same) still) ends mode ∙ ap disk_bytes same

-- what starts is the same with a stop armed
pub armed-starts : (opening : Opening) (local : LocalState) (first armed : MemDisk) → memory_disk armed ≡ memory_disk first → (half : AgentHalf)
    → StartsAs opening local (disk_bytes (memory_disk first)) half → StartsAs opening local (disk_bytes (memory_disk armed)) half
armed-starts opening local first armed same half is = subst (λ (d : DiskState). StartsAs opening local (disk_bytes d) half) (sym same) is

-- the agent that starts with what was loaded
module _ (opening : Opening) (local : LocalState) (image : ℕ → ℕ) (disk : MemDisk) (loaded : Loaded) (agent : AgentView) (l : IsLoaded opening image disk loaded)
    (half-is : agent.half ≡ started_with loaded.opened local opening.uid loaded.settings loaded.store.layout.room opening.asks_uid) (store-is : agent.store ≡ loaded.store) where
  pub starts-as : (half : AgentHalf) → StartsAs opening local image half → agent.half ≡ half
  starts-as half is =
      half-is ∙ (λ i. started_with loaded.opened local opening.uid (l.settings i) (l.layout i).room opening.asks_uid)
      ∙ returns-as opening local image half is loaded.opened l.right l.typed l.reads

  laid : agent.store.layout ≡ opening.layout
  laid = ap (λ (s : StoreState). s.layout) store-is ∙ l.layout

  stands-as : (half : AgentHalf) → StartsAs opening local image half → HasPart agent.store.layout (kept_part agent.half) image
  stands-as half is =
      subst (λ (h : AgentHalf). HasPart agent.store.layout (kept_part h) image) (sym (starts-as half is))
      (subst (λ (layout : Layout). HasPart layout (kept_part half) image) (sym laid) is.stands)

  pub starts-rested : (new : MemDisk) → memory_disk new ≡ memory_disk disk → (half : AgentHalf) → StartsAs opening local image half → IsAtRest opening agent new
  starts-rested new same half is = record {
    fits = record {
      store_fits = subst (λ (s : StoreState). Fits codec (memory_disk new) s) (sym store-is) (subst (λ (d : DiskState). Fits codec d loaded.store) (sym same) l.fits);
      stands = λ told. subst (λ (seen : ℕ → ℕ). HasPart agent.store.layout (kept_part agent.half) seen) (sym (ap disk_bytes same ∙ l.same)) (stands-as half is);
    };
    layout = laid;
    returns = subst (λ (h : AgentHalf). CanReturn opening h) (sym (starts-as half is)) is.returns;
  }

  pub starts-generation : ((d : DiskState) (store : StoreState) → Fits codec d store → IsTrue d.told → store_of codec store.layout (disk_bytes d) ≡ store)
      → agent.store.generation ≡ (store_of codec opening.layout image).generation
  starts-generation law =
      ap (λ (s : StoreState). s.generation) store-is ∙ sym (ap (λ (s : StoreState). s.generation) (law (memory_disk disk) loaded.store l.fits refl))
      ∙ (λ i. (store_of codec (l.layout i) (l.same i)).generation)
