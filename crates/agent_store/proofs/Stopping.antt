-- A stop at a device call of a save leaves the former part or the next, as its number and the mode say.
use Rattle.std.proofs.Common.{◌≡◌, ◌≢◌, ℕ, zero, suc, ◌+◌, ◌-◌, ◌<◌, ◌≤◌, inl, inr, Bool, true, false, cond, List, [], ◌∷◌, ◌++◌, length, sym, ◌∙◌, ap, subst, refl, arith}
use Rattle.std.proofs.lemmas.Bool.{le-leb, lt-leb, leb-true, eq-eqb, and_parts, true≢false}
use Rattle.edge_devices.specs.Disks.{DeviceCall, Writes, Syncs, IsTorn, IsOutside}
use Rattle.edge_devices.specs.DiskCalls.{cut_at}
use Rattle.edge_devices.specs.DiskStops.{over, over_as, settled, bytes_after, stopped_image}
use Rattle.edge_devices.proofs.DiskStops.{torn-over, torn-as, has-over, aa-torn}
use Rattle.edge_devices.specs.declared.disk_calls.Mode.{Mode}
use Rattle.edge_devices.specs.declared.disk_calls.Mode.TheVariants.{Old, New, Torn}
use Rattle.agent_store.specs.declared.slots.Layout.{Layout}
use Rattle.agent_store.specs.declared.slots.Side.{Side}
use Rattle.agent_store.specs.Codecs.{Codec}
use Rattle.agent_store.specs.Log.{entry_bytes}
use Rattle.agent_store.specs.Slots.{other, slot_start, log_start, log_stop, is_open, Reading, reading, Holds, body_bytes}
use Rattle.agent_store.specs.Images.{IsClosed, IsWritten, HasSlot, IsJoined, IsWaiting}
use Rattle.agent_store.specs.Store.{StoreState, Matches, entry_fits}
use Rattle.agent_store.specs.Plans.{put_plan, entry_plan, slot_plan, planned}
use Rattle.agent_store.specs.Stops.{leaves_next, stopped_reading, IsStop, CanSave}
use Rattle.agent_store.proofs.Moments.{closed-is, torn-is, written-is, byte-is}
use Rattle.agent_store.proofs.Standings.{slot-low, log-low}
use Rattle.agent_store.proofs.Saving.{closed-former, written-next, waiting-former, joined-next, shut, length-body}

-- what a crash leaves after these calls
abbrev left_after : Mode → (ℕ → ℕ) → List DeviceCall → ℕ → ℕ
left_after mode image calls = (bytes_after (settled image) calls).left mode

-- a write of one byte
gate-over : (image : ℕ → ℕ) (at byte : ℕ) → over image at (byte ∷ []) at ≡ byte
gate-over image at byte = byte-is (over image at (byte ∷ [])) at byte (has-over image at (byte ∷ []))

gate-torn : (image : ℕ → ℕ) (at byte : ℕ) → over_as Torn image at (byte ∷ []) at ≡ 170
gate-torn image at byte =
    let place : at ≡ at + 0 = omega arith in
    ap (over_as Torn image at (byte ∷ [])) place ∙ aa-torn image at (byte ∷ []) 0 (omega arith)

-- what an entry's write makes of an image
module _ (tail : ℕ) (entry : List ℕ) (old : ℕ → ℕ) (closed : old tail ≢ 1) where
  torn-waits : (image : ℕ → ℕ) → IsTorn (tail + 1) (length entry) old image → IsWaiting tail entry old image
  torn-waits image torn = record {
    elsewhere = λ p place. torn p (each p place);
    gate = λ gate. closed (sym (torn tail (inl (omega arith))) ∙ gate);
  }
    where
      each : (p : ℕ) → IsOutside tail (1 + length entry) p → IsOutside (tail + 1) (length entry) p
      each p (inl low) = inl (omega arith)
      each p (inr high) = inr (omega arith)

  abbrev staged : ℕ → ℕ
  staged = over old (tail + 1) entry

  both-torn : (image : ℕ → ℕ) → IsTorn tail 1 staged image → IsTorn tail (1 + length entry) old image
  both-torn image torn = λ p place. torn p (first p place) ∙ torn-over old (tail + 1) entry p (second p place)
    where
      first : (p : ℕ) → IsOutside tail (1 + length entry) p → IsOutside tail 1 p
      first p (inl low) = inl low
      first p (inr high) = inr (omega arith)

      second : (p : ℕ) → IsOutside tail (1 + length entry) p → IsOutside (tail + 1) (length entry) p
      second p (inl low) = inl (omega arith)
      second p (inr high) = inr (omega arith)

  gate-waits : (image : ℕ → ℕ) → IsTorn tail 1 staged image → image tail ≢ 1 → IsWaiting tail entry old image
  gate-waits image torn gate = record { elsewhere = both-torn image torn; gate = gate }

  gate-joins : (image : ℕ → ℕ) → IsTorn tail 1 staged image → image tail ≡ 1 → IsJoined tail entry old image
  gate-joins image torn gate = record {
    elsewhere = both-torn image torn;
    bytes = λ k less. torn (tail + 1 + k) (inr (omega arith)) ∙ has-over old (tail + 1) entry k less;
    gate = gate;
  }

-- What is told of the image of an entry's save: what was told before, until the entry has joined, and then this.
pub record TellsEntry (X : Type 0) (told : (ℕ → ℕ) → X) (value : X) (tail : ℕ) (entry : List ℕ) (old : ℕ → ℕ) : Type 0 where
  pub waits : (image : ℕ → ℕ) → IsWaiting tail entry old image → told image ≡ told old
  pub joins : (image : ℕ → ℕ) → IsJoined tail entry old image → told image ≡ value

-- a stop at a call of an entry
module _ (X : Type 0) (told : (ℕ → ℕ) → X) (value : X) (tail : ℕ) (entry : List ℕ) (old : ℕ → ℕ) (end_shut : old tail ≢ 1) (tells : TellsEntry X told value tail entry old) where
  abbrev plan : List DeviceCall
  plan = entry_plan tail entry

  abbrev image_of : Mode → ℕ → ℕ → ℕ
  image_of mode n = left_after mode old (cut_at n plan)

  in_bytes : (mode : Mode) → told (over_as mode old (tail + 1) entry) ≡ told old
  in_bytes mode = tells.waits (over_as mode old (tail + 1) entry) (torn-waits tail entry old end_shut (over_as mode old (tail + 1) entry) (torn-as mode old (tail + 1) entry))

  abbrev after_bytes : ℕ → ℕ
  after_bytes = over old (tail + 1) entry

  in_gate : (mode : Mode) → told (over_as mode after_bytes tail (1 ∷ [])) ≡ cond (leaves_next mode plan 3) value (told old)
  in_gate Old = tells.waits after_bytes (torn-waits tail entry old end_shut after_bytes (torn-over old (tail + 1) entry))
  in_gate New = tells.joins (over after_bytes tail (1 ∷ []))
      (gate-joins tail entry old end_shut (over after_bytes tail (1 ∷ [])) (torn-over after_bytes tail (1 ∷ [])) (gate-over after_bytes tail 1))
  in_gate Torn = tells.waits (over_as Torn after_bytes tail (1 ∷ []))
      (gate-waits tail entry old end_shut (over_as Torn after_bytes tail (1 ∷ [])) (torn-as Torn after_bytes tail (1 ∷ []))
      (λ one_now. let clash : 170 ≡ 1 = sym (gate-torn after_bytes tail 1) ∙ one_now in absurd (omega (arith, clash))))

  not_yet : (mode : Mode) (n : ℕ) → n < 2 → leaves_next mode plan (n + 1) ≡ false
  not_yet Old n early = refl
  not_yet New zero early = refl
  not_yet New (suc zero) early = refl
  not_yet New (suc (suc n)) early = absurd (omega (arith, early))
  not_yet Torn n early = refl

  entry-stops : (mode : Mode) (n : ℕ) → n < 4 → told (image_of mode n) ≡ cond (leaves_next mode plan (n + 1)) value (told old)
  entry-stops mode zero less = in_bytes mode ∙ (λ i. cond (sym (not_yet mode 0 (omega arith)) i) value (told old))
  entry-stops mode (suc zero) less = in_bytes mode ∙ (λ i. cond (sym (not_yet mode 1 (omega arith)) i) value (told old))
  entry-stops Old (suc (suc zero)) less = in_gate Old
  entry-stops New (suc (suc zero)) less = in_gate New
  entry-stops Torn (suc (suc zero)) less = in_gate Torn
  entry-stops Old (suc (suc (suc zero))) less = in_gate Old
  entry-stops New (suc (suc (suc zero))) less = in_gate New
  entry-stops Torn (suc (suc (suc zero))) less = in_gate Torn
  entry-stops mode (suc (suc (suc (suc n)))) less = absurd (omega (arith, less))

-- What is told of the image of a checkpoint: what was told before while its slot is closed, and then this.
pub record TellsSlot (X : Type 0) (told : (ℕ → ℕ) → X) (value : X) (layout : Layout) (side : Side) (body : List ℕ) (old : ℕ → ℕ) : Type 0 where
  pub closed : (image : ℕ → ℕ) → IsClosed layout side old image → told image ≡ told old
  pub written : (image : ℕ → ℕ) → IsWritten layout side body old image → told image ≡ value

-- a stop at a call of a checkpoint
module _ (X : Type 0) (told : (ℕ → ℕ) → X) (value : X) (layout : Layout) (side : Side) (body : List ℕ) (body_short : length body ≤ layout.room + 15) (old : ℕ → ℕ) (tells : TellsSlot X told value layout side body old) where
  abbrev at : ℕ
  at = slot_start layout side

  abbrev log_at : ℕ
  log_at = log_start layout side

  former : (image : ℕ → ℕ) → IsClosed layout side old image → told image ≡ told old
  former image closed = tells.closed image closed

  -- from the image in which the slot is closed
  module _ (closed : ℕ → ℕ) (is : IsClosed layout side old closed) where
    abbrev with_body : Mode → ℕ → ℕ
    with_body mode = over_as mode closed (at + 1) body

    abbrev with_both : Mode → ℕ → ℕ
    with_both mode = over_as mode (with_body mode) log_at (0 ∷ [])

    abbrev staged_slot : ℕ → ℕ
    staged_slot = over (over closed (at + 1) body) log_at (0 ∷ [])

    in_body : (mode : Mode) → told (with_body mode) ≡ told old
    in_body mode = former (with_body mode) (torn-is layout side body body_short old closed (with_body mode) is (λ p out out_log. torn-as mode closed (at + 1) body p out))

    in_log : (mode : Mode) → told (with_both mode) ≡ told old
    in_log mode = former (with_both mode) (torn-is layout side body body_short old closed (with_both mode) is
        (λ p out out_log. torn-as mode (with_body mode) log_at (0 ∷ []) p out_log ∙ torn-as mode closed (at + 1) body p out))

    staged_closed : IsClosed layout side old staged_slot
    staged_closed = torn-is layout side body body_short old closed staged_slot is
        (λ p out out_log. torn-over (over closed (at + 1) body) log_at (0 ∷ []) p out_log ∙ torn-over closed (at + 1) body p out)

    has_slot : HasSlot layout side body staged_slot
    has_slot = record {
      bytes = λ k less. torn-over (over closed (at + 1) body) log_at (0 ∷ []) (at + 1 + k) (inl (omega (arith, body_short, slot-low layout side, log-low layout side))) ∙ has-over closed (at + 1) body k less;
      log = gate-over (over closed (at + 1) body) log_at 0;
    }

    in_open : (mode : Mode) (plan : List DeviceCall) (j : ℕ) → length plan ≤ j + 1 → told (over_as mode staged_slot at (1 ∷ [])) ≡ cond (leaves_next mode plan j) value (told old)
    in_open Old plan j late = former staged_slot staged_closed
    in_open New plan j late =
        tells.written (over staged_slot at (1 ∷ []))
        (written-is layout side body body_short old staged_slot (over staged_slot at (1 ∷ [])) staged_closed has_slot (torn-over staged_slot at (1 ∷ [])) (gate-over staged_slot at 1))
        ∙ (λ i. cond (sym (le-leb (length plan) (j + 1) late) i) value (told old))
    in_open Torn plan j late = former (over_as Torn staged_slot at (1 ∷ []))
        (still_closed (over_as Torn staged_slot at (1 ∷ [])) (torn-as Torn staged_slot at (1 ∷ []))
        (λ one_now. let clash : 170 ≡ 1 = sym (gate-torn staged_slot at 1) ∙ one_now in absurd (omega (arith, clash))))
      where
        still_closed : (image : ℕ → ℕ) → IsTorn at 1 staged_slot image → image at ≢ 1 → IsClosed layout side old image
        still_closed image torn gate = record { elsewhere = λ p place. (closed-is layout side body body_short staged_slot image torn gate).elsewhere p place ∙ staged_closed.elsewhere p place; gate = gate }

    -- the last five calls of a checkpoint
    abbrev rest : List DeviceCall
    rest = (Writes (at + 1) body ∷ Writes log_at (0 ∷ []) ∷ Syncs ∷ []) ++ put_plan at (1 ∷ [])

    early : (mode : Mode) (calls : List DeviceCall) (j : ℕ) → j + 1 < length calls → told old ≡ cond (leaves_next mode calls j) value (told old)
    early Old calls j less = refl
    early New calls j less = λ i. cond (sym (lt-leb (length calls) (j + 1) less) i) value (told old)
    early Torn calls j less = refl

    rest-stops : (mode : Mode) (plan : List DeviceCall) (n before : ℕ) → n < 5 → length plan ≡ before + 5 → told (left_after mode closed (cut_at n rest)) ≡ cond (leaves_next mode plan (before + n + 1)) value (told old)
    rest-stops mode plan zero before less long = in_body mode ∙ early mode plan (before + 0 + 1) (omega (arith, long))
    rest-stops mode plan (suc zero) before less long = in_log mode ∙ early mode plan (before + 1 + 1) (omega (arith, long))
    rest-stops mode plan (suc (suc zero)) before less long = in_log mode ∙ early mode plan (before + 2 + 1) (omega (arith, long))
    rest-stops mode plan (suc (suc (suc zero))) before less long = in_open mode plan (before + 3 + 1) (omega (arith, long))
    rest-stops mode plan (suc (suc (suc (suc zero)))) before less long = in_open mode plan (before + 4 + 1) (omega (arith, long))
    rest-stops mode plan (suc (suc (suc (suc (suc n))))) before less long = absurd (omega (arith, less))

  torn_gate_shut : (image : ℕ → ℕ) → image at ≡ 170 → image at ≢ 1
  torn_gate_shut image is one_now = let clash : 170 ≡ 1 = sym is ∙ one_now in absurd (omega (arith, clash))

  zero_gate_shut : (image : ℕ → ℕ) → image at ≡ 0 → image at ≢ 1
  zero_gate_shut image is one_now = let clash : 0 ≡ 1 = sym is ∙ one_now in absurd (omega (arith, clash))

  after_close : IsClosed layout side old (over old at (0 ∷ []))
  after_close = closed-is layout side body body_short old (over old at (0 ∷ [])) (torn-over old at (0 ∷ [])) (zero_gate_shut (over old at (0 ∷ [])) (gate-over old at 0))

  in_close : (mode : Mode) → told (over_as mode old at (0 ∷ [])) ≡ told old
  in_close Old = refl
  in_close New = former (over old at (0 ∷ [])) after_close
  in_close Torn = former (over_as Torn old at (0 ∷ [])) (closed-is layout side body body_short old (over_as Torn old at (0 ∷ [])) (torn-as Torn old at (0 ∷ [])) (torn_gate_shut (over_as Torn old at (0 ∷ [])) (gate-torn old at 0)))

  abbrev slot_calls : Bool → List DeviceCall
  slot_calls b = slot_plan layout side b body

  abbrev Stops_at : Mode → Bool → ℕ → Type 0
  Stops_at mode b n = told (left_after mode old (cut_at n (slot_calls b))) ≡ cond (leaves_next mode (slot_calls b) (n + 1)) value (told old)

  renumbered : (mode : Mode) (b : Bool) (image : ℕ → ℕ) (i j : ℕ) → i ≡ j → told image ≡ cond (leaves_next mode (slot_calls b) i) value (told old)
      → told image ≡ cond (leaves_next mode (slot_calls b) j) value (told old)
  renumbered mode b image i j is = subst (λ (k : ℕ). told image ≡ cond (leaves_next mode (slot_calls b) k) value (told old)) is

  slot-stops : (mode : Mode) (b : Bool) → b ≡ is_open layout old side → (n : ℕ) → n < length (slot_calls b) → Stops_at mode b n
  slot-stops mode true opened zero less = in_close mode ∙ early (over old at (0 ∷ [])) after_close mode (slot_calls true) 1 (omega arith)
  slot-stops mode true opened (suc zero) less = in_close mode ∙ early (over old at (0 ∷ [])) after_close mode (slot_calls true) 2 (omega arith)
  slot-stops mode true opened (suc (suc n)) less =
      renumbered mode true (left_after mode old (cut_at (suc (suc n)) (slot_calls true))) (2 + n + 1) (suc (suc n) + 1) (omega arith)
      (rest-stops (over old at (0 ∷ [])) after_close mode (slot_calls true) n 2 (omega (arith, less)) (omega arith))
  slot-stops mode false shut_now n less =
      renumbered mode false (left_after mode old (cut_at n (slot_calls false))) (0 + n + 1) (n + 1) (omega arith)
      (rest-stops old (record { elsewhere = λ p place. refl; gate = gate }) mode (slot_calls false) n 0 (omega (arith, less)) (omega arith))
    where
      gate : old at ≢ 1
      gate one_now = true≢false (sym (eq-eqb (old at) 1 one_now) ∙ sym shut_now)

-- what is told of the image of a save in its steps
pub record TellsSave (X : Type 0) (told : (ℕ → ℕ) → X) (joined written : X) (codec : Codec) (store : StoreState) (old : ℕ → ℕ) (next : List ℕ) : Type 0 where
  pub entry : entry_fits codec store next ≡ true → TellsEntry X told joined store.tail (entry_bytes (codec.change store.part next)) old
  pub slot : entry_fits codec store next ≡ false → TellsSlot X told written store.layout store.target (body_bytes (store.generation + 1) next) old

-- the law: a stop at a call of a save, and a crash
module _ (codec : Codec) (store : StoreState) (old : ℕ → ℕ) (m : Matches codec old store) (next : List ℕ) (can : CanSave codec store next) where
  abbrev layout : Layout
  layout = store.layout

  kept_if : entry_fits codec store next ≡ true → store.kept ≡ true
  kept_if fit = (and_parts store.kept _ fit).0

  room_if : entry_fits codec store next ≡ true → store.tail + 5 + length (codec.change store.part next) + 1 ≤ log_stop layout (other store.target)
  room_if fit = leb-true _ _ ((and_parts store.kept _ fit).1)

  module _ (X : Type 0) (told : (ℕ → ℕ) → X) (joined written : X) (tells : TellsSave X told joined written codec store old next) where
    abbrev Leaves : Mode → ℕ → X → List DeviceCall → Type 0
    Leaves mode n value plan = told (left_after mode old (cut_at n plan)) ≡ cond (leaves_next mode plan (n + 1)) value (told old)

    leaves : (mode : Mode) (n : ℕ) (b : Bool) → entry_fits codec store next ≡ b → n < length (cond b (entry_plan store.tail (entry_bytes (codec.change store.part next))) (slot_plan layout store.target store.target_open (body_bytes (store.generation + 1) next)))
        → Leaves mode n (cond b joined written) (cond b (entry_plan store.tail (entry_bytes (codec.change store.part next))) (slot_plan layout store.target store.target_open (body_bytes (store.generation + 1) next)))
    leaves mode n true fit less =
        let kept : store.kept ≡ true = kept_if fit in
        let room : store.tail + 5 + length (codec.change store.part next) + 1 ≤ log_stop layout (other store.target) = room_if fit in
        entry-stops X told joined store.tail (entry_bytes (codec.change store.part next)) old
        (shut codec store old m next can.small_log kept (can.sound.from kept) (can.follows.leads fit) room) (tells.entry fit) mode n less
    leaves mode n false none less =
        let short : length next ≤ layout.room = can.short in
        slot-stops X told written layout store.target (body_bytes (store.generation + 1) next)
        (omega (arith, short, length-body (store.generation + 1) next)) old (tells.slot none) mode store.target_open m.target n less

    pub stop-tells : (mode : Mode) (j : ℕ) → IsStop j (planned codec store next)
        → told (stopped_image mode old (planned codec store next) j) ≡ cond (leaves_next mode (planned codec store next) j) (cond (entry_fits codec store next) joined written) (told old)
    stop-tells mode j stop =
        let number : j - 1 + 1 ≡ j = omega (arith, stop.from) in
        leaves mode (j - 1) (entry_fits codec store next) refl (omega (arith, stop.from, stop.to))
        ∙ (λ i. cond (leaves_next mode (planned codec store next) (number i)) (cond (entry_fits codec store next) joined written) (told old))

  -- the part that it stands for
  reads : TellsSave Reading (reading codec layout) (Holds next) (Holds next) codec store old next
  reads = record {
    entry = λ fit. record {
      waits = λ image waiting. waiting-former codec store old m next can.small_log (kept_if fit) (can.sound.from (kept_if fit)) (can.follows.leads fit) (room_if fit) image waiting;
      joins = λ image join. joined-next codec store old m next can.small_log (kept_if fit) (can.sound.from (kept_if fit)) (can.follows.leads fit) (room_if fit) image join;
    };
    slot = λ none. record {
      closed = λ image shut_now. closed-former codec store old m image shut_now;
      written = λ image is. written-next codec store old m next can.small_room (can.unspent none) can.short can.follows.right image is;
    };
  }

  either : (b : Bool) → cond b (Holds next) (Holds next) ≡ Holds next
  either true = refl
  either false = refl

  pub stop-leaves : (mode : Mode) (j : ℕ) → IsStop j (planned codec store next) → reading codec layout (stopped_image mode old (planned codec store next) j) ≡ stopped_reading codec mode store old next j
  stop-leaves mode j stop =
      stop-tells Reading (reading codec layout) (Holds next) (Holds next) reads mode j stop
      ∙ (λ i. cond (leaves_next mode (planned codec store next) j) (either (entry_fits codec store next) i) (reading codec layout old))

-- the same of an image that was found to be what the plan leaves
module _ (codec : Codec) (store : StoreState) (old new : ℕ → ℕ) (m : Matches codec old store) (next : List ℕ) (can : CanSave codec store next) (mode : Mode) (number stop : ℕ) where
  pub cut-reads : number < length (planned codec store next) → number + 1 ≡ stop → new ≡ (bytes_after (settled old) (cut_at number (planned codec store next))).left mode
      → reading codec store.layout new ≡ stopped_reading codec mode store old next stop
  cut-reads within is left =
      let place : number ≡ stop - 1 = omega (arith, is) in
      ap (reading codec store.layout) (left ∙ (λ i. (bytes_after (settled old) (cut_at (place i) (planned codec store next))).left mode))
      ∙ stop-leaves codec store old m next can mode stop (record { from = omega (arith, is); to = omega (arith, is, within) })
