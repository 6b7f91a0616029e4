-- What an image stands for in each step of a save.
use Rattle.std.proofs.Common.{◌≡◌, ◌≢◌, ℕ, ◌+◌, ◌<◌, ◌≤◌, ◌^◌, inl, inr, true, false, cond, List, length, Some, sym, ◌∙◌, ap, arith, eqb}
use Rattle.std.proofs.lemmas.Bool.{cases_Bool, ne_eqb, eq-eqb, true≢false}
use Rattle.edge_devices.specs.Disks.{DiskState, disk_bytes, IsTorn, LeftSince}
use Rattle.edge_devices.proofs.DiskMoments.{weaker}
use Rattle.agent_store.specs.declared.slots.Layout.{Layout}
use Rattle.agent_store.specs.declared.slots.Side.{Side}
use Rattle.agent_store.specs.declared.slots.Choice.TheVariants.{Neither, Slot}
use Rattle.agent_store.specs.Codecs.{Codec, IsRight}
use Rattle.agent_store.specs.Log.{Ends, entry_bytes}
use Rattle.agent_store.specs.Slots.{other, slot_start, log_start, log_stop, is_open, generation_of, chosen, standing, Nothing, Holds, Damaged, told, reading, body_bytes, IsFormerOrNext, NotDamaged}
use Rattle.agent_store.specs.Images.{IsClosed, IsWritten, IsWriting, IsJoined, IsWaiting, IsJoining}
use Rattle.agent_store.specs.Store.{StoreState, Matches}
use Rattle.agent_store.proofs.Choosing.{other-other, chosen-agree, chosen-open, neither-shut, chosen-neither, chosen-newer, reading-chosen}
use Rattle.agent_store.proofs.Standings.{slot-low, log-low, generation-same, standing-agree, end-shut, standing-waiting, standing-joined, generation-written, standing-written}

pub length-body : (generation : ℕ) (payload : List ℕ) → length (body_bytes generation payload) ≡ 15 + length payload
unfolding body_bytes
length-body generation payload = omega arith

-- the store after a checkpoint and after an entry
abbrev pub checkpointed : StoreState → List ℕ → StoreState
checkpointed store next = record {
  layout = store.layout;
  target = other store.target;
  target_open = store.kept;
  kept = true;
  generation = store.generation + 1;
  tail = log_start store.layout store.target;
  part = next;
  broken = false;
}

abbrev pub appended : (codec : Codec) → StoreState → List ℕ → StoreState
appended codec store next = record {
  layout = store.layout;
  target = store.target;
  target_open = store.target_open;
  kept = store.kept;
  generation = store.generation;
  tail = store.tail + 5 + length (codec.change store.part next);
  part = next;
  broken = false;
}

module _ (codec : Codec) (store : StoreState) (old : ℕ → ℕ) (m : Matches codec old store) where
  abbrev layout : Layout
  layout = store.layout

  abbrev side : Side
  side = store.target

  abbrev there : Side
  there = other store.target

  chosen-kept : store.kept ≡ true → chosen layout old ≡ Slot there
  chosen-kept is = m.choice ∙ (λ i. cond (is i) (Slot there) Neither)

  chosen-fresh : store.kept ≡ false → chosen layout old ≡ Neither
  chosen-fresh is = m.choice ∙ (λ i. cond (is i) (Slot there) Neither)

  -- the chosen slot is open where a part is kept
  kept-open : is_open layout old there ≡ store.kept
  kept-open = elim (cases_Bool store.kept) [
    | inl is ↦ chosen-open layout old there (chosen-kept is) ∙ sym is
    | inr fresh ↦ neither-shut layout old there (chosen-fresh fresh) ∙ sym fresh
  ]

  pub reading-kept : store.kept ≡ true → reading codec layout old ≡ Holds store.part
  reading-kept is = reading-chosen codec layout old (Slot there) (chosen-kept is) ∙ ap (told there) (m.stands is)

  pub reading-fresh : store.kept ≡ false → reading codec layout old ≡ Nothing
  reading-fresh is = reading-chosen codec layout old Neither (chosen-fresh is)

  -- so it isn't damaged
  pub whole : NotDamaged codec layout old
  whole slot bad = elim (cases_Bool store.kept) [
    | inl is ↦ (let clash : Holds store.part ≡ Damaged slot = sym (reading-kept is) ∙ bad in cc)
    | inr fresh ↦ (let clash : Nothing ≡ Damaged slot = sym (reading-fresh fresh) ∙ bad in cc)
  ]

  module _ (image : ℕ → ℕ) (closed : IsClosed layout side old image) where
    same_there : (p : ℕ) → slot_start layout there ≤ p → p < slot_start layout there + (layout.room + 16) → image p ≡ old p
    same_there p from to = closed.elsewhere p (inl (record { from = from; to = to }))

    gate_there : is_open layout image there ≡ store.kept
    gate_there = ap (λ (b : ℕ). eqb b 1) (same_there (slot_start layout there) (omega arith) (omega arith)) ∙ kept-open

    shut_here : is_open layout image (other there) ≡ false
    shut_here = ap (λ (s : Side). is_open layout image s) (other-other side) ∙ ne_eqb (image (slot_start layout side)) 1 closed.gate

    -- a closed target changes nothing
    pub closed-former : reading codec layout image ≡ reading codec layout old
    closed-former = elim (cases_Bool store.kept) [
      | inl is ↦ reading-chosen codec layout image (Slot there) (chosen-newer layout image there (gate_there ∙ is) (λ no_way. absurd (true≢false (sym no_way ∙ shut_here))))
          ∙ ap (told there) (standing-agree codec layout there image old closed.elsewhere ∙ m.stands is) ∙ sym (reading-kept is)
      | inr fresh ↦ reading-chosen codec layout image Neither (chosen-neither layout image there (gate_there ∙ fresh) shut_here) ∙ sym (reading-fresh fresh)
    ]

    still_chosen : chosen layout image ≡ chosen layout old
    still_chosen = elim (cases_Bool store.kept) [
      | inl is ↦ chosen-newer layout image there (gate_there ∙ is) (λ no_way. absurd (true≢false (sym no_way ∙ shut_here))) ∙ sym (chosen-kept is)
      | inr fresh ↦ chosen-neither layout image there (gate_there ∙ fresh) shut_here ∙ sym (chosen-fresh fresh)
    ]

    pub closed-matches : Matches codec image (record store { target_open = false })
    closed-matches = record {
      choice = still_chosen ∙ m.choice;
      target = sym (ne_eqb (image (slot_start layout side)) 1 closed.gate);
      generation = λ is. m.generation is ∙ sym (generation-same layout there image old same_there);
      stands = λ is. standing-agree codec layout there image old closed.elsewhere ∙ m.stands is;
    }

  module _ (next : List ℕ) (small : layout.room < 2 ^ 32) (fits : store.generation + 1 < 2 ^ 64) (short : length next ≤ layout.room) (right : IsRight codec next) where
    module _ (image : ℕ → ℕ) (written : IsWritten layout side (body_bytes (store.generation + 1) next) old image) where
      same_other : (p : ℕ) → slot_start layout there ≤ p → p < slot_start layout there + (layout.room + 16) → image p ≡ old p
      same_other p from to = written.elsewhere p (inl (record { from = from; to = to }))

      gate_other : is_open layout image there ≡ store.kept
      gate_other = ap (λ (b : ℕ). eqb b 1) (same_other (slot_start layout there) (omega arith) (omega arith)) ∙ kept-open

      generation_now : generation_of layout image side ≡ store.generation + 1
      generation_now = generation-written layout side (store.generation + 1) next image small fits short written.slot

      generation_other : generation_of layout image there ≡ generation_of layout old there
      generation_other = generation-same layout there image old same_other

      chosen_now : chosen layout image ≡ Slot side
      chosen_now = chosen-newer layout image side (eq-eqb (image (slot_start layout side)) 1 written.gate)
          (λ open_there. let before : store.generation ≡ generation_of layout old there = m.generation (sym gate_other ∙ open_there) in omega (arith, generation_now, generation_other, before))

      standing_now : standing codec layout image side ≡ Ends next (log_start layout side)
      standing_now = standing-written codec layout side (store.generation + 1) next image small fits short right written.slot

      -- a written target counts
      pub written-next : reading codec layout image ≡ Holds next
      written-next = reading-chosen codec layout image (Slot side) chosen_now ∙ ap (told side) standing_now

      pub written-matches : Matches codec image (checkpointed store next)
      written-matches = record {
        choice = chosen_now ∙ ap Slot (sym (other-other side));
        target = sym gate_other;
        generation = λ _. sym generation_now ∙ ap (λ (s : Side). generation_of layout image s) (sym (other-other side));
        stands = λ _. ap (λ (s : Side). standing codec layout image s) (other-other side) ∙ standing_now;
      }

    pub writing-either : (image : ℕ → ℕ) → IsWriting layout side (body_bytes (store.generation + 1) next) old image → IsFormerOrNext codec layout old next image
    writing-either image (inl same) = inl (ap (reading codec layout) same)
    writing-either image (inr (inl closed)) = inl (closed-former image closed)
    writing-either image (inr (inr written)) = inr (written-next image written)

  module _ (next : List ℕ) (small : layout.log < 2 ^ 32) (is : store.kept ≡ true) (from : log_start layout there ≤ store.tail) (leads : codec.changed store.part (codec.change store.part next) ≡ Some next)
      (fits : store.tail + 5 + length (codec.change store.part next) + 1 ≤ log_stop layout there) where
    abbrev entry : List ℕ
    entry = entry_bytes (codec.change store.part next)

    -- the end of the log is closed
    pub shut : old store.tail ≢ 1
    shut = end-shut codec layout old there store.part store.tail (m.stands is) (omega arith)

    module _ (image : ℕ → ℕ) (torn : IsTorn store.tail (1 + length entry) old image) where
      slots : (s : Side) (p : ℕ) → slot_start layout s ≤ p → p < slot_start layout s + (layout.room + 16) → image p ≡ old p
      slots s p low high = torn p (inl (omega (arith, slot-low layout s, log-low layout there)))

      same_gate : (s : Side) → is_open layout image s ≡ is_open layout old s
      same_gate s = ap (λ (b : ℕ). eqb b 1) (slots s (slot_start layout s) (omega arith) (omega arith))

      same_generation : (s : Side) → generation_of layout image s ≡ generation_of layout old s
      same_generation s = generation-same layout s image old (slots s)

      chosen_still : chosen layout image ≡ Slot there
      chosen_still = chosen-agree layout image old same_gate same_generation ∙ chosen-kept is

    pub waiting-former : (image : ℕ → ℕ) → IsWaiting store.tail entry old image → reading codec layout image ≡ reading codec layout old
    waiting-former image waits = reading-chosen codec layout image (Slot there) (chosen_still image waits.elsewhere)
        ∙ ap (told there) (standing-waiting codec layout there old image store.part store.tail entry (m.stands is) from (omega arith) waits) ∙ sym (reading-kept is)

    pub waiting-matches : (image : ℕ → ℕ) → IsWaiting store.tail entry old image → Matches codec image store
    waiting-matches image waits = record {
      choice = chosen_still image waits.elsewhere ∙ sym (chosen-kept is) ∙ m.choice;
      target = m.target ∙ sym (same_gate image waits.elsewhere side);
      generation = λ kept. m.generation kept ∙ sym (same_generation image waits.elsewhere there);
      stands = λ kept. standing-waiting codec layout there old image store.part store.tail entry (m.stands is) from (omega arith) waits;
    }

    standing_joined : (image : ℕ → ℕ) → IsJoined store.tail entry old image → standing codec layout image there ≡ Ends next (store.tail + 5 + length (codec.change store.part next))
    standing_joined image joined = standing-joined codec layout there old image store.part next store.tail small (m.stands is) from leads fits joined

    pub joined-next : (image : ℕ → ℕ) → IsJoined store.tail entry old image → reading codec layout image ≡ Holds next
    joined-next image joined = reading-chosen codec layout image (Slot there) (chosen_still image joined.elsewhere) ∙ ap (told there) (standing_joined image joined)

    pub joining-either : (image : ℕ → ℕ) → IsJoining store.tail entry old image → IsFormerOrNext codec layout old next image
    joining-either image (inl waits) = inl (waiting-former image waits)
    joining-either image (inr joined) = inr (joined-next image joined)

    pub joined-matches : (image : ℕ → ℕ) → IsJoined store.tail entry old image → Matches codec image (appended codec store next)
    joined-matches image joined = record {
      choice = chosen_still image joined.elsewhere ∙ sym (λ i. cond (is i) (Slot there) Neither);
      target = m.target ∙ sym (same_gate image joined.elsewhere side);
      generation = λ _. m.generation is ∙ sym (same_generation image joined.elsewhere there);
      stands = λ _. standing_joined image joined;
    }

-- neither the former nor the next is damaged
pub either-whole : (codec : Codec) (layout : Layout) (former : ℕ → ℕ) (next : List ℕ) (image : ℕ → ℕ) → NotDamaged codec layout former → IsFormerOrNext codec layout former next image → NotDamaged codec layout image
either-whole codec layout former next image whole_before (inl is) = λ slot bad. whole_before slot (sym is ∙ bad)
either-whole codec layout former next image whole_before (inr is) = λ slot bad. let clash : Holds next ≡ Damaged slot = sym is ∙ bad in cc

pub run-whole : (codec : Codec) (layout : Layout) (old new : DiskState) (next : List ℕ) → NotDamaged codec layout (disk_bytes old) → LeftSince old new (IsFormerOrNext codec layout (disk_bytes old) next) → LeftSince old new (NotDamaged codec layout)
run-whole codec layout old new next before run = weaker old new (NotDamaged codec layout) (IsFormerOrNext codec layout (disk_bytes old) next) run (λ image is. either-whole codec layout (disk_bytes old) next image before is)
