-- What a crash leaves while a slot is written anew, and while an entry joins a log.
use Rattle.std.proofs.Common.{◌≡◌, ◌≢◌, ℕ, ◌+◌, ◌≤◌, inl, inr, List, [], ◌∷◌, length, sym, ◌∙◌, ap, arith}
use Rattle.std.proofs.lemmas.Bool.{cases_eq, cases_lt}
use Rattle.edge_devices.specs.Disks.{DiskState, disk_bytes, HasBytes, IsTorn, IsTornBoth, IsOutside, IsClosing, LeftSince}
use Rattle.edge_devices.proofs.DiskMoments.{goes_on, weaker}
use Rattle.agent_store.specs.declared.slots.Layout.{Layout}
use Rattle.agent_store.specs.declared.slots.Side.{Side}
use Rattle.agent_store.specs.Slots.{other, slot_start, log_start}
use Rattle.agent_store.specs.Images.{KeepsSide, HasSlot, IsClosed, IsWritten, IsWriting, IsJoined, IsWaiting, IsJoining}
use Rattle.agent_store.proofs.Standings.{slot-low, log-low, apart-slot, apart-log}

-- a place outside of a range is outside of each part of it
outside-part : (at n from k place : ℕ) → at ≤ from → from + k ≤ at + n → IsOutside at n place → IsOutside from k place
outside-part at n from k place low high (inl below) = inl (omega arith)
outside-part at n from k place low high (inr above) = inr (omega arith)

-- the byte that alone may differ doesn't
same-image : (at : ℕ) (f g : ℕ → ℕ) → IsTorn at 1 f g → g at ≡ f at → g ≡ f
same-image at f g torn here = λ i p. each p i
  where
    each : (p : ℕ) → g p ≡ f p
    each p = elim (cases_eq p at) [
      | inl is ↦ ap g is ∙ here ∙ ap f (sym is)
      | inr there ↦ elim (cases_lt p at) [
        | inl below ↦ torn p (inl below)
        | inr above ↦ torn p (inr (omega arith))
      ]
    ]

module _ (layout : Layout) (side : Side) (body : List ℕ) (short : length body ≤ layout.room + 15) (old : ℕ → ℕ) where
  abbrev at : ℕ
  at = slot_start layout side

  closing-is : (image : ℕ → ℕ) → IsClosing at old image → IsWriting layout side body old image
  closing-is image closing = elim (cases_eq (image at) 1) [
    | inl is ↦ inl (same-image at old image closing.elsewhere (is ∙ sym (closing.gate is)))
    | inr shut ↦ inr (inl (record { elsewhere = λ p place. closing.elsewhere p (outside-part at (layout.room + 16) at 1 p (omega arith) (omega arith) (apart-slot layout side p place)); gate = shut }))
  ]

  pub closed-is : (image : ℕ → ℕ) → IsTorn at 1 old image → image at ≢ 1 → IsClosed layout side old image
  closed-is image torn shut = record { elsewhere = λ p place. torn p (outside-part at (layout.room + 16) at 1 p (omega arith) (omega arith) (apart-slot layout side p place)); gate = shut }

  pub torn-is : (closed image : ℕ → ℕ) → IsClosed layout side old closed → IsTornBoth (at + 1) (length body) (log_start layout side) 1 closed image → IsClosed layout side old image
  torn-is closed image is torn = record {
    elsewhere = λ p place. torn p (outside-part at (layout.room + 16) (at + 1) (length body) p (omega arith) (omega arith) (apart-slot layout side p place)) (apart-log layout side p place) ∙ is.elsewhere p place;
    gate = λ gate. is.gate (sym (torn at (inl (omega arith)) (inl (omega (arith, slot-low layout side, log-low layout side)))) ∙ gate);
  }

  kept-torn : (staged image : ℕ → ℕ) → IsClosed layout side old staged → IsTorn at 1 staged image → KeepsSide layout (other side) old image
  kept-torn staged image is torn = λ p place. torn p (outside-part at (layout.room + 16) at 1 p (omega arith) (omega arith) (apart-slot layout side p place)) ∙ is.elsewhere p place

  has-torn : (staged image : ℕ → ℕ) → HasSlot layout side body staged → IsTorn at 1 staged image → HasSlot layout side body image
  has-torn staged image has torn = record {
    bytes = λ k less. torn (at + 1 + k) (inr (omega arith)) ∙ has.bytes k less;
    log = torn (log_start layout side) (inr (omega (arith, slot-low layout side, log-low layout side))) ∙ has.log;
  }

  pub written-is : (staged image : ℕ → ℕ) → IsClosed layout side old staged → HasSlot layout side body staged → IsTorn at 1 staged image → image at ≡ 1 → IsWritten layout side body old image
  written-is staged image is has torn gate = record { elsewhere = kept-torn staged image is torn; slot = has-torn staged image has torn; gate = gate }

  opening-is : (staged image : ℕ → ℕ) → IsClosed layout side old staged → HasSlot layout side body staged → IsTorn at 1 staged image → IsWriting layout side body old image
  opening-is staged image is has torn = elim (cases_eq (image at) 1) [
    | inl gate ↦ inr (inr (written-is staged image is has torn gate))
    | inr shut ↦ inr (inl (record { elsewhere = kept-torn staged image is torn; gate = shut }))
  ]

-- the moments of the write of a slot
module _ (layout : Layout) (side : Side) (body : List ℕ) (short : length body ≤ layout.room + 15) (old : DiskState) where
  abbrev Writes : (ℕ → ℕ) → Type 0
  Writes = IsWriting layout side body (disk_bytes old)

  pub while-closing : (closed : DiskState) → LeftSince old closed (IsClosing (slot_start layout side) (disk_bytes old)) → LeftSince old closed Writes
  while-closing closed run = weaker old closed Writes (IsClosing (slot_start layout side) (disk_bytes old)) run (closing-is layout side body short (disk_bytes old))

  pub while-writing : (closed staged : DiskState) → IsClosed layout side (disk_bytes old) (disk_bytes closed) → LeftSince old closed Writes
      → LeftSince closed staged (IsTornBoth (slot_start layout side + 1) (length body) (log_start layout side) 1 (disk_bytes closed)) → LeftSince old staged Writes
  while-writing closed staged is before run = goes_on old closed staged Writes (IsTornBoth (slot_start layout side + 1) (length body) (log_start layout side) 1 (disk_bytes closed)) before run
      (λ image torn. inr (inl (torn-is layout side body short (disk_bytes old) (disk_bytes closed) image is torn)))

  pub while-opening : (staged done : DiskState) → IsClosed layout side (disk_bytes old) (disk_bytes staged) → HasSlot layout side body (disk_bytes staged) → LeftSince old staged Writes
      → LeftSince staged done (IsTorn (slot_start layout side) 1 (disk_bytes staged)) → LeftSince old done Writes
  while-opening staged done is has before run = goes_on old staged done Writes (IsTorn (slot_start layout side) 1 (disk_bytes staged)) before run
      (λ image torn. opening-is layout side body short (disk_bytes old) (disk_bytes staged) image is has torn)

-- one byte that was written
pub byte-is : (image : ℕ → ℕ) (at byte : ℕ) → HasBytes image at (byte ∷ []) → image at ≡ byte
byte-is image at byte has = let place : at ≡ at + 0 = omega arith in ap image place ∙ has 0 (omega arith)

-- the write of an entry
module _ (tail : ℕ) (entry : List ℕ) (old : DiskState) (shut : disk_bytes old tail ≢ 1) where
  abbrev Joins : (ℕ → ℕ) → Type 0
  Joins = IsJoining tail entry (disk_bytes old)

  waiting-is : (image : ℕ → ℕ) → IsTorn (tail + 1) (length entry) (disk_bytes old) image → IsWaiting tail entry (disk_bytes old) image
  waiting-is image torn = record {
    elsewhere = λ p place. torn p (outside-part tail (1 + length entry) (tail + 1) (length entry) p (omega arith) (omega arith) place);
    gate = λ gate. shut (sym (torn tail (inl (omega arith))) ∙ gate);
  }

  pub joined-is : (staged image : ℕ → ℕ) → IsTorn (tail + 1) (length entry) (disk_bytes old) staged → HasBytes staged (tail + 1) entry → IsTorn tail 1 staged image → image tail ≡ 1 → IsJoined tail entry (disk_bytes old) image
  joined-is staged image before has torn gate = record {
    elsewhere = λ p place. torn p (outside-part tail (1 + length entry) tail 1 p (omega arith) (omega arith) place) ∙ before p (outside-part tail (1 + length entry) (tail + 1) (length entry) p (omega arith) (omega arith) place);
    bytes = λ k less. torn (tail + 1 + k) (inr (omega arith)) ∙ has k less;
    gate = gate;
  }

  gate-is : (staged image : ℕ → ℕ) → IsTorn (tail + 1) (length entry) (disk_bytes old) staged → HasBytes staged (tail + 1) entry → IsTorn tail 1 staged image → Joins image
  gate-is staged image before has torn = elim (cases_eq (image tail) 1) [
    | inl gate ↦ inr (joined-is staged image before has torn gate)
    | inr still ↦ inl (record {
      elsewhere = λ p place. torn p (outside-part tail (1 + length entry) tail 1 p (omega arith) (omega arith) place) ∙ before p (outside-part tail (1 + length entry) (tail + 1) (length entry) p (omega arith) (omega arith) place);
      gate = still;
    })
  ]

  pub while-staging : (staged : DiskState) → LeftSince old staged (IsTorn (tail + 1) (length entry) (disk_bytes old)) → LeftSince old staged Joins
  while-staging staged run = weaker old staged Joins (IsTorn (tail + 1) (length entry) (disk_bytes old)) run (λ image torn. inl (waiting-is image torn))

  pub while-joining : (staged done : DiskState) → IsTorn (tail + 1) (length entry) (disk_bytes old) (disk_bytes staged) → HasBytes (disk_bytes staged) (tail + 1) entry → LeftSince old staged Joins → LeftSince staged done (IsTorn tail 1 (disk_bytes staged)) → LeftSince old done Joins
  while-joining staged done torn has before run = goes_on old staged done Joins (IsTorn tail 1 (disk_bytes staged)) before run (λ image opens. gate-is (disk_bytes staged) image torn has opens)
