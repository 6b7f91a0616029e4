-- What a slot with its log stands for, as it is found, kept, written or added to.
use Rattle.std.proofs.Common.{◌≡◌, ◌≢◌, ℕ, ◌+◌, ◌*◌, ◌<◌, ◌≤◌, ◌^◌, inl, inr, ⊎_elim, true, false, cond, List, [], ◌∷◌, ◌++◌, length, Option, Some, None, sym, ◌∙◌, ap, refl, arith, eqb, leb}
use Rattle.std.proofs.lemmas.Bool.{cases_lt, cases_Bool, leb-true, le-leb, lt-leb, eq-eqb, ne_eqb, eqb-true}
use Rattle.std.proofs.lemmas.Nat.{from_le_bytes-to_le_bytes_4, from_le_bytes-to_le_bytes_8}
use Rattle.std.specs.Int.{w32, w64, from_le_bytes, to_le_bytes}
use Rattle.edge_devices.specs.Disks.{HasBytes, IsTorn, IsOutside}
use Rattle.agent_store.specs.declared.slots.Layout.{Layout}
use Rattle.agent_store.specs.declared.slots.Side.{Side}
use Rattle.agent_store.specs.declared.slots.Side.TheVariants.{First, Second}
use Rattle.agent_store.specs.Codecs.{Codec, IsRight}
use Rattle.agent_store.specs.Log.{bytes_at, Standing, Ends, Broken, if_some, replay, entry_bytes, is_entry}
use Rattle.agent_store.specs.Slots.{other, slot_start, log_start, log_stop, IsPlaceOf, generation_at, length_at, payload_at, by_form, standing, generation_of, body_bytes}
use Rattle.agent_store.specs.Images.{HasSlot, IsJoined, IsWaiting}
use Rattle.agent_store.proofs.Bytes.{bytes_at-agree, bytes_at-has, has_left, has_right}
use Rattle.agent_store.proofs.Logs.{shut-entry, open-entry, step-end, replay-same, replay-agree, replay-join, tail-shut, entry-parts}

-- the slots end where the logs begin
pub slot-low : (layout : Layout) (side : Side) → slot_start layout side + (layout.room + 16) ≤ 2 * (layout.room + 16)
slot-low layout First = omega arith
slot-low layout Second = omega arith

pub log-low : (layout : Layout) (side : Side) → 2 * (layout.room + 16) ≤ log_start layout side
log-low layout First = omega arith
log-low layout Second = omega arith

pub log-high : (layout : Layout) (side : Side) → log_start layout side ≤ 2 * (layout.room + 16) + layout.log
log-high layout First = omega arith
log-high layout Second = omega arith

-- A slot, and the first place of its log, are no places of the other side. This holds for a log without any room too.
pub apart-slot : (layout : Layout) (side : Side) (place : ℕ) → IsPlaceOf layout (other side) place → IsOutside (slot_start layout side) (layout.room + 16) place
apart-slot layout First place (inl slot) = inr (omega (arith, slot.from))
apart-slot layout First place (inr log) = inr (omega (arith, log.from))
apart-slot layout Second place (inl slot) = inl (omega (arith, slot.to))
apart-slot layout Second place (inr log) = inr (omega (arith, log.from))

pub apart-log : (layout : Layout) (side : Side) (place : ℕ) → IsPlaceOf layout (other side) place → IsOutside (log_start layout side) 1 place
apart-log layout First place (inl slot) = inl (omega (arith, slot.to))
apart-log layout First place (inr log) = inr (omega (arith, log.from, log.to))
apart-log layout Second place (inl slot) = inl (omega (arith, slot.to))
apart-log layout Second place (inr log) = inl (omega (arith, log.to))

-- images that agree on a header and a payload that the slot has room for
abbrev pub SameSlot : Layout → Side → (ℕ → ℕ) → (ℕ → ℕ) → Type 0
SameSlot layout side f g = (place : ℕ) → slot_start layout side ≤ place → place < slot_start layout side + (layout.room + 16) → f place ≡ g place

pub generation-same : (layout : Layout) (side : Side) (f g : ℕ → ℕ) → SameSlot layout side f g → generation_of layout f side ≡ generation_of layout g side
unfolding generation_at
generation-same layout side f g same = ap (λ (l : List ℕ). from_le_bytes w64 l) (bytes_at-agree f g (slot_start layout side + 1) 8 (λ p low high. same p (omega arith) (omega arith)))

length-same : (layout : Layout) (side : Side) (f g : ℕ → ℕ) → SameSlot layout side f g → length_at f (slot_start layout side) ≡ length_at g (slot_start layout side)
unfolding length_at
length-same layout side f g same = ap (λ (l : List ℕ). from_le_bytes w32 l) (bytes_at-agree f g (slot_start layout side + 9) 4 (λ p low high. same p (omega arith) (omega arith)))

payload-same : (layout : Layout) (side : Side) (f g : ℕ → ℕ) → length_at f (slot_start layout side) ≤ layout.room → SameSlot layout side f g → payload_at f (slot_start layout side) ≡ payload_at g (slot_start layout side)
unfolding payload_at
payload-same layout side f g fits same =
    let at = slot_start layout side in
    bytes_at-agree f g (at + 16) (length_at f at) (λ p low high. same p (omega arith) (omega arith)) ∙ ap (λ (n : ℕ). bytes_at g (at + 16) n) (length-same layout side f g same)

standing-long : (codec : Codec) (layout : Layout) (image : ℕ → ℕ) (side : Side) → layout.room < length_at image (slot_start layout side) → standing codec layout image side ≡ Broken
unfolding standing
standing-long codec layout image side long =
    λ i. cond (lt-leb (length_at image (slot_start layout side)) layout.room long i) (if_some (codec.meaning (payload_at image (slot_start layout side))) (λ part. by_form codec layout image side (image (slot_start layout side + 13)) part)) Broken

-- images that agree on a slot and its log
pub standing-agree : (codec : Codec) (layout : Layout) (side : Side) (f g : ℕ → ℕ) → ((place : ℕ) → IsPlaceOf layout side place → f place ≡ g place) → standing codec layout f side ≡ standing codec layout g side
unfolding standing
standing-agree codec layout side f g same =
    let at = slot_start layout side in
    let slot : SameSlot layout side f g = λ p from to. same p (inl (record { from = from; to = to })) in
    let size : length_at f at ≡ length_at g at = length-same layout side f g slot in
    let form : f (at + 13) ≡ g (at + 13) = slot (at + 13) (omega arith) (omega arith) in
    let log : (part : List ℕ) → replay codec f (log_stop layout side) layout.log (log_start layout side) part ≡ replay codec g (log_stop layout side) layout.log (log_start layout side) part =
    λ part. replay-same codec f g (log_stop layout side) layout.log (log_start layout side) part (λ p from to. same p (inr (record { from = from; to = to }))) in
    ⊎_elim
    (λ (long : layout.room < length_at f at). standing-long codec layout f side long ∙ sym (standing-long codec layout g side (omega (arith, size))))
    (λ (fits : length_at f at ≤ layout.room). let payload = payload-same layout side f g fits slot in
    λ i. cond (leb (size i) layout.room) (if_some (codec.meaning (payload i)) (λ part. cond (eqb (form i) 2) (log part i) (cond (eqb (form i) 1) (Ends part (log_stop layout side)) Broken))) Broken)
    (cases_lt layout.room (length_at f at))

-- a slot of this form whose payload means this part
pub standing-of : (codec : Codec) (layout : Layout) (image : ℕ → ℕ) (side : Side) (form : ℕ) (payload part : List ℕ) → length_at image (slot_start layout side) ≤ layout.room → payload_at image (slot_start layout side) ≡ payload
    → codec.meaning payload ≡ Some part → image (slot_start layout side + 13) ≡ form → standing codec layout image side ≡ by_form codec layout image side form part
unfolding standing
standing-of codec layout image side form payload part short is means has =
    let is_part : codec.meaning (payload_at image (slot_start layout side)) ≡ Some part = ap codec.meaning is ∙ means in
    λ i. cond (le-leb (length_at image (slot_start layout side)) layout.room short i) (if_some (is_part i) (λ p. by_form codec layout image side (has i) p)) Broken

-- a slot whose payload isn't right
pub standing-wrong : (codec : Codec) (layout : Layout) (image : ℕ → ℕ) (side : Side) (payload : List ℕ) → payload_at image (slot_start layout side) ≡ payload → codec.meaning payload ≡ None → standing codec layout image side ≡ Broken
unfolding standing
standing-wrong codec layout image side payload is means =
    let none : codec.meaning (payload_at image (slot_start layout side)) ≡ None = ap codec.meaning is ∙ means in
    elim (cases_Bool (leb (length_at image (slot_start layout side)) layout.room)) [
      | inl fits ↦ (λ i. cond (fits i) (if_some (none i) (λ p. by_form codec layout image side (image (slot_start layout side + 13)) p)) Broken)
      | inr long ↦ (λ i. cond (long i) (if_some (codec.meaning (payload_at image (slot_start layout side))) (λ p. by_form codec layout image side (image (slot_start layout side + 13)) p)) Broken)
    ]

pub long-wrong : (codec : Codec) (layout : Layout) (image : ℕ → ℕ) (side : Side) (size : ℕ) → size ≡ length_at image (slot_start layout side) → layout.room < size → standing codec layout image side ≡ Broken
long-wrong codec layout image side size is long = standing-long codec layout image side (omega (arith, is))

-- what a slot that stands for a part tells
pub record Stood (codec : Codec) (layout : Layout) (image : ℕ → ℕ) (side : Side) (part : List ℕ) (tail : ℕ) : Type 0 where
  pub base : List ℕ
  pub short : length_at image (slot_start layout side) ≤ layout.room
  pub means : codec.meaning (payload_at image (slot_start layout side)) ≡ Some base
  pub form : by_form codec layout image side (image (slot_start layout side + 13)) base ≡ Ends part tail

stood_some : (codec : Codec) (layout : Layout) (image : ℕ → ℕ) (side : Side) (part : List ℕ) (tail : ℕ) → length_at image (slot_start layout side) ≤ layout.room → (found : Option (List ℕ)) → codec.meaning (payload_at image (slot_start layout side)) ≡ found
    → if_some found (λ p. by_form codec layout image side (image (slot_start layout side + 13)) p) ≡ Ends part tail → Stood codec layout image side part tail
stood_some codec layout image side part tail short None means is = absurd (cc)
stood_some codec layout image side part tail short (Some base) means is = record { base = base; short = short; means = means; form = is }

pub stood : (codec : Codec) (layout : Layout) (image : ℕ → ℕ) (side : Side) (part : List ℕ) (tail : ℕ) → standing codec layout image side ≡ Ends part tail → Stood codec layout image side part tail
unfolding standing
stood codec layout image side part tail is =
    let at = slot_start layout side in
    let inner : Standing = if_some (codec.meaning (payload_at image at)) (λ p. by_form codec layout image side (image (at + 13)) p) in
    elim (cases_Bool (leb (length_at image at) layout.room)) [
      | inl fits ↦ stood_some codec layout image side part tail (leb-true (length_at image at) layout.room fits) (codec.meaning (payload_at image at)) refl (sym (λ i. cond (fits i) inner Broken) ∙ is)
      | inr long ↦ (let broken : Broken ≡ Ends part tail = sym (λ i. cond (long i) inner Broken) ∙ is in absurd (cc))
    ]

-- a slot whose log has room is of form 2
pub record Logged (codec : Codec) (layout : Layout) (image : ℕ → ℕ) (side : Side) (kind : ℕ) (base part : List ℕ) (tail : ℕ) : Type 0 where
  pub form : kind ≡ 2
  pub log : replay codec image (log_stop layout side) layout.log (log_start layout side) base ≡ Ends part tail

pub logged : (codec : Codec) (layout : Layout) (image : ℕ → ℕ) (side : Side) (kind : ℕ) (base part : List ℕ) (tail : ℕ) → by_form codec layout image side kind base ≡ Ends part tail → tail < log_stop layout side → Logged codec layout image side kind base part tail
logged codec layout image side kind base part tail is room =
    let log : Standing = replay codec image (log_stop layout side) layout.log (log_start layout side) base in
    elim (cases_Bool (eqb kind 2)) [
      | inl two ↦ record { form = eqb-true kind 2 two; log = sym (λ i. cond (two i) log (cond (eqb kind 1) (Ends base (log_stop layout side)) Broken)) ∙ is }
      | inr not_two ↦ elim (cases_Bool (eqb kind 1)) [
        | inl one ↦ (let ends : Ends base (log_stop layout side) ≡ Ends part tail = sym (λ i. cond (not_two i) log (cond (one i) (Ends base (log_stop layout side)) Broken)) ∙ is in
            let here : log_stop layout side ≡ tail = cc in absurd (omega arith))
        | inr none ↦ (let broken : Broken ≡ Ends part tail = sym (λ i. cond (not_two i) log (cond (none i) (Ends base (log_stop layout side)) Broken)) ∙ is in absurd (cc))
      ]
    ]

pub form-two : (codec : Codec) (layout : Layout) (image : ℕ → ℕ) (side : Side) (kind : ℕ) (part : List ℕ) → kind ≡ 2 → by_form codec layout image side kind part ≡ replay codec image (log_stop layout side) layout.log (log_start layout side) part
form-two codec layout image side kind part is = λ i. cond (eq-eqb kind 2 is i) (replay codec image (log_stop layout side) layout.log (log_start layout side) part) (cond (eqb kind 1) (Ends part (log_stop layout side)) Broken)

pub form-one : (codec : Codec) (layout : Layout) (image : ℕ → ℕ) (side : Side) (kind : ℕ) (part : List ℕ) → kind ≡ 1 → by_form codec layout image side kind part ≡ Ends part (log_stop layout side)
form-one codec layout image side kind part is = ap (λ (k : ℕ). by_form codec layout image side k part) is

pub form-other : (codec : Codec) (layout : Layout) (image : ℕ → ℕ) (side : Side) (kind : ℕ) (part : List ℕ) → kind ≢ 1 → kind ≢ 2 → by_form codec layout image side kind part ≡ Broken
form-other codec layout image side kind part no_one no_two =
    λ i. cond (ne_eqb kind 2 no_two i) (replay codec image (log_stop layout side) layout.log (log_start layout side) part) (cond (ne_eqb kind 1 no_one i) (Ends part (log_stop layout side)) Broken)

-- the end of a log that has room is closed
pub end-shut : (codec : Codec) (layout : Layout) (image : ℕ → ℕ) (side : Side) (part : List ℕ) (tail : ℕ) → standing codec layout image side ≡ Ends part tail → tail + 6 ≤ log_stop layout side → image tail ≢ 1
end-shut codec layout image side part tail is room gate =
    let s = stood codec layout image side part tail is in
    let l = logged codec layout image side (image (slot_start layout side + 13)) s.base part tail s.form (omega arith) in
    let shut : is_entry image (log_stop layout side) tail ≡ false = tail-shut codec image (log_stop layout side) layout.log (log_start layout side) s.base part tail (omega arith) l.log in
    let open_there : is_entry image (log_stop layout side) tail ≡ true = open-entry image (log_stop layout side) tail room gate in
    let clash : true ≡ false = sym open_there ∙ shut in absurd (cc)

-- what a write of an entry keeps of its slot
module _ (codec : Codec) (layout : Layout) (side : Side) (old image : ℕ → ℕ) (part : List ℕ) (tail : ℕ) (entry : List ℕ) (is : standing codec layout old side ≡ Ends part tail) (from : log_start layout side ≤ tail) (room : tail < log_stop layout side)
    (torn : IsTorn tail (1 + length entry) old image) where
  slot : SameSlot layout side image old
  slot = λ p low high. torn p (inl (omega (arith, slot-low layout side, log-low layout side)))

  before : (p : ℕ) → log_start layout side ≤ p → p < tail → old p ≡ image p
  before p low high = sym (torn p (inl high))

  -- the slot and its base, whatever the log has become
  pub standing-log : (found : Standing) → ((base : List ℕ) → replay codec old (log_stop layout side) layout.log (log_start layout side) base ≡ Ends part tail → replay codec image (log_stop layout side) layout.log (log_start layout side) base ≡ found)
      → standing codec layout image side ≡ found
  standing-log found log =
      let at = slot_start layout side in
      let s = stood codec layout old side part tail is in
      let l = logged codec layout old side (old (at + 13)) s.base part tail s.form room in
      let size : length_at image at ≡ length_at old at = length-same layout side image old slot in
      let short : length_at image at ≤ layout.room = omega (arith, size, s.short) in
      let form : image (at + 13) ≡ 2 = slot (at + 13) (omega arith) (omega arith) ∙ l.form in
      standing-of codec layout image side 2 (payload_at old at) s.base short (payload-same layout side image old short slot) s.means form ∙ log s.base l.log

-- an entry that waits behind a closed gate doesn't count
pub standing-waiting : (codec : Codec) (layout : Layout) (side : Side) (old image : ℕ → ℕ) (part : List ℕ) (tail : ℕ) (entry : List ℕ) → standing codec layout old side ≡ Ends part tail → log_start layout side ≤ tail → tail < log_stop layout side
    → IsWaiting tail entry old image → standing codec layout image side ≡ Ends part tail
standing-waiting codec layout side old image part tail entry is from room waits =
    standing-log codec layout side old image part tail entry is from room waits.elsewhere (Ends part tail) (λ base log.
    replay-agree codec old image (log_stop layout side) layout.log (log_start layout side) base part tail log (λ p low high. sym (waits.elsewhere p (inl high))) (shut-entry image (log_stop layout side) tail waits.gate))

-- an entry that joined counts
pub standing-joined : (codec : Codec) (layout : Layout) (side : Side) (old image : ℕ → ℕ) (part next : List ℕ) (tail : ℕ) → layout.log < 2 ^ 32 → standing codec layout old side ≡ Ends part tail → log_start layout side ≤ tail → codec.changed part (codec.change part next) ≡ Some next
    → tail + 5 + length (codec.change part next) + 1 ≤ log_stop layout side → IsJoined tail (entry_bytes (codec.change part next)) old image → standing codec layout image side ≡ Ends next (tail + 5 + length (codec.change part next))
standing-joined codec layout side old image part next tail small is from leads fits joined =
    let fields = codec.change part next in
    let stop = log_stop layout side in
    let short : length fields < 2 ^ 32 = omega arith in
    let parts = entry-parts image tail fields short joined.gate joined.bytes in
    let shut : image (tail + 5 + length fields) ≢ 1 = λ gate. omega (arith, parts.1, gate) in
    standing-log codec layout side old image part tail (entry_bytes fields) is from (omega arith) joined.elsewhere (Ends next (tail + 5 + length fields)) (λ base log.
    replay-join codec old image stop layout.log (log_start layout side) base part next fields tail (omega arith) log (λ p low high. sym (joined.elsewhere p (inl high))) parts.0 fits leads (shut-entry image stop (tail + 5 + length fields) shut))

-- the bytes of a slot of form 2
body-parts : (at generation : ℕ) (payload : List ℕ) (image : ℕ → ℕ) → generation < 2 ^ 64 → length payload < 2 ^ 32 → HasBytes image (at + 1) (body_bytes generation payload)
    → (image (at + 13) ≡ 2) × (generation_at image at ≡ generation) × (length_at image at ≡ length payload) × (bytes_at image (at + 16) (length payload) ≡ payload)
unfolding body_bytes generation_at length_at
body-parts at generation payload image fits short has =
    let X = to_le_bytes w64 generation in
    let Y = to_le_bytes w32 (length payload) in
    let Z : List ℕ = 2 ∷ 0 ∷ 0 ∷ [] in
    let first = has_left image (at + 1) X (Y ++ (Z ++ payload)) has in
    let rest = has_right image (at + 1) (at + 9) X (Y ++ (Z ++ payload)) (omega arith) has in
    let second = has_left image (at + 9) Y (Z ++ payload) rest in
    let rest2 = has_right image (at + 9) (at + 13) Y (Z ++ payload) (omega arith) rest in
    let third = has_left image (at + 13) Z payload rest2 in
    let last = has_right image (at + 13) (at + 16) Z payload (omega arith) rest2 in
    let zero_place : at + 13 ≡ at + 13 + 0 = omega arith in (
      ap image zero_place ∙ third 0 (omega arith),
      ap (λ (l : List ℕ). from_le_bytes w64 l) (bytes_at-has image (at + 1) 8 X refl first) ∙ from_le_bytes-to_le_bytes_8 generation fits,
      ap (λ (l : List ℕ). from_le_bytes w32 l) (bytes_at-has image (at + 9) 4 Y refl second) ∙ from_le_bytes-to_le_bytes_4 (length payload) short,
      bytes_at-has image (at + 16) (length payload) payload refl last,
    )

payload-is : (image : ℕ → ℕ) (at : ℕ) (payload : List ℕ) → length_at image at ≡ length payload → bytes_at image (at + 16) (length payload) ≡ payload → payload_at image at ≡ payload
unfolding payload_at
payload-is image at payload size is = ap (λ (n : ℕ). bytes_at image (at + 16) n) size ∙ is

-- a slot that was written with an empty log
pub generation-written : (layout : Layout) (side : Side) (generation : ℕ) (part : List ℕ) (image : ℕ → ℕ) → layout.room < 2 ^ 32 → generation < 2 ^ 64 → length part ≤ layout.room → HasSlot layout side (body_bytes generation part) image → generation_of layout image side ≡ generation
generation-written layout side generation part image small fits short has = (body-parts (slot_start layout side) generation part image fits (omega arith) has.bytes).1

pub standing-written : (codec : Codec) (layout : Layout) (side : Side) (generation : ℕ) (part : List ℕ) (image : ℕ → ℕ) → layout.room < 2 ^ 32 → generation < 2 ^ 64 → length part ≤ layout.room → IsRight codec part → HasSlot layout side (body_bytes generation part) image
    → standing codec layout image side ≡ Ends part (log_start layout side)
standing-written codec layout side generation part image small fits short right has =
    let at = slot_start layout side in
    let parts = body-parts at generation part image fits (omega arith) has.bytes in
    let shut : image (log_start layout side) ≢ 1 = λ gate. omega (arith, has.log, gate) in
    standing-of codec layout image side 2 part part (omega (arith, parts.2)) (payload-is image at part parts.2 parts.3) right parts.0
    ∙ step-end codec image (log_stop layout side) layout.log (log_start layout side) part (shut-entry image (log_stop layout side) (log_start layout side) shut)

-- a payload that was read
pub payload-read : (image : ℕ → ℕ) (at : ℕ) (payload : List ℕ) → length payload ≡ length_at image at → HasBytes image (at + 16) payload → payload_at image at ≡ payload
unfolding payload_at
payload-read image at payload size has = bytes_at-has image (at + 16) (length_at image at) payload (sym size) has
