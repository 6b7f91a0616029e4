-- Logs that agree up to their ends, and a log that an entry joins.
use Rattle.std.proofs.Common.{◌≡◌, ◌≢◌, ℕ, zero, suc, ◌+◌, ◌<◌, ◌≤◌, ◌-◌, ◌⊎◌, ◌^◌, inl, inr, true, false, cond, ◌&&◌, List, [], ◌∷◌, ◌++◌, length, get_or, take, drop, Option, Some, None, sym, ◌∙◌, ap, refl, arith, eqb, leb, length-append}
use Rattle.std.proofs.lemmas.Bool.{cases_Bool, cases_lt, leb-true, le-leb, lt-leb, eq-eqb, ne_eqb, and_left, and_right}
use Rattle.std.proofs.lemmas.Nat.{from_le_bytes-to_le_bytes_4}
use Rattle.std.specs.Int.{w32, from_le_bytes, to_le_bytes}
use Rattle.edge_devices.specs.Disks.{HasBytes}
use Rattle.agent_store.specs.Codecs.{Codec}
use Rattle.agent_store.specs.Log.{bytes_at, Standing, Ends, Broken, if_some, is_entry, size_at, entry_stop, change_at, replay, entry_bytes, IsChange}
use Rattle.agent_store.proofs.Bytes.{bytes_at-agree, bytes_at-has, bytes_at-part, length-bytes_at, has_left, has_right}

pub size_at-agree : (f g : ℕ → ℕ) (at : ℕ) → ((p : ℕ) → at < p → p < at + 5 → f p ≡ g p) → size_at f at ≡ size_at g at
unfolding size_at
size_at-agree f g at same = ap (λ (l : List ℕ). from_le_bytes w32 l) (bytes_at-agree f g (at + 1) 4 (λ p low high. same p (omega arith) (omega arith)))

change_at-agree : (f g : ℕ → ℕ) (at : ℕ) → ((p : ℕ) → at < p → p < entry_stop f at → f p ≡ g p) → change_at f at ≡ change_at g at
change_at-agree f g at same =
    let size : size_at f at ≡ size_at g at = size_at-agree f g at (λ p low high. same p low (omega arith)) in
    bytes_at-agree f g (at + 5) (size_at f at) (λ p low high. same p (omega arith) (omega arith)) ∙ ap (λ (n : ℕ). bytes_at g (at + 5) n) size

entry-low : (f : ℕ → ℕ) (stop at : ℕ) → is_entry f stop at ≡ true → at + 6 ≤ stop
entry-low f stop at is = elim (cases_lt stop (at + 6)) [
  | inl past ↦ (let no : false ≡ true = sym (and_left (leb (at + 6) stop) (eqb (f at) 1) (lt-leb (at + 6) stop past)) ∙ is in absurd (cc))
  | inr fits ↦ fits
]

pub shut-entry : (image : ℕ → ℕ) (stop at : ℕ) → image at ≢ 1 → is_entry image stop at ≡ false
shut-entry image stop at shut = and_right (leb (at + 6) stop) (eqb (image at) 1) (ne_eqb (image at) 1 shut)

pub no-room : (image : ℕ → ℕ) (stop at : ℕ) → stop < at + 6 → is_entry image stop at ≡ false
no-room image stop at past = and_left (leb (at + 6) stop) (eqb (image at) 1) (lt-leb (at + 6) stop past)

pub open-entry : (image : ℕ → ℕ) (stop at : ℕ) → at + 6 ≤ stop → image at ≡ 1 → is_entry image stop at ≡ true
open-entry image stop at fits gate = λ i. le-leb (at + 6) stop fits i && eq-eqb (image at) 1 gate i

entry-agree : (f g : ℕ → ℕ) (stop at : ℕ) → (at < stop → f at ≡ g at) → is_entry f stop at ≡ is_entry g stop at
entry-agree f g stop at same = elim (cases_lt stop (at + 6)) [
  | inl past ↦ no-room f stop at past ∙ sym (no-room g stop at past)
  | inr fits ↦ (let gate : f at ≡ g at = same (omega arith) in λ i. leb (at + 6) stop && eqb (gate i) 1)
]

-- an open entry that can be applied
pub step-entry : (codec : Codec) (f : ℕ → ℕ) (stop steps at : ℕ) (part next : List ℕ) → is_entry f stop at ≡ true → entry_stop f at ≤ stop → codec.changed part (change_at f at) ≡ Some next
    → replay codec f stop (suc steps) at part ≡ replay codec f stop steps (entry_stop f at) next
unfolding replay
step-entry codec f stop steps at part next entry fits is =
    let test : leb (entry_stop f at) stop ≡ true = le-leb (entry_stop f at) stop fits in
    λ i. cond (entry i) (cond (test i) (if_some (is i) (λ n. replay codec f stop steps (entry_stop f at) n)) Broken) (Ends part at)

pub step-end : (codec : Codec) (f : ℕ → ℕ) (stop steps at : ℕ) (part : List ℕ) → is_entry f stop at ≡ false → replay codec f stop steps at part ≡ Ends part at
unfolding replay
step-end codec f stop zero at part shut = refl
step-end codec f stop (suc steps) at part shut =
    λ i. cond (shut i) (cond (leb (entry_stop f at) stop) (if_some (codec.changed part (change_at f at)) (λ n. replay codec f stop steps (entry_stop f at) n)) Broken) (Ends part at)

-- an open entry that passes the log's end
pub step-past : (codec : Codec) (f : ℕ → ℕ) (stop steps at : ℕ) (part : List ℕ) → is_entry f stop at ≡ true → stop < entry_stop f at → replay codec f stop (suc steps) at part ≡ Broken
unfolding replay
step-past codec f stop steps at part entry past =
    let test : leb (entry_stop f at) stop ≡ false = lt-leb (entry_stop f at) stop past in
    λ i. cond (entry i) (cond (test i) (if_some (codec.changed part (change_at f at)) (λ n. replay codec f stop steps (entry_stop f at) n)) Broken) (Ends part at)

-- an open entry that gives no right part
pub step-wrong : (codec : Codec) (f : ℕ → ℕ) (stop steps at : ℕ) (part : List ℕ) → is_entry f stop at ≡ true → codec.changed part (change_at f at) ≡ None → replay codec f stop (suc steps) at part ≡ Broken
unfolding replay
step-wrong codec f stop steps at part entry none = elim (cases_Bool (leb (entry_stop f at) stop)) [
  | inl fits ↦ (λ i. cond (entry i) (cond (fits i) (if_some (none i) (λ n. replay codec f stop steps (entry_stop f at) n)) Broken) (Ends part at))
  | inr past ↦ (λ i. cond (entry i) (cond (past i) (if_some (codec.changed part (change_at f at)) (λ n. replay codec f stop steps (entry_stop f at) n)) Broken) (Ends part at))
]

-- steps enough are all alike
pub replay-steps : (codec : Codec) (f : ℕ → ℕ) (stop a b at : ℕ) (part : List ℕ) → stop ≤ at + a → stop ≤ at + b → replay codec f stop a at part ≡ replay codec f stop b at part
unfolding replay
replay-steps codec f stop zero zero at part one two = refl
replay-steps codec f stop zero (suc b) at part one two = sym (step-end codec f stop (suc b) at part (no-room f stop at (omega arith)))
replay-steps codec f stop (suc a) zero at part one two = step-end codec f stop (suc a) at part (no-room f stop at (omega arith))
replay-steps codec f stop (suc a) (suc b) at part one two =
    let rest : (n : List ℕ) → replay codec f stop a (entry_stop f at) n ≡ replay codec f stop b (entry_stop f at) n = λ n. replay-steps codec f stop a b (entry_stop f at) n (omega arith) (omega arith) in
    λ i. cond (is_entry f stop at) (cond (leb (entry_stop f at) stop) (if_some (codec.changed part (change_at f at)) (λ n. rest n i)) Broken) (Ends part at)

-- the same log
pub replay-same : (codec : Codec) (f g : ℕ → ℕ) (stop steps at : ℕ) (part : List ℕ) → ((p : ℕ) → at ≤ p → p < stop → f p ≡ g p) → replay codec f stop steps at part ≡ replay codec g stop steps at part
unfolding replay
replay-same codec f g stop zero at part same = refl
replay-same codec f g stop (suc steps) at part same = elim (cases_Bool (is_entry f stop at)) [
  | inr shut ↦ step-end codec f stop (suc steps) at part shut ∙ sym (step-end codec g stop (suc steps) at part (sym (entry-agree f g stop at (λ low. same at (omega arith) low)) ∙ shut))
  | inl entry ↦ (
      let low : at + 6 ≤ stop = entry-low f stop at entry in
      let entry_too : is_entry g stop at ≡ true = sym (entry-agree f g stop at (λ below. same at (omega arith) below)) ∙ entry in
      let size : size_at f at ≡ size_at g at = size_at-agree f g at (λ p from to. same p (omega arith) (omega arith)) in
      elim (cases_lt stop (entry_stop f at)) [
        | inl past ↦ step-past codec f stop steps at part entry past ∙ sym (step-past codec g stop steps at part entry_too (omega (arith, size)))
        | inr fits ↦ (
            let fields : change_at f at ≡ change_at g at = change_at-agree f g at (λ p from to. same p (omega arith) (omega arith)) in
            let rest : (n : List ℕ) → replay codec f stop steps (entry_stop f at) n ≡ replay codec g stop steps (entry_stop g at) n =
            λ n. replay-same codec f g stop steps (entry_stop f at) n (λ p from to. same p (omega arith) to) ∙ ap (λ (k : ℕ). replay codec g stop steps (at + 5 + k) n) size in
            let test : leb (entry_stop f at) stop ≡ leb (entry_stop g at) stop = ap (λ (k : ℕ). leb (at + 5 + k) stop) size in
            λ i. cond (entry-agree f g stop at (λ below. same at (omega arith) below) i) (cond (test i) (if_some (codec.changed part (fields i)) (λ n. rest n i)) Broken) (Ends part at)
            )
      ]
      )
]

-- what a log that ends did at an open entry
record Went (codec : Codec) (f : ℕ → ℕ) (stop steps at : ℕ) (part last : List ℕ) (tail : ℕ) : Type 0 where
  next : List ℕ
  fits : entry_stop f at ≤ stop
  applied : codec.changed part (change_at f at) ≡ Some next
  rest : replay codec f stop steps (entry_stop f at) next ≡ Ends last tail

went_some : (codec : Codec) (f : ℕ → ℕ) (stop steps at : ℕ) (part last : List ℕ) (tail : ℕ) → entry_stop f at ≤ stop → (found : Option (List ℕ)) → codec.changed part (change_at f at) ≡ found
    → if_some found (λ n. replay codec f stop steps (entry_stop f at) n) ≡ Ends last tail → Went codec f stop steps at part last tail
went_some codec f stop steps at part last tail fits None applied is = absurd (cc)
went_some codec f stop steps at part last tail fits (Some next) applied is = record { next = next; fits = fits; applied = applied; rest = is }

went : (codec : Codec) (f : ℕ → ℕ) (stop steps at : ℕ) (part last : List ℕ) (tail : ℕ) → is_entry f stop at ≡ true → replay codec f stop (suc steps) at part ≡ Ends last tail → Went codec f stop steps at part last tail
unfolding replay
went codec f stop steps at part last tail entry is =
    let rest : List ℕ → Standing = λ n. replay codec f stop steps (entry_stop f at) n in
    let inner : cond (leb (entry_stop f at) stop) (if_some (codec.changed part (change_at f at)) rest) Broken ≡ Ends last tail =
    sym (λ i. cond (entry i) (cond (leb (entry_stop f at) stop) (if_some (codec.changed part (change_at f at)) rest) Broken) (Ends part at)) ∙ is in
    elim (cases_Bool (leb (entry_stop f at) stop)) [
      | inl fits ↦ went_some codec f stop steps at part last tail (leb-true (entry_stop f at) stop fits) (codec.changed part (change_at f at)) refl
          (sym (λ i. cond (fits i) (if_some (codec.changed part (change_at f at)) rest) Broken) ∙ inner)
      | inr past ↦ (let broken : Broken ≡ Ends last tail = sym (λ i. cond (past i) (if_some (codec.changed part (change_at f at)) rest) Broken) ∙ inner in absurd (cc))
    ]

replay-zero : (codec : Codec) (f : ℕ → ℕ) (stop at : ℕ) (part : List ℕ) → replay codec f stop zero at part ≡ Ends part at
unfolding replay
replay-zero codec f stop at part = refl

tail-later : (codec : Codec) (f : ℕ → ℕ) (stop steps at : ℕ) (part last : List ℕ) (tail : ℕ) → replay codec f stop steps at part ≡ Ends last tail → at ≤ tail
tail-later codec f stop zero at part last tail is = let ends : Ends part at ≡ Ends last tail = sym (replay-zero codec f stop at part) ∙ is in let same : at ≡ tail = cc in omega arith
tail-later codec f stop (suc steps) at part last tail is = elim (cases_Bool (is_entry f stop at)) [
  | inl entry ↦ (let w = went codec f stop steps at part last tail entry is in let after : entry_stop f at ≤ tail = tail-later codec f stop steps (entry_stop f at) w.next last tail w.rest in omega arith)
  | inr shut ↦ (let ends : Ends part at ≡ Ends last tail = sym (step-end codec f stop (suc steps) at part shut) ∙ is in let same : at ≡ tail = cc in omega arith)
]

-- a log with steps enough ends where no entry is open
pub tail-shut : (codec : Codec) (f : ℕ → ℕ) (stop steps at : ℕ) (part last : List ℕ) (tail : ℕ) → stop ≤ at + steps → replay codec f stop steps at part ≡ Ends last tail → is_entry f stop tail ≡ false
tail-shut codec f stop zero at part last tail enough is =
    let ends : Ends part at ≡ Ends last tail = sym (replay-zero codec f stop at part) ∙ is in
    let here : at ≡ tail = cc in no-room f stop tail (omega arith)
tail-shut codec f stop (suc steps) at part last tail enough is = elim (cases_Bool (is_entry f stop at)) [
  | inl entry ↦ (let w = went codec f stop steps at part last tail entry is in tail-shut codec f stop steps (entry_stop f at) w.next last tail (omega arith) w.rest)
  | inr shut ↦ (let ends : Ends part at ≡ Ends last tail = sym (step-end codec f stop (suc steps) at part shut) ∙ is in let here : at ≡ tail = cc in ap (λ (p : ℕ). is_entry f stop p) (sym here) ∙ shut)
]

-- the same up to the end, where no entry is open
pub replay-agree : (codec : Codec) (f g : ℕ → ℕ) (stop steps at : ℕ) (part last : List ℕ) (tail : ℕ) → replay codec f stop steps at part ≡ Ends last tail
    → ((p : ℕ) → at ≤ p → p < tail → f p ≡ g p) → is_entry g stop tail ≡ false → replay codec g stop steps at part ≡ Ends last tail
replay-agree codec f g stop zero at part last tail is same shut = replay-zero codec g stop at part ∙ sym (replay-zero codec f stop at part) ∙ is
replay-agree codec f g stop (suc steps) at part last tail is same shut = elim (cases_Bool (is_entry f stop at)) [
  | inl entry ↦ (
      let w = went codec f stop steps at part last tail entry is in
      let after : entry_stop f at ≤ tail = tail-later codec f stop steps (entry_stop f at) w.next last tail w.rest in
      let size : size_at f at ≡ size_at g at = size_at-agree f g at (λ p low high. same p (omega arith) (omega arith)) in
      let entry_too : is_entry g stop at ≡ true = sym (entry-agree f g stop at (λ low. same at (omega arith) (omega arith))) ∙ entry in
      let fields : change_at f at ≡ change_at g at = change_at-agree f g at (λ p low high. same p (omega arith) (omega arith)) in
      step-entry codec g stop steps at part w.next entry_too (omega (arith, w.fits, size)) (ap (codec.changed part) (sym fields) ∙ w.applied)
      ∙ ap (λ (n : ℕ). replay codec g stop steps (at + 5 + n) w.next) (sym size)
      ∙ replay-agree codec f g stop steps (entry_stop f at) w.next last tail w.rest (λ p low high. same p (omega arith) high) shut
      )
  | inr ended ↦ (
      let ends : Ends part at ≡ Ends last tail = sym (step-end codec f stop (suc steps) at part ended) ∙ is in
      let here : at ≡ tail = cc in
      step-end codec g stop (suc steps) at part (ap (λ (p : ℕ). is_entry g stop p) here ∙ shut) ∙ ends
      )
]

-- an open entry with this change
pub record IsEntry (image : ℕ → ℕ) (at : ℕ) (fields : List ℕ) : Type 0 where
  pub gate : image at ≡ 1
  pub size : size_at image at ≡ length fields
  pub bytes : bytes_at image (at + 5) (length fields) ≡ fields

-- a log that an entry joins
pub replay-join : (codec : Codec) (f g : ℕ → ℕ) (stop steps at : ℕ) (part last next fields : List ℕ) (tail : ℕ) → stop ≤ at + steps → replay codec f stop steps at part ≡ Ends last tail
    → ((p : ℕ) → at ≤ p → p < tail → f p ≡ g p) → IsEntry g tail fields → tail + 5 + length fields + 1 ≤ stop → codec.changed last fields ≡ Some next
    → is_entry g stop (tail + 5 + length fields) ≡ false → replay codec g stop steps at part ≡ Ends next (tail + 5 + length fields)
replay-join codec f g stop zero at part last next fields tail enough is same joined fits applied shut = (let later = tail-later codec f stop zero at part last tail is in absurd (omega (arith, later)))
replay-join codec f g stop (suc steps) at part last next fields tail enough is same joined fits applied shut = elim (cases_Bool (is_entry f stop at)) [
  | inl entry ↦ (
      let w = went codec f stop steps at part last tail entry is in
      let after : entry_stop f at ≤ tail = tail-later codec f stop steps (entry_stop f at) w.next last tail w.rest in
      let size : size_at f at ≡ size_at g at = size_at-agree f g at (λ p low high. same p (omega arith) (omega arith)) in
      let entry_too : is_entry g stop at ≡ true = sym (entry-agree f g stop at (λ low. same at (omega arith) (omega arith))) ∙ entry in
      let bytes : change_at f at ≡ change_at g at = change_at-agree f g at (λ p low high. same p (omega arith) (omega arith)) in
      step-entry codec g stop steps at part w.next entry_too (omega (arith, w.fits, size)) (ap (codec.changed part) (sym bytes) ∙ w.applied)
      ∙ ap (λ (n : ℕ). replay codec g stop steps (at + 5 + n) w.next) (sym size)
      ∙ replay-join codec f g stop steps (entry_stop f at) w.next last next fields tail (omega arith) w.rest (λ p low high. same p (omega arith) high) joined fits applied shut
      )
  | inr ended ↦ (
      let ends : Ends part at ≡ Ends last tail = sym (step-end codec f stop (suc steps) at part ended) ∙ is in
      let here : at ≡ tail = cc in
      let same_part : part ≡ last = cc in
      let open_here : is_entry g stop at ≡ true = open-entry g stop at (omega arith) (ap g here ∙ joined.gate) in
      let size : size_at g at ≡ length fields = ap (size_at g) here ∙ joined.size in
      let bytes : change_at g at ≡ fields = (λ i. bytes_at g (here i + 5) (size i)) ∙ joined.bytes in
      let place : entry_stop g at ≡ tail + 5 + length fields = omega (arith, size) in
      step-entry codec g stop steps at part next open_here (omega (arith, size)) ((λ i. codec.changed (same_part i) (bytes i)) ∙ applied)
      ∙ ap (λ (p : ℕ). replay codec g stop steps p next) place ∙ step-end codec g stop steps (tail + 5 + length fields) next shut
      )
]

pub length-entry : (fields : List ℕ) → length (entry_bytes fields) ≡ 5 + length fields
unfolding entry_bytes
length-entry fields = omega (arith, length-append fields (0 ∷ []))

-- the bytes of an entry, its gate open, and the closed gate of the next
pub entry-parts : (image : ℕ → ℕ) (tail : ℕ) (fields : List ℕ) → length fields < 2 ^ 32 → image tail ≡ 1 → HasBytes image (tail + 1) (entry_bytes fields)
    → IsEntry image tail fields × (image (tail + 5 + length fields) ≡ 0)
unfolding entry_bytes size_at
entry-parts image tail fields short gate has =
    let X = to_le_bytes w32 (length fields) in
    let first = has_left image (tail + 1) X (fields ++ 0 ∷ []) has in
    let rest = has_right image (tail + 1) (tail + 5) X (fields ++ 0 ∷ []) (omega arith) has in
    let second = has_left image (tail + 5) fields (0 ∷ []) rest in
    let last = has_right image (tail + 5) (tail + 5 + length fields) fields (0 ∷ []) refl rest in
    let place : tail + 5 + length fields ≡ tail + 5 + length fields + 0 = omega arith in (
      record {
        gate = gate;
        size = ap (λ (l : List ℕ). from_le_bytes w32 l) (bytes_at-has image (tail + 1) 4 X refl first) ∙ from_le_bytes-to_le_bytes_4 (length fields) short;
        bytes = bytes_at-has image (tail + 5) (length fields) fields refl second;
      },
      ap image place ∙ last 0 (omega arith),
    )

-- a log that was read: the length and the change of an entry in it
pub size-read : (image : ℕ → ℕ) (start at : ℕ) (log part : List ℕ) → at + 6 ≤ length log → HasBytes image start log → part ≡ take 4 (drop (at + 1) log) → from_le_bytes w32 part ≡ size_at image (start + at)
unfolding size_at
size-read image start at log part fits has is =
    let place : start + (at + 1) ≡ start + at + 1 = omega arith in
    ap (λ (l : List ℕ). from_le_bytes w32 l) (is ∙ sym (bytes_at-part image start (at + 1) 4 log (omega arith) has) ∙ ap (λ (p : ℕ). bytes_at image p 4) place)

pub change-read : (image : ℕ → ℕ) (start at n : ℕ) (log fields : List ℕ) → at + 5 + n ≤ length log → HasBytes image start log → size_at image (start + at) ≡ n → fields ≡ take n (drop (at + 5) log) → IsChange image (start + at) fields
change-read image start at n log fields fits has size is =
    let place : start + (at + 5) ≡ start + at + 5 = omega arith in
    let long : length fields ≡ n = ap length is ∙ ap length (sym (bytes_at-part image start (at + 5) n log (omega arith) has)) ∙ length-bytes_at image (start + (at + 5)) n in record {
      size = size ∙ sym long;
      bytes = ap (λ (k : ℕ). bytes_at image (start + at + 5) k) size ∙ ap (λ (p : ℕ). bytes_at image p n) (sym place) ∙ bytes_at-part image start (at + 5) n log (omega arith) has ∙ sym is;
    }

-- one step of the loop over a log that was read
module _ (codec : Codec) (image : ℕ → ℕ) (start at : ℕ) (log part : List ℕ) (has : HasBytes image start log) (room : at + 6 ≤ length log) (gate : get_or log at 0 ≡ 1) where
  abbrev stop : ℕ
  stop = start + length log

  open_here : is_entry image stop (start + at) ≡ true
  open_here = open-entry image stop (start + at) (omega arith) (has at (omega arith) ∙ gate)

  one_more : replay codec image stop (length log - at) (start + at) part ≡ replay codec image stop (suc (length log - at - 1)) (start + at) part
  one_more = let steps : length log - at ≡ suc (length log - at - 1) = omega arith in ap (λ (k : ℕ). replay codec image stop k (start + at) part) steps

  pub read-past : stop < entry_stop image (start + at) → replay codec image stop (length log - at) (start + at) part ≡ Broken
  read-past past = one_more ∙ step-past codec image stop (length log - at - 1) (start + at) part open_here past

  pub read-wrong : (fields : List ℕ) → IsChange image (start + at) fields → codec.changed part fields ≡ None → replay codec image stop (length log - at) (start + at) part ≡ Broken
  read-wrong fields is none = one_more ∙ step-wrong codec image stop (length log - at - 1) (start + at) part open_here (ap (codec.changed part) is.bytes ∙ none)

  pub read-next : (fields next : List ℕ) → IsChange image (start + at) fields → at + 5 + length fields ≤ length log → codec.changed part fields ≡ Some next
      → replay codec image stop (length log - at) (start + at) part ≡ replay codec image stop (length log - (at + (5 + length fields))) (start + (at + (5 + length fields))) next
  read-next fields next is fits some =
      let here : entry_stop image (start + at) ≡ start + (at + (5 + length fields)) = omega (arith, is.size) in
      let room_there : entry_stop image (start + at) ≤ stop = omega arith in
      one_more ∙ step-entry codec image stop (length log - at - 1) (start + at) part next open_here room_there (ap (codec.changed part) is.bytes ∙ some)
      ∙ ap (λ (p : ℕ). replay codec image stop (length log - at - 1) p next) here
      ∙ replay-steps codec image stop (length log - at - 1) (length log - (at + (5 + length fields))) (start + (at + (5 + length fields))) next (omega arith) (omega arith)

-- the end of a log that was read
pub read-end : (codec : Codec) (image : ℕ → ℕ) (start at : ℕ) (log part : List ℕ) → HasBytes image start log → at ≤ length log → (length log - at < 6) ⊎ ((at + 6 ≤ length log) × (get_or log at 0 ≢ 1)) → replay codec image (start + length log) (length log - at) (start + at) part ≡ Ends part (start + at)
read-end codec image start at log part has low (inl short) = step-end codec image (start + length log) (length log - at) (start + at) part (no-room image (start + length log) (start + at) (omega arith))
read-end codec image start at log part has low (inr shut) = step-end codec image (start + length log) (length log - at) (start + at) part (shut-entry image (start + length log) (start + at) (λ gate. shut.1 (sym (has at (omega (arith, shut.0))) ∙ gate)))
