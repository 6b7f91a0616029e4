-- Which slot counts.
use Rattle.std.proofs.Common.{◌≡◌, ℕ, ◌<◌, inl, inr, Bool, true, false, sym, ap, refl, arith, eqb, ltb}
use Rattle.std.proofs.lemmas.Bool.{cases_Bool, ne_eqb, lt-ltb, le-ltb}
use Rattle.agent_store.specs.Codecs.{Codec}
use Rattle.agent_store.specs.declared.slots.Layout.{Layout}
use Rattle.agent_store.specs.declared.slots.Side.{Side}
use Rattle.agent_store.specs.declared.slots.Side.TheVariants.{First, Second}
use Rattle.agent_store.specs.declared.slots.Choice.{Choice}
use Rattle.agent_store.specs.declared.slots.Choice.TheVariants.{Neither, Twins, Slot}
use Rattle.agent_store.specs.declared.header.Header.{Header}
use Rattle.agent_store.specs.Slots.{other, slot_start, is_open, generation_of, choice_by, chosen, choice_reading, reading}
use Rattle.agent_store.specs.Headers.{TellsHeader, header_of, header_choice}

pub other-other : (side : Side) → other (other side) ≡ side
other-other First = refl
other-other Second = refl

by-twice : (less : Bool) → choice_by true true true less ≡ Twins
by-twice less = refl

by-first : (same less : Bool) → choice_by true false same less ≡ Slot First
by-first same less = refl

by-second : (same less : Bool) → choice_by false true same less ≡ Slot Second
by-second same less = refl

by-none : (same less : Bool) → choice_by false false same less ≡ Neither
by-none same less = refl

-- the headers choose as the image does
pub chosen-headers : (layout : Layout) (image : ℕ → ℕ) (first second : Header) → TellsHeader image (slot_start layout First) first → TellsHeader image (slot_start layout Second) second → chosen layout image ≡ header_choice first second
unfolding chosen
chosen-headers layout image first second one two =
    λ i. choice_by (sym one.gate i) (sym two.gate i) (eqb (sym one.generation i) (sym two.generation i)) (ltb (sym one.generation i) (sym two.generation i))

pub tells-on : (layout : Layout) (image : ℕ → ℕ) (first second : Header) (side : Side) → TellsHeader image (slot_start layout First) first → TellsHeader image (slot_start layout Second) second
    → TellsHeader image (slot_start layout side) (header_of first second side)
tells-on layout image first second First one two = one
tells-on layout image first second Second one two = two

-- images whose gates and generations agree choose alike
pub chosen-agree : (layout : Layout) (f g : ℕ → ℕ) → ((side : Side) → is_open layout f side ≡ is_open layout g side) → ((side : Side) → generation_of layout f side ≡ generation_of layout g side) → chosen layout f ≡ chosen layout g
unfolding chosen
chosen-agree layout f g gate generation =
    λ i. choice_by (gate First i) (gate Second i) (eqb (generation First i) (generation Second i)) (ltb (generation First i) (generation Second i))

open_of : Side → Bool → Bool → Bool
open_of First one two = one
open_of Second one two = two

by-open : (one two same less : Bool) (side : Side) → choice_by one two same less ≡ Slot side → open_of side one two ≡ true
unfolding open_of
by-open true true true less side is = cc
by-open true true false true First is = refl
by-open true true false true Second is = refl
by-open true true false false First is = refl
by-open true true false false Second is = refl
by-open true false same less First is = refl
by-open true false same less Second is = cc
by-open false true same less First is = cc
by-open false true same less Second is = refl
by-open false false same less side is = cc

-- the slot that counts is open
pub chosen-open : (layout : Layout) (image : ℕ → ℕ) (side : Side) → chosen layout image ≡ Slot side → is_open layout image side ≡ true
unfolding chosen open_of
chosen-open layout image First is =
    by-open (is_open layout image First) (is_open layout image Second) (eqb (generation_of layout image First) (generation_of layout image Second)) (ltb (generation_of layout image First) (generation_of layout image Second)) First is
chosen-open layout image Second is =
    by-open (is_open layout image First) (is_open layout image Second) (eqb (generation_of layout image First) (generation_of layout image Second)) (ltb (generation_of layout image First) (generation_of layout image Second)) Second is

by-shut : (one two same less : Bool) (side : Side) → choice_by one two same less ≡ Neither → open_of side one two ≡ false
unfolding open_of
by-shut true true true less side is = cc
by-shut true true false true side is = cc
by-shut true true false false side is = cc
by-shut true false same less side is = cc
by-shut false true same less side is = cc
by-shut false false same less First is = refl
by-shut false false same less Second is = refl

pub neither-shut : (layout : Layout) (image : ℕ → ℕ) (side : Side) → chosen layout image ≡ Neither → is_open layout image side ≡ false
unfolding chosen open_of
neither-shut layout image First is =
    by-shut (is_open layout image First) (is_open layout image Second) (eqb (generation_of layout image First) (generation_of layout image Second)) (ltb (generation_of layout image First) (generation_of layout image Second)) First is
neither-shut layout image Second is =
    by-shut (is_open layout image First) (is_open layout image Second) (eqb (generation_of layout image First) (generation_of layout image Second)) (ltb (generation_of layout image First) (generation_of layout image Second)) Second is

-- both closed
pub chosen-neither : (layout : Layout) (image : ℕ → ℕ) (side : Side) → is_open layout image side ≡ false → is_open layout image (other side) ≡ false → chosen layout image ≡ Neither
unfolding chosen
chosen-neither layout image First here there = λ i. choice_by (here i) (there i) (eqb (generation_of layout image First) (generation_of layout image Second)) (ltb (generation_of layout image First) (generation_of layout image Second))
chosen-neither layout image Second here there = λ i. choice_by (there i) (here i) (eqb (generation_of layout image First) (generation_of layout image Second)) (ltb (generation_of layout image First) (generation_of layout image Second))

-- an open slot counts where the other is closed or older
pub chosen-newer : (layout : Layout) (image : ℕ → ℕ) (side : Side) → is_open layout image side ≡ true
    → (is_open layout image (other side) ≡ true → generation_of layout image (other side) < generation_of layout image side) → chosen layout image ≡ Slot side
unfolding chosen
chosen-newer layout image First here older = elim (cases_Bool (is_open layout image Second)) [
  | inl both ↦ (λ i. choice_by (here i) (both i) (ne_eqb (generation_of layout image First) (generation_of layout image Second) (omega (arith, older both)) i) (le-ltb (generation_of layout image First) (generation_of layout image Second) (omega (arith, older both)) i))
  | inr single ↦ (λ i. choice_by (here i) (single i) (eqb (generation_of layout image First) (generation_of layout image Second)) (ltb (generation_of layout image First) (generation_of layout image Second)))
]
chosen-newer layout image Second here older = elim (cases_Bool (is_open layout image First)) [
  | inl both ↦ (λ i. choice_by (both i) (here i) (ne_eqb (generation_of layout image First) (generation_of layout image Second) (omega (arith, older both)) i) (lt-ltb (generation_of layout image First) (generation_of layout image Second) (older both) i))
  | inr single ↦ (λ i. choice_by (single i) (here i) (eqb (generation_of layout image First) (generation_of layout image Second)) (ltb (generation_of layout image First) (generation_of layout image Second)))
]

pub reading-chosen : (codec : Codec) (layout : Layout) (image : ℕ → ℕ) (choice : Choice) → chosen layout image ≡ choice → reading codec layout image ≡ choice_reading codec layout image choice
unfolding reading
reading-chosen codec layout image choice is = ap (choice_reading codec layout image) is
