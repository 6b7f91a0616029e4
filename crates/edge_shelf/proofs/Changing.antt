-- What a change of a shelf in memory, and a stop, make of its files.
use Rattle.std.proofs.Common.{◌≡◌, ℕ, List, [], ◌∷◌, Bool, true, false, cond, Option, Some, None, refl, sym, ◌∙◌, ap, subst, inl, inr, map}
use Rattle.std.specs.Option.{option_map}
use Rattle.std.specs.Str.{bytes_eq}
use Rattle.plain_values.specs.declared.maps.Map.{Map}
use Rattle.plain_values.specs.declared.maps.Pair.{Pair}
use Rattle.plain_values.specs.Pairs.{on_value, value_at}
use Rattle.edge_devices.specs.Names.{is_good_name}
use Rattle.edge_shelf.specs.declared.slots.Slot.{Slot}
use Rattle.edge_shelf.specs.declared.memory_shelf.Mode.{Mode}
use Rattle.edge_shelf.specs.declared.memory_shelf.Mode.TheVariants.{Former, New}
use Rattle.edge_shelf.specs.Shelves.{Body, IsAmong}
use Rattle.edge_shelf.specs.MemoryShelves.{files_in, kept_body, left_bodies, left_in, settled_slot}

first_left : (value : Option Slot) → IsAmong (kept_body value) (left_bodies value)
first_left None = inl refl
first_left (Some slot) = inl refl

-- what a read gives is one of what a stop may leave
pub read_left : (slots : Map Slot) (name : List ℕ) → IsAmong (files_in slots name) (left_in slots name)
read_left slots name = by_good (is_good_name name) (value_at slots name)
  where
    by_good : (good : Bool) (value : Option Slot) → IsAmong (cond good (kept_body value) None) (cond good (left_bodies value) (None ∷ []))
    by_good true value = first_left value
    by_good false value = inl refl

-- a look-up among pairs with h applied to their values
value_map : (h : Slot → Slot) (pairs : List (Pair Slot)) (name : List ℕ) → value_at (map (on_value h) pairs) name ≡ option_map h (value_at pairs name)
value_map h [] name = refl
value_map h (p ∷ ps) name = by (bytes_eq p.key name) (value_map h ps name)
  where
    by : (b : Bool) → value_at (map (on_value h) ps) name ≡ option_map h (value_at ps name)
        → cond b (Some (h p.value)) (value_at (map (on_value h) ps) name) ≡ option_map h (cond b (Some p.value) (value_at ps name))
    by true e = refl
    by false e = e

settled_one : (good : Bool) (mode : Mode) (value : Option Slot)
    → cond good (left_bodies (option_map (settled_slot mode) value)) (None ∷ []) ≡ cond good (kept_body (option_map (settled_slot mode) value)) None ∷ []
settled_one true mode None = refl
settled_one true mode (Some slot) = refl
settled_one false mode value = refl

pub settled_left : (old new : Map Slot) (mode : Mode) → new ≡ map (on_value (settled_slot mode)) old → (name : List ℕ) → left_in new name ≡ files_in new name ∷ []
settled_left old new mode is name =
    let value = ap (λ slots. value_at slots name) is ∙ value_map (settled_slot mode) old name in
    ap (λ v. cond (is_good_name name) (left_bodies v) (None ∷ [])) value ∙ settled_one (is_good_name name) mode (value_at old name)
    ∙ sym (ap (λ v. cond (is_good_name name) (kept_body v) None ∷ []) value)

among_slot : (mode : Mode) (slot : Slot) (tried : Option Body) → slot.tried ≡ tried → IsAmong (settled_slot mode slot).kept (left_bodies (Some slot))
among_slot Former slot tried e = inl refl
among_slot New slot None e = subst (λ (t : Option Body). IsAmong (settled_slot New (record slot { tried = t })).kept (left_bodies (Some (record slot { tried = t })))) (sym e) (inl refl)
among_slot New slot (Some body) e = subst (λ (t : Option Body). IsAmong (settled_slot New (record slot { tried = t })).kept (left_bodies (Some (record slot { tried = t })))) (sym e) (inr (inl refl))

among_one : (good : Bool) (mode : Mode) (value : Option Slot)
    → IsAmong (cond good (kept_body (option_map (settled_slot mode) value)) None) (cond good (left_bodies value) (None ∷ []))
among_one true mode None = inl refl
among_one true mode (Some slot) = among_slot mode slot slot.tried refl
among_one false mode value = inl refl

pub left_among : (old new : Map Slot) (mode : Mode) → new ≡ map (on_value (settled_slot mode)) old → (name : List ℕ) → IsAmong (files_in new name) (left_in old name)
left_among old new mode is name =
    let value = ap (λ slots. value_at slots name) is ∙ value_map (settled_slot mode) old name in
    subst (λ v. IsAmong (cond (is_good_name name) (kept_body v) None) (left_in old name)) (sym value) (among_one (is_good_name name) mode (value_at old name))
