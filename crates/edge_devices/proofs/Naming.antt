-- When a name is good.
use Rattle.std.proofs.Common.{◌≡◌, ℕ, List, [], ◌∷◌, ◌++◌, length, Bool, true, false, nat_le, sym, ◌∙◌, ap, subst, inl, inr}
use Rattle.std.specs.Prelude.{◌&&◌, not}
use Rattle.std.specs.List.{list_all}
use Rattle.std.proofs.lemmas.List.Elements.{Contains-push_cases}
use Rattle.edge_devices.specs.Folders.{AreGood}
use Rattle.edge_devices.specs.Names.{is_name_byte, begins_with_dot, is_good_name}

pub good_is : (name : List ℕ) (short hidden all : Bool) → short ≡ (nat_le 1 (length name) && nat_le (length name) 255) → hidden ≡ begins_with_dot name
    → all ≡ list_all is_name_byte name → short ≡ true → hidden ≡ false → all ≡ is_good_name name
good_is name short hidden all is_short is_hidden is_all s h =
    sym (ap (λ b. b && (not (begins_with_dot name) && list_all is_name_byte name)) (sym is_short ∙ s)
    ∙ ap (λ b. not b && list_all is_name_byte name) (sym is_hidden ∙ h) ∙ sym is_all)

pub good_more : (names : List (List ℕ)) (name : List ℕ) → AreGood names → is_good_name name ≡ true → AreGood (names ++ name ∷ [])
good_more names name good new other c =
    elim (Contains-push_cases names name other c) [ inl held ↦ good other held | inr is ↦ subst (λ n. is_good_name n ≡ true) is new ]
