-- Lists of good names.
use Rattle.std.proofs.Common.{◌≡◌, ℕ, List, [], ◌∷◌, ◌++◌, true, subst, inl, inr}
use Rattle.std.proofs.lemmas.List.Elements.{Contains-push_cases}
use Rattle.edge_devices.specs.Folders.{AreGood}
use Rattle.edge_devices.specs.Names.{is_good_name}

pub good_more : (names : List (List ℕ)) (name : List ℕ) → AreGood names → is_good_name name ≡ true → AreGood (names ++ name ∷ [])
good_more names name good new other c =
    elim (Contains-push_cases names name other c) [ inl held ↦ good other held | inr is ↦ subst (λ n. is_good_name n ≡ true) is new ]
