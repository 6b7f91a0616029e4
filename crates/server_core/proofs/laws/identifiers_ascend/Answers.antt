use Rattle.std.proofs.Common.{◌≡◌, ℕ, suc, List, [], ◌∷◌, length, Bool, true, false, refl, sym, ◌∙◌, ap, arith}
use Rattle.std.specs.Ordering.{match_ordering}
use Rattle.server_core.specs.Rows.{IsAscending, put_uid}
use Rattle.server_core.specs.History.{is_among}
use Rattle.server_core.proofs.RowLemmas.{IsAscending-put_uid, IsAscending-ascending_uids, is_among-put_uid, is_among-ascending_uids, put_uid-among}
use Rattle.server_core.proofs.laws.identifiers_ascend.Goals as goal

-- an identifier before ascending ones is none of them, since it would be put before them
not_later : (u : List ℕ) (us : List (List ℕ)) → IsAscending (u ∷ us) → is_among us u ≡ false
not_later u [] up = refl
not_later u (v ∷ us) up = by_test (is_among (v ∷ us) u) refl
  where
    put_first : put_uid (v ∷ us) u ≡ u ∷ v ∷ us
    put_first = ap (λ o. match_ordering o (u ∷ v ∷ us) (u ∷ us) (v ∷ put_uid us u)) up.0.0

    by_test : (t : Bool) → is_among (v ∷ us) u ≡ t → t ≡ false
    by_test true is = let longer : suc (suc (length us)) ≡ suc (length us) = ap length (sym put_first ∙ put_uid-among (v ∷ us) u up.1 is) in absurd (omega (arith, longer))
    by_test false is = refl

pub returns-clause-ascend : goal.returns-clause-ascend
returns-clause-ascend c = IsAscending-put_uid

pub returns-clause-among : goal.returns-clause-among
returns-clause-among c = is_among-put_uid

pub returns-clause-all_ascend : goal.returns-clause-all_ascend
returns-clause-all_ascend c = IsAscending-ascending_uids

pub returns-clause-all_among : goal.returns-clause-all_among
returns-clause-all_among c = is_among-ascending_uids

pub returns-clause-once : goal.returns-clause-once
returns-clause-once c = not_later
