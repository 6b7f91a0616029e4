-- The four journals, closed.
use Prim.Native.Nat.{zero}
use Rattle.std.proofs.Common.{◌≡◌, ℕ, suc, ◌<◌, List, [], ◌∷◌, length, map, Some, refl, sym, ◌∙◌, ap, subst, arith}
use Rattle.std.specs.Prelude.{slice_get, unwrap_or}
use Rattle.std.proofs.lemmas.Option.{none-some, same_Some, slice_get_within}
use Rattle.shard_journals.specs.declared.rows.Row.{Row}
use Rattle.shard_journals.specs.Histories.{IsHistory}
use Rattle.shard_servers.specs.Agreement.{Agrees, AllRise, AllStand, AreDistinct, AreKept, OfEach, rows_of}
use Rattle.shard_servers.specs.Desks.{AreOwn, AtDesk, all_places}
use Rattle.shard_servers.proofs.Apart.{all_apart}

-- what holds of each of four holds at each place
pub of_four : (P : ℕ → List Row → Type 0) (a b c d : List Row) → P 0 a → P 1 b → P 2 c → P 3 d
    → (shard : ℕ) (rows : List Row) → slice_get (a ∷ b ∷ c ∷ d ∷ []) shard ≡ Some rows → P shard rows
of_four P a b c d pa pb pc pd zero rows at = subst (P 0) (same_Some a rows at) pa
of_four P a b c d pa pb pc pd (suc zero) rows at = subst (P 1) (same_Some b rows at) pb
of_four P a b c d pa pb pc pd (suc (suc zero)) rows at = subst (P 2) (same_Some c rows at) pc
of_four P a b c d pa pb pc pd (suc (suc (suc zero))) rows at = subst (P 3) (same_Some d rows at) pd
of_four P a b c d pa pb pc pd (suc (suc (suc (suc n)))) rows at = absurd (none-some rows at)

pub four_kept : (a b c d : List Row) → IsHistory a → IsHistory b → IsHistory c → IsHistory d → AreKept (a ∷ b ∷ c ∷ d ∷ [])
four_kept a b c d ha hb hc hd = record { four = refl; histories = of_four (λ s rows. IsHistory rows) a b c d ha hb hc hd }

-- four journals, each with as many rows as its shard told to the desks
pub shards_agree : (journals : List (List Row)) (desks : List AtDesk) → AreKept journals → OfEach (λ x. AreOwn x.number x.told) desks
    → AllStand journals desks → AllRise desks → AreDistinct (map (λ (x : AtDesk). x.number) desks)
    → length (rows_of journals 0) ≡ length (all_places 0 desks) → length (rows_of journals 1) ≡ length (all_places 1 desks)
    → length (rows_of journals 2) ≡ length (all_places 2 desks) → length (rows_of journals 3) ≡ length (all_places 3 desks)
    → Agrees journals desks
shards_agree journals desks kept own stand rise numbers first second third fourth = record {
  kept = kept;
  own = own;
  stand = stand;
  rise = rise;
  apart = λ shard below. all_apart journals shard desks (λ place x at. record { own = own place x at; stand = stand place x at; rise = rise place x at shard below }) numbers;
  as_many = λ shard rows at.
      (let four : length journals ≡ 4 = kept.four in
      let within = slice_get_within journals shard rows at in
      ap (λ o. length (unwrap_or o [])) (sym at) ∙ of_shard shard (omega (arith, within, four)));
}
  where
    of_shard : (shard : ℕ) → shard < 4 → length (rows_of journals shard) ≡ length (all_places shard desks)
    of_shard zero below = first
    of_shard (suc zero) below = second
    of_shard (suc (suc zero)) below = third
    of_shard (suc (suc (suc zero))) below = fourth
    of_shard (suc (suc (suc (suc n)))) below = absurd (omega (arith, below))
