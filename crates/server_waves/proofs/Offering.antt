-- Offers made one after the other.
use Rattle.std.proofs.Common.{◌≡◌, ℕ, ◌+◌, ◌≤◌, List, [], ◌∷◌, ◌++◌, take, drop, sym, ◌∙◌, ap, append_assoc}
use Rattle.std.proofs.lemmas.List.Sums.{fold-append}
use Rattle.plain_values.specs.declared.files.AgentConfigMap.{AgentConfigMap}
use Rattle.server_core.specs.History.{Offered}
use Rattle.server_core.specs.declared.offers.Offer.TheVariants.{Config as ConfigOffer}
use Rattle.server_core.specs.Table.{Table, table_after}
use Rattle.server_waves.specs.Waves.{Waves, offering, table_offering}
use Rattle.server_waves.proofs.Moves.{drop_next, drop_past, take_next, take_past}

-- one more offer
pub offering_next : (k : ℕ) (waves : Waves) → offering 1 (offering k waves) ≡ offering (k + 1) waves
offering_next k waves =
    ap (λ ws. record waves { waiting = ws; offered = (waves.offered ++ take k waves.waiting) ++ take 1 (drop k waves.waiting) }) (sym (drop_next k waves.waiting))
    ∙ ap (λ os. record waves { waiting = drop (k + 1) waves.waiting; offered = os })
    (append_assoc waves.offered (take k waves.waiting) (take 1 (drop k waves.waiting)) ∙ ap (λ us. waves.offered ++ us) (sym (take_next k waves.waiting)))

-- where none waits behind the first so many offers, more are the same
pub offering_past : (k n : ℕ) (waves : Waves) → drop k waves.waiting ≡ [] → k ≤ n → offering k waves ≡ offering n waves
offering_past k n waves none more =
    ap (λ ws. record waves { waiting = ws; offered = waves.offered ++ take k waves.waiting }) (sym (drop_past k n waves.waiting none more))
    ∙ ap (λ us. record waves { waiting = drop n waves.waiting; offered = waves.offered ++ us }) (sym (take_past k n waves.waiting none more))

-- the table then
pub table_next : (files : AgentConfigMap) (k : ℕ) (uids : List (List ℕ)) (uid : List ℕ) (table : Table) → take 1 (drop k uids) ≡ uid ∷ []
    → table_offering files (uid ∷ []) (table_offering files (take k uids) table) ≡ table_offering files (take (k + 1) uids) table
table_next files k uids uid table first =
    sym (fold-append (λ seen u. table_after seen (Offered u (ConfigOffer files))) table (take k uids) (uid ∷ []))
    ∙ ap (λ us. table_offering files us table) (ap (λ us. take k uids ++ us) (sym first) ∙ sym (take_next k uids))

pub table_past : (files : AgentConfigMap) (k n : ℕ) (uids : List (List ℕ)) (table : Table) → drop k uids ≡ [] → k ≤ n → table_offering files (take k uids) table ≡ table_offering files (take n uids) table
table_past files k n uids table none more = ap (λ us. table_offering files us table) (sym (take_past k n uids none more))
