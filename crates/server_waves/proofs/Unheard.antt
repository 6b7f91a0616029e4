-- That what is known of agents stays where they are offered a configuration.
use Rattle.std.proofs.Common.{◌≡◌, ℕ, List, [], ◌∷◌, Bool, true, false, cond, ◌&&◌, refl, ◌∙◌}
use Rattle.plain_values.specs.declared.files.AgentConfigMap.{AgentConfigMap}
use Rattle.server_core.specs.History.{Offered}
use Rattle.server_core.specs.declared.offers.Offer.{Offer}
use Rattle.server_core.specs.declared.offers.Offer.TheVariants.{Config as ConfigOffer}
use Rattle.server_core.specs.Offers.{fits_offer}
use Rattle.server_core.specs.Table.{Table, is_held, pending_at, table_after, table_with_pending, with_offer}
use Rattle.server_waves.specs.Waves.{table_offering}

-- an offer leaves what is known
stays_offered : (table : Table) (u : List ℕ) (offer : Offer) → (table_after table (Offered u offer)).records ≡ table.records
stays_offered table u offer = by_test (is_held table u && fits_offer offer)
  where
    by_test : (b : Bool) → (cond b (table_with_pending table (with_offer (pending_at table.pendings u) offer)) table).records ≡ table.records
    by_test true = refl
    by_test false = refl

-- the offers of a rollout do too
pub stays_offering : (files : AgentConfigMap) (uids : List (List ℕ)) (table : Table) → (table_offering files uids table).records ≡ table.records
stays_offering files [] table = refl
stays_offering files (u ∷ uids) table = stays_offering files uids (table_after table (Offered u (ConfigOffer files))) ∙ stays_offered table u (ConfigOffer files)
