-- What is rolled out, and what keeps an offer from being made.
use Rattle.std.specs.Prelude.{◌≡◌, true, false}
use Rattle.plain_values.specs.declared.files.AgentConfigMap.{AgentConfigMap}
use Rattle.server_core.specs.declared.offers.Offer.TheVariants.{Config as ConfigOffer}
use Rattle.server_core.specs.Offers.{fits_offer}
use Rattle.server_waves.specs.Waves.{Terms, hash_of}
use Rattle.server_waves.specs.declared.plans.Plan.TheInside.{Inside}
use Rattle.server_waves.specs.declared.plans.PlanFail.{PlanFail}
use Rattle.server_waves.specs.declared.plans.PlanFail.TheVariants.{TooLarge, NoMemory}

abbrev pub terms_in : Inside → Terms
terms_in a = record { files = a.config; width = a.width; allowed = a.allowed }

-- The hash is the configuration's, and its offer is within the limit.
pub record IsPlanned (a : Inside) : Type 0 where
  pub hash : a.hash ≡ hash_of (terms_in a)
  pub fits : fits_offer (ConfigOffer a.config) ≡ true

-- The offer is too large, or memory was wanting.
abbrev pub PlansNot : AgentConfigMap → PlanFail → Type 0
PlansNot files TooLarge = fits_offer (ConfigOffer files) ≡ false
PlansNot files NoMemory = Unit {0}
