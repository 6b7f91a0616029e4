-- Why a tried value was not kept.
use Rattle.std.specs.Prelude.{◌≡◌, ⊤}
use Rattle.agent_offers.specs.declared.states.NotKept.{NotKept}
use Rattle.agent_offers.specs.declared.states.NotKept.TheVariants.{Broken, TooBig, NoMemory, Spent}
use Rattle.agent_offers.specs.Offers.{Offer}

abbrev pub IsBroken : {T : Type 0} → NotKept T → Type 0
IsBroken (Broken _) = ⊤
IsBroken _ = ⊥

abbrev pub IsTooBig : {T : Type 0} → NotKept T → Type 0
IsTooBig (TooBig _) = ⊤
IsTooBig _ = ⊥

abbrev pub IsSpent : {T : Type 0} → NotKept T → Type 0
IsSpent (Spent _) = ⊤
IsSpent _ = ⊥

-- the offer is this one
abbrev pub KeepsOffer : {T : Type 0} → Offer T → NotKept T → Type 0
KeepsOffer offer (Broken broken) = broken ≡ offer
KeepsOffer offer (TooBig trying) = trying ≡ offer
KeepsOffer offer (NoMemory trying) = trying ≡ offer
KeepsOffer offer (Spent trying) = trying ≡ offer

-- The former value is what is kept, unless the device failed.
abbrev pub KeepsFormer : {T : Type 0} → Type 0 → NotKept T → Type 0
KeepsFormer kept (Broken _) = ⊤
KeepsFormer kept _ = kept
