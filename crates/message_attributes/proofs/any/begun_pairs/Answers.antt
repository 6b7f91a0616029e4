use Rattle.std.proofs.Common.{inl, refl}
use Rattle.message_attributes.proofs.AnyLaws.{any_pairs}
use Rattle.message_attributes.proofs.any.begun_pairs.Goals as goal

pub returns-in-Pairs : goal.returns-in-Pairs
returns-in-Pairs c = rw (← c.in-Pairs.ensures.value, any_pairs) (inl refl, inl refl)
