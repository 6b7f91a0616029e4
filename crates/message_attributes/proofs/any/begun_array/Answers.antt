use Rattle.std.proofs.Common.{inl, refl}
use Rattle.message_attributes.proofs.AnyLaws.{any_array}
use Rattle.message_attributes.proofs.any.begun_array.Goals as goal

pub returns-in-Array : goal.returns-in-Array
returns-in-Array c = rw (← c.in-Array.ensures.value, any_array) (inl refl, inl refl)
