-- What a function refuses where only want of memory makes it fail.
use Rattle.std.proofs.Common.{ℕ}
use Rattle.std.specs.Prelude.{Result, Ok, Err}
use Rattle.message_codec.specs.declared.wire.field.Why.{Why}
use Rattle.message_codec.specs.declared.reader.items.ReadFail.{ReadFail}
use Rattle.message_codec.specs.declared.reader.items.ReadFail.TheVariants as fails
use Rattle.message_codec.specs.Read.{FailsWith}

pub never_refused : {A : Type 0} (P : ℕ → Why → Type 0) (result : Result A ReadFail) → FailsWith result (λ at why. ⊥) → FailsWith result P
never_refused P (Ok x) h = tt
never_refused P (Err fails.NoMemory) h = tt
never_refused P (Err (fails.Refused r)) h = absurd h
