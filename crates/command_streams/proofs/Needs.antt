-- What bytes that are less than a frame need.
use Rattle.std.proofs.Common.{ℕ, ◌<◌, ◌≤◌, List, length, ap, arith, inl, inr}
use Rattle.std.specs.Int.{w32, to_be_bytes}
use Rattle.std.proofs.lemmas.List.{length-append}
use Rattle.command_streams.specs.Framing.{IsPartial}
use Rattle.command_streams.specs.Fronts.{Wants}

pub Wants-partial : (bytes : List ℕ) (need : ℕ) → Wants bytes need → IsPartial bytes
Wants-partial bytes need (inl short) = inl short.0
Wants-partial bytes need (inr cut) = inr (cut.0, cut.1, cut.2, cut.3, cut.4)

pub Wants-less : (bytes : List ℕ) (need : ℕ) → Wants bytes need → length bytes < need
Wants-less bytes need (inl short) = omega (arith, short.0, short.1)
Wants-less bytes need (inr cut) = omega (arith, cut.3, cut.5, ap length cut.4, length-append (to_be_bytes w32 cut.0) cut.1)

pub Wants-few : (bytes : List ℕ) (need : ℕ) → Wants bytes need → need ≤ 4194308
Wants-few bytes need (inl short) = omega (arith, short.1)
Wants-few bytes need (inr cut) =
    let few : cut.0 ≤ 4194304 = cut.2 in
    omega (arith, few, cut.5)
