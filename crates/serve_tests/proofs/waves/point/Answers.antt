use Rattle.std.proofs.Common.{◌≡◌, Bool, true, false, ◌||◌}
use Rattle.serve_tests.proofs.waves.point.Goals as goal

-- of all agents none is left out
no_candidate : (P : Type 0) (all heard : Bool) → all ≡ true → (all || heard) ≡ false → P
no_candidate P true heard is isnt = absurd (cc isnt)
no_candidate P false heard is isnt = absurd (cc is)

pub come_to_points-newly-requires : goal.come_to_points-newly-requires
come_to_points-newly-requires g c = record { current = λ hash uid there isnt. no_candidate _ _ _ (c.everyone-candidates.ensures.all uid) isnt }
