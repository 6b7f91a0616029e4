-- What is told of the agents of a rollout by sets of them.
use Rattle.std.proofs.Common.{◌≡◌, ℕ, List, [], ◌∷◌, ◌||◌, map, refl, ◌∙◌, ap}
use Rattle.server_core.specs.History.{is_among}
use Rattle.server_waves.specs.Fates.{fate_by, fate_of, members_of}
use Rattle.server_waves.specs.Waves.{Waves}
use Rattle.server_waves.specs.declared.fates.Fate.{Fate}
use Rattle.server_waves.specs.declared.fates.Member.{Member}

each_same : (f g : List ℕ → Member) → ((u : List ℕ) → f u ≡ g u) → (us : List (List ℕ)) → map f us ≡ map g us
each_same f g same [] = refl
each_same f g same (u ∷ us) = ap (λ (m : Member). m ∷ map f us) (same u) ∙ ap (λ (ms : List Member). g u ∷ ms) (each_same f g same us)

abbrev pub told : List ℕ → Fate → Member
told uid fate = record { uid = uid; fate = fate }

-- sets of the same agents tell the same
pub told_as : (waves : Waves) (offered applied failed excused : List (List ℕ)) → ((u : List ℕ) → is_among offered u ≡ is_among waves.offered u) → ((u : List ℕ) → is_among applied u ≡ is_among waves.applied u)
    → ((u : List ℕ) → is_among failed u ≡ is_among waves.failed u) → ((u : List ℕ) → is_among excused u ≡ is_among waves.excused u)
    → map (λ uid. told uid (fate_by (is_among offered uid) (is_among applied uid) (is_among failed uid || is_among excused uid))) waves.members ≡ members_of waves
told_as waves offered applied failed excused one two three four =
    each_same (λ uid. told uid (fate_by (is_among offered uid) (is_among applied uid) (is_among failed uid || is_among excused uid))) (λ uid. told uid (fate_of waves uid))
    (λ uid. ap (told uid) (
    ap (λ b. fate_by b (is_among applied uid) (is_among failed uid || is_among excused uid)) (one uid)
    ∙ ap (λ b. fate_by (is_among waves.offered uid) b (is_among failed uid || is_among excused uid)) (two uid)
    ∙ ap (λ b. fate_by (is_among waves.offered uid) (is_among waves.applied uid) (b || is_among excused uid)) (three uid)
    ∙ ap (λ b. fate_by (is_among waves.offered uid) (is_among waves.applied uid) (is_among waves.failed uid || b)) (four uid)))
    waves.members
