-- What a server does at its three addresses with a rollout, and what is written at its end.
use Rattle.std.specs.Prelude.{◌≡◌, ℕ, List, [], ◌∷◌, ◌++◌, Bool, true, false, if◌then◌else◌, Option, None, Some, codes}
use Rattle.std.specs.Fmt.{decimal}
use Rattle.std.specs.Option.{option_map}
use Rattle.plain_values.specs.declared.files.AgentConfigMap.{AgentConfigMap}
use Rattle.command_words.specs.declared.commands.RolloutOptions.{RolloutOptions}
use Rattle.server_core.specs.declared.offers.Offer.TheVariants.{Config as ConfigOffer}
use Rattle.server_core.specs.declared.rows.Record.{Record}
use Rattle.server_core.specs.Offers.{fits_offer}
use Rattle.server_waves.specs.declared.fates.Progress.{Progress}
use Rattle.server_waves.specs.Fates.{progress_of}
use Rattle.server_waves.specs.Register.{Rolling, find_rolling, new_rolling}
use Rattle.server_waves.specs.Waves.{Terms}
use Rattle.server_deliveries.specs.Deliveries.{pushing}
use Rattle.command_serve.specs.Serving.{Dispatch}
use Rattle.command_serve.specs.Statuses.{events_line}

-- the one file that is rolled out, with no content type
abbrev pub files_of : RolloutOptions → AgentConfigMap
files_of rollout = record { config_map = record { key = rollout.name; value = record { body = rollout.body; content_type = [] } } ∷ [] }

abbrev pub terms_of : RolloutOptions → Terms
terms_of rollout = record { files = files_of rollout; width = rollout.width; allowed = rollout.allowed }

-- the name of the rollout that the words ask for
unfoldable pub main_name : List ℕ
main_name = codes "main"

abbrev pub halt_word : Bool → List ℕ
halt_word halted = if halted then codes " halted" else []

-- the line `rollout waiting A offered B applied C failed D`, with ` halted` where the rollout is halted
unfoldable pub rollout_line : Progress → List ℕ
rollout_line progress =
    codes "rollout waiting " ++ (decimal progress.waiting ++ (codes " offered " ++ (decimal progress.offered ++ (codes " applied " ++ (decimal progress.applied
    ++ (codes " failed " ++ (decimal progress.failed ++ (halt_word progress.halted ++ 10 ∷ []))))))))

-- what is written at the end of a run of so many events
abbrev pub rollout_lines : ℕ → Progress → List ℕ
rollout_lines n progress = events_line n ++ rollout_line progress

-- what is written at the end of a run of so many events: their number, and how far the rollout is, if there is one
abbrev pub lines_of : ℕ → Option Progress → List ℕ
lines_of n None = events_line n
lines_of n (Some progress) = rollout_lines n progress

-- how far the rollout of the name that is told is, if one is told and it is there
abbrev pub progress_in : Option (List ℕ) → List Rolling → Option Progress
progress_in None rollouts = None
progress_in (Some id) rollouts = option_map (λ r. progress_of r.waves) (find_rolling rollouts id)

-- The rollout that is asked for is told, if one is.
abbrev pub told_of : Option RolloutOptions → Option (List ℕ)
told_of rollout = option_map (λ r. main_name) rollout

-- The offer of the rollout that is asked for is too large, or within the limit; without one it is.
abbrev pub IsTooLarge : Option RolloutOptions → Type 0
IsTooLarge None = ⊥
IsTooLarge (Some rollout) = fits_offer (ConfigOffer (files_of rollout)) ≡ false

abbrev pub Fits : Option RolloutOptions → Type 0
Fits None = Unit {0}
Fits (Some rollout) = fits_offer (ConfigOffer (files_of rollout)) ≡ true

-- the rollouts where a run begins: the one that is asked for, which is for all agents and which none has joined, if one is
abbrev pub rollouts_of : Option RolloutOptions → List Rolling
rollouts_of None = []
rollouts_of (Some rollout) = new_rolling main_name None (terms_of rollout) ∷ []

-- by what offers are made and delivered there; where they are pushed no connection reaches an agent yet
abbrev pub asked_for : (Record → Bool) → Option RolloutOptions → Bool → Dispatch
asked_for fine rollout push = record { rollouts = rollouts_of rollout; delivered = record { fine = fine; routes = pushing push } }
