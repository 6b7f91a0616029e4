-- The order that words spell, as it is read word by word. The law `reading_is_spelling` says that it is the one of the
-- table of lines.
use Rattle.std.specs.Prelude.{ℕ, List, [], ◌∷◌, Bool, false, ◌&&◌, ◌||◌, Option, None, Some, if◌then◌else◌, codes}
use Rattle.std.specs.Option.{option_map, option_and_then}
use Rattle.std.specs.Str.{bytes_eq}
use Rattle.uuid.specs.Text.{parsed}
use Rattle.plain_values.specs.Pairs.{put_all}
use Rattle.server_core.specs.declared.offers.Offer.TheVariants.{Config as ConfigOffer, Packages as PackagesOffer, Connection as ConnectionOffer}
use Rattle.server_lines.specs.declared.orders.Action.{Action}
use Rattle.server_lines.specs.declared.orders.Action.TheVariants as action
use Rattle.server_lines.specs.declared.orders.Order.{Order}
use Rattle.server_lines.specs.declared.orders.Order.TheVariants as order
use Rattle.server_lines.specs.declared.orders.Question.TheVariants as question
use Rattle.server_lines.specs.declared.orders.Steering.{Steering}
use Rattle.server_lines.specs.declared.orders.Steering.TheVariants as steering
use Rattle.server_lines.specs.Words.{id_in, text_in, number_in, terms_in, finder_in, filled, files_of, packages_in, headers_in, endpoint_alone, settings_with}
use Rattle.server_waves.specs.declared.finders.Finder.{Finder}

-- what stands alone
abbrev pub alone : {T : Type 0} → T → List (List ℕ) → Option T
alone meant [] = Some meant
alone meant (word ∷ words) = None

-- the agent that is the only argument
abbrev pub only_uid : List (List ℕ) → Option (List ℕ)
only_uid (u ∷ []) = parsed u
only_uid words = None

abbrev pub config_of : List (List ℕ) → Option Action
config_of words = option_map (λ files. action.Offer (ConfigOffer files)) (files_of words)

abbrev pub connect_of : List (List ℕ) → Option Action
connect_of (url ∷ []) = Some (action.Offer (ConnectionOffer (endpoint_alone url)))
connect_of words = None

abbrev pub settings_of : List (List ℕ) → Option Action
settings_of (url ∷ n ∷ named) =
    option_and_then (λ seconds. option_map (λ headers. action.Offer (ConnectionOffer (settings_with (text_in url) seconds headers))) (headers_in named)) (number_in n)
settings_of words = None

abbrev pub packages_of : List (List ℕ) → Option Action
packages_of words = option_map (λ entries. action.Offer (PackagesOffer (put_all entries))) (filled packages_in words)

-- the action of this verb and these words behind the agent's
unfoldable pub action_with : List ℕ → List (List ℕ) → Option Action
action_with verb words =
    if bytes_eq verb (codes "config") then config_of words
    else if bytes_eq verb (codes "connect") then connect_of words
    else if bytes_eq verb (codes "settings") then settings_of words
    else if bytes_eq verb (codes "packages") then packages_of words
    else if bytes_eq verb (codes "restart") then alone action.Restart words
    else if bytes_eq verb (codes "withdraw") then alone action.Withdraw words
    else if bytes_eq verb (codes "forget") then alone action.Forget words
    else None

-- an action for the agent that is the first argument
unfoldable pub act_of : List ℕ → List (List ℕ) → Option Order
act_of verb [] = None
act_of verb (u ∷ words) = option_and_then (λ uid. option_map (λ act. order.Act uid act) (action_with verb words)) (parsed u)

-- the rollout that is the only argument
abbrev pub only_id : List (List ℕ) → Option (List ℕ)
only_id (id ∷ []) = id_in id
only_id words = None

-- a rollout of these terms, and files that these words name
abbrev pub begin_with : ℕ → ℕ → Option Finder → List (List ℕ) → Option Steering
begin_with width allowed finder named = option_map (λ files. steering.Begin width allowed finder files) (files_of named)

abbrev pub begin_where : ℕ → ℕ → List ℕ → List (List ℕ) → Option Steering
begin_where width allowed pair named = option_and_then (λ finder. begin_with width allowed (Some finder) named) (finder_in pair)

-- by the words behind its numbers
abbrev pub begin_behind : ℕ → ℕ → List (List ℕ) → Option Steering
begin_behind width allowed (word ∷ pair ∷ named) =
    if bytes_eq word (codes "where") then begin_where width allowed pair named else begin_with width allowed None (word ∷ pair ∷ named)
begin_behind width allowed words = begin_with width allowed None words

abbrev pub begin_of : List (List ℕ) → Option Steering
begin_of [] = None
begin_of (terms ∷ words) = option_and_then (λ (p : ℕ × ℕ). begin_behind p.0 p.1 words) (terms_in terms)

-- what this verb and these words behind the rollout's do with it
unfoldable pub steering_with : List ℕ → List (List ℕ) → Option Steering
steering_with verb words =
    if bytes_eq verb (codes "rollout") then begin_of words
    else if bytes_eq verb (codes "halt") then alone steering.Halt words
    else if bytes_eq verb (codes "resume") then alone steering.Resume words
    else if bytes_eq verb (codes "finish") then alone steering.Finish words
    else None

-- what is done with the rollout that is the first argument
unfoldable pub steer_of : List ℕ → List (List ℕ) → Option Order
steer_of verb [] = None
steer_of verb (id ∷ words) = option_and_then (λ name. option_map (λ done. order.Steer name done) (steering_with verb words)) (id_in id)

abbrev pub is_steering : List ℕ → Bool
is_steering verb =
    bytes_eq verb (codes "rollout") || (bytes_eq verb (codes "halt") || (bytes_eq verb (codes "resume") || bytes_eq verb (codes "finish")))

-- `left` alone
abbrev pub is_left : List (List ℕ) → Bool
is_left (word ∷ []) = bytes_eq word (codes "left")
is_left words = false

-- the order of this verb, which is no question's, and these arguments
unfoldable pub change_with : List ℕ → List (List ℕ) → Option Order
change_with verb words =
    if is_steering verb then steer_of verb words
    else if bytes_eq verb (codes "forget") && is_left words then Some order.ForgetLeft
    else act_of verb words

-- the order of this verb and these arguments
unfoldable pub order_with : List ℕ → List (List ℕ) → Option Order
order_with verb words =
    if bytes_eq verb (codes "list") then alone (order.Ask question.List) words
    else if bytes_eq verb (codes "show") then option_map (λ uid. order.Ask (question.Show uid)) (only_uid words)
    else if bytes_eq verb (codes "waits") then option_map (λ uid. order.Ask (question.Waits uid)) (only_uid words)
    else if bytes_eq verb (codes "rollouts") then alone (order.Ask question.Rollouts) words
    else if bytes_eq verb (codes "members") then option_map (λ id. order.Ask (question.Members id)) (only_id words)
    else if bytes_eq verb (codes "ages") then alone (order.Ask question.Ages) words
    else if bytes_eq verb (codes "count") then alone (order.Ask question.Count) words
    else if bytes_eq verb (codes "stop") then alone order.Stop words
    else change_with verb words

unfoldable pub order_of : List (List ℕ) → Option Order
order_of [] = None
order_of (verb ∷ words) = order_with verb words
