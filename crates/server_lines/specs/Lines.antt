-- The lines by which an operator orders. Words stand in them with one blank between each two.
use Rattle.std.specs.Prelude.{◌≡◌, ◌⊎◌, ℕ, List, [], ◌∷◌, Bool, false, Option, None, Some, IsTrue, IsUtf8, codes}
use Rattle.std.specs.List.{list_all}
use Rattle.std.specs.Str.{bytes_eq}
use Rattle.uuid.specs.Text.{parsed}
use Rattle.plain_values.specs.Pairs.{put_all}
use Rattle.plain_values.specs.declared.headers.Header.{Header}
use Rattle.plain_values.specs.declared.maps.Pair.{Pair}
use Rattle.message_values.specs.declared.packages.PackageAvailable.{PackageAvailable}
use Rattle.server_core.specs.declared.offers.Offer.TheVariants.{Config as ConfigOffer, Packages as PackagesOffer, Connection as ConnectionOffer}
use Rattle.server_lines.specs.declared.orders.Action.{Action}
use Rattle.server_lines.specs.declared.orders.Action.TheVariants as action
use Rattle.server_lines.specs.declared.orders.Order.{Order}
use Rattle.server_lines.specs.declared.orders.Order.TheVariants as order
use Rattle.server_lines.specs.declared.orders.Question.{Question}
use Rattle.server_lines.specs.declared.orders.Question.TheVariants as question
use Rattle.server_lines.specs.declared.orders.Steering.{Steering}
use Rattle.server_lines.specs.declared.orders.Steering.TheVariants as steering
use Rattle.server_lines.specs.Words.{words_in, is_word, is_id, text_in, number_in, terms_in, finder_in, filled, files_of, packages_in, headers_in, endpoint_alone, settings_with}
use Rattle.server_waves.specs.declared.finders.Finder.{Finder}

-- The table of lines, in four parts. UID is an identifier in any of its text forms: 32 hexadecimal digits, the hyphenated form
-- (RFC 9562, section 4), that form in braces, or behind `urn:uuid:`. Of a file or a package that is named twice the last counts.

-- these words ask this
abbrev pub SpellsQuestion : List (List ℕ) → Question → Type 0
SpellsQuestion words question.List = words ≡ codes "list" ∷ []
SpellsQuestion words (question.Show uid) = (u : List ℕ) × (words ≡ codes "show" ∷ u ∷ []) × (parsed u ≡ Some uid)
SpellsQuestion words (question.Waits uid) = (u : List ℕ) × (words ≡ codes "waits" ∷ u ∷ []) × (parsed u ≡ Some uid)
SpellsQuestion words question.Rollouts = words ≡ codes "rollouts" ∷ []
SpellsQuestion words (question.Members id) = (words ≡ codes "members" ∷ id ∷ []) × IsTrue (is_id id)
SpellsQuestion words question.Ages = words ≡ codes "ages" ∷ []
SpellsQuestion words question.Count = words ≡ codes "count" ∷ []

-- this verb, with these words behind the agent's UID, does this
abbrev pub SpellsAction : List ℕ → List (List ℕ) → Action → Type 0
SpellsAction verb words (action.Offer (ConfigOffer files)) = (verb ≡ codes "config") × (files_of words ≡ Some files)
SpellsAction verb words (action.Offer (PackagesOffer packages)) =
    (entries : List (Pair PackageAvailable))
    × (verb ≡ codes "packages") × (filled packages_in words ≡ Some entries) × (packages ≡ put_all entries)
SpellsAction verb words (action.Offer (ConnectionOffer settings)) =
    ((url : List ℕ) × (verb ≡ codes "connect") × (words ≡ url ∷ []) × (settings ≡ endpoint_alone url))
    ⊎ ((url : List ℕ) × (n : List ℕ) × (named : List (List ℕ)) × (seconds : ℕ) × (headers : List Header)
    × (verb ≡ codes "settings") × (words ≡ url ∷ n ∷ named) × (number_in n ≡ Some seconds) × (headers_in named ≡ Some headers)
    × (settings ≡ settings_with (text_in url) seconds headers))
SpellsAction verb words action.Restart = (verb ≡ codes "restart") × (words ≡ [])
SpellsAction verb words action.Withdraw = (verb ≡ codes "withdraw") × (words ≡ [])
SpellsAction verb words action.Forget = (verb ≡ codes "forget") × (words ≡ [])

-- the first word is `where`
abbrev pub opens_where : List (List ℕ) → Bool
opens_where [] = false
opens_where (word ∷ words) = bytes_eq word (codes "where")

-- WHERE, which is nothing or `where KEY=VALUE`, and these words behind it: a first word `where` is always WHERE's
abbrev pub SpellsWhere : List (List ℕ) → Option Finder → List (List ℕ) → Type 0
SpellsWhere words None behind = (words ≡ behind) × (opens_where behind ≡ false)
SpellsWhere words (Some finder) behind = (pair : List ℕ) × (words ≡ codes "where" ∷ pair ∷ behind) × (finder_in pair ≡ Some finder)

-- this verb, with these words behind the rollout's ID, does this with it
abbrev pub SpellsSteering : List ℕ → List (List ℕ) → Steering → Type 0
SpellsSteering verb words (steering.Begin width allowed finder files) =
    (terms : List ℕ) × (behind : List (List ℕ)) × (named : List (List ℕ))
    × (verb ≡ codes "rollout") × (words ≡ terms ∷ behind) × (terms_in terms ≡ Some (width, allowed))
    × SpellsWhere behind finder named × (files_of named ≡ Some files)
SpellsSteering verb words steering.Halt = (verb ≡ codes "halt") × (words ≡ [])
SpellsSteering verb words steering.Resume = (verb ≡ codes "resume") × (words ≡ [])
SpellsSteering verb words steering.Finish = (verb ≡ codes "finish") × (words ≡ [])

-- these words order this
unfoldable pub SpellsOrder : List (List ℕ) → Order → Type 0
SpellsOrder words (order.Ask asked) = SpellsQuestion words asked
SpellsOrder words (order.Act uid act) =
    (verb : List ℕ) × (u : List ℕ) × (behind : List (List ℕ)) × (words ≡ verb ∷ u ∷ behind) × (parsed u ≡ Some uid) × SpellsAction verb behind act
SpellsOrder words (order.Steer id done) =
    (verb : List ℕ) × (behind : List (List ℕ)) × (words ≡ verb ∷ id ∷ behind) × IsTrue (is_id id) × SpellsSteering verb behind done
SpellsOrder words order.ForgetLeft = words ≡ codes "forget" ∷ codes "left" ∷ []
SpellsOrder words order.Stop = words ≡ codes "stop" ∷ []

-- the line orders this: it is UTF-8, and its words, none of which is empty, are those of the order
pub record MeansOrder (line : List ℕ) (ordered : Order) : Type 0 where
  pub utf8 : IsUtf8 line
  pub filled : IsTrue (list_all is_word (words_in line))
  pub spelled : SpellsOrder (words_in line) ordered

-- the line orders nothing
abbrev pub IsNoOrder : List ℕ → Type 0
IsNoOrder line = (ordered : Order) → MeansOrder line ordered → ⊥
