-- The rollouts of a server, and what an operator orders of them.
use Rattle.std.specs.Prelude.{◌≡◌, ℕ, ◌≤◌, ◌<◌, List, [], ◌∷◌, ◌++◌, length, map, filter, fold, Bool, true, false, not, ◌&&◌, ◌||◌, if◌then◌else◌, Option, None, Some, is_some}
use Rattle.std.specs.List.{list_any}
use Rattle.std.specs.Str.{bytes_eq}
use Rattle.plain_values.specs.declared.files.AgentConfigMap.{AgentConfigMap}
use Rattle.message_values.specs.declared.attributes.AgentDescription.{AgentDescription}
use Rattle.message_values.specs.declared.attributes.AnyValue.{AnyValue, AnyValue-F, fold-AnyValue}
use Rattle.message_values.specs.declared.attributes.AnyValue.TheOpen as layers
use Rattle.message_values.specs.declared.attributes.KeyValue.{KeyValue}
use Rattle.server_core.specs.declared.offers.Offer.TheVariants.{Config as ConfigOffer}
use Rattle.server_core.specs.declared.rows.Record.{Record}
use Rattle.server_core.specs.Offers.{fits_offer}
use Rattle.server_core.specs.Rows.{find_row}
use Rattle.server_waves.specs.Waves.{Terms, Waves, joined, no_agents, taken_out}
use Rattle.server_waves.specs.declared.finders.Finder.{Finder}
use Rattle.server_waves.specs.declared.register.BeginFail.{BeginFail}
use Rattle.server_waves.specs.declared.register.BeginFail.TheVariants.{There, TooMany, TooLarge, NoMemory}
use Rattle.server_waves.specs.declared.register.TheConstants.{ROLLOUT_LIMIT}

-- ---- which agents a rollout is for

-- the value is this text, and no text stands inside it
abbrev pub text_layer : List ℕ → AnyValue-F Bool Bool → Bool
text_layer text (layers.Str told) = bytes_eq told text
text_layer text layers.Nothing = false
text_layer text (layers.Bool flag) = false
text_layer text (layers.Int number) = false
text_layer text (layers.Double bits) = false
text_layer text (layers.Array values) = false
text_layer text (layers.Pairs pairs) = false
text_layer text (layers.Bytes bytes) = false

abbrev pub is_text : List ℕ → AnyValue → Bool
is_text text = fold-AnyValue Bool Bool (text_layer text) (λ pair. false)

abbrev pub has_text : List ℕ → Option AnyValue → Bool
has_text text None = false
has_text text (Some told) = is_text text told

-- the attribute has this key and the text as its value
abbrev pub is_sought : Finder → KeyValue → Bool
is_sought finder pair = bytes_eq pair.key finder.key && has_text finder.value pair.value

-- the agent's description has such an attribute, identifying or not (OpAMP specification, "AgentDescription")
abbrev pub finds_in : Finder → AgentDescription → Bool
finds_in finder told =
    list_any (is_sought finder) told.identifying_attributes || list_any (is_sought finder) told.non_identifying_attributes

-- all agents are found where nothing is sought
abbrev pub is_found : Option Finder → Record → Bool
is_found None agent = true
is_found (Some finder) agent = finds_in finder agent.state.description

-- ---- the rollouts

-- a rollout: its name, which agents it is for, its terms, and where it stands
pub record Rolling : Type 0 where
  pub id : List ℕ
  pub finds : Option Finder
  pub terms : Terms
  pub waves : Waves

-- the rollout of this name
abbrev pub find_rolling : List Rolling → List ℕ → Option Rolling
find_rolling rollouts id = find_row (λ r. r.id) rollouts id

abbrev pub is_there : List Rolling → List ℕ → Bool
is_there rollouts id = is_some (find_rolling rollouts id)

-- an agent of which this is kept may join
abbrev pub with_agent : Record → Rolling → Rolling
with_agent agent rolling =
    if is_found rolling.finds agent then record rolling { waves = joined agent rolling.waves } else rolling

-- each of these agents may join, one after the other
abbrev pub with_agents : List Record → Rolling → Rolling
with_agents agents rolling = fold (λ seen agent. with_agent agent seen) rolling agents

-- a rollout that no agent has joined
abbrev pub new_rolling : List ℕ → Option Finder → Terms → Rolling
new_rolling id sought terms = record { id = id; finds = sought; terms = terms; waves = no_agents }

-- A rollout of this name begins behind the others: all agents that the server holds join, where they can.
abbrev pub with_rolling : List Record → List ℕ → Option Finder → Terms → List Rolling → List Rolling
with_rolling records id sought terms rollouts = rollouts ++ with_agents records (new_rolling id sought terms) ∷ []

-- a rollout of this name can begin with these files
pub record CanBegin (rollouts : List Rolling) (id : List ℕ) (files : AgentConfigMap) : Type 0 where
  pub new : is_there rollouts id ≡ false
  pub few : length rollouts < ROLLOUT_LIMIT
  pub fits : fits_offer (ConfigOffer files) ≡ true

-- Why it can't begin: one of its name is there; or else as many are there as may be; or else the offer is too large, or memory was wanting.
abbrev pub BeginsNot : List Rolling → List ℕ → AgentConfigMap → BeginFail → Type 0
BeginsNot rollouts id files There = is_there rollouts id ≡ true
BeginsNot rollouts id files TooMany = (is_there rollouts id ≡ false) × (ROLLOUT_LIMIT ≤ length rollouts)
BeginsNot rollouts id files TooLarge = (is_there rollouts id ≡ false) × (length rollouts < ROLLOUT_LIMIT) × (fits_offer (ConfigOffer files) ≡ false)
BeginsNot rollouts id files NoMemory = (is_there rollouts id ≡ false) × (length rollouts < ROLLOUT_LIMIT)

-- the rollout of this name stands elsewhere
abbrev pub with_waves : (Waves → Waves) → List ℕ → Rolling → Rolling
with_waves change id rolling = if bytes_eq rolling.id id then record rolling { waves = change rolling.waves } else rolling

abbrev pub changed : (Waves → Waves) → List ℕ → List Rolling → List Rolling
changed change id rollouts = map (with_waves change id) rollouts

-- the rollout of this name is taken away
abbrev pub finished : List ℕ → List Rolling → List Rolling
finished id rollouts = filter (λ r. not (bytes_eq r.id id)) rollouts

-- the agent leaves all rollouts
abbrev pub without_agent : List ℕ → Rolling → Rolling
without_agent uid rolling = record rolling { waves = taken_out uid rolling.waves }

abbrev pub all_without : List ℕ → List Rolling → List Rolling
all_without uid rollouts = map (without_agent uid) rollouts
