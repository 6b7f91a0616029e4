-- What stands for each agent behind orders, and which of it may be read again after a stop of the machine.
--
-- An order is kept first, and stands only once that was done. So one that was answered by ok is on the shelf, and one that wasn't may be there all
-- the same: it may stand after a start, though its operator was told that it isn't kept. An order that is done settles the whole file of its agent.
use Rattle.std.specs.Prelude.{◌≡◌, ◌⊎◌, ℕ, List, [], ◌∷◌, ◌++◌, fold, Bool, true, ◌&&◌, if◌then◌else◌, Option, None, Some, is_some, IsTrue, Contains}
use Rattle.std.specs.Str.{bytes_eq}
use Rattle.server_core.specs.declared.offers.Offers.{Offers}
use Rattle.server_core.specs.Offers.{no_offers, offers_over}
use Rattle.edge_shelf.specs.Shelves.{Body, IsAmong, MayLeave, ShelfState}
use Rattle.server_kept.specs.Files.{IsUid, StandsFor, file_name}
use Rattle.server_kept.specs.Keeping.{Keeps}

-- An order that is kept: offers that are to stand for the agent, or that nothing stand for it any more; and whether that was done, without which
-- it is never answered by ok.
pub record Order : Type 0 where
  pub uid : List ℕ
  pub made : Option Offers
  pub done : Bool

-- what an order asks to stand, where this stands
abbrev pub asked : Offers → Option Offers → Offers
asked standing None = no_offers
asked standing (Some made) = offers_over standing made

-- what stands for each agent behind an order
abbrev pub standing_after : (List ℕ → Offers) → Order → List ℕ → Offers
standing_after standing order = λ uid. if bytes_eq order.uid uid && order.done then asked (standing uid) order.made else standing uid

-- an order, or a start at which this was read again to stand
pub data Event : Type 0 where
  Asked : Order → Event
  Started : (List ℕ → Offers) → Event

-- The server starts, behind a stop of the machine or of itself alone: it finds files that a stop may leave, what they stand for stands, and nothing
-- may be left that might not have been before.
pub record Starts (standing : List ℕ → Offers) (files : List ℕ → Body) (old new : ShelfState) : Type 0 where
  pub told : new.told ≡ old.told
  pub among : MayLeave old files
  pub left : (name : List ℕ) (b : Body) → IsAmong b (new.left name) → IsAmong b (old.left name)
  pub stands : (uid : List ℕ) → IsUid uid → StandsFor uid (standing uid) (files (file_name uid))

-- The orders were kept one after the other: for each, what it asks to stand was kept, or that wasn't done.
abbrev pub Runs : (List ℕ → Offers) → List Event → ShelfState → ShelfState → Type 0
Runs standing [] old new = (new.told ≡ old.told) × (new.left ≡ old.left)
Runs standing (Asked order ∷ events) old new = (mid : ShelfState)
    × IsUid order.uid × Keeps order.uid (asked (standing order.uid) order.made) order.done old mid × Runs (standing_after standing order) events mid new
Runs standing (Started again ∷ events) old new = (mid : ShelfState) × (files : List ℕ → Body) × Starts again files old mid × Runs again events mid new

-- a stop leaves this of each agent's file
abbrev pub Leaves : (List ℕ → Offers) → ShelfState → Type 0
Leaves standing shelf = (uid : List ℕ) → IsUid uid → (b : Body) → IsAmong b (shelf.left (file_name uid)) → StandsFor uid (standing uid) b

-- whether an order speaks of a kind of offer, and what it makes of it: `forget` ends each kind
abbrev pub speaks_of : {T : Type 0} → (Offers → Option T) → Option Offers → Bool
speaks_of kind None = true
speaks_of kind (Some made) = is_some (kind made)

abbrev pub value_of : {T : Type 0} → (Offers → Option T) → Option Offers → Option T
value_of kind None = None
value_of kind (Some made) = kind made

-- the last offer of a kind to an agent that was done, if any, and those asked for since that weren't
pub record Chances (T : Type 0) : Type 0 where
  pub last : Option T
  pub later : List (Option T)

abbrev pub after_order : {T : Type 0} → (Offers → Option T) → List ℕ → Chances T → Order → Chances T
after_order kind uid chances order =
    if bytes_eq order.uid uid && speaks_of kind order.made
    then (if order.done then record { last = value_of kind order.made; later = [] } else record { last = chances.last; later = chances.later ++ value_of kind order.made ∷ [] })
    else chances

-- a start changes nothing of it
abbrev pub after_event : {T : Type 0} → (Offers → Option T) → List ℕ → Chances T → Event → Chances T
after_event kind uid chances (Asked order) = after_order kind uid chances order
after_event kind uid chances (Started again) = chances

abbrev pub chances_after : {T : Type 0} → (Offers → Option T) → List ℕ → Chances T → List Event → Chances T
chances_after kind uid chances events = fold (after_event kind uid) chances events

-- it is the last that was done, or one that was asked for since
abbrev pub MayStand : {T : Type 0} → Chances T → Option T → Type 0
MayStand chances value = (value ≡ chances.last) ⊎ Contains chances.later value

-- The word kept, of one kind of offer: whenever the machine stops, what is read again for an agent is the last that was done before, or one that was
-- asked for later.
abbrev pub KeepsWord : {T : Type 0} → (Offers → Option T) → Type 0
KeepsWord kind = (standing : List ℕ → Offers) (events : List Event) (old new : ShelfState) → IsTrue old.told → Leaves standing old → Runs standing events old new
    → (files : List ℕ → Body) → MayLeave new files → (uid : List ℕ) → IsUid uid → (offers : Offers) → StandsFor uid offers (files (file_name uid))
    → MayStand (chances_after kind uid (record { last = kind (standing uid); later = [] }) events) (kind offers)

-- whenever the machine stops, each agent's file is right
abbrev pub StaysRight : Type 0
StaysRight = (standing : List ℕ → Offers) (events : List Event) (old new : ShelfState) → IsTrue old.told → Leaves standing old → Runs standing events old new
    → (files : List ℕ → Body) → MayLeave new files → (uid : List ℕ) → IsUid uid → (offers : Offers) × StandsFor uid offers (files (file_name uid))

-- what stands for each agent behind an order or a start
abbrev pub standing_behind : (List ℕ → Offers) → Event → List ℕ → Offers
standing_behind standing (Asked order) = standing_after standing order
standing_behind standing (Started again) = again

-- whether the last order to the agent was done, where this says it of those before
abbrev pub settled_behind : List ℕ → Bool → Event → Bool
settled_behind uid settled (Asked order) = if bytes_eq order.uid uid then order.done else settled
settled_behind uid settled (Started again) = settled

-- the last order to the agent was done, of whichever kind, or there was none
abbrev pub IsSettledBy : List ℕ → List Event → Type 0
IsSettledBy uid events = IsTrue (fold (settled_behind uid) true events)

-- Whenever the machine stops where the last order to an agent was done, just what stood for it stands again: nothing that was asked before comes back.
abbrev pub Settles : Type 0
Settles = (standing : List ℕ → Offers) (events : List Event) (old new : ShelfState) → IsTrue old.told → Leaves standing old → Runs standing events old new
    → (files : List ℕ → Body) → MayLeave new files → (uid : List ℕ) → IsUid uid → IsSettledBy uid events
    → StandsFor uid (fold standing_behind standing events uid) (files (file_name uid))
