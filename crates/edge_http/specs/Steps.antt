-- The steps of a reader of parts.
use Rattle.std.specs.Prelude.{◌≡◌, ℕ, ◌<◌, ◌≤◌, ◌⊎◌, Bool, true, false, List, [], ◌∷◌, ◌++◌, length, take, drop, Result, Ok, Err}
use Rattle.edge_heads.specs.declared.values.Side.{Side}
use Rattle.edge_heads.specs.declared.values.HttpFail.{HttpFail}
use Rattle.edge_http.specs.declared.messages.Part.{Part}
use Rattle.edge_http.specs.declared.messages.Part.TheVariants as part
use Rattle.edge_http.specs.declared.messages.Stage.{Stage}
use Rattle.edge_http.specs.declared.messages.Stage.TheVariants as stage
use Rattle.edge_heads.specs.Bodies.{IsSizeBegun, IsEndBegun, IsTrailerBegun}
use Rattle.edge_heads.specs.Heads.{IsHeadBegun}
use Rattle.edge_http.specs.Joined.{Joined, with_parts}
use Rattle.edge_http.specs.Readers.{ReaderState, StandsAt, HasFailed}

-- the numbers of a stage are within the limit
abbrev pub StageFits : ℕ → Stage → Type 0
StageFits limit stage.Head = Unit {0}
StageFits limit (stage.Sized left) = 0 < left
StageFits limit (stage.Size sum) = sum ≤ limit
StageFits limit (stage.Data left sum) = (0 < left) × (sum ≤ limit)
StageFits limit (stage.Ending sum) = sum ≤ limit
StageFits limit stage.Trailer = Unit {0}

-- The unused bytes are too few for a step at the stage.
abbrev pub Waits : Side → Stage → List ℕ → Type 0
Waits side stage.Head unused = IsHeadBegun side unused
Waits side (stage.Sized left) unused = unused ≡ []
Waits side (stage.Size sum) unused = IsSizeBegun unused
Waits side (stage.Data left sum) unused = unused ≡ []
Waits side (stage.Ending sum) unused = IsEndBegun unused
Waits side stage.Trailer unused = IsTrailerBegun unused

-- These parts were made.
pub record Makes (old new : ReaderState) (more : List Part) : Type 0 where
  pub side : new.side ≡ old.side
  pub limit : new.limit ≡ old.limit
  pub failure : new.failure ≡ old.failure
  pub ready : new.ready ≡ old.ready ++ more

-- Parts were made, and with them the reader stands for the bytes that it stood for.
pub record Moves (old new : ReaderState) : Type 0 where
  pub more : List Part
  pub makes : Makes old new more
  pub stands : (bytes : List ℕ) (joined : Joined) → StandsAt old bytes joined → StandsAt new bytes (with_parts joined more)

-- Parts were made, and then reading of the bytes failed.
pub record Stops (old new : ReaderState) (why : HttpFail) : Type 0 where
  pub more : List Part
  pub makes : Makes old new more
  pub fails : (bytes : List ℕ) (joined : Joined) → StandsAt old bytes joined → HasFailed old.side old.limit bytes (with_parts joined more).whole why

-- One step was made, which used some bytes; or what could be made of too few bytes; or reading failed.
abbrev pub StepIs : ReaderState → ReaderState → Result Bool HttpFail → Type 0
StepIs old new (Ok true) = Moves old new × (length new.unused < length old.unused)
StepIs old new (Ok false) = Moves old new × Waits new.side new.stage new.unused
StepIs old new (Err why) = Stops old new why

-- All steps that the bytes allow were made, or reading failed.
abbrev pub ReadIs : {T : Type 0} → ReaderState → ReaderState → Result T HttpFail → Type 0
ReadIs old new (Ok _) = Moves old new × Waits new.side new.stage new.unused
ReadIs old new (Err why) = Stops old new why

-- with a piece behind the unused bytes
abbrev pub with_piece : ReaderState → List ℕ → ReaderState
with_piece state piece = record state { unused = state.unused ++ piece }

-- the bytes as a part, if there are any
abbrev pub body_parts : List ℕ → List Part
body_parts [] = []
body_parts (b ∷ bytes) = part.Body (b ∷ bytes) ∷ []

-- So many of the unused bytes, and no more than `most`, became a part.
pub record Gives (old new : ReaderState) (most count : ℕ) : Type 0 where
  pub within : count ≤ length old.unused
  pub least : count ≤ most
  pub all : (count ≡ most) ⊎ (count ≡ length old.unused)
  pub unused : new.unused ≡ drop count old.unused
  pub stage : new.stage ≡ old.stage
  pub makes : Makes old new (body_parts (take count old.unused))
