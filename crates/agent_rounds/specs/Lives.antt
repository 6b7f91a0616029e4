-- What is left of a run is what events of the agent leave.
use Rattle.std.specs.Prelude.{◌≡◌, ◌⊎◌, List, [], ◌∷◌, Option, Some}
use Rattle.agent_rules.specs.declared.saved.Saved.{Saved}
use Rattle.agent_rules.specs.Half.{AgentHalf, kept_part}
use Rattle.agent_rules.specs.Events.{AgentEvent, AllHearOwn, agent_run}

-- what was kept at first, or one of those that followed it
abbrev pub IsOneOf : Option Saved → List Saved → Option Saved → Type 0
IsOneOf first [] part = part ≡ first
IsOneOf first (next ∷ rest) part = (part ≡ first) ⊎ IsOneOf (Some next) rest part

-- These events may happen to the agent, and then it keeps this, and has the room that it had.
pub record Leave (events : List AgentEvent) (a : AgentHalf) (part : Option Saved) : Type 0 where
  pub own : AllHearOwn events a
  pub kept : kept_part (agent_run events a) ≡ part
  pub room : (agent_run events a).room ≡ a.room

-- Whatever is left, what was kept at first or one of those kept since: events of the agent leave it.
abbrev pub EachIsLeft : AgentHalf → List Saved → Type 0
EachIsLeft a saves = (part : Option Saved) → IsOneOf (kept_part a) saves part → (events : List AgentEvent) × Leave events a part
