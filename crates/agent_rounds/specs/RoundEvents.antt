-- What a round is of an agent in the world: it learns what it knows of itself, it reports, and then it hears a reply or gives up.
use Rattle.std.specs.Prelude.{◌≡◌, ℕ, List, [], ◌∷◌, ◌++◌, Bool, Option, None, Some, Ok, IfSome}
use Rattle.std.specs.Option.{option_map}
use Rattle.message_values.specs.declared.custom.CustomCapabilities.{CustomCapabilities}
use Rattle.message_values.specs.declared.custom.CustomMessage.{CustomMessage}
use Rattle.message_values.specs.declared.reply.ServerToAgent.{ServerToAgent}
use Rattle.agent_rules.specs.declared.saved.Saved.{Saved}
use Rattle.agent_rules.specs.declared.rules.parts.LocalState.{LocalState}
use Rattle.agent_rules.specs.Half.{AgentHalf}
use Rattle.agent_rules.specs.Offers.{Reactions}
use Rattle.agent_rules.specs.Events.{AgentEvent, Changes, Reports, Hears, GivesUp, agent_after, agent_run, saves_in}
use Rattle.agent_rounds.specs.declared.ends.Pause.{Pause}
use Rattle.agent_rounds.specs.Replies.{DealsWith}
use Rattle.agent_rounds.specs.Rounds.{Asking, Prepares, Waiting}
use Rattle.agent_rounds.specs.Stages.{Stage}

-- a reply that was heard, with what was answered to what it asked
pub record HeardReply : Type 0 where
  pub reply : ServerToAgent
  pub reactions : Reactions

-- what came of a report
abbrev pub came_of_report : Option HeardReply → AgentEvent
came_of_report (Some heard) = Hears heard.reply heard.reactions
came_of_report None = GivesUp

-- the reply alone
abbrev pub reply_heard : Option HeardReply → Option ServerToAgent
reply_heard = option_map (λ heard. heard.reply)

-- the events of a round
abbrev pub round_events : LocalState → Option HeardReply → List AgentEvent
round_events now heard = Changes now ∷ Reports ∷ came_of_report heard ∷ []

-- what events keep, one after another
abbrev pub saves_of_events : List AgentEvent → AgentHalf → List Saved
saves_of_events [] a = []
saves_of_events (event ∷ events) a = saves_in a event ++ saves_of_events events (agent_after a event)

-- These events happen to the agent, and what they keep joins what was kept.
pub record Happens (events : List AgentEvent) (s t : Stage) : Type 0 where
  pub half : t.half ≡ agent_run events s.half
  pub keeps : t.keeps ≡ s.keeps ++ saves_of_events events s.half

-- A round's events happen up to its wait. What the agent learned is what it knew as its report was made; what it heard, if anything, is the reply that came
-- of the report's asking, to the agent, and that was dealt with.
pub record HappensBeforeWait (asks : Asking) (may : CustomMessage → Option CustomMessage → Type 0) (are : CustomCapabilities → Type 0) (pause : Pause) (s dealt t : Stage) : Type 0 where
  pub now : LocalState
  pub heard : Option HeardReply
  pub happens : Happens (round_events now heard) s t
  pub to_it : IfSome heard (λ h. h.reply.instance_uid ≡ s.half.saved.uid)
  pub prepared : Stage
  pub bytes : List ℕ
  pub prepares : Prepares are s prepared (Ok bytes)
  pub known : prepared.half.local ≡ now
  pub asked : Stage
  pub asks_it : asks bytes prepared asked (Ok (reply_heard heard))
  pub deals : DealsWith may (reply_heard heard) asked dealt (Ok pause)

-- A round's events happen, and then its wait.
pub record HappensAsRound (asks : Asking) (waits : Waiting) (may : CustomMessage → Option CustomMessage → Type 0) (are : CustomCapabilities → Type 0) (s t : Stage) : Type 0 where
  pub pause : Pause
  pub dealt : Stage
  pub round : HappensBeforeWait asks may are pause s dealt t
  pub restart : Bool
  pub waited : waits pause dealt t (Ok restart)
