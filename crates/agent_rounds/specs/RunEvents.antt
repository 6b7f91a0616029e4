-- What the rounds of a run are of an agent in the world, and what happened of the one that ended the run.
use Rattle.std.specs.Prelude.{◌≡◌, ◌<◌, ◌⊎◌, ℕ, zero, suc, List, [], ◌∷◌, ◌++◌, Option, Err}
use Rattle.message_values.specs.declared.custom.CustomCapabilities.{CustomCapabilities}
use Rattle.message_values.specs.declared.custom.CustomMessage.{CustomMessage}
use Rattle.message_values.specs.declared.reply.ServerToAgent.{ServerToAgent}
use Rattle.agent_rules.specs.declared.rules.parts.LocalState.{LocalState}
use Rattle.agent_rules.specs.Events.{AgentEvent, Changes, Reports}
use Rattle.agent_rounds.specs.declared.ends.AgentEnd.{AgentEnd}
use Rattle.agent_rounds.specs.declared.ends.AgentEnd.TheVariants.{RoundsSpent}
use Rattle.agent_rounds.specs.declared.ends.Pause.{Pause}
use Rattle.agent_rounds.specs.Parts.{MakesReport}
use Rattle.agent_rounds.specs.Replies.{DealsWith}
use Rattle.agent_rounds.specs.RoundEvents.{Happens, HappensAsRound, HappensBeforeWait, HeardReply, round_events}
use Rattle.agent_rounds.specs.Rounds.{Asking, Informs, RoundBy, Waiting}
use Rattle.agent_rounds.specs.Stages.{Stage}

-- So many rounds happened, one after another.
abbrev pub HappensInRounds : Asking → Waiting → (CustomMessage → Option CustomMessage → Type 0) → (CustomCapabilities → Type 0) → ℕ → Stage → Stage → Type 0
HappensInRounds asks waits may are zero s t = Happens [] s t
HappensInRounds asks waits may are (suc n) s t = (m : Stage) × HappensAsRound asks waits may are s m × HappensInRounds asks waits may are n m t

-- These are the events of so many rounds.
abbrev pub AreRounds : ℕ → List AgentEvent → Type 0
AreRounds zero events = events ≡ []
AreRounds (suc n) events =
    (now : LocalState) × (heard : Option HeardReply) × (more : List AgentEvent) × (events ≡ round_events now heard ++ more) × AreRounds n more

-- The round ended in one of its parts, and before that part this had happened: nothing, where it ended while the agent was informed; the agent had
-- learned what it knows of itself, where its report ended it; it had reported too, where it ended while the report was asked, or while its answer was
-- dealt with; all that happens in a round, where it ended in its wait.
abbrev pub EndsInRound : Asking → Waiting → (CustomMessage → Option CustomMessage → Type 0) → (CustomCapabilities → Type 0) → Stage → Stage → AgentEnd → Type 0
EndsInRound asks waits may are s t end =
    Informs are s t (Err end)
    ⊎ (((m : Stage) × (now : LocalState) × Happens (Changes now ∷ []) s m × MakesReport m t (Err end))
    ⊎ (((m : Stage) × (now : LocalState) × (bytes : List ℕ) × Happens (Changes now ∷ Reports ∷ []) s m × asks bytes m t (Err end))
    ⊎ (((m : Stage) × (now : LocalState) × (reply : Option ServerToAgent) × Happens (Changes now ∷ Reports ∷ []) s m × DealsWith may reply m t (Err end))
    ⊎ ((m : Stage) × (pause : Pause) × HappensBeforeWait asks may are pause s m m × waits pause m t (Err end)))))

-- A run of so many rounds at most ended without a restart command: all of them happened; or fewer did, and the next one ended the run.
abbrev pub EndsRun : Asking → Waiting → (CustomMessage → Option CustomMessage → Type 0) → (CustomCapabilities → Type 0) → ℕ → Stage → Stage → AgentEnd → Type 0
EndsRun asks waits may are left s t end =
    (HappensInRounds asks waits may are left s t × (end ≡ RoundsSpent))
    ⊎ ((n : ℕ) × (n < left) × (m : Stage) × HappensInRounds asks waits may are n s m × RoundBy asks waits may are m t (Err end))
