-- Why rounds end for want of numbers or of room, and that all of them were done.
use Rattle.std.specs.Prelude.{◌≡◌, ◌⊎◌, ℕ, zero, suc, ◌<◌, List, Option, true, false, Some, Ok, Err}
use Rattle.message_values.specs.declared.custom.CustomCapabilities.{CustomCapabilities}
use Rattle.message_values.specs.declared.custom.CustomMessage.{CustomMessage}
use Rattle.message_values.specs.declared.reply.ServerToAgent.{ServerToAgent}
use Rattle.agent_rules.specs.Reports.{message_of, fits_message}
use Rattle.agent_rules.specs.Half.{entry_of}
use Rattle.agent_rules.specs.Keeping.{Report, fits}
use Rattle.agent_rules.specs.Calls.{has_number}
use Rattle.agent_state.specs.View.{AgentView}
use Rattle.agent_rounds.specs.declared.ends.AgentEnd.{AgentEnd}
use Rattle.agent_rounds.specs.declared.ends.AgentEnd.TheVariants.{NumbersSpent, TooLarge}
use Rattle.agent_rounds.specs.Stages.{Stage, IsSpentOf}
use Rattle.agent_rounds.specs.Rounds.{Asking, AsksServer, Prepares, RoundBy, Waiting}
use Rattle.agent_rounds.specs.Replies.{DealsWithReply, EndsWith}

-- The next report is within the limits, and no number is left for it; or the block of its number is to be kept, and the store, at the last generation, has
-- no place for it.
abbrev pub ReportSpent : AgentView → Type 0
ReportSpent agent = (fits_message (message_of (entry_of agent.half)) ≡ true) × ((has_number agent.half ≡ false) ⊎ IsSpentOf agent Report)

-- The next report is too large; or there is a number for it, and its block has no room among what is kept.
abbrev pub ReportTooLarge : AgentView → Type 0
ReportTooLarge agent = (fits_message (message_of (entry_of agent.half)) ≡ false) ⊎ ((has_number agent.half ≡ true) × (fits agent.half Report ≡ false))

-- A report was asked, and what its reply asks to be kept isn't, since numbers or room are wanting.
pub record ReplyEndsBy (asking : Asking) (end : AgentEnd) (may : CustomMessage → Option CustomMessage → Type 0) (are : CustomCapabilities → Type 0) (s t : Stage) : Type 0 where
  pub bytes : List ℕ
  pub prepared : Stage
  pub prepares : Prepares are s prepared (Ok bytes)
  pub asked : Stage
  pub reply : ServerToAgent
  pub asks : asking bytes prepared asked (Ok (Some reply))
  pub deals : DealsWithReply may reply asked t (Err end)

abbrev pub ReplyTooLarge : (CustomMessage → Option CustomMessage → Type 0) → (CustomCapabilities → Type 0) → Stage → Stage → Type 0
ReplyTooLarge = ReplyEndsBy AsksServer TooLarge

abbrev pub ReplySpent : (CustomMessage → Option CustomMessage → Type 0) → (CustomCapabilities → Type 0) → Stage → Stage → Type 0
ReplySpent = ReplyEndsBy AsksServer NumbersSpent

-- So many rounds were done, and no restart was commanded.
abbrev pub RoundsDoneBy : Asking → Waiting → (CustomMessage → Option CustomMessage → Type 0) → (CustomCapabilities → Type 0) → ℕ → Stage → Stage → Type 0
RoundsDoneBy asks waits may are zero s t = t ≡ s
RoundsDoneBy asks waits may are (suc n) s t = (m : Stage) × (RoundBy asks waits may are s m (Ok false) × RoundsDoneBy asks waits may are n m t)

abbrev pub RoundsDone : (CustomMessage → Option CustomMessage → Type 0) → (CustomCapabilities → Type 0) → ℕ → Stage → Stage → Type 0
RoundsDone = RoundsDoneBy AsksServer EndsWith

-- In the round behind so many, what a reply asks to be kept isn't, since numbers or room are wanting.
pub record RunEndsBy (asks : Asking) (waits : Waiting) (end : AgentEnd) (may : CustomMessage → Option CustomMessage → Type 0) (are : CustomCapabilities → Type 0) (rounds : ℕ) (s t : Stage) : Type 0 where
  pub done : ℕ
  pub within : done < rounds
  pub last : Stage
  pub before : RoundsDoneBy asks waits may are done s last
  pub reply : ReplyEndsBy asks end may are last t

abbrev pub RunTooLarge : (CustomMessage → Option CustomMessage → Type 0) → (CustomCapabilities → Type 0) → ℕ → Stage → Stage → Type 0
RunTooLarge = RunEndsBy AsksServer EndsWith TooLarge

abbrev pub RunSpent : (CustomMessage → Option CustomMessage → Type 0) → (CustomCapabilities → Type 0) → ℕ → Stage → Stage → Type 0
RunSpent = RunEndsBy AsksServer EndsWith NumbersSpent
