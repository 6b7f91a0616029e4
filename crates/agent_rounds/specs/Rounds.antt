-- The rounds of a supervisor.
use Rattle.std.specs.Prelude.{◌≡◌, ℕ, zero, suc, ◌+◌, List, [], Bool, true, false, Option, None, Result, Err}
use Rattle.message_values.specs.declared.custom.CustomCapabilities.{CustomCapabilities}
use Rattle.message_values.specs.declared.custom.CustomMessage.{CustomMessage}
use Rattle.message_values.specs.declared.reply.ServerToAgent.{ServerToAgent}
use Rattle.agent_rounds.specs.declared.ends.AgentEnd.{AgentEnd}
use Rattle.agent_rounds.specs.declared.ends.Pause.{Pause}
use Rattle.agent_rounds.specs.declared.ends.AgentEnd.TheVariants.{RoundsSpent}
use Rattle.agent_rounds.specs.Stages.{Stage, Then, Gives}
use Rattle.agent_rounds.specs.Parts.{SettlesWhereDue, ReadsStatus, TellsLocal, MakesReport, HasLink, AsksReport}
use Rattle.agent_rounds.specs.Replies.{DealsWith, EndsWith}

-- what the handlers answer of an agent that has none, and their names
abbrev pub NoAnswer : CustomMessage → Option CustomMessage → Type 0
NoAnswer message answer = answer ≡ None

abbrev pub NoNames : CustomCapabilities → Type 0
NoNames names = names.capabilities ≡ []

-- The agent is informed: the area is settled where that is due, the status file is read, and the agent is told of it.
abbrev pub Informs : (CustomCapabilities → Type 0) → Stage → Stage → Result Unit AgentEnd → Type 0
Informs are = Then SettlesWhereDue (λ _. Then ReadsStatus (λ _. TellsLocal are))

-- A report is prepared: the agent is informed, and reports.
abbrev pub Prepares : (CustomCapabilities → Type 0) → Stage → Stage → Result (List ℕ) AgentEnd → Type 0
Prepares are = Then (Informs are) (λ _. MakesReport)

-- The server is asked, through a link that is dialled where none to the target is held.
abbrev pub AsksServer : List ℕ → Stage → Stage → Result (Option ServerToAgent) AgentEnd → Type 0
AsksServer bytes = Then HasLink (AsksReport bytes)

-- how a report is asked, and how a round ends
abbrev pub Asking : Type 1
Asking = List ℕ → Stage → Stage → Result (Option ServerToAgent) AgentEnd → Type 0

abbrev pub Waiting : Type 1
Waiting = Pause → Stage → Stage → Result Bool AgentEnd → Type 0

-- What follows a report: it is asked, its answer is dealt with, and the round ends with its wait.
abbrev pub AsksAndDeals : Asking → Waiting → (CustomMessage → Option CustomMessage → Type 0) → List ℕ → Stage → Stage → Result Bool AgentEnd → Type 0
AsksAndDeals asks waits may bytes = Then (asks bytes) (λ reply. Then (DealsWith may reply) waits)

-- One round that asks and waits so, of an agent whose handlers may answer so and have these names: a report is prepared and asked, its answer is dealt
-- with, and the round ends with its wait.
abbrev pub RoundBy : Asking → Waiting → (CustomMessage → Option CustomMessage → Type 0) → (CustomCapabilities → Type 0) → Stage → Stage → Result Bool AgentEnd → Type 0
RoundBy asks waits may are =
    Then (Prepares are)
    (λ bytes. Then (asks bytes)
    (λ reply. Then (DealsWith may reply)
    waits))

-- a round in which the clock waits
abbrev pub AgentRound : (CustomMessage → Option CustomMessage → Type 0) → (CustomCapabilities → Type 0) → Stage → Stage → Result Bool AgentEnd → Type 0
AgentRound = RoundBy AsksServer EndsWith

-- a restart command ends the run with the number of its round, and without one more rounds follow
abbrev pub GoesOn : ℕ → (Stage → Stage → Result ℕ AgentEnd → Type 0) → Bool → Stage → Stage → Result ℕ AgentEnd → Type 0
GoesOn done more true = Gives (done + 1)
GoesOn done more false = more

-- So many rounds at most, of which some are done.
abbrev pub RoundsBy : Asking → Waiting → (CustomMessage → Option CustomMessage → Type 0) → (CustomCapabilities → Type 0) → ℕ → ℕ → Stage → Stage → Result ℕ AgentEnd → Type 0
RoundsBy asks waits may are zero done s t result = (t ≡ s) × (result ≡ Err RoundsSpent)
RoundsBy asks waits may are (suc left) done s t result =
    Then (RoundBy asks waits may are) (GoesOn done (RoundsBy asks waits may are left (done + 1))) s t result

abbrev pub AgentRounds : (CustomMessage → Option CustomMessage → Type 0) → (CustomCapabilities → Type 0) → ℕ → ℕ → Stage → Stage → Result ℕ AgentEnd → Type 0
AgentRounds = RoundsBy AsksServer EndsWith
