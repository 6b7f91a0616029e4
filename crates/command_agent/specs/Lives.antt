-- The life of an agent over several starts: its runs, one after another.
use Rattle.std.specs.Prelude.{◌≡◌, ◌≤◌, ◌⊎◌, ℕ, List, [], ◌∷◌, Option, Some, Result, IsSome}
use Rattle.plain_values.specs.declared.files.AgentConfigMap.{AgentConfigMap}
use Rattle.message_values.specs.declared.custom.CustomMessage.{CustomMessage}
use Rattle.edge_devices.specs.Disks.{MayLeave}
use Rattle.agent_store.specs.declared.opened.Opened.TheVariants.{Kept}
use Rattle.agent_rules.specs.declared.saved.Saved.{Saved}
use Rattle.agent_rules.specs.Half.{AgentHalf, kept_part}
use Rattle.agent_rules.specs.Events.{AgentEvent, AllHearOwn, agent_run}
use Rattle.agent_rounds.specs.declared.ends.AgentEnd.{AgentEnd}
use Rattle.agent_rounds.specs.Lives.{IsOneOf}
use Rattle.agent_rounds.specs.Proving.{IsProvedConfig}
use Rattle.command_words.specs.declared.commands.AgentOptions.{AgentOptions}
use Rattle.command_agent.specs.Running.{AgentRuns, Surroundings}

-- One run: what it was started with, what surrounded it as it began and as it ended, and how it ended.
pub record Run (handlers : List (List ℕ)) (may : CustomMessage → Option CustomMessage → Type 0) : Type 0 where
  pub options : AgentOptions
  pub old : Surroundings
  pub new : Surroundings
  pub result : Result ℕ AgentEnd
  pub runs : AgentRuns handlers may options old new result

-- What may be left of a run: what was kept as it began, or one of those that it kept.
abbrev pub IsLeftBy : {handlers : List (List ℕ)} {may : CustomMessage → Option CustomMessage → Type 0} → Run handlers may → Option Saved → Type 0
IsLeftBy run part = IsOneOf (kept_part run.runs.first.half) (run.runs.rounds []).saves part

-- A crash of the run may leave this image, at some moment since its store was loaded. One that wasn't stopped left it at its last moment.
pub record LeavesImage {handlers : List (List ℕ)} {may : CustomMessage → Option CustomMessage → Type 0} (run : Run handlers may) (image : ℕ → ℕ) : Type 0 where
  pub moment : ℕ
  pub since : run.runs.loaded.moment ≤ moment
  pub until : moment ≤ run.new.disk.moment
  pub left : MayLeave (run.new.disk.history moment) image

-- The next run begins with what may be left of the one before, something that was kept. What it was told at its start may be anything. A run that finds nothing
-- kept begins another life.
pub record Follows {handlers : List (List ℕ)} {may : CustomMessage → Option CustomMessage → Type 0} (run next : Run handlers may) : Type 0 where
  pub found : Saved
  pub left : IsLeftBy run (Some found)
  pub kept : next.runs.starts.opened ≡ Kept found

-- These runs follow one another.
abbrev pub IsLife : {handlers : List (List ℕ)} {may : CustomMessage → Option CustomMessage → Type 0} → Run handlers may → List (Run handlers may) → Type 0
IsLife run [] = Unit {0}
IsLife run (next ∷ rest) = Follows run next × IsLife next rest

abbrev pub last_run : {handlers : List (List ℕ)} {may : CustomMessage → Option CustomMessage → Type 0} → Run handlers may → List (Run handlers may) → Run handlers may
last_run run [] = run
last_run run (next ∷ rest) = last_run next rest

-- Events that may happen to the agent lead from the one half to the other, and each reply in them is to it.
pub record RunsTo (a b : AgentHalf) : Type 0 where
  pub events : List AgentEvent
  pub own : AllHearOwn events a
  pub leads : agent_run events a ≡ b

-- Events lead to an agent that keeps this.
abbrev pub LeadsToKept : AgentHalf → Option Saved → Type 0
LeadsToKept a part = (b : AgentHalf) × (RunsTo a b × (kept_part b ≡ part))

-- The collector has to prove configurations in each of these runs.
abbrev pub AllProve : {handlers : List (List ℕ)} {may : CustomMessage → Option CustomMessage → Type 0} → Run handlers may → List (Run handlers may) → Type 0
AllProve run [] = IsSome run.options.prove
AllProve run (next ∷ rest) = IsSome run.options.prove × AllProve next rest

-- The collector proved this configuration in the run, under the number of a report that was made in it.
abbrev pub ProvesConfig : {handlers : List (List ℕ)} {may : CustomMessage → Option CustomMessage → Type 0} → Run handlers may → AgentConfigMap → Type 0
ProvesConfig run config = IsProvedConfig run.runs.first.half.next config run.old.folder run.new.folder

-- it did in one of these runs
abbrev pub OneProves : {handlers : List (List ℕ)} {may : CustomMessage → Option CustomMessage → Type 0} → Run handlers may → List (Run handlers may) → AgentConfigMap → Type 0
OneProves run [] config = ProvesConfig run config
OneProves run (next ∷ rest) config = ProvesConfig run config ⊎ OneProves next rest config
