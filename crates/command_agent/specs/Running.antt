-- What an agent does from its start to its end.
use Rattle.std.specs.Prelude.{◌≡◌, ◌⊎◌, ℕ, Bool, true, false, List, [], Option, Result, Ok, Err, IsSome, IsTrue}
use Rattle.message_values.specs.declared.custom.CustomMessage.{CustomMessage}
use Rattle.edge_devices.specs.Clocks.{ClockState, EntropyState}
use Rattle.edge_devices.specs.Dialers.{DialerState}
use Rattle.edge_devices.specs.Disks.{DiskState}
use Rattle.edge_devices.specs.Faults.{HasRisen}
use Rattle.edge_devices.specs.Folders.{FolderState}
use Rattle.agent_rules.specs.declared.saved.Saved.{Saved}
use Rattle.message_handlers.specs.Names.{IsOrdered}
use Rattle.agent_state.specs.View.{AgentView}
use Rattle.agent_rounds.specs.declared.ends.AgentEnd.{AgentEnd}
use Rattle.agent_rounds.specs.declared.ends.AgentEnd.TheVariants.{StoreFault, FolderFault, ClockFault, RoundsSpent, NumbersSpent, TooLarge, NoMemory}
use Rattle.agent_rounds.specs.Area.{LeavesConfig}
use Rattle.agent_rounds.specs.Ends.{ReportSpent, ReportTooLarge, RoundsDoneBy, RunEndsBy}
use Rattle.agent_rounds.specs.Proving.{LeavesFormerOrProved}
use Rattle.agent_rounds.specs.Moments.{Leads, Moment, nothing_held, stage_at}
use Rattle.agent_rounds.specs.Listening.{AsksQuietServer, ListensWith}
use Rattle.agent_rounds.specs.Replies.{EndsWith}
use Rattle.agent_rounds.specs.Rounds.{Asking, AsksServer, RoundsBy, Waiting}
use Rattle.agent_rounds.specs.Status.{HeldView}
use Rattle.command_agent.specs.declared.endings.Ending.{Ending}
use Rattle.command_agent.specs.declared.endings.Ending.TheVariants as endings
use Rattle.command_words.specs.declared.commands.AgentOptions.{AgentOptions}
use Rattle.command_agent.specs.Starting.{FindsDamage, IsUnwritten, LacksUid, Starts}

-- what surrounds an agent
pub record Surroundings : Type 0 where
  pub disk : DiskState
  pub folder : FolderState
  pub dialer : DialerState
  pub clock : ClockState
  pub entropy : EntropyState

-- No round was begun.
pub record NotBegun (old new : Surroundings) : Type 0 where
  pub unwritten : IsUnwritten old.disk new.disk
  pub rest : new ≡ record old { disk = new.disk; entropy = new.entropy }

-- the moment at which the rounds of an agent begin that started so, and the one at their end
abbrev pub first_moment : AgentOptions → Surroundings → DiskState → AgentView → Moment
first_moment options old loaded first = record { agent = first; held = nothing_held options.prove; disk = loaded; folder = old.folder; dialer = old.dialer; clock = old.clock }

abbrev pub last_moment : Surroundings → AgentView → HeldView → Moment
last_moment new last held = record { agent = last; held = held; disk = new.disk; folder = new.folder; dialer = new.dialer; clock = new.clock }

-- how the rounds of an agent ask and wait, by whether it heeds what comes unasked
abbrev pub asking_of : Bool → Asking
asking_of true = AsksQuietServer
asking_of false = AsksServer

abbrev pub waiting_of : Bool → Waiting
waiting_of true = ListensWith
waiting_of false = EndsWith

-- An agent's run: it starts on its disk, and then come so many rounds at most, of an agent whose handlers have these names and may answer so. Whatever a
-- crash leaves meanwhile stands for what was kept at first, or for something that was kept since; where the collector proves configurations that has the first
-- configuration, or one that the collector proved in the run. Behind the last round the area has the files of the agent's configuration and no others, or a
-- settling of it is due, with which the next start begins; unless the disk failed. Of a folder that tells its files.
pub record AgentRuns (handlers : List (List ℕ)) (may : CustomMessage → Option CustomMessage → Type 0) (options : AgentOptions) (old new : Surroundings) (result : Result ℕ AgentEnd) : Type 0 where
  pub loaded : DiskState
  pub first : AgentView
  pub starts : Starts handlers options old.disk loaded old.entropy new.entropy first
  pub last : AgentView
  pub held : HeldView
  pub rounds : Leads (RoundsBy (asking_of options.push) (waiting_of options.push) may (λ names. IsOrdered handlers names.capabilities) options.rounds 0)
      (first_moment options old loaded first) (last_moment new last held) result
  pub proved : IsSome options.prove → LeavesFormerOrProved (first_moment options old loaded first) new.disk new.folder
  pub configuration : IsTrue old.folder.told → LeavesConfig (stage_at (first_moment options old loaded first) []) (stage_at (last_moment new last held) []) result

-- In one of its rounds, what a reply asked to be kept wasn't kept, since numbers or room were wanting.
abbrev pub ReplyEndsRun : AgentEnd → (List (List ℕ)) → (CustomMessage → Option CustomMessage → Type 0) → AgentOptions → Moment → (HeldView → Moment) → Type 0
ReplyEndsRun end handlers may options first last = (held : HeldView) × (saves : List Saved)
    × RunEndsBy (asking_of options.push) (waiting_of options.push) end may (λ names. IsOrdered handlers names.capabilities) options.rounds (stage_at first []) (stage_at (last held) saves)

-- Its rounds ended where no number was left for the next report, which was within the limits; or where no generation of the store was left for its number
-- or for what a reply asked to be kept.
abbrev pub RunsOutOfNumbers : List (List ℕ) → (CustomMessage → Option CustomMessage → Type 0) → AgentOptions → Surroundings → Surroundings → Type 0
RunsOutOfNumbers handlers may options old new = (run : AgentRuns handlers may options old new (Err NumbersSpent))
    × (ReportSpent run.last ⊎ ReplyEndsRun NumbersSpent handlers may options (first_moment options old run.loaded run.first) (last_moment new run.last))

-- All its rounds were done, and no restart was commanded.
abbrev pub DoesAllRounds : List (List ℕ) → (CustomMessage → Option CustomMessage → Type 0) → AgentOptions → Surroundings → Surroundings → Type 0
DoesAllRounds handlers may options old new = (run : AgentRuns handlers may options old new (Err RoundsSpent))
    × (held : HeldView) × (saves : List Saved) × RoundsDoneBy (asking_of options.push) (waiting_of options.push) may (λ names. IsOrdered handlers names.capabilities) options.rounds
    (stage_at (first_moment options old run.loaded run.first) []) (stage_at (last_moment new run.last held) saves)

-- Its rounds ended where the next report was too large, or there was a number for it and its block had no room among what is kept; or where what a reply
-- asked to be kept had none.
abbrev pub RunsOutOfRoom : List (List ℕ) → (CustomMessage → Option CustomMessage → Type 0) → AgentOptions → Surroundings → Surroundings → Type 0
RunsOutOfRoom handlers may options old new = (run : AgentRuns handlers may options old new (Err TooLarge))
    × (ReportTooLarge run.last ⊎ ReplyEndsRun TooLarge handlers may options (first_moment options old run.loaded run.first) (last_moment new run.last))

-- The run ended so.
abbrev pub EndsSo : List (List ℕ) → (CustomMessage → Option CustomMessage → Type 0) → AgentOptions → Surroundings → Surroundings → Ending → Type 0
EndsSo handlers may options old new (endings.Restarted round) = AgentRuns handlers may options old new (Ok round)
EndsSo handlers may options old new endings.RoundsSpent = DoesAllRounds handlers may options old new
EndsSo handlers may options old new (endings.Damaged slot) = FindsDamage old.disk new.disk slot × (new ≡ record old { disk = new.disk })
EndsSo handlers may options old new endings.StoreFault = NotBegun old new ⊎ AgentRuns handlers may options old new (Err StoreFault)
EndsSo handlers may options old new endings.OutsideFault =
    (LacksUid old.disk new.disk old.entropy new.entropy × NotBegun old new)
    ⊎ (AgentRuns handlers may options old new (Err FolderFault) ⊎ AgentRuns handlers may options old new (Err ClockFault))
EndsSo handlers may options old new endings.NumbersSpent = RunsOutOfNumbers handlers may options old new
EndsSo handlers may options old new endings.TooLarge = RunsOutOfRoom handlers may options old new
EndsSo handlers may options old new endings.NoMemory = NotBegun old new ⊎ AgentRuns handlers may options old new (Err NoMemory)

-- The source of random bytes failed where the identifier of a fresh store was drawn, the folder at the first settling, or the clock at a wait; its count rose.
abbrev pub FailsOutside : List (List ℕ) → (CustomMessage → Option CustomMessage → Type 0) → AgentOptions → Surroundings → Surroundings → Type 0
FailsOutside handlers may options old new =
    (LacksUid old.disk new.disk old.entropy new.entropy × HasRisen old.entropy.faults new.entropy.faults)
    ⊎ ((AgentRuns handlers may options old new (Err FolderFault) × HasRisen old.folder.faults new.folder.faults)
    ⊎ (AgentRuns handlers may options old new (Err ClockFault) × HasRisen old.clock.faults new.clock.faults))
