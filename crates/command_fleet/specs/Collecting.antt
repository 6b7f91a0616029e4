-- What `fleet` writes of its input: the journals of the reports, which desks share.
use Rattle.std.specs.Prelude.{ℕ, ◌⊎◌, List, ◌++◌, take, Option, Result, Ok, Err}
use Rattle.std.specs.Io.KnownBytes.{Appends, Keeps}
use Rattle.message_values.specs.declared.report.AgentToServer.{AgentToServer}
use Rattle.command_streams.specs.declared.stop.OutputForm.TheVariants.{Frames}
use Rattle.command_streams.specs.declared.stop.Stop.{Stop}
use Rattle.command_streams.specs.declared.stop.RunFail.{RunFail}
use Rattle.command_streams.specs.declared.stop.RunFail.TheVariants.{ReadFault, WriteFault, NoMemory}
use Rattle.command_streams.specs.Output.{last_words}
use Rattle.command_fleet.specs.Reading.{ReadsReports}
use Rattle.shard_journals.specs.declared.rows.Row.{Row}
use Rattle.shard_journals.specs.Fleets.{AreJournalsOf}
use Rattle.command_fleet.specs.Output.{fleet_frames}

-- The journals are those of the reports that are read of the input up to this stop, where so many desks share them.
abbrev pub HandlesReports : ℕ → ℕ → Option (List ℕ) → Stop → List (List Row) → Type 0
HandlesReports desks budget input stop journals = (reports : List AgentToServer) × ReadsReports budget input reports stop × AreJournalsOf reports desks journals

-- the frames of the journals, and the note where reading stopped at a fault
abbrev pub fleet_output : List (List Row) → Stop → List ℕ
fleet_output journals stop = fleet_frames journals ++ last_words Frames stop

-- Writing ended before all was written: with a front of it where the sink failed, with nothing or the frames alone where memory was wanting.
abbrev pub PutsShort : Option (List ℕ) → Option (List ℕ) → List (List Row) → Stop → RunFail → Type 0
PutsShort old new journals stop ReadFault = ⊥
PutsShort old new journals stop WriteFault = (n : ℕ) × Appends old new (take n (fleet_output journals stop))
PutsShort old new journals stop NoMemory = Keeps old new ⊎ Appends old new (fleet_frames journals)

-- What was added to the output: all of it, or a front of it where the sink failed. Where memory was wanting it is nothing, or the frames alone.
abbrev pub FleetWrites : ℕ → ℕ → Option (List ℕ) → Option (List ℕ) → Option (List ℕ) → Result Stop RunFail → Type 0
FleetWrites desks budget input old new (Ok stop) = (journals : List (List Row)) × HandlesReports desks budget input stop journals × Appends old new (fleet_output journals stop)
FleetWrites desks budget input old new (Err ReadFault) = Keeps old new
FleetWrites desks budget input old new (Err WriteFault) =
    (stop : Stop) × (journals : List (List Row)) × HandlesReports desks budget input stop journals × (n : ℕ) × Appends old new (take n (fleet_output journals stop))
FleetWrites desks budget input old new (Err NoMemory) =
    Keeps old new ⊎ ((stop : Stop) × (journals : List (List Row)) × HandlesReports desks budget input stop journals × Appends old new (fleet_frames journals))
