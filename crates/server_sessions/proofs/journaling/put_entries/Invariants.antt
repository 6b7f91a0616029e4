use Rattle.std.proofs.Common.{take}
use Rattle.server_sessions.specs.Journaling.{NotesEntries}
use Rattle.server_sessions.proofs.journaling.put_entries.Given as goal

abbrev pub invariant-loop-entry : goal.invariant-loop-entry
invariant-loop-entry g l =
    NotesEntries l.number (take l.entry-index l.entries) (record { taken = g.N.Sink.taken l.fn.notes; faults = g.N.Sink.faults l.fn.notes }) (record { taken = g.N.Sink.taken l.notes; faults = g.N.Sink.faults l.notes })
