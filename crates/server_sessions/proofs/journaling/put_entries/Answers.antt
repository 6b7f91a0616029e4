use Rattle.server_sessions.proofs.JournalLemmas.{noted_all, noted_more}
use Rattle.server_sessions.proofs.journaling.put_entries.Goals as goal

pub loop-entry-preserved : goal.loop-entry-preserved
loop-entry-preserved g c =
    noted_more c.args.number c.args.entries.now c.loop-entry.entry-index _ c.entry-item.result (record { taken = g.N.Sink.taken c.args.notes.now; faults = g.N.Sink.faults c.args.notes.now })
    (record { taken = g.N.Sink.taken c.loop-entry.notes; faults = g.N.Sink.faults c.loop-entry.notes }) (record { taken = g.N.Sink.taken c.put_entry.new.notes; faults = g.N.Sink.faults c.put_entry.new.notes })
    c.loop-entry-test.true c.entry-item.is c.loop-entry.invariant c.put_entry.ensures.noted

pub returns : goal.returns
returns g c = record {
  noted = noted_all c.args.number c.args.entries.now c.loop-entry.entry-index (record { taken = g.N.Sink.taken c.args.notes.now; faults = g.N.Sink.faults c.args.notes.now })
      (record { taken = g.N.Sink.taken c.loop-entry.notes; faults = g.N.Sink.faults c.loop-entry.notes }) c.loop-entry-test.false c.loop-entry.invariant;
}
