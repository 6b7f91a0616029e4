use Rattle.edge_notes.proofs.PartLemmas.{text_cut}
use Rattle.edge_notes.proofs.writing.put_text.Goals as goal

pub returns-in-Err : goal.returns-in-Err
returns-in-Err g c = record {
  noted = text_cut c.args.text.now (record { taken = g.N.Sink.taken c.args.notes.now; faults = g.N.Sink.faults c.args.notes.now }) (record { taken = g.N.Sink.taken c.put.new.self; faults = g.N.Sink.faults c.put.new.self }) c.in-Err.ensures.bytes.0
      (rw c.as_bytes.ensures.value at c.in-Err.ensures.bytes.1) c.in-Err.ensures.fault;
}
