use Rattle.edge_notes.proofs.PartLemmas.{parts_cut}
use Rattle.edge_notes.proofs.writing.put_parts.Goals as goal

pub returns-in-Err : goal.returns-in-Err
returns-in-Err g c = record {
  noted = parts_cut (λ part. part.now) c.args.parts.now c.loop-part.part-index _ (record { taken = g.N.Sink.taken c.args.notes.now; faults = g.N.Sink.faults c.args.notes.now }) (record { taken = g.N.Sink.taken c.loop-part.notes; faults = g.N.Sink.faults c.loop-part.notes })
      (record { taken = g.N.Sink.taken c.put.new.self; faults = g.N.Sink.faults c.put.new.self }) c.as_bytes.result.now c.in-Err.ensures.bytes.0 c.loop-part.invariant.0 c.loop-part.invariant.1 c.in-Err.ensures.bytes.1 c.in-Err.ensures.fault c.as_bytes.ensures.value c.loop-part-test.true;
}
