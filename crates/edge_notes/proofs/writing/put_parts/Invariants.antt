use Rattle.std.proofs.Common.{◌≤◌, take}
use Rattle.std.specs.List.{flat_map}
use Rattle.std.specs.Io.KnownBytes.{Appends}
use Rattle.edge_notes.proofs.writing.put_parts.Given as goal

abbrev pub invariant-loop-part : goal.invariant-loop-part
invariant-loop-part g l =
    Appends (g.N.Sink.taken l.fn.notes) (g.N.Sink.taken l.notes) (flat_map (λ part. part.now) (take l.part-index l.parts))
    × (g.N.Sink.faults l.fn.notes ≤ g.N.Sink.faults l.notes)
