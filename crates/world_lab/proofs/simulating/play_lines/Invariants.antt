use Rattle.std.proofs.Common.{◌≤◌, length, take}
use Rattle.std.specs.Io.KnownBytes.{Appends}
use Rattle.world_lab.specs.Playing.{script_events, script_progress}
use Rattle.world_lab.specs.Transcripts.{transcript_of}
use Rattle.world_lab.specs.Mirrors.{Mirrors}
use Rattle.world_lab.proofs.simulating.play_lines.Given as goal

abbrev pub invariant-loop-line : goal.invariant-loop-line
invariant-loop-line g l = record {
  mirrors : Mirrors (script_progress (take l.line-index l.lines)) l.play l.servers;
  few : length (script_events (take l.line-index l.lines)) ≤ l.line-index;
  taken : Appends (g.K.Sink.taken l.fn.sink) (g.K.Sink.taken l.sink) (transcript_of (take l.line-index l.lines));
  faults : g.K.Sink.faults l.fn.sink ≤ g.K.Sink.faults l.sink;
}
