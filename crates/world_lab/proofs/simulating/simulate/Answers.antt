use Rattle.std.proofs.Common.{◌≡◌, List, ap, sym, subst, arith}
use Rattle.std.specs.Io.KnownBytes.{Appends}
use Rattle.server_core.specs.Served.{Served}
use Rattle.world_lab.specs.Playing.{first_progress, script_progress}
use Rattle.world_lab.specs.Transcripts.{transcript_of}
use Rattle.world_lab.specs.Labs.{AppendsFrontOf, lab_state, played}
use Rattle.world_lab.specs.Mirrors.{Mirrors}
use Rattle.world_lab.proofs.simulating.simulate.Goals as goal

pub play_lines-requires : goal.play_lines-requires
play_lines-requires g c = record {
  opened = subst (λ (ss : List Served). Mirrors first_progress c.in_ok-play.play ss) (sym (ap (λ s. s.servers) c.lab.view_is)) c.in_ok-play.ensures.opened;
  few = omega (arith, c.lines-lines.ensures.few);
}

pub returns-in-Err-clause-prefix : goal.returns-in-Err-clause-prefix
returns-in-Err-clause-prefix g c =
    subst (λ lines. AppendsFrontOf (g.K.Sink.taken c.args.sink.now) (g.K.Sink.taken c.play_lines.new.sink) (transcript_of lines)) c.lines-lines.ensures.value c.in-Err.ensures.prefix

pub returns-in-Err-clause-write_fault : goal.returns-in-Err-clause-write_fault
returns-in-Err-clause-write_fault g c = c.in-Err.ensures.write_fault

pub returns-in-Ok-clause-played : goal.returns-in-Ok-clause-played
returns-in-Ok-clause-played g c =
    subst (λ lines. lab_state c.end.new.lab ≡ played lines) c.lines-lines.ensures.value (c.end.ensures.left (script_progress c.lines-lines.result.now) c.in-Ok.ensures.mirrors)

pub returns-in-Ok-clause-transcript : goal.returns-in-Ok-clause-transcript
returns-in-Ok-clause-transcript g c =
    subst (λ lines. Appends (g.K.Sink.taken c.args.sink.now) (g.K.Sink.taken c.play_lines.new.sink) (transcript_of lines)) c.lines-lines.ensures.value c.in-Ok.ensures.transcript

pub returns-in-Err-clause-transcript : goal.returns-in-Err-clause-transcript
returns-in-Err-clause-transcript g c = tt

pub returns-in-Err-clause-played : goal.returns-in-Err-clause-played
returns-in-Err-clause-played g c = tt

pub returns-in-Ok-clause-prefix : goal.returns-in-Ok-clause-prefix
returns-in-Ok-clause-prefix g c = tt

pub returns-in-Ok-clause-write_fault : goal.returns-in-Ok-clause-write_fault
returns-in-Ok-clause-write_fault g c = λ fault. cc
