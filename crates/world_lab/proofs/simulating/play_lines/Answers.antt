use Rattle.std.proofs.Common.{◌≡◌, ◌∙◌, ℕ, ◌+◌, List, length, take, Result, Ok, Err, OnErr, ap, sym, subst, arith}
use Rattle.std.proofs.lemmas.List.{take_all}
use Rattle.std.specs.Io.KnownBytes.{Appends}
use Rattle.world_scripts.specs.declared.lines.Line.{Line}
use Rattle.world_lab.specs.Playing.{Progress, after_line, script_progress}
use Rattle.world_lab.specs.Transcripts.{line_written, text_of, transcript_of}
use Rattle.world_lab.specs.Mirrors.{Mirrors}
use Rattle.world_lab.proofs.Events.{line_makes}
use Rattle.world_lab.proofs.Transcript.{appends_both, appends_none, front_of_lines, front_of_next, progress_at, progress_more, transcript_more}
use Rattle.world_lab.proofs.simulating.play_lines.Goals as goal

on_err : {T E P : Type 0} (r : Result T E) → P → OnErr r P
on_err (Ok x) p = tt
on_err (Err e) p = p

pub show_line-requires : goal.show_line-requires
show_line-requires g c =
    let m = c.loop-line.invariant.mirrors in
    record {
      mirror = (progress_at c.args.lines.now c.loop-line.line-index, m);
      generations = omega (arith, m.saves, c.loop-line.invariant.few, c.loop-line-test.true, c.requires.few);
    }

pub returns-in_err-show_line-clause-prefix : goal.returns-in_err-show_line-clause-prefix
returns-in_err-show_line-clause-prefix g c =
    on_err c.from_residual.result (front_of_lines (g.K.Sink.taken c.args.sink.now) (g.K.Sink.taken c.loop-line.sink) c.args.lines.now c.loop-line.line-index c.loop-line.invariant.taken)

pub returns-in_err-put-clause-prefix : goal.returns-in_err-put-clause-prefix
returns-in_err-put-clause-prefix g c =
    let lines = c.args.lines.now in
    let i = c.loop-line.line-index in
    let line = c.line-item.result in
    let bytes : c.as_bytes.result.now ≡ text_of (line_written (progress_at lines i) line) =
    c.as_bytes.ensures.value ∙ c.in_ok-show_line.ensures.text (progress_at lines i) c.loop-line.invariant.mirrors in
    let n = c.in_err-put.ensures.bytes.0 in
    on_err c.from_residual-in_err-put.result
    (front_of_next (g.K.Sink.taken c.args.sink.now) (g.K.Sink.taken c.loop-line.sink) (g.K.Sink.taken c.put.new.self) lines i n line c.loop-line-test.true c.line-item.is c.loop-line.invariant.taken
    (subst (λ (bs : List ℕ). Appends (g.K.Sink.taken c.loop-line.sink) (g.K.Sink.taken c.put.new.self) (take n bs)) bytes c.in_err-put.ensures.bytes.1))

pub loop-line-preserved : goal.loop-line-preserved
loop-line-preserved g c =
    let lines = c.args.lines.now in
    let i = c.loop-line.line-index in
    let line = c.line-item.result in
    let old = g.K.Sink.taken c.args.sink.now in
    let now = g.K.Sink.taken c.loop-line.sink in
    let new = g.K.Sink.taken c.put.new.self in
    let bytes : c.as_bytes.result.now ≡ text_of (line_written (progress_at lines i) line) =
    c.as_bytes.ensures.value ∙ c.in_ok-show_line.ensures.text (progress_at lines i) c.loop-line.invariant.mirrors in
    let put : Appends now new (text_of (line_written (progress_at lines i) line)) = subst (λ (bs : List ℕ). Appends now new bs) bytes c.in_ok-put.ensures.bytes in
    let further = progress_more lines i line c.loop-line-test.true c.line-item.is in
    let makes = line_makes (progress_at lines i) line in
    let same : length (progress_at lines (i + 1)).events ≡ length (after_line (progress_at lines i) line).events = ap (λ (p : Progress). length p.events) further in
    record {
      mirrors = subst (λ (p : Progress). Mirrors p c.show_line.new.play c.show_line.new.servers) (sym further) (c.in_ok-show_line.ensures.mirrors (progress_at lines i) c.loop-line.invariant.mirrors);
      few = omega (arith, same, makes, c.loop-line.invariant.few);
      taken = subst (λ (t : List ℕ). Appends old new t) (sym (transcript_more lines i line c.loop-line-test.true c.line-item.is))
          (appends_both old now new (transcript_of (take i lines)) (text_of (line_written (progress_at lines i) line)) c.loop-line.invariant.taken put);
      faults = omega (arith, c.loop-line.invariant.faults, c.in_ok-put.ensures.count);
    }

pub loop-line-init : goal.loop-line-init
loop-line-init g c = record { mirrors = c.requires.opened; few = omega arith; taken = appends_none (g.K.Sink.taken c.args.sink.now); faults = omega arith }

pub returns : goal.returns
returns g c =
    let lines = c.args.lines.now in
    let all : take c.loop-line.line-index lines ≡ lines = take_all c.loop-line.line-index lines (omega (arith, c.loop-line-test.false)) in
    record {
      transcript = subst (λ (ls : List Line). Appends (g.K.Sink.taken c.args.sink.now) (g.K.Sink.taken c.loop-line.sink) (transcript_of ls)) all c.loop-line.invariant.taken;
      mirrors = subst (λ (ls : List Line). Mirrors (script_progress ls) c.loop-line.play c.loop-line.servers) all c.loop-line.invariant.mirrors;
      prefix = tt;
      write_fault = λ e. absurd (cc e);
    }
