use Rattle.std.proofs.Common.{◌≡◌, ◌∙◌, ◌+◌, ◌++◌, ◌∷◌, ℕ, [], true, false, length, length-append, refl, ap, arith}
use Rattle.edge_devices.specs.Clocks.{EntropyState}
use Rattle.std.proofs.lemmas.Bool.{false≢true}
use Rattle.std.proofs.lemmas.List.Elements.{All-nil}
use Rattle.server_lines.specs.Sights.{numbers_in, sight_of}
use Rattle.server_sessions.specs.Answers.{sheet_of}
use Rattle.server_sessions.specs.Connections.{scene_at}
use Rattle.server_sessions.specs.Streams.{IsOneLine}
use Rattle.server_sessions.specs.Wiring.{view_of}
use Rattle.server_sessions.proofs.LineLemmas.{lines_on, lines_last, lines_end}
use Rattle.server_sessions.proofs.lines.serve_lines.Goals as goal

pub returns-then-not-stays-clause-serves : goal.returns-then-not-stays-clause-serves
returns-then-not-stays-clause-serves g c = λ one entropy.
    lines_last c.args.desk.now.server.profile (sight_of c.args.seen.now (numbers_in c.args.known.now.entries)) c.args.conn c.args.front.now c.args.bytes.now c.lines.front c.lines.left.now c.in-Some.line.now c.in-Some.rest.now
    (λ (d : EntropyState). scene_at (view_of (g.W.Wire.calls c.args.wire.now) (g.W.Wire.faults c.args.wire.now)) d c.args.desk.now.server.table c.args.desk.now.rollouts c.args.noted.now)
    (λ (d : EntropyState). scene_at (view_of (g.W.Wire.calls c.lines.wire) (g.W.Wire.faults c.lines.wire)) d c.lines.desk.server.table c.lines.desk.rollouts c.lines.noted)
    (λ (d : EntropyState). scene_at (view_of (g.W.Wire.calls c.serve_next-stays.new.wire) (g.W.Wire.faults c.serve_next-stays.new.wire)) d c.serve_next-stays.new.desk.server.table c.serve_next-stays.new.desk.rollouts c.serve_next-stays.new.noted)
    c.serve_next-stays.new.front (record { stays = false; stop = c.serve_next-stays.new.noted.stop })
    (c.lines.invariant.served one) c.in-Some.ensures.0 c.in-Some.ensures.1 entropy
    (rw (c.lines.invariant.profile, c.if-not-stays.true) at (c.serve_next-stays.ensures.serves entropy)) refl

pub returns-then-noted-clause-serves : goal.returns-then-noted-clause-serves
returns-then-noted-clause-serves g c = λ one entropy.
    lines_last c.args.desk.now.server.profile (sight_of c.args.seen.now (numbers_in c.args.known.now.entries)) c.args.conn c.args.front.now c.args.bytes.now c.lines.front c.lines.left.now c.in-Some.line.now c.in-Some.rest.now
    (λ (d : EntropyState). scene_at (view_of (g.W.Wire.calls c.args.wire.now) (g.W.Wire.faults c.args.wire.now)) d c.args.desk.now.server.table c.args.desk.now.rollouts c.args.noted.now)
    (λ (d : EntropyState). scene_at (view_of (g.W.Wire.calls c.lines.wire) (g.W.Wire.faults c.lines.wire)) d c.lines.desk.server.table c.lines.desk.rollouts c.lines.noted)
    (λ (d : EntropyState). scene_at (view_of (g.W.Wire.calls c.serve_next-stays.new.wire) (g.W.Wire.faults c.serve_next-stays.new.wire)) d c.serve_next-stays.new.desk.server.table c.serve_next-stays.new.desk.rollouts c.serve_next-stays.new.noted)
    c.serve_next-stays.new.front (record { stays = true; stop = c.serve_next-stays.new.noted.stop })
    (c.lines.invariant.served one) c.in-Some.ensures.0 c.in-Some.ensures.1 entropy
    (rw (c.lines.invariant.profile, c.if-not-stays.false) at (c.serve_next-stays.ensures.serves entropy)) (rw c.if-noted.true refl)

pub lines-preserved : goal.lines-preserved
lines-preserved g c =
    let it = c.lines.invariant in
    let got = c.serve_next-stays.ensures in record {
      stop = c.if-noted.false;
      opened = got.open.1 c.if-not-stays.false;
      others = λ other apart was. got.open.0 other apart (it.others other apart was);
      ended = got.ended ∙ it.ended;
      profile = got.profile ∙ it.profile;
      served = λ one.
          lines_on c.args.desk.now.server.profile (sight_of c.args.seen.now (numbers_in c.args.known.now.entries)) c.args.conn c.args.front.now c.args.bytes.now c.lines.front c.lines.left.now c.in-Some.line.now c.in-Some.rest.now
          (λ (d : EntropyState). scene_at (view_of (g.W.Wire.calls c.args.wire.now) (g.W.Wire.faults c.args.wire.now)) d c.args.desk.now.server.table c.args.desk.now.rollouts c.args.noted.now)
          (λ (d : EntropyState). scene_at (view_of (g.W.Wire.calls c.lines.wire) (g.W.Wire.faults c.lines.wire)) d c.lines.desk.server.table c.lines.desk.rollouts c.lines.noted)
          (λ (d : EntropyState). scene_at (view_of (g.W.Wire.calls c.serve_next-stays.new.wire) (g.W.Wire.faults c.serve_next-stays.new.wire)) d c.serve_next-stays.new.desk.server.table c.serve_next-stays.new.desk.rollouts c.serve_next-stays.new.noted)
          c.serve_next-stays.new.front (it.served one) c.in-Some.ensures.0 c.in-Some.ensures.1 (got.front c.if-not-stays.false)
          (λ entropy. rw (it.profile, c.if-not-stays.false, c.if-noted.false) at (got.serves entropy));
    }

pub returns-clause-serves : goal.returns-clause-serves
returns-clause-serves g c = λ one entropy.
    lines_end c.args.desk.now.server.profile (sight_of c.args.seen.now (numbers_in c.args.known.now.entries)) c.args.conn c.args.front.now c.args.bytes.now c.lines.front c.lines.left.now c.lines.left.now c.lines.left.now
    (λ (d : EntropyState). scene_at (view_of (g.W.Wire.calls c.args.wire.now) (g.W.Wire.faults c.args.wire.now)) d c.args.desk.now.server.table c.args.desk.now.rollouts c.args.noted.now)
    (λ (d : EntropyState). scene_at (view_of (g.W.Wire.calls c.lines.wire) (g.W.Wire.faults c.lines.wire)) d c.lines.desk.server.table c.lines.desk.rollouts c.lines.noted)
    (λ (d : EntropyState). scene_at (view_of (g.W.Wire.calls c.keep_rest.new.wire) (g.W.Wire.faults c.keep_rest.new.wire)) d c.lines.desk.server.table c.lines.desk.rollouts c.lines.noted)
    c.keep_rest.new.front c.keep_rest.result c.lines.noted.stop c.lines.invariant.stop (c.lines.invariant.served one) c.in_default.ensures entropy
    (c.keep_rest.ensures.serves c.args.desk.now.server.profile (sheet_of entropy c.lines.desk.server.table c.lines.desk.rollouts c.lines.noted)) c.keep_rest.ensures.front

pub lines-init : goal.lines-init
lines-init g c = record {
  stop = c.requires.stop;
  opened = c.requires.open;
  others = λ other apart was. was;
  ended = refl;
  profile = refl;
  served = λ one. (one, ([], refl, All-nil IsOneLine, λ entropy. (refl, refl)));
}

pub lines-smaller : goal.lines-smaller
lines-smaller g c =
    let line = c.in-Some.line.now in
    let rest = c.in-Some.rest.now in
    let more : length c.lines.left.now ≡ (length line + 1) + length rest = ap length c.in-Some.ensures.0 ∙ length-append (line ++ 10 ∷ []) rest ∙ ap (λ (n : ℕ). n + length rest) (length-append line (10 ∷ [])) in
    omega (arith, more)

-- ---- which connections are open

pub returns-then-not-stays-clause-open : goal.returns-then-not-stays-clause-open
returns-then-not-stays-clause-open g c =
    (λ other apart was. c.serve_next-stays.ensures.open.0 other apart (c.lines.invariant.others other apart was), λ stays. absurd (false≢true stays))

pub returns-then-noted-clause-open : goal.returns-then-noted-clause-open
returns-then-noted-clause-open g c =
    (λ other apart was. c.serve_next-stays.ensures.open.0 other apart (c.lines.invariant.others other apart was), λ stays. c.serve_next-stays.ensures.open.1 c.if-not-stays.false)

pub returns-clause-open : goal.returns-clause-open
returns-clause-open g c =
    (λ other apart was. c.keep_rest.ensures.open.0 other apart (c.lines.invariant.others other apart was), c.keep_rest.ensures.open.1)
