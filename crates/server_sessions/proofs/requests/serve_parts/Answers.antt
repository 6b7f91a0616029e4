use Rattle.std.proofs.Common.{◌∙◌, ap, refl, sym}
use Rattle.std.proofs.lemmas.Bool.{false≢true}
use Rattle.server_sessions.specs.declared.answers.stepped.Stepped.{Stepped}
use Rattle.server_sessions.specs.Wiring.{view_of}
use Rattle.server_sessions.specs.Connections.{scene_at}
use Rattle.server_sessions.proofs.ReadLemmas.{part_taken}
use Rattle.server_sessions.proofs.RequestLemmas.{parts_end, parts_last, parts_none, parts_on}
use Rattle.server_sessions.proofs.requests.serve_parts.Goals as goal

pub parts-init : goal.parts-init
parts-init g c = record {
  served = parts_none _ c.args.conn c.args.reader.now
      (scene_at (view_of (g.W.Wire.calls c.args.wire.now) (g.W.Wire.faults c.args.wire.now)) (g.E.Entropy.state c.args.entropy.now) c.args.desk.now.server.table c.args.desk.now.rollouts c.args.noted.now);
  opened = c.requires.open;
  others = λ other apart was. was;
  noted = refl;
  profile = refl;
}

pub returns-then-not-serve_part-clause-stops : goal.returns-then-not-serve_part-clause-stops
returns-then-not-serve_part-clause-stops g c = λ _.
    let it = c.parts.invariant in
    parts_last _ c.args.conn c.in-Some.part c.args.reader.now c.parts.reader (record { parts = c.part.new.self; progress = c.serve_part.new.progress })
    (scene_at (view_of (g.W.Wire.calls c.args.wire.now) (g.W.Wire.faults c.args.wire.now)) (g.E.Entropy.state c.args.entropy.now) c.args.desk.now.server.table c.args.desk.now.rollouts c.args.noted.now)
    (scene_at (view_of (g.W.Wire.calls c.parts.wire) (g.W.Wire.faults c.parts.wire)) (g.E.Entropy.state c.parts.entropy) c.parts.desk.server.table c.parts.desk.rollouts c.parts.noted)
    (scene_at (view_of (g.W.Wire.calls c.serve_part.new.wire) (g.W.Wire.faults c.serve_part.new.wire)) (g.E.Entropy.state c.serve_part.new.entropy) c.serve_part.new.desk.server.table c.serve_part.new.desk.rollouts c.serve_part.new.noted)
    it.served c.in-Some.ensures.oldest (rw (it.profile, c.if-not-serve_part.true) at c.serve_part.ensures.serves)

pub parts-preserved : goal.parts-preserved
parts-preserved g c =
    let it = c.parts.invariant in
    let got = c.serve_part.ensures in record {
      served = parts_on _ c.args.conn c.in-Some.part c.args.reader.now c.parts.reader (record { parts = c.part.new.self; progress = c.serve_part.new.progress })
          (scene_at (view_of (g.W.Wire.calls c.args.wire.now) (g.W.Wire.faults c.args.wire.now)) (g.E.Entropy.state c.args.entropy.now) c.args.desk.now.server.table c.args.desk.now.rollouts c.args.noted.now)
          (scene_at (view_of (g.W.Wire.calls c.parts.wire) (g.W.Wire.faults c.parts.wire)) (g.E.Entropy.state c.parts.entropy) c.parts.desk.server.table c.parts.desk.rollouts c.parts.noted)
          (scene_at (view_of (g.W.Wire.calls c.serve_part.new.wire) (g.W.Wire.faults c.serve_part.new.wire)) (g.E.Entropy.state c.serve_part.new.entropy) c.serve_part.new.desk.server.table c.serve_part.new.desk.rollouts c.serve_part.new.noted)
          it.served c.in-Some.ensures.oldest (part_taken c.parts.reader.parts c.part.new.self c.in-Some.part c.in-Some.ensures.read c.in-Some.ensures.kind) c.in-Some.ensures.kind.2
          (rw (it.profile, c.if-not-serve_part.false) at got.serves);
      opened = got.open.1 c.if-not-serve_part.false;
      others = λ other apart was. got.open.0 other apart (it.others other apart was);
      noted = ◌∙◌ {b = record c.parts.noted { handled = c.serve_part.new.noted.handled }} got.noted (ap (λ (s : Stepped). record s { handled = c.serve_part.new.noted.handled }) it.noted);
      profile = got.profile ∙ it.profile;
    }

pub returns-clause-serves : goal.returns-clause-serves
returns-clause-serves g c = λ _.
    (parts_end _ c.args.conn c.args.reader.now c.parts.reader
    (scene_at (view_of (g.W.Wire.calls c.args.wire.now) (g.W.Wire.faults c.args.wire.now)) (g.E.Entropy.state c.args.entropy.now) c.args.desk.now.server.table c.args.desk.now.rollouts c.args.noted.now)
    (scene_at (view_of (g.W.Wire.calls c.parts.wire) (g.W.Wire.faults c.parts.wire)) (g.E.Entropy.state c.parts.entropy) c.parts.desk.server.table c.parts.desk.rollouts c.parts.noted)
    c.parts.invariant.served (c.in_default.ensures.none refl).0).0

pub returns-then-not-serve_part-clause-serves : goal.returns-then-not-serve_part-clause-serves
returns-then-not-serve_part-clause-serves g c = λ is. absurd (false≢true is)

pub returns-then-not-serve_part-clause-taken : goal.returns-then-not-serve_part-clause-taken
returns-then-not-serve_part-clause-taken g c = λ is. absurd (false≢true is)

pub returns-then-not-serve_part-clause-ready : goal.returns-then-not-serve_part-clause-ready
returns-then-not-serve_part-clause-ready g c = λ is. absurd (false≢true is)

pub returns-then-not-serve_part-clause-failure : goal.returns-then-not-serve_part-clause-failure
returns-then-not-serve_part-clause-failure g c = λ is. absurd (false≢true is)

pub returns-then-not-serve_part-clause-open : goal.returns-then-not-serve_part-clause-open
returns-then-not-serve_part-clause-open g c = (λ other apart was. c.serve_part.ensures.open.0 other apart (c.parts.invariant.others other apart was), λ is. absurd (false≢true is))

pub returns-clause-stops : goal.returns-clause-stops
returns-clause-stops g c = λ is. absurd (false≢true (sym is))

pub returns-clause-open : goal.returns-clause-open
returns-clause-open g c = (c.parts.invariant.others, λ is. c.parts.invariant.opened)
