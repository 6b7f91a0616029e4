use Rattle.std.proofs.Common.{IsTrue, sym, ◌∙◌, refl}
use Rattle.agent_store.proofs.Undamaged.{fits-never, save-never, broken-not}
use Rattle.agent_store.proofs.runs.save_all.Goals as goal

pub loop-next-init : goal.loop-next-init
loop-next-init g c = record {
  fits = c.requires.fits;
  layout = refl;
  never = λ told. fits-never g.P.Payload.codec c.args.store.now.layout (g.D.Disk.state c.args.disk.now) c.args.store.now refl c.requires.fits told;
}

pub returns-then-broken : goal.returns-then-broken
returns-then-broken g c = record {
  never = λ told.
      let before = c.loop-next.invariant.never told in
      let told_now : IsTrue (g.D.Disk.state c.loop-next.disk).told = before.told ∙ told in
      save-never g.P.Payload.codec c.args.store.now.layout (g.D.Disk.state c.args.disk.now) (g.D.Disk.state c.loop-next.disk) (g.D.Disk.state c.save.new.disk) c.loop-next.store (g.P.Payload.canonical c.next-item.result) c.loop-next.invariant.layout c.loop-next.invariant.fits told_now before (c.save.ensures.any_moment told_now);
}

pub loop-next-preserved : goal.loop-next-preserved
loop-next-preserved g c = record {
  fits = c.save.ensures.fits (broken-not c.save.result c.save.new.self.broken (sym c.broken.ensures.broken ∙ c.if-broken.false) (λ is. (c.save.ensures.fault is).1));
  layout = c.save.ensures.layout ∙ c.loop-next.invariant.layout;
  never = λ told.
      let before = c.loop-next.invariant.never told in
      let told_now : IsTrue (g.D.Disk.state c.loop-next.disk).told = before.told ∙ told in
      save-never g.P.Payload.codec c.args.store.now.layout (g.D.Disk.state c.args.disk.now) (g.D.Disk.state c.loop-next.disk) (g.D.Disk.state c.save.new.disk) c.loop-next.store (g.P.Payload.canonical c.next-item.result) c.loop-next.invariant.layout c.loop-next.invariant.fits told_now before (c.save.ensures.any_moment told_now);
}
