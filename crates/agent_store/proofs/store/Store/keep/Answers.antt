use Rattle.std.proofs.Common.{◌≡◌, ◌≤◌, length, true, false, sym, ◌∙◌, ap, subst, arith}
use Rattle.std.proofs.lemmas.Bool.{true≢false}
use Rattle.agent_store.specs.declared.slots.Side.{Side}
use Rattle.agent_store.specs.Openings.{holding}
use Rattle.agent_store.specs.Slots.{other, log_start, log_stop}
use Rattle.agent_store.specs.Store.{StoreState}
use Rattle.agent_store.proofs.Choosing.{other-other}
use Rattle.agent_store.proofs.store.Store.keep.Goals as goal

pub returns-clause-holds : goal.returns-clause-holds
returns-clause-holds g c =
    let broken : c.self.inside.broken ≡ false = ap (λ (s : StoreState). s.broken) c.self.view_is ∙ c.requires.intact in
    (λ i. record {
      layout = c.self.inside.layout;
      target = c.other-self-inside.ensures i;
      target_open = c.args.target_open;
      kept = true;
      generation = c.args.generation;
      tail = c.args.tail;
      part = c.in-Ok.ensures.bytes i;
      broken = broken i;
    }) ∙ ap (λ (s : StoreState). holding s.layout c.args.side c.args.target_open c.args.generation c.args.tail (g.P.Payload.canonical c.args.part.now)) c.self.view_is

pub invariant_of-self : goal.invariant_of-self
invariant_of-self g c = record {
  sound = record {
    from = c.self.invariant.sound.from;
    to = c.self.invariant.sound.to;
    fresh = c.self.invariant.sound.fresh;
    short = omega (arith, c.in-Err.ensures.err, c.self.invariant.sound.short);
  };
  former = omega (arith, c.self.invariant.former, c.hold.ensures.larger);
  next = c.self.invariant.next;
  entry = c.self.invariant.entry;
  small_room = c.self.invariant.small_room;
  small_log = c.self.invariant.small_log;
}

pub invariant_of-self-2 : goal.invariant_of-self-2
invariant_of-self-2 g c =
    let back : c.args.side ≡ other c.other-self-inside.result = sym (ap other c.other-self-inside.ensures ∙ other-other c.args.side) in
    let from : log_start c.self.inside.layout c.args.side ≤ c.args.tail = subst (λ (s : StoreState). log_start s.layout c.args.side ≤ c.args.tail) (sym c.self.view_is) c.requires.from in
    let to : c.args.tail ≤ log_stop c.self.inside.layout c.args.side = subst (λ (s : StoreState). c.args.tail ≤ log_stop s.layout c.args.side) (sym c.self.view_is) c.requires.to in record {
      sound = record {
        from = λ kept. subst (λ (s : Side). log_start c.self.inside.layout s ≤ c.args.tail) back from;
        to = λ kept. subst (λ (s : Side). c.args.tail ≤ log_stop c.self.inside.layout s) back to;
        fresh = λ none. absurd (true≢false none);
        short = omega (arith, ap length c.in-Ok.ensures.bytes, c.in-Ok.ensures.few);
      };
      former = omega (arith, c.self.invariant.former, c.hold.ensures.larger);
      next = c.self.invariant.next;
      entry = c.self.invariant.entry;
      small_room = c.self.invariant.small_room;
      small_log = c.self.invariant.small_log;
    }
