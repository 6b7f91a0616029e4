use Rattle.std.proofs.Common.{◌≡◌, ◌+◌, ◌≤◌, length, Some, None, inl, inr, sym, ◌∙◌, ap, subst, arith}
use Rattle.std.specs.Prelude.{IfSome}
use Rattle.std.specs.Option.{option_map}
use Rattle.agent_store.proofs.Logs.{read-past, read-wrong, read-next, read-end}
use Rattle.agent_store.proofs.log.replay.Goals as goal
use Rattle.agent_store.proofs.log.replay.Goals.{then-loop-at-test+else-log-at-eq1, else-loop-at-test}

pub returns-in_default-clause-found : goal.returns-in_default-clause-found
returns-in_default-clause-found g c = λ image has.
    let P = g.P.Payload in
    let room : c.loop-at.at + 6 ≤ length c.args.log.now = omega (arith, c.loop-at-test.true) in
    sym (c.loop-at.invariant.rest image has ∙ read-past P.codec image c.args.start c.loop-at.at c.args.log.now (P.canonical c.loop-at.part) has room c.if-log-at-eq1.true (c.in_default.ensures.none image c.args.start has))

pub returns-in-None-clause-found : goal.returns-in-None-clause-found
returns-in-None-clause-found g c = λ image has.
    let P = g.P.Payload in
    let room : c.loop-at.at + 6 ≤ length c.args.log.now = omega (arith, c.loop-at-test.true) in
    let fields = c.in-Some.fields.now in
    let is_none : P.codec.changed (P.canonical c.loop-at.part) fields ≡ None = sym c.in_ok-next.ensures.means ∙ ap (option_map P.canonical) c.in-None.is in
    sym (c.loop-at.invariant.rest image has ∙ read-wrong P.codec image c.args.start c.loop-at.at c.args.log.now (P.canonical c.loop-at.part) has room c.if-log-at-eq1.true fields (c.in-Some.ensures.some image c.args.start has) is_none)

pub loop-at-preserved : goal.loop-at-preserved
loop-at-preserved g c =
    let P = g.P.Payload in
    let room : c.loop-at.at + 6 ≤ length c.args.log.now = omega (arith, c.loop-at-test.true) in
    let fields = c.in-Some.fields.now in
    let fits : c.loop-at.at + 5 + length fields ≤ length c.args.log.now = c.in-Some.ensures.within in
    let is_some : P.codec.changed (P.canonical c.loop-at.part) fields ≡ Some (P.canonical c.in-Some-2.next) = sym c.in_ok-next.ensures.means ∙ ap (option_map P.canonical) c.in-Some-2.is in record {
      within = omega arith;
      right = subst (λ o. IfSome o P.right) c.in-Some-2.is c.in_ok-next.ensures.right;
      typed = subst (λ o. IfSome o P.typed) c.in-Some-2.is c.in_ok-next.ensures.typed;
      rest = λ image has. c.loop-at.invariant.rest image has
          ∙ read-next P.codec image c.args.start c.loop-at.at c.args.log.now (P.canonical c.loop-at.part) has room c.if-log-at-eq1.true fields (P.canonical c.in-Some-2.next) (c.in-Some.ensures.some image c.args.start has) fits is_some;
    }

pub returns-clause-found : goal.returns-clause-found
returns-clause-found g c = λ image has.
    let P = g.P.Payload in
    sym (c.loop-at.invariant.rest image has ∙ read-end P.codec image c.args.start c.loop-at.at c.args.log.now (P.canonical c.loop-at.part) has c.loop-at.invariant.within (elim c.loop-at-test.branch [
      | then-loop-at-test+else-log-at-eq1 w ↦ inr (omega (arith, w.loop-at-test.true), w.if-log-at-eq1.false)
      | else-loop-at-test w ↦ inl (omega (arith, w.loop-at-test.false))
    ]))
