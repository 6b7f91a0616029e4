use Rattle.std.proofs.Common.{◌≡◌, List, [], ◌∷◌, ◌++◌, ◌+◌, length, MatchOption, Option, option_to_list, sym, ap, refl, ◌∙◌, subst, arith}
use Rattle.edge_http.specs.declared.messages.HttpMessage.{HttpMessage}
use Rattle.edge_http.specs.Polled.{PollState, poll_failure}
use Rattle.edge_http.proofs.Polling.{message-taken}
use Rattle.edge_http.proofs.poll_reader.PollReader.take.Goals as goal

empty : (xs : List HttpMessage) → length xs ≡ 0 → xs ≡ []
empty [] e = refl
empty (x ∷ xs) e = absurd (omega arith)

pub returns-clause-read : goal.returns-clause-read
returns-clause-read c bytes taken x =
    let i = c.self.inside in
    message-taken c.args.self.now _ bytes taken _
    (sym c.self.view_is ∙ (λ t. record { parts = i.parts; under_way = i.opened; ready = c.pop_front.ensures.items t; failed = i.failed })) x

pub returns-clause-none : goal.returns-clause-none
returns-clause-none c e =
    let i = c.self.inside in
    let gone : length i.ready.items ≡ 0 = sym i.ready.ok.0 ∙ (subst (λ r. MatchOption r ((i.ready.len ≡ 0) × (c.pop_front.new.self.len ≡ 0)) (λ _. c.pop_front.new.self.len + 1 ≡ i.ready.len)) e c.pop_front.ensures.cases).0 in
    let items = c.pop_front.ensures.items ∙ ap (λ (r : Option HttpMessage). option_to_list r ++ c.pop_front.new.self.items) e in (
      ap (λ (s : PollState). s.ready) (sym c.self.view_is) ∙ empty i.ready.items gone,
      (λ t. record { parts = i.parts; under_way = i.opened; ready = sym items t; failed = i.failed }) ∙ c.self.view_is,
    )

pub returns-clause-failure : goal.returns-clause-failure
returns-clause-failure c = ap poll_failure c.self.view_is
