use Rattle.std.proofs.Common.{◌≡◌, List, [], ◌∷◌, ◌++◌, ◌+◌, length, MatchOption, Option, option_to_list, sym, ap, refl, ◌∙◌, subst, arith}
use Rattle.edge_http.specs.declared.messages.Part.{Part}
use Rattle.edge_http.specs.Readers.{ReaderState}
use Rattle.edge_http.proofs.Feeding.{part-taken}
use Rattle.edge_http.proofs.part_reader.PartReader.part.Goals as goal

pub returns-clause-read : goal.returns-clause-read
returns-clause-read c bytes taken x =
    let i = c.self.inside in
    part-taken c.args.self.now _ bytes taken _
    (sym c.self.view_is ∙ (λ t. record { side = i.unused.side; limit = i.limit; unused = i.unused.items; stage = i.stage; ready = c.pop_front.ensures.items t; failure = i.failure })) x

empty : (xs : List Part) → length xs ≡ 0 → xs ≡ []
empty [] e = refl
empty (x ∷ xs) e = absurd (omega arith)

pub returns-clause-none : goal.returns-clause-none
returns-clause-none c e =
    let gone : length c.self.inside.ready.items ≡ 0 = sym c.self.inside.ready.ok.0 ∙ (subst (λ r. MatchOption r ((c.self.inside.ready.len ≡ 0) × (c.pop_front.new.self.len ≡ 0)) (λ _. c.pop_front.new.self.len + 1 ≡ c.self.inside.ready.len)) e c.pop_front.ensures.cases).0 in
    let i = c.self.inside in
    let was = empty c.self.inside.ready.items gone in
    let items = c.pop_front.ensures.items ∙ ap (λ (r : Option Part). option_to_list r ++ c.pop_front.new.self.items) e in (
      ap (λ (r : ReaderState). r.ready) (sym c.self.view_is) ∙ was,
      (λ t. record { side = i.unused.side; limit = i.limit; unused = i.unused.items; stage = i.stage; ready = sym items t; failure = i.failure }) ∙ c.self.view_is,
    )
