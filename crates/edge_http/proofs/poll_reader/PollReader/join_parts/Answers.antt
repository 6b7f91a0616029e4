use Rattle.std.proofs.Common.{sym, ap, refl, ◌∙◌, subst}
use Rattle.edge_http.specs.Polled.{PollState}
use Rattle.edge_http.specs.Readers.{ReaderState}
use Rattle.edge_http.proofs.Polling.{IsJoining, joining-still, joined-on, stopped-on}
use Rattle.edge_http.proofs.poll_reader.PollReader.join_parts.Goals as goal

pub parts-init : goal.parts-init
parts-init c = joining-still c.args.self.now

pub returns-in-None : goal.returns-in-None
returns-in-None c =
    let i = c.self.inside in
    let none = c.in-None.ensures.none refl in
    let e = (λ t. record { parts = none.1 t; under_way = i.opened; ready = i.ready.items; failed = i.failed }) ∙ c.self.view_is in
    let x = subst (λ (s : PollState). IsJoining c.args.self.now s) (sym e) c.parts.invariant in
    (x.same, ap (λ (r : ReaderState). r.ready) none.1 ∙ none.0, x.joins)

pub parts-preserved : goal.parts-preserved
parts-preserved c =
    let i = c.self.inside in
    joined-on c.args.self.now c.parts.self c.join.new.self (record { parts = c.part.new.self; under_way = i.opened; ready = i.ready.items; failed = i.failed }) i.parts c.in-Some.part
    c.parts.invariant c.self.view_is c.join.ensures.same.0 c.join.ensures.same.1 c.in-Ok.ensures.joined c.in-Some.ensures.kind c.in-Some.ensures.read

pub returns-in-Err : goal.returns-in-Err
returns-in-Err c =
    let i = c.self.inside in
    stopped-on c.args.self.now c.parts.self c.join.new.self (record { parts = c.part.new.self; under_way = i.opened; ready = i.ready.items; failed = i.failed }) i.parts c.in-Err.why
    c.parts.invariant c.self.view_is c.join.ensures.same.0 c.join.ensures.same.1 c.in-Err.ensures.no_memory c.in-Some.ensures.kind
