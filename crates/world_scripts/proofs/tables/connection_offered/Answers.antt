use Rattle.std.proofs.Common.{◌≡◌, sym, ap, ◌∙◌, rules}
use Rattle.std.specs.Option.{option_map, option_and_then}
use Rattle.std.specs.Bool.{then_some}
use Rattle.std.proofs.lemmas.Result.{IfOk-from_err}
use Rattle.world_scripts.specs.declared.lines.Line.TheVariants.{OfferConnection}
use Rattle.world_scripts.specs.Words.{is_url}
use Rattle.world_scripts.proofs.TableLemmas.{mapped, map_then_some}
use Rattle.world_scripts.proofs.tables.connection_offered.Goals as goal

pub returns : goal.returns
returns c =
    let url = c.args.url.now in
    let h : c.map.result ≡ option_map (λ u. OfferConnection c.in-Some.server u) c.in_ok-url.url = mapped c.in_ok-url.url c.map.result _ _ c.map.ensures.cases (λ x y p. search rules) in
    h ∙ ap (option_map (λ u. OfferConnection c.in-Some.server u)) c.in_ok-url.ensures.url ∙ map_then_some (λ u. OfferConnection c.in-Some.server u) (is_url url) url
    ∙ ap (option_and_then (λ n. then_some (is_url url) (OfferConnection n url))) (sym c.in-Some.is ∙ c.server_of.ensures.server)

pub returns-in_default : goal.returns-in_default
returns-in_default c =
    let url = c.args.url.now in
    ap (option_and_then (λ n. then_some (is_url url) (OfferConnection n url))) (sym c.in_default.is ∙ c.server_of.ensures.server)

pub returns-in_err-url : goal.returns-in_err-url
returns-in_err-url c = IfOk-from_err _ _ c.from_residual.ensures.0

pub map-requires : goal.map-requires
map-requires c = λ x is. tt
