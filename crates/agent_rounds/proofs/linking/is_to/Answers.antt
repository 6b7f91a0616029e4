use Rattle.std.proofs.Common.{◌≡◌, true, ◌&&◌, sym, ◌∙◌, ap}
use Rattle.std.specs.Str.{bytes_eq}
use Rattle.agent_rounds.specs.Moments.{link_view}
use Rattle.agent_rounds.specs.Status.{has_settings}
use Rattle.agent_rounds.proofs.linking.is_to.Goals as goal

pub returns-then-eq : goal.returns-then-eq
returns-then-eq g c =
    let dialled = c.args.dialled.now in
    let uid = c.args.uid.now in
    let named : bytes_eq dialled.uid uid ≡ true =
    ap (λ text. bytes_eq text uid) (sym c.as_slice.ensures.value)
    ∙ (ap (λ text. bytes_eq c.as_slice.result.now text) (sym c.as_slice-2.ensures.value) ∙ (sym c.eq.ensures ∙ c.if-eq.true))
    in
    λ number. c.has_settings.ensures number ∙ sym (ap (λ b. b && has_settings c.args.target.now (link_view number dialled)) named)
