use Rattle.std.proofs.Common.{◌≡◌, true, ◌&&◌, sym, ◌∙◌, ap}
use Rattle.std.specs.Str.{bytes_eq}
use Rattle.std.proofs.lemmas.Bool.Decides.{same_from_decides, Decides-like}
use Rattle.agent_rounds.specs.Status.{same_list}
use Rattle.agent_rounds.proofs.HeaderLemmas.{same_list-Decides}
use Rattle.agent_rounds.proofs.linking.has_settings.Goals as goal

pub returns-then-eq : goal.returns-then-eq
returns-then-eq g c =
    let dialled = c.args.dialled.now in
    let target = c.args.target.now in
    let lists : c.same.result ≡ same_list dialled.headers.headers target.headers.headers =
    same_from_decides c.same.result (same_list dialled.headers.headers target.headers.headers)
    (Decides-like c.same.result (λ same. ap (λ h. h.headers) same) (λ same i. record { headers = same i }) c.same.ensures.same)
    (same_list-Decides dialled.headers.headers target.headers.headers)
    in
    let endpoints : bytes_eq dialled.endpoint target.endpoint ≡ true =
    ap (λ text. bytes_eq text target.endpoint) (sym c.as_str.ensures.value)
    ∙ (ap (λ text. bytes_eq c.as_str.result.now text) (sym c.as_str-2.ensures.value) ∙ (sym c.eq.ensures ∙ c.if-eq.true))
    in
    λ number. lists ∙ sym (ap (λ b. b && same_list dialled.headers.headers target.headers.headers) endpoints)
