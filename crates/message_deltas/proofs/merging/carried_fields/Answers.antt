use Rattle.std.proofs.Common.{◌≡◌, ◌∙◌, ap}
use Rattle.std.proofs.lemmas.Result.{IfOk-from_err}
use Rattle.message_deltas.proofs.merging.carried_fields.Goals as goal

pub returns : goal.returns
returns c =
    let m = c.args.report.now in
    let parts : c.into_parts-health.result ≡ (m.health, m.effective_config, m.remote_config_status, m.package_statuses) =
    c.into_parts-health.ensures.parts ∙ ap (λ p. (p.first, p.second, p.third, p.fourth)) c.in_ok-parts.ensures.copied in
    record {
      fields = λ i. record {
        description = c.in_ok-description.ensures.copied i;
        capabilities = m.capabilities;
        health = (parts i).0;
        effective = (parts i).1;
        remote = (parts i).2;
        packages = (parts i).3;
        components = c.in_ok-components.ensures.hash i;
        custom = c.in_ok-custom.ensures.copied i;
      };
    }

pub returns-in_err-parts : goal.returns-in_err-parts
returns-in_err-parts c = record { fields = IfOk-from_err _ _ c.from_residual.ensures.0 }

pub returns-in_err-description : goal.returns-in_err-description
returns-in_err-description c = record { fields = IfOk-from_err _ _ c.from_residual-in_err-description.ensures.0 }

pub returns-in_err-components : goal.returns-in_err-components
returns-in_err-components c = record { fields = IfOk-from_err _ _ c.from_residual-in_err-components.ensures.0 }

pub returns-in_err-custom : goal.returns-in_err-custom
returns-in_err-custom c = record { fields = IfOk-from_err _ _ c.from_residual-in_err-custom.ensures.0 }
