use Rattle.std.proofs.Common.{◌≡◌, Some, None, ◌∙◌, ap}
use Rattle.std.specs.Option.{option_copied, option_map}
use Rattle.std.proofs.lemmas.Result.{IfOk-from_err}
use Rattle.message_deltas.specs.Deltas.{told_under}
use Rattle.message_deltas.proofs.deltas.full.Goals as goal

pub returns : goal.returns
returns c =
    let s = c.args.state.now in
    let parts : c.into_parts-health.result ≡ (s.health, s.effective, s.remote, s.packages) =
    c.into_parts-health.ensures.parts ∙ ap (λ p. (p.first, p.second, p.third, p.fourth)) c.in_ok-parts.ensures.copied in
    let heading : c.into_parts-instance_uid.result ≡ (c.args.uid.now, s.description, s.custom, option_map (told_under (option_copied c.args.details)) s.components) =
    c.into_parts-instance_uid.ensures.parts ∙ ap (λ p. (p.first, p.second, p.third, p.fourth)) c.in_ok-heading.ensures.parts in
    record {
      report = λ i. record {
        instance_uid = (heading i).0;
        sequence_num = c.args.number;
        agent_description = Some (heading i).1;
        capabilities = s.capabilities;
        health = (parts i).0;
        effective_config = (parts i).1;
        remote_config_status = (parts i).2;
        package_statuses = (parts i).3;
        agent_disconnect = None;
        flags = 0;
        custom_capabilities = Some (heading i).2;
        custom_message = None;
        available_components = (heading i).3;
      };
    }

pub returns-in_err-parts : goal.returns-in_err-parts
returns-in_err-parts c = record { report = IfOk-from_err _ _ c.from_residual.ensures.0 }

pub returns-in_err-heading : goal.returns-in_err-heading
returns-in_err-heading c = record { report = IfOk-from_err _ _ c.from_residual-in_err-heading.ensures.0 }
