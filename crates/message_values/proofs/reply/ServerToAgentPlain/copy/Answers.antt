use Rattle.std.proofs.Common.{◌≡◌, ◌∙◌, ap}
use Rattle.std.proofs.lemmas.Result.{IfOk-from_err}
use Rattle.message_values.proofs.reply.ServerToAgentPlain.copy.Goals as goal

pub returns : goal.returns
returns c =
    let s = c.args.self.now in
    let offers : c.into_parts-error_response.result ≡ (s.error_response, s.remote_config, s.connection_settings, s.packages_available) =
    c.into_parts-error_response.ensures.parts ∙ ap (λ p. (p.first, p.second, p.third, p.fourth)) c.in_ok-offers.ensures.copied in
    let others : c.into_parts-agent_identification.result ≡ (s.agent_identification, s.command, s.custom_capabilities, s.custom_message) =
    c.into_parts-agent_identification.ensures.parts ∙ ap (λ p. (p.first, p.second, p.third, p.fourth)) c.in_ok-others.ensures.copied in
    record {
      copied = λ i. record {
        instance_uid = c.in_ok-instance_uid.ensures.copied i;
        error_response = (offers i).0;
        remote_config = (offers i).1;
        connection_settings = (offers i).2;
        packages_available = (offers i).3;
        flags = s.flags;
        capabilities = s.capabilities;
        agent_identification = (others i).0;
        command = (others i).1;
        custom_capabilities = (others i).2;
        custom_message = (others i).3;
      };
    }

pub returns-in_err-offers : goal.returns-in_err-offers
returns-in_err-offers c = record { copied = IfOk-from_err _ _ c.from_residual.ensures.0 }

pub returns-in_err-others : goal.returns-in_err-others
returns-in_err-others c = record { copied = IfOk-from_err _ _ c.from_residual-in_err-others.ensures.0 }

pub returns-in_err-instance_uid : goal.returns-in_err-instance_uid
returns-in_err-instance_uid c = record { copied = IfOk-from_err _ _ c.from_residual-in_err-instance_uid.ensures.0 }
