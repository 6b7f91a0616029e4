use Rattle.std.proofs.Common.{◌≡◌, Some, None, ◌∙◌, ap}
use Rattle.std.proofs.lemmas.Result.{IfOk-from_err}
use Rattle.message_values.specs.contracts.attributes.AgentDescription as description
use Rattle.message_values.specs.contracts.config.EffectiveConfig as effective
use Rattle.message_values.specs.contracts.config.RemoteConfigStatus as remote
use Rattle.message_values.specs.contracts.custom.CustomCapabilities as custom
use Rattle.message_values.specs.contracts.health.ComponentHealth as health
use Rattle.message_values.specs.contracts.packages.PackageStatuses as packages
use Rattle.message_deltas.specs.Sameness.{where_differs}
use Rattle.message_deltas.proofs.deltas.delta.Goals as goal

pub returns : goal.returns
returns c =
    let before = c.args.before.now in
    let now = c.args.now.now in
    let parts : c.into_parts-agent_description.result
    ≡ (
      where_differs description.the_row.coded (Some before.description) (Some now.description),
      where_differs health.the_row.coded before.health now.health,
      where_differs effective.the_row.coded before.effective now.effective,
      where_differs remote.the_row.coded before.remote now.remote,
    ) =
    c.into_parts-agent_description.ensures.parts ∙ ap (λ p. (p.first, p.second, p.third, p.fourth)) c.in_ok-parts.ensures.parts in
    record {
      report = λ i. record {
        instance_uid = c.in_ok-instance_uid.ensures.bytes i;
        sequence_num = c.args.number;
        agent_description = (parts i).0;
        capabilities = now.capabilities;
        health = (parts i).1;
        effective_config = (parts i).2;
        remote_config_status = (parts i).3;
        package_statuses = c.in_ok-package_statuses.ensures packages.the_row.coded i;
        agent_disconnect = None;
        flags = 0;
        custom_capabilities = c.in_ok-custom_capabilities.ensures custom.the_row.coded i;
        custom_message = None;
        available_components = c.in_ok-available_components.ensures.carried i;
      };
    }

pub returns-in_err-parts : goal.returns-in_err-parts
returns-in_err-parts c = record { report = IfOk-from_err _ _ c.from_residual.ensures.0 }

pub returns-in_err-package_statuses : goal.returns-in_err-package_statuses
returns-in_err-package_statuses c = record { report = IfOk-from_err _ _ c.from_residual-in_err-package_statuses.ensures.0 }

pub returns-in_err-custom_capabilities : goal.returns-in_err-custom_capabilities
returns-in_err-custom_capabilities c = record { report = IfOk-from_err _ _ c.from_residual-in_err-custom_capabilities.ensures.0 }

pub returns-in_err-available_components : goal.returns-in_err-available_components
returns-in_err-available_components c = record { report = IfOk-from_err _ _ c.from_residual-in_err-available_components.ensures.0 }

pub returns-in_err-instance_uid : goal.returns-in_err-instance_uid
returns-in_err-instance_uid c = record { report = IfOk-from_err _ _ c.from_residual-in_err-instance_uid.ensures.0 }
