use Rattle.std.proofs.lemmas.Result.{IfOk-from_err}
use Rattle.message_values.specs.contracts.attributes.AgentDescription as description
use Rattle.message_values.specs.contracts.config.EffectiveConfig as effective
use Rattle.message_values.specs.contracts.config.RemoteConfigStatus as remote
use Rattle.message_values.specs.contracts.health.ComponentHealth as health
use Rattle.message_deltas.proofs.deltas.changes.Goals as goal

pub returns : goal.returns
returns c =
    record {
      parts = λ i. record {
        first = c.in_ok-change.ensures description.the_row.coded i;
        second = c.in_ok-optional_change.ensures health.the_row.coded i;
        third = c.in_ok-optional_change-2.ensures effective.the_row.coded i;
        fourth = c.in_ok-optional_change-3.ensures remote.the_row.coded i;
      };
    }

pub returns-in_err-change : goal.returns-in_err-change
returns-in_err-change c = record { parts = IfOk-from_err _ _ c.from_residual.ensures.0 }

pub returns-in_err-optional_change : goal.returns-in_err-optional_change
returns-in_err-optional_change c = record { parts = IfOk-from_err _ _ c.from_residual-in_err-optional_change.ensures.0 }

pub returns-in_err-optional_change-2 : goal.returns-in_err-optional_change-2
returns-in_err-optional_change-2 c = record { parts = IfOk-from_err _ _ c.from_residual-in_err-optional_change-2.ensures.0 }

pub returns-in_err-optional_change-3 : goal.returns-in_err-optional_change-3
returns-in_err-optional_change-3 c = record { parts = IfOk-from_err _ _ c.from_residual-in_err-optional_change-3.ensures.0 }
