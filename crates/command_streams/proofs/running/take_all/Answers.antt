use Rattle.std.proofs.lemmas.Result.{IfOk-weaker}
use Rattle.command_streams.proofs.running.take_all.Goals as goal

pub returns-clause-taken : goal.returns-clause-taken
returns-clause-taken g c =
    IfOk-weaker c.handle_all.result _ _ (λ stop replied. record { steps = replied.0; each = replied.1; reads = replied.2; left = replied.4 }) c.handle_all.ensures.replied

pub returns-clause-no_further : goal.returns-clause-no_further
returns-clause-no_further g c = c.handle_all.ensures.before_last_take.takes
