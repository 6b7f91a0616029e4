use Rattle.message_handlers.specs.Asking.{MayAnswer}
use Rattle.std.proofs.Common.{sym, ◌∙◌, inl, inr}
use Rattle.server_sessions.specs.Wiring.{view_of}
use Rattle.command_serve.proofs.Noting.{rollout_noted}
use Rattle.command_serve.proofs.RolloutStatuses.{no_memory_at, too_large_at, wire_fault_at}
use Rattle.command_serve.proofs.commands.run_rollout_command.Goals as goal

pub returns-clause-outcome : goal.returns-clause-outcome
returns-clause-outcome g c = rw c.code.ensures.code c.run_rollout-status.ensures.outcome

pub returns-clause-untouched : goal.returns-clause-untouched
returns-clause-untouched g c = λ is. c.run_rollout-status.ensures.untouched (too_large_at c.run_rollout-status.result (sym c.code.ensures.code ∙ is))

pub returns-clause-silent : goal.returns-clause-silent
returns-clause-silent g c = λ either. elim either [
  | inl eight ↦ c.run_rollout-status.ensures.silent (inl (wire_fault_at c.run_rollout-status.result (sym c.code.ensures.code ∙ eight)))
  | inr five ↦ c.run_rollout-status.ensures.silent (inr (no_memory_at c.run_rollout-status.result (sym c.code.ensures.code ∙ five)))
]

pub returns-clause-noted : goal.returns-clause-noted
returns-clause-noted g c = rollout_noted (MayAnswer (λ b. (goal.Handler-dyn g b).answers b.1) c.args.handlers.now) c.args.options.now (view_of (g.W.Wire.calls c.args.wire.now) (g.W.Wire.faults c.args.wire.now)) (view_of (g.W.Wire.calls c.run_rollout-status.new.wire) (g.W.Wire.faults c.run_rollout-status.new.wire)) _ _ _ c.run_rollout-status.result c.code.result c.code.ensures.code c.run_rollout-status.ensures.noted c.note_rollout_end.ensures.noted
