use Rattle.message_handlers.specs.Asking.{MayAnswer}
use Rattle.std.proofs.Common.{sym, ◌∙◌, inl, inr}
use Rattle.server_sessions.specs.Wiring.{view_of}
use Rattle.command_serve.proofs.Noting.{serve_noted}
use Rattle.command_serve.proofs.Statuses.{no_memory_at, wire_fault_at}
use Rattle.command_serve.proofs.commands.run_serve_command.Goals as goal

pub returns-clause-outcome : goal.returns-clause-outcome
returns-clause-outcome g c = rw c.code.ensures.code c.run_serve-status.ensures.outcome

pub returns-clause-silent : goal.returns-clause-silent
returns-clause-silent g c = λ either. elim either [
  | inl eight ↦ c.run_serve-status.ensures.silent (inl (wire_fault_at c.run_serve-status.result (sym c.code.ensures.code ∙ eight)))
  | inr five ↦ c.run_serve-status.ensures.silent (inr (no_memory_at c.run_serve-status.result (sym c.code.ensures.code ∙ five)))
]

pub returns-clause-noted : goal.returns-clause-noted
returns-clause-noted g c = serve_noted (MayAnswer (λ b. (goal.Handler-dyn g b).answers b.1) c.args.handlers.now) c.args.options.now (view_of (g.W.Wire.calls c.args.wire.now) (g.W.Wire.faults c.args.wire.now)) (view_of (g.W.Wire.calls c.run_serve-status.new.wire) (g.W.Wire.faults c.run_serve-status.new.wire)) _ _ _ c.run_serve-status.result c.code.result c.code.ensures.code c.run_serve-status.ensures.noted c.note_end.ensures.noted
