use Rattle.std.proofs.Common.{◌∙◌, ℕ, List, Bool, Option, Some, false, true, inl, inr, subst, sym}
use Rattle.server_sessions.specs.declared.answers.limits.TheConstants.{HTTP_NO_MEMORY}
use Rattle.server_sessions.specs.Answers.{GoesOut}
use Rattle.server_sessions.specs.Requests.{failure_answer}
use Rattle.server_sessions.specs.Wiring.{WireView, view_of}
use Rattle.server_sessions.proofs.OpenLemmas.{kept_open}
use Rattle.server_sessions.proofs.requests.answer_failure.Goals as goal

-- a connection that is closed behind its answer doesn't stay
closing : (conn : ℕ) (bytes : Option (List ℕ)) (old new : WireView) (stays : Bool) → GoesOut conn bytes true old new stays → GoesOut conn bytes true old new false
closing conn bytes old new true out = absurd (cc out.0)
closing conn bytes old new false out = out

pub returns-then-is_no_memory-clause-answers : goal.returns-then-is_no_memory-clause-answers
returns-then-is_no_memory-clause-answers g c = inl (closing c.args.conn (Some HTTP_NO_MEMORY) (view_of (g.W.Wire.calls c.args.wire.now) (g.W.Wire.faults c.args.wire.now)) (view_of (g.W.Wire.calls c.send_answer.new.wire) (g.W.Wire.faults c.send_answer.new.wire)) c.send_answer.result c.send_answer.ensures.goes_out)

pub returns-then-is_no_memory-clause-open : goal.returns-then-is_no_memory-clause-open
returns-then-is_no_memory-clause-open g c = kept_open c.args.conn (Some HTTP_NO_MEMORY) true (view_of (g.W.Wire.calls c.args.wire.now) (g.W.Wire.faults c.args.wire.now)) (view_of (g.W.Wire.calls c.send_answer.new.wire) (g.W.Wire.faults c.send_answer.new.wire)) false (closing c.args.conn (Some HTTP_NO_MEMORY) (view_of (g.W.Wire.calls c.args.wire.now) (g.W.Wire.faults c.args.wire.now)) (view_of (g.W.Wire.calls c.send_answer.new.wire) (g.W.Wire.faults c.send_answer.new.wire)) c.send_answer.result c.send_answer.ensures.goes_out) c.requires.open

pub returns-in-Ok-clause-answers : goal.returns-in-Ok-clause-answers
returns-in-Ok-clause-answers g c = inr (sym c.is_no_memory.ensures ∙ c.if-is_no_memory.false, closing c.args.conn (Some (failure_answer c.args.failure)) (view_of (g.W.Wire.calls c.args.wire.now) (g.W.Wire.faults c.args.wire.now)) (view_of (g.W.Wire.calls c.send_answer-in-Ok.new.wire) (g.W.Wire.faults c.send_answer-in-Ok.new.wire)) c.send_answer-in-Ok.result (subst (λ (bytes : List ℕ). GoesOut c.args.conn (Some bytes) true (view_of (g.W.Wire.calls c.args.wire.now) (g.W.Wire.faults c.args.wire.now)) (view_of (g.W.Wire.calls c.send_answer-in-Ok.new.wire) (g.W.Wire.faults c.send_answer-in-Ok.new.wire)) c.send_answer-in-Ok.result) (c.as_slice.ensures.value ∙ c.in-Ok.ensures.bytes) c.send_answer-in-Ok.ensures.goes_out))

pub returns-in-Ok-clause-open : goal.returns-in-Ok-clause-open
returns-in-Ok-clause-open g c = kept_open c.args.conn (Some (failure_answer c.args.failure)) true (view_of (g.W.Wire.calls c.args.wire.now) (g.W.Wire.faults c.args.wire.now)) (view_of (g.W.Wire.calls c.send_answer-in-Ok.new.wire) (g.W.Wire.faults c.send_answer-in-Ok.new.wire)) false (closing c.args.conn (Some (failure_answer c.args.failure)) (view_of (g.W.Wire.calls c.args.wire.now) (g.W.Wire.faults c.args.wire.now)) (view_of (g.W.Wire.calls c.send_answer-in-Ok.new.wire) (g.W.Wire.faults c.send_answer-in-Ok.new.wire)) c.send_answer-in-Ok.result (subst (λ (bytes : List ℕ). GoesOut c.args.conn (Some bytes) true (view_of (g.W.Wire.calls c.args.wire.now) (g.W.Wire.faults c.args.wire.now)) (view_of (g.W.Wire.calls c.send_answer-in-Ok.new.wire) (g.W.Wire.faults c.send_answer-in-Ok.new.wire)) c.send_answer-in-Ok.result) (c.as_slice.ensures.value ∙ c.in-Ok.ensures.bytes) c.send_answer-in-Ok.ensures.goes_out)) c.requires.open

pub returns-in-Err-clause-answers : goal.returns-in-Err-clause-answers
returns-in-Err-clause-answers g c = inl (closing c.args.conn (Some HTTP_NO_MEMORY) (view_of (g.W.Wire.calls c.args.wire.now) (g.W.Wire.faults c.args.wire.now)) (view_of (g.W.Wire.calls c.send_answer-in-Err.new.wire) (g.W.Wire.faults c.send_answer-in-Err.new.wire)) c.send_answer-in-Err.result c.send_answer-in-Err.ensures.goes_out)

pub returns-in-Err-clause-open : goal.returns-in-Err-clause-open
returns-in-Err-clause-open g c = kept_open c.args.conn (Some HTTP_NO_MEMORY) true (view_of (g.W.Wire.calls c.args.wire.now) (g.W.Wire.faults c.args.wire.now)) (view_of (g.W.Wire.calls c.send_answer-in-Err.new.wire) (g.W.Wire.faults c.send_answer-in-Err.new.wire)) false (closing c.args.conn (Some HTTP_NO_MEMORY) (view_of (g.W.Wire.calls c.args.wire.now) (g.W.Wire.faults c.args.wire.now)) (view_of (g.W.Wire.calls c.send_answer-in-Err.new.wire) (g.W.Wire.faults c.send_answer-in-Err.new.wire)) c.send_answer-in-Err.result c.send_answer-in-Err.ensures.goes_out) c.requires.open
