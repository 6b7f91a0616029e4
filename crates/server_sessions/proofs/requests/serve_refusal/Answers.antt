use Rattle.std.proofs.Common.{◌∙◌, ℕ, List, Some, true, inl, inr, subst}
use Rattle.server_sessions.specs.declared.answers.limits.TheConstants.{HTTP_NO_MEMORY}
use Rattle.server_sessions.specs.Answers.{GoesOut}
use Rattle.server_sessions.specs.Wiring.{view_of}
use Rattle.server_sessions.proofs.OpenLemmas.{kept_open}
use Rattle.server_sessions.proofs.requests.serve_refusal.Goals as goal

pub returns-in-Ok-clause-answers : goal.returns-in-Ok-clause-answers
returns-in-Ok-clause-answers g c =
    inr (subst (λ (bytes : List ℕ). GoesOut c.args.conn (Some bytes) c.args.close (view_of (g.W.Wire.calls c.args.wire.now) (g.W.Wire.faults c.args.wire.now)) (view_of (g.W.Wire.calls c.send_answer.new.wire) (g.W.Wire.faults c.send_answer.new.wire)) c.send_answer.result) (c.as_slice.ensures.value ∙ c.in-Ok.ensures.bytes) c.send_answer.ensures.goes_out)

pub returns-in-Ok-clause-open : goal.returns-in-Ok-clause-open
returns-in-Ok-clause-open g c = kept_open c.args.conn (Some c.as_slice.result.now) c.args.close (view_of (g.W.Wire.calls c.args.wire.now) (g.W.Wire.faults c.args.wire.now)) (view_of (g.W.Wire.calls c.send_answer.new.wire) (g.W.Wire.faults c.send_answer.new.wire)) c.send_answer.result c.send_answer.ensures.goes_out c.requires.open

pub returns-in-Err-clause-answers : goal.returns-in-Err-clause-answers
returns-in-Err-clause-answers g c = inl c.send_answer-in-Err.ensures.goes_out

pub returns-in-Err-clause-open : goal.returns-in-Err-clause-open
returns-in-Err-clause-open g c = kept_open c.args.conn (Some HTTP_NO_MEMORY) true (view_of (g.W.Wire.calls c.args.wire.now) (g.W.Wire.faults c.args.wire.now)) (view_of (g.W.Wire.calls c.send_answer-in-Err.new.wire) (g.W.Wire.faults c.send_answer-in-Err.new.wire)) c.send_answer-in-Err.result c.send_answer-in-Err.ensures.goes_out c.requires.open
