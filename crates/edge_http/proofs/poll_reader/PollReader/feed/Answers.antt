use Rattle.std.proofs.Common.{[], ◌++◌, sym, ap, refl, ◌∙◌, subst, inl, append-nil}
use Rattle.edge_http.specs.Polled.{PollState, WantedMemory, poll_failure}
use Rattle.edge_http.proofs.Polling.{polled-ok, polled-err, polled-failed, polled-tells, polled-answer, parts-failed, not-failed}
use Rattle.edge_http.proofs.poll_reader.PollReader.feed.Goals as goal

pub returns-then-self-clause-read : goal.returns-then-self-clause-read
returns-then-self-clause-read c bytes taken x =
    polled-failed c.args.self.now c.args.piece.now bytes taken (sym (ap (λ (s : PollState). s.failed) c.self.view_is) ∙ c.if-self.true) x

pub returns-then-self-clause-tells : goal.returns-then-self-clause-tells
returns-then-self-clause-tells c bytes taken x =
    polled-tells c.args.self.now (bytes ++ c.args.piece.now) taken
    (polled-failed c.args.self.now c.args.piece.now bytes taken (sym (ap (λ (s : PollState). s.failed) c.self.view_is) ∙ c.if-self.true) x)

pub returns-in-Ok-clause-read : goal.returns-in-Ok-clause-read
returns-in-Ok-clause-read c bytes taken x =
    polled-ok c.args.self.now _ c.join_parts.new.self c.feed-answer.new.self c.args.piece.now bytes taken c.self.view_is c.if-self.false c.feed-answer.ensures.read
    c.in-Ok.ensures.0 c.in-Ok.ensures.1 c.in-Ok.ensures.2 x

pub returns-in-Ok-clause-tells : goal.returns-in-Ok-clause-tells
returns-in-Ok-clause-tells c bytes taken x =
    polled-tells c.join_parts.new.self (bytes ++ c.args.piece.now) taken
    (polled-ok c.args.self.now _ c.join_parts.new.self c.feed-answer.new.self c.args.piece.now bytes taken c.self.view_is c.if-self.false c.feed-answer.ensures.read
    c.in-Ok.ensures.0 c.in-Ok.ensures.1 c.in-Ok.ensures.2 x)

pub returns-in-Err-clause-read : goal.returns-in-Err-clause-read
returns-in-Err-clause-read c bytes taken x =
    subst (λ (s : PollState). WantedMemory s (bytes ++ c.args.piece.now) taken) (sym c.self-2.view_is)
    (polled-err c.args.self.now _ c.join_parts.new.self c.feed-answer.new.self c.args.piece.now bytes taken c.self.view_is c.if-self.false c.feed-answer.ensures.read c.in-Err.ensures.2 x)

pub returns-in-Err-clause-tells : goal.returns-in-Err-clause-tells
returns-in-Err-clause-tells c bytes taken x =
    subst (λ (s : PollState). WantedMemory s (bytes ++ c.args.piece.now) taken) (sym c.self-2.view_is)
    (polled-err c.args.self.now _ c.join_parts.new.self c.feed-answer.new.self c.args.piece.now bytes taken c.self.view_is c.if-self.false c.feed-answer.ensures.read c.in-Err.ensures.2 x)

pub returns-then-self-clause-exact : goal.returns-then-self-clause-exact
returns-then-self-clause-exact c bytes taken x =
    let s : PollState = c.args.self.now in
    polled-answer s (bytes ++ c.args.piece.now) taken (poll_failure s) refl (returns-then-self-clause-read c bytes taken x)

pub returns-in-Some-clause-read : goal.returns-in-Some-clause-read
returns-in-Some-clause-read c bytes taken x =
    parts-failed c.args.self.now c.args.piece.now bytes taken c.in-Some.failure (sym (ap (λ (s : PollState). s.failed) c.self.view_is) ∙ c.if-self.false)
    (sym (ap (λ (s : PollState). s.parts.failure) c.self.view_is) ∙ sym c.failure.ensures.why ∙ c.in-Some.is) x

pub returns-in-Some-clause-tells : goal.returns-in-Some-clause-tells
returns-in-Some-clause-tells c bytes taken x = polled-tells c.args.self.now (bytes ++ c.args.piece.now) taken (returns-in-Some-clause-read c bytes taken x)

pub returns-in-Some-clause-exact : goal.returns-in-Some-clause-exact
returns-in-Some-clause-exact c bytes taken x =
    let s : PollState = c.args.self.now in
    polled-answer s (bytes ++ c.args.piece.now) taken (poll_failure s) refl (returns-in-Some-clause-read c bytes taken x)

pub returns-in-Ok-clause-exact : goal.returns-in-Ok-clause-exact
returns-in-Ok-clause-exact c bytes taken x =
    let s : PollState = c.join_parts.new.self in
    polled-answer s (bytes ++ c.args.piece.now) taken (poll_failure s) refl (returns-in-Ok-clause-read c bytes taken x)

pub returns-in-Ok-clause-again : goal.returns-in-Ok-clause-again
returns-in-Ok-clause-again c why e =
    absurd (not-failed c.args.self.now.failed c.args.self.now.parts.failure why (sym (ap (λ (s : PollState). s.failed) c.self.view_is) ∙ c.if-self.false)
    (sym (ap (λ (s : PollState). s.parts.failure) c.self.view_is) ∙ sym c.failure.ensures.why ∙ c.in_default.is) e)

pub returns-in-Err-clause-exact : goal.returns-in-Err-clause-exact
returns-in-Err-clause-exact c bytes taken x = inl refl

pub returns-in-Err-clause-again : goal.returns-in-Err-clause-again
returns-in-Err-clause-again c why e =
    absurd (not-failed c.args.self.now.failed c.args.self.now.parts.failure why (sym (ap (λ (s : PollState). s.failed) c.self.view_is) ∙ c.if-self.false)
    (sym (ap (λ (s : PollState). s.parts.failure) c.self.view_is) ∙ sym c.failure.ensures.why ∙ c.in_default.is) e)

pub returns-then-self-clause-kept : goal.returns-then-self-clause-kept
returns-then-self-clause-kept c = ([], sym (append-nil c.args.self.now.ready))

pub returns-in-Some-clause-kept : goal.returns-in-Some-clause-kept
returns-in-Some-clause-kept c = ([], sym (append-nil c.args.self.now.ready))

pub returns-in-Ok-clause-kept : goal.returns-in-Ok-clause-kept
returns-in-Ok-clause-kept c = (c.in-Ok.ensures.0.kept.0, c.in-Ok.ensures.0.kept.1 ∙ ap (λ (s : PollState). s.ready ++ c.in-Ok.ensures.0.kept.0) c.self.view_is)

pub returns-in-Err-clause-kept : goal.returns-in-Err-clause-kept
returns-in-Err-clause-kept c = (
  c.in-Err.ensures.0.kept.0,
  ap (λ (s : PollState). s.ready) c.self-2.view_is ∙ c.in-Err.ensures.0.kept.1 ∙ ap (λ (s : PollState). s.ready ++ c.in-Err.ensures.0.kept.0) c.self.view_is,
)
