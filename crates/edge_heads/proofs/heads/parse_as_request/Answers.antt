use Rattle.std.proofs.Common.{inl, inr, ◌∙◌, ap, subst, sym, Err, OnErr, IfErr, ◌≢◌}
use Rattle.std.proofs.lemmas.Bool.{false≢true}
use Rattle.httparse.specs.Grammar.{NeverHasRequest}
use Rattle.httparse.specs.Spans.{RequestOverflows}
use Rattle.httparse.specs.declared.Error.TheVariants.{TooManyHeaders}
use Rattle.httparse.proofs.HeadLemmas.{on_partial}
use Rattle.edge_heads.proofs.Parsers.{no_request, no_small_request, request_may, request_exceeds, request_never}
use Rattle.edge_heads.proofs.heads.parse_as_request.Goals as goal

pub returns-in-Ok-Partial : goal.returns-in-Ok-Partial
returns-in-Ok-Partial c =
    let bytes = c.args.bytes.now in (
      no_request bytes (on_partial c.in-Ok-Partial.is c.in-Ok-Partial.field-0-is c.parse_request.ensures.partial),
      inl (request_may bytes (on_partial c.in-Ok-Partial.is c.in-Ok-Partial.field-0-is c.parse_request.ensures.unfinished)),
    )

pub returns-then-is_too_many : goal.returns-then-is_too_many
returns-then-is_too_many c =
    let bytes = c.args.bytes.now in (
      no_small_request bytes (subst (λ r. OnErr r (RequestOverflows 64 bytes)) c.in-Err.is c.parse_request.ensures.no_room),
      inr (request_exceeds bytes (c.parse_request.ensures.too_many (c.in-Err.is ∙ ap Err (c.is_too_many.ensures.0 c.if-is_too_many.true)))),
    )

pub returns-else-ends_in_target : goal.returns-else-ends_in_target
returns-else-ends_in_target c =
    let bytes = c.args.bytes.now in
    let other : c.in-Err.error ≢ TooManyHeaders = λ e. false≢true (sym c.if-is_too_many.false ∙ c.is_too_many.ensures.1 e) in
    request_never bytes (subst (λ r. IfErr r (λ e. e ≢ TooManyHeaders → NeverHasRequest bytes)) c.in-Err.is c.parse_request.ensures.invalid other)
    (λ x. false≢true (sym c.if-ends_in_target.false ∙ c.ends_in_target.ensures.1 x))
