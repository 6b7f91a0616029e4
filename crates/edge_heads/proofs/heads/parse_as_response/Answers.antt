use Rattle.std.proofs.Common.{inl, inr, ◌∙◌, ap, subst, sym, Err, OnErr, IfErr, ◌≢◌}
use Rattle.std.proofs.lemmas.Bool.{false≢true}
use Rattle.httparse.specs.declared.Error.TheVariants.{TooManyHeaders}
use Rattle.httparse.specs.Grammar.{NeverHasResponse}
use Rattle.httparse.specs.Spans.{ResponseOverflows}
use Rattle.httparse.proofs.HeadLemmas.{on_partial}
use Rattle.edge_heads.proofs.Parsers.{no_response, no_small_response, response_may, response_exceeds, response_never}
use Rattle.edge_heads.proofs.heads.parse_as_response.Goals as goal

pub returns-in-Ok-Partial : goal.returns-in-Ok-Partial
returns-in-Ok-Partial c =
    let bytes = c.args.bytes.now in (
      no_response bytes (on_partial c.in-Ok-Partial.is c.in-Ok-Partial.field-0-is c.parse_response.ensures.partial),
      inl (response_may bytes (on_partial c.in-Ok-Partial.is c.in-Ok-Partial.field-0-is c.parse_response.ensures.unfinished)),
    )

pub returns-then-is_too_many : goal.returns-then-is_too_many
returns-then-is_too_many c =
    let bytes = c.args.bytes.now in (
      no_small_response bytes (subst (λ r. OnErr r (ResponseOverflows 64 bytes)) c.in-Err.is c.parse_response.ensures.no_room),
      inr (response_exceeds bytes (c.parse_response.ensures.too_many (c.in-Err.is ∙ ap Err (c.is_too_many.ensures.0 c.if-is_too_many.true)))),
    )

pub returns-else-is_too_many : goal.returns-else-is_too_many
returns-else-is_too_many c =
    let bytes = c.args.bytes.now in
    let other : c.in-Err.error ≢ TooManyHeaders = λ e. false≢true (sym c.if-is_too_many.false ∙ c.is_too_many.ensures.1 e) in
    response_never bytes (subst (λ r. IfErr r (λ e. e ≢ TooManyHeaders → NeverHasResponse bytes)) c.in-Err.is c.parse_response.ensures.invalid other)
