use Rattle.std.proofs.Common.{◌≢◌, ℕ, List, length, subst, Err, IfErr, ◌∙◌, ap}
use Rattle.httparse.specs.declared.Error.TheVariants.{TooManyHeaders}
use Rattle.httparse.specs.Grammar.{HasNoSection, NeverHasSection, MayBecomeSection}
use Rattle.httparse.specs.Spans.{IsSectionAt, IsSectionOf, SectionExceeds}
use Rattle.httparse.proofs.HeadLemmas.{at_complete, on_partial}
use Rattle.edge_heads.proofs.Cuts.{trailer-found, trailer-begun, trailer-long, trailer-never, few-lines}
use Rattle.edge_heads.proofs.chunks.trailer_in.Goals as goal

pub returns-in-Ok-Complete : goal.returns-in-Ok-Complete
returns-in-Ok-Complete c =
    let part = c.first_part.result.now in
    let headers = c.parse_headers.new.headers in
    let x = at_complete (IsSectionOf part 0 headers) c.in-Ok-Complete.is c.in-Ok-Complete.field-0-is c.parse_headers.ensures.complete in
    trailer-found c.args.bytes.now headers c.in-Ok-Complete.found.0 c.in-Ok-Complete.found.1 x.0 x.1
    (subst (λ (t : List ℕ). IsSectionAt t 0 headers c.in-Ok-Complete.found.0 c.in-Ok-Complete.found.1 x.0 x.1) c.first_part.ensures x.2)

pub returns-then-bytes-lt-HEAD_LIMIT : goal.returns-then-bytes-lt-HEAD_LIMIT
returns-then-bytes-lt-HEAD_LIMIT c =
    trailer-begun c.args.bytes.now c.if-bytes-lt-HEAD_LIMIT.true
    (subst HasNoSection c.first_part.ensures (on_partial c.in-Ok-Partial.is c.in-Ok-Partial.field-0-is c.parse_headers.ensures.partial))
    (subst MayBecomeSection c.first_part.ensures (on_partial c.in-Ok-Partial.is c.in-Ok-Partial.field-0-is c.parse_headers.ensures.unfinished))

pub returns-else-bytes-lt-HEAD_LIMIT : goal.returns-else-bytes-lt-HEAD_LIMIT
returns-else-bytes-lt-HEAD_LIMIT c =
    trailer-long c.args.bytes.now c.if-bytes-lt-HEAD_LIMIT.false
    (subst HasNoSection c.first_part.ensures (on_partial c.in-Ok-Partial.is c.in-Ok-Partial.field-0-is c.parse_headers.ensures.partial))

pub returns-in-Err : goal.returns-in-Err
returns-in-Err c =
    let part = c.first_part.result.now in
    let few : c.in-Err.field-0 ≢ TooManyHeaders = λ e.
    few-lines (length c.args.spans.now) c.args.bytes.now c.requires.room (subst (λ (t : List ℕ). SectionExceeds (length c.args.spans.now) t) c.first_part.ensures (c.parse_headers.ensures.too_many (c.in-Err.is ∙ ap Err e))) in
    trailer-never c.args.bytes.now (subst NeverHasSection c.first_part.ensures
    (subst (λ r. IfErr r (λ e. e ≢ TooManyHeaders → NeverHasSection part)) c.in-Err.is c.parse_headers.ensures.invalid few))
