use Rattle.std.proofs.Common.{ℕ, List, [], ◌++◌, refl, append-nil, subst, ap, ◌∙◌, Err, OnErr}
use Rattle.std.proofs.lemmas.Bool.{false≢true}
use Rattle.httparse.specs.Grammar.{RequestHead, ReadsRequest}
use Rattle.httparse.specs.Spans.{IsRequestOf, RequestOverflows}
use Rattle.httparse.proofs.HeadLemmas.{at_complete, on_partial}
use Rattle.edge_heads.proofs.Blanks.{method_read, method_begun, method_exceeds, overflowing_method}
use Rattle.edge_heads.proofs.targets.has_method.Goals as goal

same : (bytes : List ℕ) (h : RequestHead) (rest : List ℕ) → ReadsRequest bytes h rest → ReadsRequest (bytes ++ []) h rest
same bytes h rest x = (x.0, append-nil bytes ∙ x.1)

pub returns-in-Ok-Complete : goal.returns-in-Ok-Complete
returns-in-Ok-Complete c =
    let bytes = c.args.bytes.now in
    let found = at_complete (IsRequestOf bytes c.parse_request.new.headers) c.in-Ok-Complete.is c.in-Ok-Complete.field-0-is c.parse_request.ensures.complete in
    (λ _. method_read bytes [] _ found.0 c.requires (same bytes found.0 _ found.1.reads), λ _. refl)

pub returns-in-Ok-Partial : goal.returns-in-Ok-Partial
returns-in-Ok-Partial c =
    (λ _. method_begun c.args.bytes.now c.requires (on_partial c.in-Ok-Partial.is c.in-Ok-Partial.field-0-is c.parse_request.ensures.unfinished), λ _. refl)

pub returns-in-Err-TooManyHeaders : goal.returns-in-Err-TooManyHeaders
returns-in-Err-TooManyHeaders c =
    (λ _. method_exceeds 64 c.args.bytes.now c.requires (c.parse_request.ensures.too_many (c.in-Err-TooManyHeaders.is ∙ ap Err c.in-Err-TooManyHeaders.field-0-is)), λ _. refl)

pub returns-in-Err : goal.returns-in-Err
returns-in-Err c =
    let over = subst (λ r. OnErr r (RequestOverflows 64 c.args.bytes.now)) c.in-Err.is c.parse_request.ensures.no_room in
    (λ f. absurd (false≢true f), λ x. absurd (overflowing_method 64 c.args.bytes.now over x))
