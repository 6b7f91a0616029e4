-- What the parser says of the bytes that are looked at, as the end of a head.
use Rattle.std.proofs.Common.{◌≡◌, inl, inr, ℕ, List, length, subst}
use Rattle.httparse.specs.Grammar.{HasNoRequest, MayBecomeRequest}
use Rattle.httparse.specs.Spans.{IsRequestOf, RequestOverflows}
use Rattle.httparse.specs.declared.spans.HeaderSpan.{HeaderSpan}
use Rattle.httparse.specs.declared.spans.RequestSpans.{RequestSpans}
use Rattle.edge_websocket.specs.Greetings.{SaysHead}
use Rattle.edge_websocket.specs.declared.greeting.HeadEnd.TheVariants.{At, Partial, Bad}

pub ended : (known looked : List ℕ) (headers : List HeaderSpan) (found : RequestSpans) → known ≡ looked → IsRequestOf known headers found → SaysHead (At found.len) looked
ended known looked headers found is (head, at) = subst (λ bytes. SaysHead (At found.len) bytes) is (head, at.reads, at.len)

pub awaited : (known looked : List ℕ) → known ≡ looked → HasNoRequest known → MayBecomeRequest known → SaysHead Partial looked
awaited known looked is none may = subst (λ bytes. SaysHead Partial bytes) is (none, may)

pub full : (known looked : List ℕ) → known ≡ looked → length known ≡ 16384 → HasNoRequest known → SaysHead Bad looked
full known looked is len none = subst (λ bytes. SaysHead Bad bytes) is (inr (len, none))

pub never : (known looked : List ℕ) → known ≡ looked → RequestOverflows 64 known → SaysHead Bad looked
never known looked is over = subst (λ bytes. SaysHead Bad bytes) is (inl over)
