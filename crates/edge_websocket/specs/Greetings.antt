-- Where the head of a handshake ends.
use Rattle.std.specs.Prelude.{◌≡◌, ◌≤◌, ◌<◌, ◌⊎◌, ℕ, List, length, take, drop, ⊤}
use Rattle.httparse.specs.Grammar.{RequestHead, ReadsRequest, HasNoRequest, MayBecomeRequest, print_request}
use Rattle.httparse.specs.Spans.{RequestOverflows}
use Rattle.edge_websocket.specs.declared.greeting.HeadEnd.{HeadEnd}
use Rattle.edge_websocket.specs.declared.greeting.HeadEnd.TheVariants.{At, Partial, Bad}

-- A head that ends is within the bytes and within 16,384 bytes. One is waited for only below these.
abbrev pub IsWithin : HeadEnd → List ℕ → Type 0
IsWithin (At end) bytes = (end ≤ length bytes) × (end ≤ 16384)
IsWithin Partial bytes = length bytes < 16384
IsWithin Bad bytes = ⊤

-- the bytes that are looked at
abbrev pub looked_at : List ℕ → List ℕ
looked_at bytes = take 16384 bytes

-- What these bytes say of a request's head (RFC 9112, 2.1): they begin with one that ends there; more bytes may end one; or
-- none can be ended with at most 64 header lines, or none ended in the 16,384 bytes.
abbrev pub SaysHead : HeadEnd → List ℕ → Type 0
SaysHead (At end) looked = (head : RequestHead) × ReadsRequest looked head (drop end looked) × (end ≡ length (print_request head))
SaysHead Partial looked = HasNoRequest looked × MayBecomeRequest looked
SaysHead Bad looked = RequestOverflows 64 looked ⊎ ((length looked ≡ 16384) × HasNoRequest looked)
