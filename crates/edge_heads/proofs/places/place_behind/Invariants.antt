use Rattle.std.proofs.Common.{◌≡◌, take}
use Rattle.edge_heads.specs.Places.{place_behind as place_of}
use Rattle.edge_heads.proofs.places.place_behind.Given as goal

abbrev pub invariant-loop-byte : goal.invariant-loop-byte
invariant-loop-byte l = l.place ≡ place_of l.side l.fn.known (take l.byte-index l.bytes)
