use Rattle.std.proofs.Common.{◌≡◌, ◌++◌, flat_map, take}
use Rattle.edge_http.specs.Writing.{header_line}
use Rattle.edge_http.proofs.writing.put_headers.Given as goal

abbrev pub invariant-loop-header : goal.invariant-loop-header
invariant-loop-header l = l.out.items ≡ l.initial.out.items ++ flat_map header_line (take l.header-index l.headers)
