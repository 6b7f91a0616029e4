use Rattle.std.specs.Prelude.{◌≡◌, take}
use Rattle.http.specs.Request.{head_of}
use Rattle.edge_dialer.specs.Greetings.{with_fields}
use Rattle.edge_dialer.proofs.greeting.add_headers.Given as goal

abbrev pub invariant-loop-header : goal.invariant-loop-header
invariant-loop-header l = head_of l.request ≡ with_fields (head_of l.initial.request) (take l.header-index l.header-items)
