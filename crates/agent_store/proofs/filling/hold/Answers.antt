use Rattle.std.proofs.Common.{◌≡◌, ◌≤◌, [], length, ap, arith}
use Rattle.agent_store.proofs.Results.{on-err-map}
use Rattle.agent_store.proofs.filling.hold.Goals as goal

pub returns-clause-err : goal.returns-clause-err
returns-clause-err g c =
    on-err-map c.fill.result (c.fill.new.row.bytes ≡ []) (length c.fill.new.row.bytes ≤ length c.args.row.now.bytes)
    (λ none. omega (arith, ap length none)) c.fill.ensures.err
