use Rattle.std.proofs.Common.{◌≡◌, take}
use Rattle.server_deliveries.specs.Deliveries.{heard_in}
use Rattle.server_deliveries.proofs.deliveries.heard_in.Given as goal

-- those so far were heard
abbrev pub invariant-loop-report : goal.invariant-loop-report
invariant-loop-report l = l.heard ≡ heard_in (take l.report-index l.handled)
