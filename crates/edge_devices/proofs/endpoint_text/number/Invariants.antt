use Rattle.std.proofs.Common.{◌≡◌, ◌+◌, ◌≤◌, ◌^◌, take}
use Rattle.edge_devices.specs.Endpoints.{number_of}
use Rattle.edge_devices.proofs.endpoint_text.number.Given as goal

abbrev pub invariant-loop-digit : goal.invariant-loop-digit
invariant-loop-digit l = record { value : l.number ≡ number_of (take l.digit-index l.digits); bound : l.number + 1 ≤ 10 ^ l.digit-index }
