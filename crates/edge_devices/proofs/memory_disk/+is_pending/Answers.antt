use Rattle.std.proofs.Common.{sym, ◌∙◌, ap}
use Rattle.edge_devices.specs.declared.disk_calls.Cell.{Cell}
use Rattle.edge_devices.specs.DiskReplays.{after}
use Rattle.edge_devices.proofs.DiskContents.{after-last}
use Rattle.edge_devices.proofs.memory_disk.+is_pending.Goals as goal

pub returns-in-Some-decided : goal.returns-in-Some-decided
returns-in-Some-decided t c =
    sym (ap (λ (x : Cell). x.pending) (after-last c.args.calls.now c.in-Some.earlier.now c.in-Some.last.now c.args.place c.in-Some.ensures.cases.0) ∙ c.in-Some-decided.ensures.some (after c.in-Some.earlier.now c.args.place))

pub returns-in-None-decided : goal.returns-in-None-decided
returns-in-None-decided t c =
    c.is_pending.ensures ∙ sym (ap (λ (x : Cell). x.pending) (after-last c.args.calls.now c.in-Some.earlier.now c.in-Some.last.now c.args.place c.in-Some.ensures.cases.0) ∙ c.in-None-decided.ensures.none (after c.in-Some.earlier.now c.args.place))
