use Rattle.std.proofs.Common.{◌≡◌, ℕ, ◌+◌, List, [], ◌∷◌, ◌++◌, take, sym, ◌∙◌, ap}
use Rattle.std.proofs.lemmas.List.{take_more}
use Rattle.edge_devices.specs.declared.disk_calls.Call.{Call}
use Rattle.edge_devices.specs.declared.disk_calls.Cell.{Cell}
use Rattle.edge_devices.specs.DiskReplays.{after, cell_after, blank}
use Rattle.edge_devices.proofs.DiskReplays.{after_from-push}
use Rattle.edge_devices.proofs.memory_disk.cell_at.Goals as goal

pub loop-call-preserved : goal.loop-call-preserved
loop-call-preserved c =
    let xs = c.args.calls.now in
    let i = c.loop-call.call-index in
    let call = c.call-item.result in
    let more : take (i + 1) xs ≡ take i xs ++ call ∷ [] = take_more xs i call c.loop-call-test.true ∙ ap (λ (x : Call). take i xs ++ x ∷ []) (sym c.call-item.is) in
    c.cell_after-cell.ensures ∙ ap (λ (b : Cell). cell_after b call c.args.place) c.loop-call.invariant
    ∙ sym (ap (λ (l : List Call). after l c.args.place) more ∙ ap (λ (r : ℕ → Cell). r c.args.place) (after_from-push blank (take i xs) call))
