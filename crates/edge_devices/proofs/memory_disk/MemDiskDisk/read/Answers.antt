use Rattle.std.proofs.Common.{ℕ, ◌+◌, ◌∙◌, ap, List, sym, get_or}
use Rattle.edge_devices.proofs.DiskContents.{content-has}
use Rattle.edge_devices.proofs.memory_disk.MemDiskDisk.read.Goals as goal

pub returns-clause-gives : goal.returns-clause-gives
returns-clause-gives c = λ told.
    content-has c.args.self.now.content.items c.args.self.now.calls.items c.args.at c.args.self.now.tally.faults c.copy_out.new.into c.args.self.now.matches
    (λ k less. ap (λ (l : List ℕ). get_or l (c.args.at + k) 0) (sym c.deref-2.ensures.value) ∙ c.copy_out.ensures k less)
