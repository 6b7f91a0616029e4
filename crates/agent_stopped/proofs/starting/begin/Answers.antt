use Rattle.std.proofs.Common.{◌∙◌, ℕ, false, ap}
use Rattle.edge_devices.specs.Disks.{disk_bytes}
use Rattle.edge_devices.specs.MemoryDisks.{memory_disk}
use Rattle.agent_rules.specs.Half.{first_saved, started}
use Rattle.agent_stopped.proofs.Returning.{starts-blank, blank-generation}
use Rattle.agent_stopped.proofs.starting.begin.Goals as goal

pub open-requires-clause-whole : goal.open-requires-clause-whole
open-requires-clause-whole c = (
  started c.args.local (first_saved c.args.opening.now.uid c.args.opening.now.settings) false c.args.opening.now.layout.room c.args.opening.now.asks_uid,
  starts-blank c.args.opening.now c.args.local (disk_bytes (memory_disk c.new-disk.result)) c.new-disk.ensures.blank,
)

pub returns-in-Ok-clause-started : goal.returns-in-Ok-clause-started
returns-in-Ok-clause-started c =
    c.in-Ok.ensures.started (started c.args.local (first_saved c.args.opening.now.uid c.args.opening.now.settings) false c.args.opening.now.layout.room c.args.opening.now.asks_uid)
    (starts-blank c.args.opening.now c.args.local (disk_bytes (memory_disk c.new-disk.result)) c.new-disk.ensures.blank)

pub returns-in-Ok-clause-blank : goal.returns-in-Ok-clause-blank
returns-in-Ok-clause-blank c = λ place. ap (λ (image : ℕ → ℕ). image place) c.open.ensures.same ∙ c.new-disk.ensures.blank place

pub returns-in-Ok-clause-first_generation : goal.returns-in-Ok-clause-first_generation
returns-in-Ok-clause-first_generation c =
    c.in-Ok.ensures.generation ∙ blank-generation c.args.opening.now.layout (disk_bytes (memory_disk c.new-disk.result)) c.new-disk.ensures.blank
