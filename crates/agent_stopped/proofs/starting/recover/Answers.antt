use Rattle.std.proofs.Common.{◌≡◌, ◌∙◌, ℕ, sym, subst}
use Rattle.std.specs.Prelude.{IfOk}
use Rattle.edge_devices.specs.Disks.{disk_bytes}
use Rattle.edge_devices.specs.MemoryDisks.{memory_disk}
use Rattle.agent_store.specs.Loads.{store_of}
use Rattle.agent_rules.specs.Codec.{codec}
use Rattle.agent_rules.specs.Half.{AgentHalf}
use Rattle.agent_stopped.specs.Stages.{left_on}
use Rattle.agent_stopped.specs.Starts.{StartsAs}
use Rattle.agent_stopped.proofs.starting.recover.Goals as goal

pub open-requires-clause-whole : goal.open-requires-clause-whole
open-requires-clause-whole c =
    (c.requires.whole.0, subst (λ (image : ℕ → ℕ). StartsAs c.args.opening.now c.args.local image c.requires.whole.0) (λ i p. sym (c.crash.ensures.left p) i) c.requires.whole.1)

pub returns-clause-started : goal.returns-clause-started
returns-clause-started c =
    let crashed : disk_bytes (memory_disk c.crash.new.self) ≡ left_on c.args.disk.now c.args.mode = λ i p. c.crash.ensures.left p i in
    subst (λ (image : ℕ → ℕ). IfOk c.open.result (λ agent. (half : AgentHalf) → StartsAs c.args.opening.now c.args.local image half → agent.half ≡ half)) crashed c.open.ensures.started

pub returns-clause-left : goal.returns-clause-left
returns-clause-left c =
    let crashed : disk_bytes (memory_disk c.crash.new.self) ≡ left_on c.args.disk.now c.args.mode = λ i p. c.crash.ensures.left p i in
    c.open.ensures.same ∙ crashed

pub returns-clause-generation : goal.returns-clause-generation
returns-clause-generation c =
    let crashed : disk_bytes (memory_disk c.crash.new.self) ≡ left_on c.args.disk.now c.args.mode = λ i p. c.crash.ensures.left p i in
    subst (λ (image : ℕ → ℕ). IfOk c.open.result (λ agent. agent.store.generation ≡ (store_of codec c.args.opening.now.layout image).generation)) crashed c.open.ensures.generation
