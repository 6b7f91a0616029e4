use Rattle.std.proofs.Common.{◌≡◌, ◌∙◌, ◌⊎◌, ◌<◌, ℕ, IsTrue, Err, length, sym, ap, subst, arith}
use Rattle.message_values.specs.declared.state.Settings.{Settings}
use Rattle.edge_devices.specs.Disks.{DiskState, disk_bytes}
use Rattle.edge_devices.specs.Endpoints.{is_endpoint}
use Rattle.edge_devices.specs.MemoryDisks.{memory_disk}
use Rattle.agent_store.specs.Loads.{store_of}
use Rattle.agent_store.specs.Plans.{load_plan}
use Rattle.agent_rules.specs.Codec.{codec}
use Rattle.agent_stopped.specs.Starts.{StartsAs}
use Rattle.agent_stopped.proofs.Returning.{undamaged, starts-as, starts-rested, starts-generation, armed-starts, load-passes, load-stops, leaves-armed}
use Rattle.agent_stopped.proofs.starting.restart.Goals as goal

pub load-requires : goal.load-requires
load-requires c = record {
  whole = undamaged c.args.opening.now c.args.local (disk_bytes (memory_disk c.arm.new.self)) c.requires.whole.0
      (armed-starts c.args.opening.now c.args.local c.args.disk.now c.arm.new.self c.arm.ensures.same c.requires.whole.0 c.requires.whole.1);
}

pub start-requires-clause-right : goal.start-requires-clause-right
start-requires-clause-right c = c.in-Ok.ensures.loaded.right

pub start-requires-clause-endpoint : goal.start-requires-clause-endpoint
start-requires-clause-endpoint c = subst (λ (s : Settings). IsTrue (is_endpoint s.endpoint)) (sym c.in-Ok.ensures.loaded.settings) c.requires.endpoint

pub recover-requires-clause-endpoint : goal.recover-requires-clause-endpoint
recover-requires-clause-endpoint c = c.requires.endpoint

pub recover-requires-clause-whole : goal.recover-requires-clause-whole
recover-requires-clause-whole c = (
  c.requires.whole.0,
  subst (λ (image : ℕ → ℕ). StartsAs c.args.opening.now c.args.local image c.requires.whole.0)
      (sym (leaves-armed c.args.disk.now c.arm.new.self c.load.new.disk c.arm.ensures.same c.requires.settled (c.load.ensures.made_part (c.in-Err-Fault.is ∙ ap Err c.in-Err-Fault.field-0-is)) c.args.mode))
      c.requires.whole.1,
)

pub returns-in-Ok-clause-started : goal.returns-in-Ok-clause-started
returns-in-Ok-clause-started c = λ half is.
    starts-as c.args.opening.now c.args.local (disk_bytes (memory_disk c.arm.new.self)) c.load.new.disk c.in-Ok.loaded c.start.result c.in-Ok.ensures.loaded c.start.ensures.started c.start.ensures.store half
    (armed-starts c.args.opening.now c.args.local c.args.disk.now c.arm.new.self c.arm.ensures.same half is)

pub returns-in-Ok-clause-stopped : goal.returns-in-Ok-clause-stopped
returns-in-Ok-clause-stopped c = load-passes c.args.stop (subst (λ (left : ℕ). (left ≡ 0) ⊎ (length load_plan < left)) c.arm.ensures.armed c.in-Ok.ensures.made.before)

pub returns-in-Ok-clause-at_rest : goal.returns-in-Ok-clause-at_rest
returns-in-Ok-clause-at_rest c =
    starts-rested c.args.opening.now c.args.local (disk_bytes (memory_disk c.arm.new.self)) c.load.new.disk c.in-Ok.loaded c.start.result c.in-Ok.ensures.loaded c.start.ensures.started c.start.ensures.store
    c.arm-in-Ok.new.self c.arm-in-Ok.ensures.same c.requires.whole.0 (armed-starts c.args.opening.now c.args.local c.args.disk.now c.arm.new.self c.arm.ensures.same c.requires.whole.0 c.requires.whole.1)

pub returns-in-Ok-clause-same : goal.returns-in-Ok-clause-same
returns-in-Ok-clause-same c = ap disk_bytes c.arm-in-Ok.ensures.same ∙ c.load.ensures.same ∙ ap disk_bytes c.arm.ensures.same

pub returns-in-Ok-clause-unarmed : goal.returns-in-Ok-clause-unarmed
returns-in-Ok-clause-unarmed c = c.arm-in-Ok.ensures.armed

pub returns-in-Ok-clause-generation : goal.returns-in-Ok-clause-generation
returns-in-Ok-clause-generation c =
    starts-generation c.args.opening.now c.args.local (disk_bytes (memory_disk c.arm.new.self)) c.load.new.disk c.in-Ok.loaded c.start.result c.in-Ok.ensures.loaded c.start.ensures.started c.start.ensures.store
    (c.bytes_tell_store.ensures.store codec) ∙ ap (λ (d : DiskState). (store_of codec c.args.opening.now.layout (disk_bytes d)).generation) c.arm.ensures.same

pub returns-in-Ok-recover-clause-started : goal.returns-in-Ok-recover-clause-started
returns-in-Ok-recover-clause-started c = λ half is.
    c.in-Ok-recover.ensures.started half (subst (λ (image : ℕ → ℕ). StartsAs c.args.opening.now c.args.local image half)
    (sym (leaves-armed c.args.disk.now c.arm.new.self c.load.new.disk c.arm.ensures.same c.requires.settled (c.load.ensures.made_part (c.in-Err-Fault.is ∙ ap Err c.in-Err-Fault.field-0-is)) c.args.mode)) is)

pub returns-in-Ok-recover-clause-stopped : goal.returns-in-Ok-recover-clause-stopped
returns-in-Ok-recover-clause-stopped c = let hit : c.args.stop ≡ 1 = omega (arith, c.if-stop-ne-LOAD_CALL.false) in load-stops c.args.stop hit

pub returns-in-Ok-recover-clause-at_rest : goal.returns-in-Ok-recover-clause-at_rest
returns-in-Ok-recover-clause-at_rest c = c.in-Ok-recover.ensures.at_rest

pub returns-in-Ok-recover-clause-same : goal.returns-in-Ok-recover-clause-same
returns-in-Ok-recover-clause-same c =
    c.recover.ensures.left ∙ leaves-armed c.args.disk.now c.arm.new.self c.load.new.disk c.arm.ensures.same c.requires.settled (c.load.ensures.made_part (c.in-Err-Fault.is ∙ ap Err c.in-Err-Fault.field-0-is)) c.args.mode

pub returns-in-Ok-recover-clause-unarmed : goal.returns-in-Ok-recover-clause-unarmed
returns-in-Ok-recover-clause-unarmed c = c.in-Ok-recover.ensures.unarmed

pub returns-in-Ok-recover-clause-generation : goal.returns-in-Ok-recover-clause-generation
returns-in-Ok-recover-clause-generation c =
    c.in-Ok-recover.ensures.generation ∙ ap (λ (image : ℕ → ℕ). (store_of codec c.args.opening.now.layout image).generation)
    (leaves-armed c.args.disk.now c.arm.new.self c.load.new.disk c.arm.ensures.same c.requires.settled (c.load.ensures.made_part (c.in-Err-Fault.is ∙ ap Err c.in-Err-Fault.field-0-is)) c.args.mode)

pub returns-in-Err-clause-same : goal.returns-in-Err-clause-same
returns-in-Err-clause-same c =
    c.recover.ensures.left ∙ leaves-armed c.args.disk.now c.arm.new.self c.load.new.disk c.arm.ensures.same c.requires.settled (c.load.ensures.made_part (c.in-Err-Fault.is ∙ ap Err c.in-Err-Fault.field-0-is)) c.args.mode

pub returns-in-Err-NoMemory-clause-same : goal.returns-in-Err-NoMemory-clause-same
returns-in-Err-NoMemory-clause-same c = c.load.ensures.same ∙ ap disk_bytes c.arm.ensures.same
