use Rattle.std.proofs.Common.{◌∙◌, IsTrue, refl, sym, ap, subst}
use Rattle.message_values.specs.declared.state.Settings.{Settings}
use Rattle.edge_devices.specs.Disks.{DiskState, disk_bytes}
use Rattle.edge_devices.specs.Endpoints.{is_endpoint}
use Rattle.edge_devices.specs.MemoryDisks.{memory_disk}
use Rattle.agent_store.specs.Loads.{store_of}
use Rattle.agent_rules.specs.Codec.{codec}
use Rattle.agent_stopped.proofs.Returning.{undamaged, starts-as, starts-rested, starts-generation, armed-starts}
use Rattle.agent_stopped.proofs.starting.open.Goals as goal

pub load-requires : goal.load-requires
load-requires c = record {
  whole = undamaged c.args.opening.now c.args.local (disk_bytes (memory_disk c.arm.new.self)) c.requires.whole.0
      (armed-starts c.args.opening.now c.args.local c.args.disk.now c.arm.new.self c.arm.ensures.same c.requires.whole.0 c.requires.whole.1);
}

pub start-requires-clause-endpoint : goal.start-requires-clause-endpoint
start-requires-clause-endpoint c = subst (λ (s : Settings). IsTrue (is_endpoint s.endpoint)) (sym c.in-Ok.ensures.loaded.settings) c.requires.endpoint

pub start-requires-clause-right : goal.start-requires-clause-right
start-requires-clause-right c = c.in-Ok.ensures.loaded.right

pub returns-in-Ok-clause-started : goal.returns-in-Ok-clause-started
returns-in-Ok-clause-started c = λ half is.
    starts-as c.args.opening.now c.args.local (disk_bytes (memory_disk c.arm.new.self)) c.load.new.disk c.in-Ok.loaded c.start.result c.in-Ok.ensures.loaded c.start.ensures.started c.start.ensures.store half
    (armed-starts c.args.opening.now c.args.local c.args.disk.now c.arm.new.self c.arm.ensures.same half is)

pub returns-in-Ok-clause-at_rest : goal.returns-in-Ok-clause-at_rest
returns-in-Ok-clause-at_rest c =
    starts-rested c.args.opening.now c.args.local (disk_bytes (memory_disk c.arm.new.self)) c.load.new.disk c.in-Ok.loaded c.start.result c.in-Ok.ensures.loaded c.start.ensures.started c.start.ensures.store
    c.load.new.disk refl c.requires.whole.0 (armed-starts c.args.opening.now c.args.local c.args.disk.now c.arm.new.self c.arm.ensures.same c.requires.whole.0 c.requires.whole.1)

pub returns-in-Ok-clause-generation : goal.returns-in-Ok-clause-generation
returns-in-Ok-clause-generation c =
    starts-generation c.args.opening.now c.args.local (disk_bytes (memory_disk c.arm.new.self)) c.load.new.disk c.in-Ok.loaded c.start.result c.in-Ok.ensures.loaded c.start.ensures.started c.start.ensures.store
    (c.bytes_tell_store.ensures.store codec) ∙ ap (λ (d : DiskState). (store_of codec c.args.opening.now.layout (disk_bytes d)).generation) c.arm.ensures.same
