use Rattle.std.proofs.Common.{◌≡◌, ◌≤◌, Ok, Err, sym, ◌∙◌, ap, subst}
use Rattle.edge_devices.specs.Disks.{disk_bytes}
use Rattle.agent_store.specs.declared.header.Header.{Header}
use Rattle.agent_store.specs.declared.opened.Opened.TheVariants.{Kept}
use Rattle.agent_store.specs.declared.slots.Layout.{Layout}
use Rattle.agent_store.specs.Found.{standing_of, EndsWithin, HasPart}
use Rattle.agent_store.specs.Headers.{TellsHeader, header_of}
use Rattle.agent_store.specs.Openings.{Opens, holding}
use Rattle.agent_store.specs.Slots.{other, log_start, log_stop, slot_start, standing}
use Rattle.agent_store.specs.Store.{StoreState}
use Rattle.agent_store.proofs.Choosing.{tells-on}
use Rattle.agent_store.proofs.OpeningEnds.{slot-fails, slot-wants, slot-damaged, slot-kept}
use Rattle.agent_store.proofs.store.Store.open_slot.Goals as goal

pub read_slot-requires : goal.read_slot-requires
read_slot-requires g c = λ told.
    let image = disk_bytes (g.D.Disk.state c.args.disk.now) in
    subst (λ (h : Header). TellsHeader image (slot_start c.args.layout c.args.side) h) (sym c.on-header.ensures)
    (tells-on c.args.layout image c.args.first c.args.second c.args.side (c.requires.first told) (c.requires.second told))

pub returns-in-Err : goal.returns-in-Err
returns-in-Err g c = record {
  opens = λ old a read choice. slot-fails g.P.Payload.codec g.P.Payload.canonical g.P.Payload.right g.P.Payload.typed c.args.layout old a c.args.first c.args.second (g.D.Disk.state c.args.disk.now) (g.D.Disk.countdown c.args.disk.now) read c.args.side choice
      (g.D.Disk.state c.read_slot.new.disk) (g.D.Disk.countdown c.read_slot.new.disk) c.read_slot.ensures.reads c.read_slot.ensures.counts c.read_slot.ensures.faults c.args.self.now c.in-Err.fail c.in-Err.ensures.memory (λ is. c.in-Err.ensures.fault (ap Err is));
}

pub returns-in-None : goal.returns-in-None
returns-in-None g c = record {
  opens = λ old a read choice. slot-damaged g.P.Payload.codec g.P.Payload.canonical g.P.Payload.right g.P.Payload.typed c.args.layout old a c.args.first c.args.second (g.D.Disk.state c.args.disk.now) (g.D.Disk.countdown c.args.disk.now) read c.args.side choice
      (g.D.Disk.state c.read_slot.new.disk) (g.D.Disk.countdown c.read_slot.new.disk) c.read_slot.ensures.reads c.read_slot.ensures.counts c.read_slot.ensures.faults c.args.self.now c.number.result c.number.ensures
      (λ told. subst (λ o. standing_of g.P.Payload.canonical o ≡ standing g.P.Payload.codec c.args.layout (disk_bytes (g.D.Disk.state c.args.disk.now)) c.args.side) c.in-None.is (c.in-Ok.ensures.found told));
}

pub returns-in-Err-keep : goal.returns-in-Err-keep
returns-in-Err-keep g c = record {
  opens = λ old a read choice. slot-wants g.P.Payload.codec g.P.Payload.canonical g.P.Payload.right g.P.Payload.typed c.args.layout old a c.args.first c.args.second (g.D.Disk.state c.args.disk.now) (g.D.Disk.countdown c.args.disk.now) read c.args.side choice
      (g.D.Disk.state c.read_slot.new.disk) (g.D.Disk.countdown c.read_slot.new.disk) c.read_slot.ensures.reads c.read_slot.ensures.counts c.read_slot.ensures.faults c.keep.new.self;
}

pub returns-in-Ok-keep : goal.returns-in-Ok-keep
returns-in-Ok-keep g c =
    let canonical = g.P.Payload.canonical in
    let part = c.in-Some.found.part in
    let right : g.P.Payload.right part = subst (λ o. HasPart g.P.Payload.right o) c.in-Some.is c.in-Ok.ensures.right in
    let typed : g.P.Payload.typed part = subst (λ o. HasPart g.P.Payload.typed o) c.in-Some.is c.in-Ok.ensures.typed in
    let target : c.on-target.result ≡ header_of c.args.first c.args.second (other c.args.side) = c.on-target.ensures ∙ ap (header_of c.args.first c.args.second) c.other.ensures in
    let after : holding c.args.layout c.args.side c.on-target.result.is_open c.on-header.result.generation c.in-Some.found.tail (canonical part) ≡ c.keep.new.self =
    sym (c.in-Ok-keep.ensures.holds ∙ ap (λ (s : StoreState). holding s.layout c.args.side c.on-target.result.is_open c.on-header.result.generation c.in-Some.found.tail (canonical part)) c.requires.fresh) in record {
      opens = λ old a read choice. subst (λ (s : StoreState). Opens g.P.Payload.codec canonical g.P.Payload.right g.P.Payload.typed c.args.layout s old (g.D.Disk.state c.read_slot.new.disk) a (g.D.Disk.countdown c.read_slot.new.disk) (Ok (Kept part))) after
          (slot-kept g.P.Payload.codec g.P.Payload.canonical g.P.Payload.right g.P.Payload.typed c.args.layout old a c.args.first c.args.second (g.D.Disk.state c.args.disk.now) (g.D.Disk.countdown c.args.disk.now) read c.args.side choice
          (g.D.Disk.state c.read_slot.new.disk) (g.D.Disk.countdown c.read_slot.new.disk) c.read_slot.ensures.reads c.read_slot.ensures.counts c.read_slot.ensures.faults part c.in-Some.found.tail
          (λ told. subst (λ o. standing_of canonical o ≡ standing g.P.Payload.codec c.args.layout (disk_bytes (g.D.Disk.state c.args.disk.now)) c.args.side) c.in-Some.is (c.in-Ok.ensures.found told))
          right typed (c.in-Ok-keep.ensures.itself right) c.on-target.result target c.on-header.result c.on-header.ensures);
    }

pub keep-requires : goal.keep-requires
keep-requires g c =
    let within = subst (λ o. EndsWithin (log_start c.args.layout c.args.side) (log_stop c.args.layout c.args.side) o) c.in-Some.is c.in-Ok.ensures.within in
    let same = ap (λ (s : StoreState). s.layout) c.requires.fresh in record {
      from = subst (λ (l : Layout). log_start l c.args.side ≤ c.in-Some.found.tail) (sym same) within.0;
      to = subst (λ (l : Layout). c.in-Some.found.tail ≤ log_stop l c.args.side) (sym same) within.1;
      intact = ap (λ (s : StoreState). s.broken) c.requires.fresh;
    }
