use Rattle.std.proofs.Common.{◌≡◌, ℕ, IsTrue, sym, ◌∙◌, subst}
use Rattle.edge_devices.specs.Disks.{disk_bytes}
use Rattle.agent_store.specs.declared.slots.Choice.TheVariants.{Neither, Twins, Slot}
use Rattle.agent_store.specs.declared.slots.Side.TheVariants.{First, Second}
use Rattle.agent_store.specs.Headers.{TellsHeader, header_choice}
use Rattle.agent_store.specs.Openings.{ReadsHeaders}
use Rattle.agent_store.specs.Slots.{slot_start}
use Rattle.agent_store.proofs.OpeningEnds.{open-stops, open-fresh, open-twins}
use Rattle.agent_store.proofs.store.Store.open.Goals as goal

pub returns-in-Err : goal.returns-in-Err
returns-in-Err g c = record {
  opens = open-stops g.P.Payload.codec g.P.Payload.canonical g.P.Payload.right g.P.Payload.typed c.args.layout (g.D.Disk.state c.args.disk.now) (g.D.Disk.countdown c.args.disk.now) c.args.self.now
      (g.D.Disk.state c.read_both.new.disk) (g.D.Disk.countdown c.read_both.new.disk) c.read_both.ensures.any_moment c.read_both.ensures.same c.read_both.ensures.cause.later
      c.in-Err.ensures.cause.fault c.in-Err.ensures.made_part;
}

pub returns-in-Neither : goal.returns-in-Neither
returns-in-Neither g c =
    let old = g.D.Disk.state c.args.disk.now in
    let mid = g.D.Disk.state c.read_both.new.disk in
    let a = g.D.Disk.countdown c.args.disk.now in
    let b = g.D.Disk.countdown c.read_both.new.disk in
    let first = c.in-Ok.headers.0 in
    let second = c.in-Ok.headers.1 in
    let choice : header_choice first second ≡ Neither = sym c.choose.ensures ∙ c.in-Neither.is in
    let read : ReadsHeaders c.args.layout first second old mid a b = record {
      tells_first = c.in-Ok.ensures.first;
      tells_second = c.in-Ok.ensures.second;
      settled = c.in-Ok.ensures.settled;
      same = c.read_both.ensures.same;
      made = c.in-Ok.ensures.made;
      any_moment = c.read_both.ensures.any_moment;
      counts = c.read_both.ensures.cause.later;
    } in record {
      opens = open-fresh g.P.Payload.codec g.P.Payload.canonical g.P.Payload.right g.P.Payload.typed c.args.layout old a first second mid b read choice c.args.self.now (sym c.requires.fresh);
    }

pub returns-in-Twins : goal.returns-in-Twins
returns-in-Twins g c =
    let old = g.D.Disk.state c.args.disk.now in
    let mid = g.D.Disk.state c.read_both.new.disk in
    let a = g.D.Disk.countdown c.args.disk.now in
    let b = g.D.Disk.countdown c.read_both.new.disk in
    let first = c.in-Ok.headers.0 in
    let second = c.in-Ok.headers.1 in
    let choice : header_choice first second ≡ Twins = sym c.choose.ensures ∙ c.in-Twins.is in
    let read : ReadsHeaders c.args.layout first second old mid a b = record {
      tells_first = c.in-Ok.ensures.first;
      tells_second = c.in-Ok.ensures.second;
      settled = c.in-Ok.ensures.settled;
      same = c.read_both.ensures.same;
      made = c.in-Ok.ensures.made;
      any_moment = c.read_both.ensures.any_moment;
      counts = c.read_both.ensures.cause.later;
    } in record {
      opens = open-twins g.P.Payload.codec g.P.Payload.canonical g.P.Payload.right g.P.Payload.typed c.args.layout old a first second mid b read choice c.args.self.now;
    }

pub returns-in-Slot : goal.returns-in-Slot
returns-in-Slot g c =
    let old = g.D.Disk.state c.args.disk.now in
    let mid = g.D.Disk.state c.read_both.new.disk in
    let a = g.D.Disk.countdown c.args.disk.now in
    let b = g.D.Disk.countdown c.read_both.new.disk in
    let first = c.in-Ok.headers.0 in
    let second = c.in-Ok.headers.1 in
    let choice : header_choice first second ≡ Slot c.in-Slot.side = sym c.choose.ensures ∙ c.in-Slot.is in
    let read : ReadsHeaders c.args.layout first second old mid a b = record {
      tells_first = c.in-Ok.ensures.first;
      tells_second = c.in-Ok.ensures.second;
      settled = c.in-Ok.ensures.settled;
      same = c.read_both.ensures.same;
      made = c.in-Ok.ensures.made;
      any_moment = c.read_both.ensures.any_moment;
      counts = c.read_both.ensures.cause.later;
    } in record {
      opens = c.open_slot.ensures.opens old a read choice;
    }

pub open_slot-requires : goal.open_slot-requires
open_slot-requires g c =
    let same : disk_bytes (g.D.Disk.state c.args.disk.now) ≡ disk_bytes (g.D.Disk.state c.read_both.new.disk) = sym c.read_both.ensures.same in
    let told_old = λ (told : IsTrue (g.D.Disk.state c.read_both.new.disk).told). sym c.read_both.ensures.any_moment.told ∙ told in record {
      fresh = c.requires.fresh;
      first = λ told. subst (λ (image : ℕ → ℕ). TellsHeader image (slot_start c.args.layout First) c.in-Ok.headers.0) same (c.in-Ok.ensures.first (told_old told));
      second = λ told. subst (λ (image : ℕ → ℕ). TellsHeader image (slot_start c.args.layout Second) c.in-Ok.headers.1) same (c.in-Ok.ensures.second (told_old told));
    }
