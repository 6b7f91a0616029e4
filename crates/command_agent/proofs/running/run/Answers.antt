-- A run, by its start and its rounds.
use Rattle.std.proofs.Common.{◌≡◌, ◌⊎◌, Err, sym, ◌∙◌, subst, ap, refl}
use Rattle.message_handlers.specs.Asking.{MayAnswer}
use Rattle.message_handlers.specs.Names.{names_of}
use Rattle.edge_devices.specs.Clocks.{EntropyState}
use Rattle.edge_devices.specs.Disks.{disk_bytes}
use Rattle.agent_store.specs.Slots as slots
use Rattle.agent_rules.specs.Codec.{codec}
use Rattle.command_agent.specs.declared.endings.Ending.{Ending}
use Rattle.command_agent.specs.declared.endings.Ending.TheVariants as endings
use Rattle.command_agent.specs.Starting.{store_layout}
use Rattle.command_agent.specs.Running.{EndsSo, Surroundings}
use Rattle.command_agent.proofs.RunLemmas.{agent_runs, by_store_fault, ends_rounds, ends_without, fails_rounds, fails_without, one_slot, risen_since, without_damaged, without_store_fault}
use Rattle.command_agent.proofs.running.run.Goals as goal

pub returns-clause-ends : goal.returns-clause-ends
returns-clause-ends g c =
    let may = MayAnswer (λ b. (goal.Handler-dyn g b).answers b.1) c.args.handlers.now in
    let handlers = names_of c.args.handlers.now in
    let old : Surroundings = record {
      disk = g.D.Disk.state c.args.disk.now;
      folder = g.F.Folder.state c.args.folder.now;
      dialer = g.G.Dialer.state c.args.dialer.now;
      clock = g.C.Clock.state c.args.clock.now;
      entropy = g.E.Entropy.state c.args.entropy.now;
    } in
    let new : Surroundings = record {
      disk = g.D.Disk.state c.do_rounds-end.new.disk;
      folder = g.F.Folder.state c.do_rounds-end.new.folder;
      dialer = g.G.Dialer.state c.do_rounds-end.new.dialer;
      clock = g.C.Clock.state c.do_rounds-end.new.clock;
      entropy = g.E.Entropy.state c.start.new.entropy;
    } in
    subst (λ (ending : Ending). EndsSo handlers may c.args.options.now old new ending) (sym c.ending_of.ensures.ending)
    (ends_rounds handlers may c.args.options.now old new c.do_rounds-end.result
    (agent_runs handlers may c.args.options.now old new (g.D.Disk.state c.start.new.disk) c.in-Ok.agent c.do_rounds-end.new.agent c.do_rounds-end.result
    c.in-Ok.ensures.starts c.do_rounds-end.ensures.rounds c.do_rounds-end.ensures.proved c.do_rounds-end.ensures.configuration)
    c.do_rounds-end.ensures.numbers_spent c.do_rounds-end.ensures.rounds_spent c.do_rounds-end.ensures.too_large)

pub returns-clause-store_fault : goal.returns-clause-store_fault
returns-clause-store_fault g c =
    λ is. risen_since _ _ _ c.start.ensures.counts (c.do_rounds-end.ensures.store_fault (by_store_fault c.do_rounds-end.result (sym c.ending_of.ensures.ending ∙ is)))

pub returns-in-Err-clause-store_fault : goal.returns-in-Err-clause-store_fault
returns-in-Err-clause-store_fault g c =
    λ is. c.in-Err.ensures.fault (ap Err (without_store_fault c.in-Err.fail (sym c.ending_without.ensures.ending ∙ is)))

pub returns-in-Err-clause-ends : goal.returns-in-Err-clause-ends
returns-in-Err-clause-ends g c =
    let may = MayAnswer (λ b. (goal.Handler-dyn g b).answers b.1) c.args.handlers.now in
    let handlers = names_of c.args.handlers.now in
    let old : Surroundings = record {
      disk = g.D.Disk.state c.args.disk.now;
      folder = g.F.Folder.state c.args.folder.now;
      dialer = g.G.Dialer.state c.args.dialer.now;
      clock = g.C.Clock.state c.args.clock.now;
      entropy = g.E.Entropy.state c.args.entropy.now;
    } in
    let new : Surroundings = record old { disk = g.D.Disk.state c.start.new.disk; entropy = g.E.Entropy.state c.start.new.entropy } in
    subst (λ (ending : Ending). EndsSo handlers may c.args.options.now old new ending) (sym c.ending_without.ensures.ending)
    (ends_without handlers may c.args.options.now old new c.in-Err.fail (record { unwritten = c.start.ensures.unwritten; rest = refl })
    (λ slot is.
    let damaged = c.in-Err.ensures.damaged slot (ap Err is) in
    (damaged.0, ap (λ (entropy : EntropyState). record old { disk = g.D.Disk.state c.start.new.disk; entropy = entropy }) (ap g.E.Entropy.state damaged.1)))
    (λ is. c.in-Err.ensures.no_uid (ap Err is)))

pub returns-clause-outside_fault : goal.returns-clause-outside_fault
returns-clause-outside_fault g c = λ is.
    let may = MayAnswer (λ b. (goal.Handler-dyn g b).answers b.1) c.args.handlers.now in
    let handlers = names_of c.args.handlers.now in
    let old : Surroundings = record {
      disk = g.D.Disk.state c.args.disk.now;
      folder = g.F.Folder.state c.args.folder.now;
      dialer = g.G.Dialer.state c.args.dialer.now;
      clock = g.C.Clock.state c.args.clock.now;
      entropy = g.E.Entropy.state c.args.entropy.now;
    } in
    let new : Surroundings = record {
      disk = g.D.Disk.state c.do_rounds-end.new.disk;
      folder = g.F.Folder.state c.do_rounds-end.new.folder;
      dialer = g.G.Dialer.state c.do_rounds-end.new.dialer;
      clock = g.C.Clock.state c.do_rounds-end.new.clock;
      entropy = g.E.Entropy.state c.start.new.entropy;
    } in
    fails_rounds handlers may c.args.options.now old new c.do_rounds-end.result
    (agent_runs handlers may c.args.options.now old new (g.D.Disk.state c.start.new.disk) c.in-Ok.agent c.do_rounds-end.new.agent c.do_rounds-end.result
    c.in-Ok.ensures.starts c.do_rounds-end.ensures.rounds c.do_rounds-end.ensures.proved c.do_rounds-end.ensures.configuration)
    c.do_rounds-end.ensures.folder_fault c.do_rounds-end.ensures.clock_fault (sym c.ending_of.ensures.ending ∙ is)

pub returns-in-Err-clause-outside_fault : goal.returns-in-Err-clause-outside_fault
returns-in-Err-clause-outside_fault g c = λ is.
    let may = MayAnswer (λ b. (goal.Handler-dyn g b).answers b.1) c.args.handlers.now in
    let handlers = names_of c.args.handlers.now in
    let old : Surroundings = record {
      disk = g.D.Disk.state c.args.disk.now;
      folder = g.F.Folder.state c.args.folder.now;
      dialer = g.G.Dialer.state c.args.dialer.now;
      clock = g.C.Clock.state c.args.clock.now;
      entropy = g.E.Entropy.state c.args.entropy.now;
    } in
    let new : Surroundings = record old { disk = g.D.Disk.state c.start.new.disk; entropy = g.E.Entropy.state c.start.new.entropy } in
    fails_without handlers may c.args.options.now old new c.in-Err.fail (λ is. c.in-Err.ensures.no_uid (ap Err is)) (sym c.ending_without.ensures.ending ∙ is)

pub returns-clause-damage_told : goal.returns-clause-damage_told
returns-clause-damage_told g c = λ slot told found. absurd (c.in-Ok.ensures.undamaged slot found told)

pub returns-in-Err-clause-damage_told : goal.returns-in-Err-clause-damage_told
returns-in-Err-clause-damage_told g c = λ slot told found.
    subst (λ (ending : Ending). (ending ≡ endings.Damaged slot) ⊎ ((ending ≡ endings.StoreFault) ⊎ (ending ≡ endings.NoMemory))) (sym c.ending_without.ensures.ending)
    (without_damaged slot c.in-Err.fail
    (λ other is. one_slot (slots.reading codec store_layout (disk_bytes (g.D.Disk.state c.args.disk.now))) other slot ((c.in-Err.ensures.damaged other (ap Err is)).0.found told) found)
    (λ is. c.in-Err.ensures.undrawn slot found (ap Err is) told))
