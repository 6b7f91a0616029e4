-- Round after round.
use Rattle.std.proofs.Common.{◌≡◌, ◌-◌, Bool, Ok, Err, ap, subst, arith}
use Rattle.message_handlers.specs.Names.{IsOrdered, names_of}
use Rattle.message_values.specs.declared.custom.CustomCapabilities.{CustomCapabilities}
use Rattle.message_handlers.specs.Asking.{MayAnswer}
use Rattle.agent_rounds.specs.declared.ends.AgentEnd.TheVariants.{ClockFault, FolderFault, StoreFault}
use Rattle.agent_rounds.specs.Moments.{Leads, Moment, held_view}
use Rattle.agent_rounds.specs.Rounds.{RoundBy}
use Rattle.agent_rounds.proofs.ImageLemmas.{risen}
use Rattle.agent_rounds.proofs.RoundsLemmas.{continues_first, continues_on, ends_restarting, ends_spent, ends_within}
use Rattle.agent_rounds.proofs.rounds.run_rounds.Goals as goal

pub loop-done-init : goal.loop-done-init
loop-done-init g c =
    let may = MayAnswer (λ b. (goal.Handler-dyn g b).answers b.1) c.args.handlers.now in
    let are = λ (names : CustomCapabilities). IsOrdered (names_of c.args.handlers.now) names.capabilities in
    let start : Moment = record {
      agent = c.args.agent.now;
      held = held_view g.G.Dialer.number c.args.held.now;
      disk = g.D.Disk.state c.args.disk.now;
      folder = g.F.Folder.state c.args.folder.now;
      dialer = g.G.Dialer.state c.args.dialer.now;
      clock = g.C.Clock.state c.args.clock.now;
    } in
    record {
      idle = c.requires.idle;
      fits = c.requires.fits;
      disk_count = omega arith;
      folder_count = omega arith;
      clock_count = omega arith;
      so_far = continues_first g.R.Rounds.asks g.R.Rounds.waits may are c.args.rounds start;
    }

pub loop-done-preserved : goal.loop-done-preserved
loop-done-preserved g c =
    let may = MayAnswer (λ b. (goal.Handler-dyn g b).answers b.1) c.args.handlers.now in
    let are = λ (names : CustomCapabilities). IsOrdered (names_of c.args.handlers.now) names.capabilities in
    let start : Moment = record {
      agent = c.args.agent.now;
      held = held_view g.G.Dialer.number c.args.held.now;
      disk = g.D.Disk.state c.args.disk.now;
      folder = g.F.Folder.state c.args.folder.now;
      dialer = g.G.Dialer.state c.args.dialer.now;
      clock = g.C.Clock.state c.args.clock.now;
    } in
    let now : Moment = record {
      agent = c.loop-done.agent;
      held = held_view g.G.Dialer.number c.loop-done.held;
      disk = g.D.Disk.state c.loop-done.disk;
      folder = g.F.Folder.state c.loop-done.folder;
      dialer = g.G.Dialer.state c.loop-done.dialer;
      clock = g.C.Clock.state c.loop-done.clock;
    } in
    let next : Moment = record {
      agent = c.run_parts.new.agent;
      held = held_view g.G.Dialer.number c.run_parts.new.held;
      disk = g.D.Disk.state c.run_parts.new.disk;
      folder = g.F.Folder.state c.run_parts.new.folder;
      dialer = g.G.Dialer.state c.run_parts.new.dialer;
      clock = g.C.Clock.state c.run_parts.new.clock;
    } in
    record {
      idle = c.in-Ok-false.ensures.idle;
      fits = c.in-Ok-false.ensures.fits;
      disk_count = omega (arith, c.loop-done.invariant.disk_count, c.in-Ok-false.ensures.disk_count);
      folder_count = omega (arith, c.loop-done.invariant.folder_count, c.in-Ok-false.ensures.folder_count);
      clock_count = omega (arith, c.loop-done.invariant.clock_count, c.in-Ok-false.ensures.clock_count);
      so_far = continues_on g.R.Rounds.asks g.R.Rounds.waits may are c.args.rounds c.loop-done.done start now c.loop-done-test.true c.loop-done.invariant.so_far next
          (subst (λ (restart : Bool). Leads (RoundBy g.R.Rounds.asks g.R.Rounds.waits may are) now next (Ok restart)) c.in-Ok-false.field-0-test c.in-Ok-false.ensures.round);
    }

pub returns-in-Ok-true-clause-rounds : goal.returns-in-Ok-true-clause-rounds
returns-in-Ok-true-clause-rounds g c =
    let may = MayAnswer (λ b. (goal.Handler-dyn g b).answers b.1) c.args.handlers.now in
    let are = λ (names : CustomCapabilities). IsOrdered (names_of c.args.handlers.now) names.capabilities in
    let start : Moment = record {
      agent = c.args.agent.now;
      held = held_view g.G.Dialer.number c.args.held.now;
      disk = g.D.Disk.state c.args.disk.now;
      folder = g.F.Folder.state c.args.folder.now;
      dialer = g.G.Dialer.state c.args.dialer.now;
      clock = g.C.Clock.state c.args.clock.now;
    } in
    let now : Moment = record {
      agent = c.loop-done.agent;
      held = held_view g.G.Dialer.number c.loop-done.held;
      disk = g.D.Disk.state c.loop-done.disk;
      folder = g.F.Folder.state c.loop-done.folder;
      dialer = g.G.Dialer.state c.loop-done.dialer;
      clock = g.C.Clock.state c.loop-done.clock;
    } in
    let next : Moment = record {
      agent = c.run_parts.new.agent;
      held = held_view g.G.Dialer.number c.run_parts.new.held;
      disk = g.D.Disk.state c.run_parts.new.disk;
      folder = g.F.Folder.state c.run_parts.new.folder;
      dialer = g.G.Dialer.state c.run_parts.new.dialer;
      clock = g.C.Clock.state c.run_parts.new.clock;
    } in
    ends_restarting g.R.Rounds.asks g.R.Rounds.waits may are c.args.rounds c.loop-done.done start now c.loop-done-test.true c.loop-done.invariant.so_far next c.in-Ok-true.ensures.fits
    (subst (λ (restart : Bool). Leads (RoundBy g.R.Rounds.asks g.R.Rounds.waits may are) now next (Ok restart)) c.in-Ok-true.field-0-test c.in-Ok-true.ensures.round)

pub returns-in-Err-clause-rounds : goal.returns-in-Err-clause-rounds
returns-in-Err-clause-rounds g c =
    let may = MayAnswer (λ b. (goal.Handler-dyn g b).answers b.1) c.args.handlers.now in
    let are = λ (names : CustomCapabilities). IsOrdered (names_of c.args.handlers.now) names.capabilities in
    let start : Moment = record {
      agent = c.args.agent.now;
      held = held_view g.G.Dialer.number c.args.held.now;
      disk = g.D.Disk.state c.args.disk.now;
      folder = g.F.Folder.state c.args.folder.now;
      dialer = g.G.Dialer.state c.args.dialer.now;
      clock = g.C.Clock.state c.args.clock.now;
    } in
    let now : Moment = record {
      agent = c.loop-done.agent;
      held = held_view g.G.Dialer.number c.loop-done.held;
      disk = g.D.Disk.state c.loop-done.disk;
      folder = g.F.Folder.state c.loop-done.folder;
      dialer = g.G.Dialer.state c.loop-done.dialer;
      clock = g.C.Clock.state c.loop-done.clock;
    } in
    let next : Moment = record {
      agent = c.run_parts.new.agent;
      held = held_view g.G.Dialer.number c.run_parts.new.held;
      disk = g.D.Disk.state c.run_parts.new.disk;
      folder = g.F.Folder.state c.run_parts.new.folder;
      dialer = g.G.Dialer.state c.run_parts.new.dialer;
      clock = g.C.Clock.state c.run_parts.new.clock;
    } in
    ends_within g.R.Rounds.asks g.R.Rounds.waits may are c.args.rounds c.loop-done.done start now c.loop-done-test.true c.loop-done.invariant.so_far next c.in-Err.end c.in-Err.ensures.round

pub returns-in-Err-clause-store_fault : goal.returns-in-Err-clause-store_fault
returns-in-Err-clause-store_fault g c =
    λ is. let same : c.in-Err.end ≡ StoreFault = cc in
    risen _ _ _ c.loop-done.invariant.disk_count (c.in-Err.ensures.store_fault (ap (λ end. Err end) same))

pub returns-in-Err-clause-folder_fault : goal.returns-in-Err-clause-folder_fault
returns-in-Err-clause-folder_fault g c =
    λ is. let same : c.in-Err.end ≡ FolderFault = cc in
    risen _ _ _ c.loop-done.invariant.folder_count (c.in-Err.ensures.folder_fault (ap (λ end. Err end) same))

pub returns-in-Err-clause-clock_fault : goal.returns-in-Err-clause-clock_fault
returns-in-Err-clause-clock_fault g c =
    λ is. let same : c.in-Err.end ≡ ClockFault = cc in
    risen _ _ _ c.loop-done.invariant.clock_count (c.in-Err.ensures.clock_fault (ap (λ end. Err end) same))

pub returns-clause-rounds : goal.returns-clause-rounds
returns-clause-rounds g c =
    let may = MayAnswer (λ b. (goal.Handler-dyn g b).answers b.1) c.args.handlers.now in
    let are = λ (names : CustomCapabilities). IsOrdered (names_of c.args.handlers.now) names.capabilities in
    let start : Moment = record {
      agent = c.args.agent.now;
      held = held_view g.G.Dialer.number c.args.held.now;
      disk = g.D.Disk.state c.args.disk.now;
      folder = g.F.Folder.state c.args.folder.now;
      dialer = g.G.Dialer.state c.args.dialer.now;
      clock = g.C.Clock.state c.args.clock.now;
    } in
    let now : Moment = record {
      agent = c.loop-done.agent;
      held = held_view g.G.Dialer.number c.loop-done.held;
      disk = g.D.Disk.state c.loop-done.disk;
      folder = g.F.Folder.state c.loop-done.folder;
      dialer = g.G.Dialer.state c.loop-done.dialer;
      clock = g.C.Clock.state c.loop-done.clock;
    } in
    let none : c.args.rounds - c.loop-done.done ≡ 0 = omega (arith, c.loop-done-test.false) in
    ends_spent g.R.Rounds.asks g.R.Rounds.waits may are c.args.rounds c.loop-done.done start now none c.loop-done.invariant.fits c.loop-done.invariant.so_far
