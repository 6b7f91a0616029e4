-- What a run's status says of it.
use Rattle.std.proofs.Common.{inl, inr}
use Rattle.message_handlers.specs.Asking.{MayAnswer}
use Rattle.message_handlers.specs.Names.{names_of}
use Rattle.command_agent.specs.Running.{Surroundings}
use Rattle.command_agent.proofs.TellLemmas.{damaged_run, large_run, numbers_run, outside_run, restarted_run, spent_run, store_run, told_damaged, told_faulty, told_wanting}
use Rattle.command_agent.proofs.running.run_agent.Goals as goal

pub returns-clause-ended : goal.returns-clause-ended
returns-clause-ended g c = (c.run-ending.result, c.run-ending.ensures.ends, c.tell.ensures.tells)

pub returns-clause-restarted : goal.returns-clause-restarted
returns-clause-restarted g c =
    let may = MayAnswer (λ b. (goal.Handler-dyn g b).answers b.1) c.args.handlers.now in
    let handlers = names_of c.args.handlers.now in
    let old : Surroundings = record {
      disk = g.D.Disk.state c.args.disk.now;
      folder = g.F.Folder.state c.args.folder.now;
      dialer = g.G.Dialer.state c.args.dialer.now;
      clock = g.C.Clock.state c.args.clock.now;
      entropy = g.E.Entropy.state c.args.entropy.now;
    } in
    let new : Surroundings = record {
      disk = g.D.Disk.state c.run-ending.new.disk;
      folder = g.F.Folder.state c.run-ending.new.folder;
      dialer = g.G.Dialer.state c.run-ending.new.dialer;
      clock = g.C.Clock.state c.run-ending.new.clock;
      entropy = g.E.Entropy.state c.run-ending.new.entropy;
    } in
    restarted_run handlers may c.args.options.now old new (g.K.Sink.taken c.args.sink.now) (g.K.Sink.taken c.tell.new.sink) c.run-ending.result c.tell.result c.run-ending.ensures.ends c.tell.ensures.tells

pub returns-clause-rounds_spent : goal.returns-clause-rounds_spent
returns-clause-rounds_spent g c =
    let may = MayAnswer (λ b. (goal.Handler-dyn g b).answers b.1) c.args.handlers.now in
    let handlers = names_of c.args.handlers.now in
    let old : Surroundings = record {
      disk = g.D.Disk.state c.args.disk.now;
      folder = g.F.Folder.state c.args.folder.now;
      dialer = g.G.Dialer.state c.args.dialer.now;
      clock = g.C.Clock.state c.args.clock.now;
      entropy = g.E.Entropy.state c.args.entropy.now;
    } in
    let new : Surroundings = record {
      disk = g.D.Disk.state c.run-ending.new.disk;
      folder = g.F.Folder.state c.run-ending.new.folder;
      dialer = g.G.Dialer.state c.run-ending.new.dialer;
      clock = g.C.Clock.state c.run-ending.new.clock;
      entropy = g.E.Entropy.state c.run-ending.new.entropy;
    } in
    spent_run handlers may c.args.options.now old new (g.K.Sink.taken c.args.sink.now) (g.K.Sink.taken c.tell.new.sink) c.run-ending.result c.tell.result c.run-ending.ensures.ends c.tell.ensures.tells

pub returns-clause-damaged : goal.returns-clause-damaged
returns-clause-damaged g c =
    let may = MayAnswer (λ b. (goal.Handler-dyn g b).answers b.1) c.args.handlers.now in
    let handlers = names_of c.args.handlers.now in
    let old : Surroundings = record {
      disk = g.D.Disk.state c.args.disk.now;
      folder = g.F.Folder.state c.args.folder.now;
      dialer = g.G.Dialer.state c.args.dialer.now;
      clock = g.C.Clock.state c.args.clock.now;
      entropy = g.E.Entropy.state c.args.entropy.now;
    } in
    let new : Surroundings = record {
      disk = g.D.Disk.state c.run-ending.new.disk;
      folder = g.F.Folder.state c.run-ending.new.folder;
      dialer = g.G.Dialer.state c.run-ending.new.dialer;
      clock = g.C.Clock.state c.run-ending.new.clock;
      entropy = g.E.Entropy.state c.run-ending.new.entropy;
    } in
    damaged_run handlers may c.args.options.now old new (g.K.Sink.taken c.args.sink.now) (g.K.Sink.taken c.tell.new.sink) c.run-ending.result c.tell.result c.run-ending.ensures.ends c.tell.ensures.tells

pub returns-clause-numbers_spent : goal.returns-clause-numbers_spent
returns-clause-numbers_spent g c =
    let may = MayAnswer (λ b. (goal.Handler-dyn g b).answers b.1) c.args.handlers.now in
    let handlers = names_of c.args.handlers.now in
    let old : Surroundings = record {
      disk = g.D.Disk.state c.args.disk.now;
      folder = g.F.Folder.state c.args.folder.now;
      dialer = g.G.Dialer.state c.args.dialer.now;
      clock = g.C.Clock.state c.args.clock.now;
      entropy = g.E.Entropy.state c.args.entropy.now;
    } in
    let new : Surroundings = record {
      disk = g.D.Disk.state c.run-ending.new.disk;
      folder = g.F.Folder.state c.run-ending.new.folder;
      dialer = g.G.Dialer.state c.run-ending.new.dialer;
      clock = g.C.Clock.state c.run-ending.new.clock;
      entropy = g.E.Entropy.state c.run-ending.new.entropy;
    } in
    numbers_run handlers may c.args.options.now old new (g.K.Sink.taken c.args.sink.now) (g.K.Sink.taken c.tell.new.sink) c.run-ending.result c.tell.result c.run-ending.ensures.ends c.tell.ensures.tells

pub returns-clause-too_large : goal.returns-clause-too_large
returns-clause-too_large g c =
    let may = MayAnswer (λ b. (goal.Handler-dyn g b).answers b.1) c.args.handlers.now in
    let handlers = names_of c.args.handlers.now in
    let old : Surroundings = record {
      disk = g.D.Disk.state c.args.disk.now;
      folder = g.F.Folder.state c.args.folder.now;
      dialer = g.G.Dialer.state c.args.dialer.now;
      clock = g.C.Clock.state c.args.clock.now;
      entropy = g.E.Entropy.state c.args.entropy.now;
    } in
    let new : Surroundings = record {
      disk = g.D.Disk.state c.run-ending.new.disk;
      folder = g.F.Folder.state c.run-ending.new.folder;
      dialer = g.G.Dialer.state c.run-ending.new.dialer;
      clock = g.C.Clock.state c.run-ending.new.clock;
      entropy = g.E.Entropy.state c.run-ending.new.entropy;
    } in
    large_run handlers may c.args.options.now old new (g.K.Sink.taken c.args.sink.now) (g.K.Sink.taken c.tell.new.sink) c.run-ending.result c.tell.result c.run-ending.ensures.ends c.tell.ensures.tells

pub returns-clause-store_fault : goal.returns-clause-store_fault
returns-clause-store_fault g c = λ is.
    let may = MayAnswer (λ b. (goal.Handler-dyn g b).answers b.1) c.args.handlers.now in
    let handlers = names_of c.args.handlers.now in
    let old : Surroundings = record {
      disk = g.D.Disk.state c.args.disk.now;
      folder = g.F.Folder.state c.args.folder.now;
      dialer = g.G.Dialer.state c.args.dialer.now;
      clock = g.C.Clock.state c.args.clock.now;
      entropy = g.E.Entropy.state c.args.entropy.now;
    } in
    let new : Surroundings = record {
      disk = g.D.Disk.state c.run-ending.new.disk;
      folder = g.F.Folder.state c.run-ending.new.folder;
      dialer = g.G.Dialer.state c.run-ending.new.dialer;
      clock = g.C.Clock.state c.run-ending.new.clock;
      entropy = g.E.Entropy.state c.run-ending.new.entropy;
    } in
    c.run-ending.ensures.store_fault (store_run handlers may c.args.options.now old new (g.K.Sink.taken c.args.sink.now) (g.K.Sink.taken c.tell.new.sink) c.run-ending.result c.tell.result c.run-ending.ensures.ends c.tell.ensures.tells is)

pub returns-clause-outside_fault : goal.returns-clause-outside_fault
returns-clause-outside_fault g c = λ is.
    let may = MayAnswer (λ b. (goal.Handler-dyn g b).answers b.1) c.args.handlers.now in
    let handlers = names_of c.args.handlers.now in
    let old : Surroundings = record {
      disk = g.D.Disk.state c.args.disk.now;
      folder = g.F.Folder.state c.args.folder.now;
      dialer = g.G.Dialer.state c.args.dialer.now;
      clock = g.C.Clock.state c.args.clock.now;
      entropy = g.E.Entropy.state c.args.entropy.now;
    } in
    let new : Surroundings = record {
      disk = g.D.Disk.state c.run-ending.new.disk;
      folder = g.F.Folder.state c.run-ending.new.folder;
      dialer = g.G.Dialer.state c.run-ending.new.dialer;
      clock = g.C.Clock.state c.run-ending.new.clock;
      entropy = g.E.Entropy.state c.run-ending.new.entropy;
    } in
    c.run-ending.ensures.outside_fault (outside_run handlers may c.args.options.now old new (g.K.Sink.taken c.args.sink.now) (g.K.Sink.taken c.tell.new.sink) c.run-ending.result c.tell.result c.run-ending.ensures.ends c.tell.ensures.tells is)

pub returns-clause-damage_told : goal.returns-clause-damage_told
returns-clause-damage_told g c = λ slot told found.
    elim (c.run-ending.ensures.damage_told slot told found) [
      | inl damaged ↦ told_damaged c.args.options.now.rounds slot (g.K.Sink.taken c.args.sink.now) (g.K.Sink.taken c.tell.new.sink) c.run-ending.result damaged c.tell.result c.tell.ensures.tells
      | inr other ↦ elim other [
        | inl fault ↦ inr (inl (told_faulty c.args.options.now.rounds (g.K.Sink.taken c.args.sink.now) (g.K.Sink.taken c.tell.new.sink) c.run-ending.result fault c.tell.result c.tell.ensures.tells))
        | inr none ↦ inr (inr (inl (told_wanting c.args.options.now.rounds (g.K.Sink.taken c.args.sink.now) (g.K.Sink.taken c.tell.new.sink) c.run-ending.result none c.tell.result c.tell.ensures.tells)))
      ]
    ]
