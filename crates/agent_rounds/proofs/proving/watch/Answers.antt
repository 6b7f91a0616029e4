use Rattle.std.proofs.Common.{◌≡◌, ◌-◌, Ok, Err, refl, subst, arith}
use Rattle.agent_config.specs.declared.word.Said.{Said}
use Rattle.agent_rounds.specs.Moments.{with_clock, with_folder}
use Rattle.agent_rounds.specs.Proving.{ReadsWord}
use Rattle.agent_rounds.proofs.ProvingLemmas.{watched_failed, watched_taken, watched_last, watched_on, watched_out, watched_refused}
use Rattle.agent_rounds.proofs.proving.watch.Goals as goal

pub returns-in-Ok-Taken-clause-watches : goal.returns-in-Ok-Taken-clause-watches
returns-in-Ok-Taken-clause-watches g c = λ s.
    watched_taken c.args.waits c.loop.counter c.args.name.now
    (with_folder (g.F.Folder.state c.args.folder.now) (with_clock (g.C.Clock.state c.args.clock.now) s))
    (with_folder (g.F.Folder.state c.loop.folder) (with_clock (g.C.Clock.state c.loop.clock) s))
    (with_folder (g.F.Folder.state c.read_word.new.folder) (with_clock (g.C.Clock.state c.loop.clock) s))
    c.loop-test.true (c.loop.invariant.so_far s)
    (subst (λ (said : Said). ReadsWord c.args.name.now (with_folder (g.F.Folder.state c.loop.folder) (with_clock (g.C.Clock.state c.loop.clock) s))
    (with_folder (g.F.Folder.state c.read_word.new.folder) (with_clock (g.C.Clock.state c.loop.clock) s)) (Ok said)) c.in-Ok-Taken.field-0-is (c.in-Ok-Taken.ensures.reads (with_clock (g.C.Clock.state c.loop.clock) s)))

pub returns-in-Ok-Refused-clause-watches : goal.returns-in-Ok-Refused-clause-watches
returns-in-Ok-Refused-clause-watches g c = λ s.
    watched_refused c.args.waits c.loop.counter c.args.name.now
    (with_folder (g.F.Folder.state c.args.folder.now) (with_clock (g.C.Clock.state c.args.clock.now) s))
    (with_folder (g.F.Folder.state c.loop.folder) (with_clock (g.C.Clock.state c.loop.clock) s))
    (with_folder (g.F.Folder.state c.read_word.new.folder) (with_clock (g.C.Clock.state c.loop.clock) s))
    c.loop-test.true (c.loop.invariant.so_far s) c.in-Ok-Refused.error
    (subst (λ (said : Said). ReadsWord c.args.name.now (with_folder (g.F.Folder.state c.loop.folder) (with_clock (g.C.Clock.state c.loop.clock) s))
    (with_folder (g.F.Folder.state c.read_word.new.folder) (with_clock (g.C.Clock.state c.loop.clock) s)) (Ok said)) c.in-Ok-Refused.field-0-is (c.in-Ok-Refused.ensures.reads (with_clock (g.C.Clock.state c.loop.clock) s)))

pub returns-in-Err-clause-watches : goal.returns-in-Err-clause-watches
returns-in-Err-clause-watches g c = λ s.
    watched_out c.args.waits c.loop.counter c.args.name.now
    (with_folder (g.F.Folder.state c.args.folder.now) (with_clock (g.C.Clock.state c.args.clock.now) s))
    (with_folder (g.F.Folder.state c.loop.folder) (with_clock (g.C.Clock.state c.loop.clock) s))
    (with_folder (g.F.Folder.state c.read_word.new.folder) (with_clock (g.C.Clock.state c.loop.clock) s))
    c.loop-test.true (c.loop.invariant.so_far s) c.in-Err.end (c.in-Err.ensures.reads (with_clock (g.C.Clock.state c.loop.clock) s))

pub returns-in-Err-wait-clause-watches : goal.returns-in-Err-wait-clause-watches
returns-in-Err-wait-clause-watches g c = λ s.
    watched_failed c.args.waits c.loop.counter c.args.name.now
    (with_folder (g.F.Folder.state c.args.folder.now) (with_clock (g.C.Clock.state c.args.clock.now) s))
    (with_folder (g.F.Folder.state c.loop.folder) (with_clock (g.C.Clock.state c.loop.clock) s))
    (with_folder (g.F.Folder.state c.read_word.new.folder) (with_clock (g.C.Clock.state c.loop.clock) s))
    c.loop-test.true (c.loop.invariant.so_far s)
    (with_folder (g.F.Folder.state c.read_word.new.folder) (with_clock (g.C.Clock.state c.wait.new.self) s))
    (subst (λ (said : Said). ReadsWord c.args.name.now (with_folder (g.F.Folder.state c.loop.folder) (with_clock (g.C.Clock.state c.loop.clock) s))
    (with_folder (g.F.Folder.state c.read_word.new.folder) (with_clock (g.C.Clock.state c.loop.clock) s)) (Ok said)) c.in-Ok-Nothing.field-0-is (c.in-Ok-Nothing.ensures.reads (with_clock (g.C.Clock.state c.loop.clock) s)))
    (record { answer = Err c.in-Err-wait.field-0; waits = c.in-Err-wait.ensures.waits; rest = refl; given = refl })

pub loop-preserved : goal.loop-preserved
loop-preserved g c = record {
  so_far = λ s.
      watched_on c.args.waits c.loop.counter c.args.name.now
      (with_folder (g.F.Folder.state c.args.folder.now) (with_clock (g.C.Clock.state c.args.clock.now) s))
      (with_folder (g.F.Folder.state c.loop.folder) (with_clock (g.C.Clock.state c.loop.clock) s))
      (with_folder (g.F.Folder.state c.read_word.new.folder) (with_clock (g.C.Clock.state c.loop.clock) s))
      c.loop-test.true (c.loop.invariant.so_far s)
      (with_folder (g.F.Folder.state c.read_word.new.folder) (with_clock (g.C.Clock.state c.wait.new.self) s))
      (subst (λ (said : Said). ReadsWord c.args.name.now (with_folder (g.F.Folder.state c.loop.folder) (with_clock (g.C.Clock.state c.loop.clock) s))
      (with_folder (g.F.Folder.state c.read_word.new.folder) (with_clock (g.C.Clock.state c.loop.clock) s)) (Ok said)) c.in-Ok-Nothing.field-0-is (c.in-Ok-Nothing.ensures.reads (with_clock (g.C.Clock.state c.loop.clock) s)))
      (record { answer = Ok tt; waits = c.in-Ok.ensures.waits; rest = refl; given = refl });
  folder_count = omega (arith, c.loop.invariant.folder_count, c.read_word.ensures.counts);
  clock_count = omega (arith, c.loop.invariant.clock_count, c.in-Ok.ensures.waits.count);
}

pub returns-clause-watches : goal.returns-clause-watches
returns-clause-watches g c = λ s.
    let none : c.args.waits - c.loop.counter ≡ 0 = omega (arith, c.loop-test.false) in
    watched_last c.args.waits c.loop.counter c.args.name.now
    (with_folder (g.F.Folder.state c.args.folder.now) (with_clock (g.C.Clock.state c.args.clock.now) s))
    (with_folder (g.F.Folder.state c.loop.folder) (with_clock (g.C.Clock.state c.loop.clock) s))
    (with_folder (g.F.Folder.state c.read_word-2.new.folder) (with_clock (g.C.Clock.state c.loop.clock) s)) c.read_word-2.result none (c.loop.invariant.so_far s)
    (c.read_word-2.ensures.reads (with_clock (g.C.Clock.state c.loop.clock) s))
