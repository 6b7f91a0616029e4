use Rattle.std.proofs.Common.{◌≡◌, ◌∙◌, ◌≤◌, ℕ, Ok, Err, arith, false, true, refl, subst, sym}
use Rattle.server_core.specs.declared.replies.Profile.{Profile}
use Rattle.server_sessions.specs.declared.serving.ServeEnd.TheVariants.{TurnsSpent}
use Rattle.server_sessions.specs.Reports.{desk_of, host_of}
use Rattle.server_sessions.specs.Wiring.{view_of}
use Rattle.server_sessions.specs.Behind.{HasServedBy, TurnEndsBy, looking}
use Rattle.server_sessions.specs.Connections.{Known}
use Rattle.server_sessions.specs.Journaling.{Journaling, journaled}
use Rattle.server_sessions.specs.Sessions.{ServesBy, site_of}
use Rattle.server_sessions.proofs.BehindLemmas.{begins, ends_in_turn, served_on, served_so_far, served_stop}
use Rattle.server_sessions.proofs.JournalLemmas.{run_behind}
use Rattle.server_sessions.proofs.LoopLemmas.{none_known}
use Rattle.server_sessions.proofs.serving.serve_noting.Goals as goal

pub loop-taken-init : goal.loop-taken-init
loop-taken-init g c = record {
  within = omega arith;
  served = begins (Journaling c.args.journal g.B.Behind.follows) (host_of (λ b. (goal.Handler-dyn g b).answers b.1) c.args.desk.now.server.profile c.args.handlers.now) (looking c.new-connections.result c.new-seen.result)
      (site_of (view_of (g.W.Wire.calls c.args.wire.now) (g.W.Wire.faults c.args.wire.now)) (desk_of (g.E.Entropy.state c.args.entropy.now) c.args.desk.now.server.table c.args.desk.now.rollouts) (journaled (g.B.Behind.kept c.args.behind.now) 0 (record { taken = g.N.Sink.taken c.args.notes.now; faults = g.N.Sink.faults c.args.notes.now }))) c.new-connections.ensures.empty c.new-seen.ensures.none;
  opened = λ conn is. absurd (none_known c.new-connections.result conn c.new-connections.ensures.empty is);
  fits = subst (λ (known : Known). g.B.Behind.fits c.args.behind.now known c.args.desk.now.server.table c.args.desk.now.rollouts) (sym c.new-connections.ensures.empty) c.requires.fits;
  keeps = g.met.B.Behind.keeps_none c.args.behind.now;
  profile = refl;
  silent = λ off. refl;
}

pub turn-requires-clause-stands : goal.turn-requires-clause-stands
turn-requires-clause-stands g c =
    let it = c.loop-taken.invariant in record { streams = it.served.streams; stands = it.served.stands; keyed = it.served.keyed }

pub turn-requires-clause-room : goal.turn-requires-clause-room
turn-requires-clause-room g c = omega (arith, c.loop-taken-test.true)

pub loop-taken-preserved : goal.loop-taken-preserved
loop-taken-preserved g c =
    let it = c.loop-taken.invariant in record {
      within = omega (arith, c.in-Ok.ensures.counted, c.loop-taken-test.true);
      served = subst (λ (n : ℕ). HasServedBy (Journaling c.args.journal g.B.Behind.follows) (host_of (λ b. (goal.Handler-dyn g b).answers b.1) c.args.desk.now.server.profile c.args.handlers.now) n (looking c.turn.new.connections c.turn.new.seen)
          (site_of (view_of (g.W.Wire.calls c.args.wire.now) (g.W.Wire.faults c.args.wire.now)) (desk_of (g.E.Entropy.state c.args.entropy.now) c.args.desk.now.server.table c.args.desk.now.rollouts) (journaled (g.B.Behind.kept c.args.behind.now) 0 (record { taken = g.N.Sink.taken c.args.notes.now; faults = g.N.Sink.faults c.args.notes.now })))
          (site_of (view_of (g.W.Wire.calls c.turn.new.wire) (g.W.Wire.faults c.turn.new.wire)) (desk_of (g.E.Entropy.state c.turn.new.entropy) c.turn.new.desk.server.table c.turn.new.desk.rollouts) (journaled (g.B.Behind.kept c.turn.new.behind) c.turn.new.taken (record { taken = g.N.Sink.taken c.turn.new.notes; faults = g.N.Sink.faults c.turn.new.notes })))) (sym c.in-Ok.ensures.counted)
          (served_on (Journaling c.args.journal g.B.Behind.follows) (host_of (λ b. (goal.Handler-dyn g b).answers b.1) c.args.desk.now.server.profile c.args.handlers.now) c.loop-taken.taken (looking c.loop-taken.connections c.loop-taken.seen) (looking c.turn.new.connections c.turn.new.seen)
          (site_of (view_of (g.W.Wire.calls c.args.wire.now) (g.W.Wire.faults c.args.wire.now)) (desk_of (g.E.Entropy.state c.args.entropy.now) c.args.desk.now.server.table c.args.desk.now.rollouts) (journaled (g.B.Behind.kept c.args.behind.now) 0 (record { taken = g.N.Sink.taken c.args.notes.now; faults = g.N.Sink.faults c.args.notes.now })))
          (site_of (view_of (g.W.Wire.calls c.loop-taken.wire) (g.W.Wire.faults c.loop-taken.wire)) (desk_of (g.E.Entropy.state c.loop-taken.entropy) c.loop-taken.desk.server.table c.loop-taken.desk.rollouts) (journaled (g.B.Behind.kept c.loop-taken.behind) c.loop-taken.taken (record { taken = g.N.Sink.taken c.loop-taken.notes; faults = g.N.Sink.faults c.loop-taken.notes })))
          (site_of (view_of (g.W.Wire.calls c.turn.new.wire) (g.W.Wire.faults c.turn.new.wire)) (desk_of (g.E.Entropy.state c.turn.new.entropy) c.turn.new.desk.server.table c.turn.new.desk.rollouts) (journaled (g.B.Behind.kept c.turn.new.behind) c.turn.new.taken (record { taken = g.N.Sink.taken c.turn.new.notes; faults = g.N.Sink.faults c.turn.new.notes })))
          it.served (rw (it.profile, c.if-stop.false) at c.in-Ok.ensures.ends));
      opened = c.in-Ok.ensures.open;
      fits = c.in-Ok.ensures.fits;
      keeps = g.met.B.Behind.keeps_more c.args.behind.now c.loop-taken.behind c.turn.new.behind it.keeps c.turn.ensures.keeps;
      profile = c.turn.ensures.profile ∙ it.profile;
      silent = λ off. c.turn.ensures.silent off ∙ it.silent off;
    }

pub returns-then-stop-clause-journals : goal.returns-then-stop-clause-journals
returns-then-stop-clause-journals g c =
    let it = c.loop-taken.invariant in
    let few : c.turn.new.taken ≤ c.args.turns = omega (arith, c.in-Ok.ensures.counted, c.loop-taken-test.true) in (
      c.turn.new.taken,
      (
        few,
        subst (λ (n : ℕ). ServesBy (Journaling c.args.journal g.B.Behind.follows) (host_of (λ b. (goal.Handler-dyn g b).answers b.1) c.args.desk.now.server.profile c.args.handlers.now) n
            (site_of (view_of (g.W.Wire.calls c.args.wire.now) (g.W.Wire.faults c.args.wire.now)) (desk_of (g.E.Entropy.state c.args.entropy.now) c.args.desk.now.server.table c.args.desk.now.rollouts) (journaled (g.B.Behind.kept c.args.behind.now) 0 (record { taken = g.N.Sink.taken c.args.notes.now; faults = g.N.Sink.faults c.args.notes.now })))
            (site_of (view_of (g.W.Wire.calls c.turn.new.wire) (g.W.Wire.faults c.turn.new.wire)) (desk_of (g.E.Entropy.state c.turn.new.entropy) c.turn.new.desk.server.table c.turn.new.desk.rollouts) (journaled (g.B.Behind.kept c.turn.new.behind) c.turn.new.taken (record { taken = g.N.Sink.taken c.turn.new.notes; faults = g.N.Sink.faults c.turn.new.notes }))) true) (sym c.in-Ok.ensures.counted)
            (served_stop (Journaling c.args.journal g.B.Behind.follows) (host_of (λ b. (goal.Handler-dyn g b).answers b.1) c.args.desk.now.server.profile c.args.handlers.now) c.loop-taken.taken (looking c.loop-taken.connections c.loop-taken.seen) (looking c.turn.new.connections c.turn.new.seen)
            (site_of (view_of (g.W.Wire.calls c.args.wire.now) (g.W.Wire.faults c.args.wire.now)) (desk_of (g.E.Entropy.state c.args.entropy.now) c.args.desk.now.server.table c.args.desk.now.rollouts) (journaled (g.B.Behind.kept c.args.behind.now) 0 (record { taken = g.N.Sink.taken c.args.notes.now; faults = g.N.Sink.faults c.args.notes.now })))
            (site_of (view_of (g.W.Wire.calls c.loop-taken.wire) (g.W.Wire.faults c.loop-taken.wire)) (desk_of (g.E.Entropy.state c.loop-taken.entropy) c.loop-taken.desk.server.table c.loop-taken.desk.rollouts) (journaled (g.B.Behind.kept c.loop-taken.behind) c.loop-taken.taken (record { taken = g.N.Sink.taken c.loop-taken.notes; faults = g.N.Sink.faults c.loop-taken.notes })))
            (site_of (view_of (g.W.Wire.calls c.turn.new.wire) (g.W.Wire.faults c.turn.new.wire)) (desk_of (g.E.Entropy.state c.turn.new.entropy) c.turn.new.desk.server.table c.turn.new.desk.rollouts) (journaled (g.B.Behind.kept c.turn.new.behind) c.turn.new.taken (record { taken = g.N.Sink.taken c.turn.new.notes; faults = g.N.Sink.faults c.turn.new.notes })))
            it.served (rw (it.profile, c.if-stop.true) at c.in-Ok.ensures.ends)),
      ),
    )

pub returns-in-Err-clause-journals : goal.returns-in-Err-clause-journals
returns-in-Err-clause-journals g c =
    let it = c.loop-taken.invariant in (
      c.turn.new.taken,
      ends_in_turn (Journaling c.args.journal g.B.Behind.follows) (host_of (λ b. (goal.Handler-dyn g b).answers b.1) c.args.desk.now.server.profile c.args.handlers.now) (Journaling c.args.journal g.B.Behind.part) c.args.turns c.loop-taken.taken (looking c.loop-taken.connections c.loop-taken.seen) (looking c.turn.new.connections c.turn.new.seen)
          (site_of (view_of (g.W.Wire.calls c.args.wire.now) (g.W.Wire.faults c.args.wire.now)) (desk_of (g.E.Entropy.state c.args.entropy.now) c.args.desk.now.server.table c.args.desk.now.rollouts) (journaled (g.B.Behind.kept c.args.behind.now) 0 (record { taken = g.N.Sink.taken c.args.notes.now; faults = g.N.Sink.faults c.args.notes.now })))
          (site_of (view_of (g.W.Wire.calls c.loop-taken.wire) (g.W.Wire.faults c.loop-taken.wire)) (desk_of (g.E.Entropy.state c.loop-taken.entropy) c.loop-taken.desk.server.table c.loop-taken.desk.rollouts) (journaled (g.B.Behind.kept c.loop-taken.behind) c.loop-taken.taken (record { taken = g.N.Sink.taken c.loop-taken.notes; faults = g.N.Sink.faults c.loop-taken.notes })))
          (site_of (view_of (g.W.Wire.calls c.turn.new.wire) (g.W.Wire.faults c.turn.new.wire)) (desk_of (g.E.Entropy.state c.turn.new.entropy) c.turn.new.desk.server.table c.turn.new.desk.rollouts) (journaled (g.B.Behind.kept c.turn.new.behind) c.turn.new.taken (record { taken = g.N.Sink.taken c.turn.new.notes; faults = g.N.Sink.faults c.turn.new.notes })))
          c.in-Err.end c.loop-taken-test.true it.served
          (subst (λ (p : Profile). TurnEndsBy (Journaling c.args.journal g.B.Behind.follows) (Journaling c.args.journal g.B.Behind.part) (host_of (λ b. (goal.Handler-dyn g b).answers b.1) p c.args.handlers.now) (looking c.loop-taken.connections c.loop-taken.seen) (looking c.turn.new.connections c.turn.new.seen)
          (site_of (view_of (g.W.Wire.calls c.loop-taken.wire) (g.W.Wire.faults c.loop-taken.wire)) (desk_of (g.E.Entropy.state c.loop-taken.entropy) c.loop-taken.desk.server.table c.loop-taken.desk.rollouts) (journaled (g.B.Behind.kept c.loop-taken.behind) c.loop-taken.taken (record { taken = g.N.Sink.taken c.loop-taken.notes; faults = g.N.Sink.faults c.loop-taken.notes })))
          (site_of (view_of (g.W.Wire.calls c.turn.new.wire) (g.W.Wire.faults c.turn.new.wire)) (desk_of (g.E.Entropy.state c.turn.new.entropy) c.turn.new.desk.server.table c.turn.new.desk.rollouts) (journaled (g.B.Behind.kept c.turn.new.behind) c.turn.new.taken (record { taken = g.N.Sink.taken c.turn.new.notes; faults = g.N.Sink.faults c.turn.new.notes }))) (Err c.in-Err.end)) it.profile c.in-Err.ensures.ends),
    )

pub returns-clause-journals : goal.returns-clause-journals
returns-clause-journals g c =
    let it = c.loop-taken.invariant in
    let all : c.loop-taken.taken ≡ c.args.turns = omega (arith, it.within, c.loop-taken-test.false) in (
      c.loop-taken.taken,
      subst (λ (n : ℕ). ServesBy (Journaling c.args.journal g.B.Behind.follows) (host_of (λ b. (goal.Handler-dyn g b).answers b.1) c.args.desk.now.server.profile c.args.handlers.now) n
          (site_of (view_of (g.W.Wire.calls c.args.wire.now) (g.W.Wire.faults c.args.wire.now)) (desk_of (g.E.Entropy.state c.args.entropy.now) c.args.desk.now.server.table c.args.desk.now.rollouts) (journaled (g.B.Behind.kept c.args.behind.now) 0 (record { taken = g.N.Sink.taken c.args.notes.now; faults = g.N.Sink.faults c.args.notes.now })))
          (site_of (view_of (g.W.Wire.calls c.loop-taken.wire) (g.W.Wire.faults c.loop-taken.wire)) (desk_of (g.E.Entropy.state c.loop-taken.entropy) c.loop-taken.desk.server.table c.loop-taken.desk.rollouts) (journaled (g.B.Behind.kept c.loop-taken.behind) c.loop-taken.taken (record { taken = g.N.Sink.taken c.loop-taken.notes; faults = g.N.Sink.faults c.loop-taken.notes }))) false) all
          (served_so_far (Journaling c.args.journal g.B.Behind.follows) (host_of (λ b. (goal.Handler-dyn g b).answers b.1) c.args.desk.now.server.profile c.args.handlers.now) c.loop-taken.taken (looking c.loop-taken.connections c.loop-taken.seen)
          (site_of (view_of (g.W.Wire.calls c.args.wire.now) (g.W.Wire.faults c.args.wire.now)) (desk_of (g.E.Entropy.state c.args.entropy.now) c.args.desk.now.server.table c.args.desk.now.rollouts) (journaled (g.B.Behind.kept c.args.behind.now) 0 (record { taken = g.N.Sink.taken c.args.notes.now; faults = g.N.Sink.faults c.args.notes.now })))
          (site_of (view_of (g.W.Wire.calls c.loop-taken.wire) (g.W.Wire.faults c.loop-taken.wire)) (desk_of (g.E.Entropy.state c.loop-taken.entropy) c.loop-taken.desk.server.table c.loop-taken.desk.rollouts) (journaled (g.B.Behind.kept c.loop-taken.behind) c.loop-taken.taken (record { taken = g.N.Sink.taken c.loop-taken.notes; faults = g.N.Sink.faults c.loop-taken.notes }))) it.served),
    )

pub returns-then-stop-clause-keeps : goal.returns-then-stop-clause-keeps
returns-then-stop-clause-keeps g c = g.met.B.Behind.keeps_more c.args.behind.now c.loop-taken.behind c.turn.new.behind c.loop-taken.invariant.keeps c.turn.ensures.keeps

pub returns-in-Err-clause-keeps : goal.returns-in-Err-clause-keeps
returns-in-Err-clause-keeps g c = g.met.B.Behind.keeps_more c.args.behind.now c.loop-taken.behind c.turn.new.behind c.loop-taken.invariant.keeps c.turn.ensures.keeps

pub returns-clause-keeps : goal.returns-clause-keeps
returns-clause-keeps g c = c.loop-taken.invariant.keeps

pub returns-then-stop-clause-ends : goal.returns-then-stop-clause-ends
returns-then-stop-clause-ends g c =
    let told = returns-then-stop-clause-journals g c in
    run_behind c.args.journal g.B.Behind.follows g.B.Behind.part (host_of (λ b. (goal.Handler-dyn g b).answers b.1) c.args.desk.now.server.profile c.args.handlers.now) c.args.turns
    (view_of (g.W.Wire.calls c.args.wire.now) (g.W.Wire.faults c.args.wire.now)) (view_of (g.W.Wire.calls c.turn.new.wire) (g.W.Wire.faults c.turn.new.wire))
    (desk_of (g.E.Entropy.state c.args.entropy.now) c.args.desk.now.server.table c.args.desk.now.rollouts) (desk_of (g.E.Entropy.state c.turn.new.entropy) c.turn.new.desk.server.table c.turn.new.desk.rollouts)
    (g.B.Behind.kept c.args.behind.now) (g.B.Behind.kept c.turn.new.behind) 0 told.0
    (record { taken = g.N.Sink.taken c.args.notes.now; faults = g.N.Sink.faults c.args.notes.now }) (record { taken = g.N.Sink.taken c.turn.new.notes; faults = g.N.Sink.faults c.turn.new.notes }) (Ok c.turn.new.taken) told.1

pub returns-in-Err-clause-ends : goal.returns-in-Err-clause-ends
returns-in-Err-clause-ends g c =
    let told = returns-in-Err-clause-journals g c in
    run_behind c.args.journal g.B.Behind.follows g.B.Behind.part (host_of (λ b. (goal.Handler-dyn g b).answers b.1) c.args.desk.now.server.profile c.args.handlers.now) c.args.turns
    (view_of (g.W.Wire.calls c.args.wire.now) (g.W.Wire.faults c.args.wire.now)) (view_of (g.W.Wire.calls c.turn.new.wire) (g.W.Wire.faults c.turn.new.wire))
    (desk_of (g.E.Entropy.state c.args.entropy.now) c.args.desk.now.server.table c.args.desk.now.rollouts) (desk_of (g.E.Entropy.state c.turn.new.entropy) c.turn.new.desk.server.table c.turn.new.desk.rollouts)
    (g.B.Behind.kept c.args.behind.now) (g.B.Behind.kept c.turn.new.behind) 0 told.0
    (record { taken = g.N.Sink.taken c.args.notes.now; faults = g.N.Sink.faults c.args.notes.now }) (record { taken = g.N.Sink.taken c.turn.new.notes; faults = g.N.Sink.faults c.turn.new.notes }) (Err c.in-Err.end) told.1

pub returns-clause-ends : goal.returns-clause-ends
returns-clause-ends g c =
    let told = returns-clause-journals g c in
    run_behind c.args.journal g.B.Behind.follows g.B.Behind.part (host_of (λ b. (goal.Handler-dyn g b).answers b.1) c.args.desk.now.server.profile c.args.handlers.now) c.args.turns
    (view_of (g.W.Wire.calls c.args.wire.now) (g.W.Wire.faults c.args.wire.now)) (view_of (g.W.Wire.calls c.loop-taken.wire) (g.W.Wire.faults c.loop-taken.wire))
    (desk_of (g.E.Entropy.state c.args.entropy.now) c.args.desk.now.server.table c.args.desk.now.rollouts) (desk_of (g.E.Entropy.state c.loop-taken.entropy) c.loop-taken.desk.server.table c.loop-taken.desk.rollouts)
    (g.B.Behind.kept c.args.behind.now) (g.B.Behind.kept c.loop-taken.behind) 0 told.0
    (record { taken = g.N.Sink.taken c.args.notes.now; faults = g.N.Sink.faults c.args.notes.now }) (record { taken = g.N.Sink.taken c.loop-taken.notes; faults = g.N.Sink.faults c.loop-taken.notes }) (Err TurnsSpent) told.1

pub returns-then-stop-clause-silent : goal.returns-then-stop-clause-silent
returns-then-stop-clause-silent g c = λ off. c.turn.ensures.silent off ∙ c.loop-taken.invariant.silent off

pub returns-in-Err-clause-silent : goal.returns-in-Err-clause-silent
returns-in-Err-clause-silent g c = λ off. c.turn.ensures.silent off ∙ c.loop-taken.invariant.silent off

pub returns-clause-silent : goal.returns-clause-silent
returns-clause-silent g c = c.loop-taken.invariant.silent
