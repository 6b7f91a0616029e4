use Rattle.std.proofs.Common.{◌≡◌, ◌⊎◌, ◌∙◌, ℕ, ◌+◌, List, [], Bool, false, Err, ap, inl, inr, refl, sym}
use Rattle.edge_devices.specs.declared.wires.WireCall.TheVariants.{Gave}
use Rattle.edge_devices.specs.declared.wires.WireEvent.{WireEvent}
use Rattle.server_sessions.specs.Reports.{desk_of, host_of}
use Rattle.server_sessions.specs.Session.{Streams, seen_at}
use Rattle.server_sessions.specs.Wiring.{IsDone, view_of}
use Rattle.server_sessions.specs.Behind.{is_piece, looking, post_of}
use Rattle.server_sessions.specs.Connections.{conn_of, ended_at, first_scene, scene_at}
use Rattle.server_sessions.specs.Journaling.{Journaling, journaled}
use Rattle.server_sessions.specs.Sessions.{site_of}
use Rattle.server_sessions.proofs.BehindLemmas.{memory_ends, part_behind, turns_then, wire_ends}
use Rattle.server_sessions.proofs.JournalLemmas.{leads_journaling}
use Rattle.server_sessions.proofs.LoopLemmas.{half_done}
use Rattle.server_sessions.proofs.ToldLemmas.{done_gives}
use Rattle.server_sessions.proofs.NoOffers.{event_offers}
use Rattle.server_sessions.proofs.Unheard.{unheard_stays}
use Rattle.server_sessions.proofs.serving.turn.Goals as goal

-- what the loop says of the event, in the words of the session
calm_of : (piece : Bool) (e : WireEvent) (ended : List ℕ) (streams streams2 : Streams) → piece ≡ is_piece e → ended ≡ ended_at (conn_of e) streams streams2 → (piece ≡ false) ⊎ (ended ≡ [])
    → (is_piece e ≡ false) ⊎ (ended_at (conn_of e) streams streams2 ≡ [])
calm_of piece e ended streams streams2 is was (inl none) = inl (sym is ∙ none)
calm_of piece e ended streams streams2 is was (inr none) = inr (sym was ∙ none)

pub follow-requires-clause-behind : goal.follow-requires-clause-behind
follow-requires-clause-behind g c =
    let stands = c.requires.stands in
    let steps = c.in_ok-stepped.ensures.steps stands.streams stands.stands in record {
      event = c.in_ok-given.given.event;
      before = c.args.connections.now;
      first = c.args.desk.now.server.table;
      rolling = c.args.desk.now.rollouts;
      fitted = c.requires.fits;
      heard = c.in_ok-stepped.ensures.handled stands.streams stands.stands;
      keeps = c.in_ok-stepped.ensures.known;
      others = λ calm uid unheard.
          unheard_stays (host_of (λ b. (goal.Handler-dyn g b).answers b.1) c.args.desk.now.server.profile c.args.handlers.now) uid c.begin.new.self c.in_ok-given.given.event
          (record { streams = stands.streams; scene = first_scene (view_of (g.W.Wire.calls c.next.new.self) (g.W.Wire.faults c.next.new.self)) (g.E.Entropy.state c.args.entropy.now) c.args.desk.now.server.table c.args.desk.now.rollouts })
          (record { streams = steps.0; scene = scene_at (view_of (g.W.Wire.calls c.step.new.wire) (g.W.Wire.faults c.step.new.wire)) (g.E.Entropy.state c.step.new.entropy) c.step.new.desk.server.table c.step.new.desk.rollouts c.in_ok-stepped.stepped })
          c.in_ok-stepped.stepped.stop steps.1 stands.keyed
          (calm_of c.is_piece-piece.result c.in_ok-given.given.event c.in_ok-stepped.stepped.ended stands.streams steps.0 c.is_piece-piece.ensures.piece steps.3 calm) unheard;
      offers =
          let law = c.orders_offer_nothing.ensures in
          event_offers law.begun law.halted law.resumed law.finished law.left (host_of (λ b. (goal.Handler-dyn g b).answers b.1) c.args.desk.now.server.profile c.args.handlers.now) c.begin.new.self c.in_ok-given.given.event
          (record { streams = stands.streams; scene = first_scene (view_of (g.W.Wire.calls c.next.new.self) (g.W.Wire.faults c.next.new.self)) (g.E.Entropy.state c.args.entropy.now) c.args.desk.now.server.table c.args.desk.now.rollouts })
          (record { streams = steps.0; scene = scene_at (view_of (g.W.Wire.calls c.step.new.wire) (g.W.Wire.faults c.step.new.wire)) (g.E.Entropy.state c.step.new.entropy) c.step.new.desk.server.table c.step.new.desk.rollouts c.in_ok-stepped.stepped })
          c.in_ok-stepped.stepped.stop steps.1;
    }

pub follow-requires-clause-open : goal.follow-requires-clause-open
follow-requires-clause-open g c = c.in_ok-stepped.ensures.open

pub returns-clause-ends : goal.returns-clause-ends
returns-clause-ends g c =
    let gave : IsDone (Gave c.in_ok-given.given.at c.in_ok-given.given.event) (view_of (g.W.Wire.calls c.args.wire.now) (g.W.Wire.faults c.args.wire.now)) (view_of (g.W.Wire.calls c.next.new.self) (g.W.Wire.faults c.next.new.self)) = record { told = c.in_ok-given.ensures.told; count = c.in_ok-given.ensures.count } in (
      c.in_ok-given.given,
      turns_then (Journaling c.args.journal g.B.Behind.follows) (host_of (λ b. (goal.Handler-dyn g b).answers b.1) c.args.desk.now.server.profile c.args.handlers.now) c.in_ok-given.given c.args.connections.now c.args.seen.now c.mark_behind.new.seen
          (view_of (g.W.Wire.calls c.args.wire.now) (g.W.Wire.faults c.args.wire.now)) (view_of (g.W.Wire.calls c.next.new.self) (g.W.Wire.faults c.next.new.self))
          (g.E.Entropy.state c.args.entropy.now) (g.E.Entropy.state c.step.new.entropy) c.args.desk.now.server.table c.args.desk.now.rollouts c.step.new.desk.server.profile
          (post_of c.step.new.self (view_of (g.W.Wire.calls c.step.new.wire) (g.W.Wire.faults c.step.new.wire)) c.step.new.desk.server.table c.step.new.desk.rollouts c.in_ok-stepped.stepped (journaled (g.B.Behind.kept c.args.behind.now) c.args.taken.now (record { taken = g.N.Sink.taken c.args.notes.now; faults = g.N.Sink.faults c.args.notes.now })))
          (post_of c.follow.new.connections (view_of (g.W.Wire.calls c.follow.new.wire) (g.W.Wire.faults c.follow.new.wire)) c.follow.new.desk.server.table c.follow.new.desk.rollouts c.follow.new.stepped (journaled (g.B.Behind.kept c.follow.new.self) (c.args.taken.now + 1) (record { taken = g.N.Sink.taken c.put_journal.new.notes; faults = g.N.Sink.faults c.put_journal.new.notes })))
          c.step.ensures.profile gave (done_gives _ _ c.in_ok-given.given gave) (rw c.begin.ensures.begun at c.in_ok-stepped.ensures.steps) (rw (c.as_slice.ensures.value, c.begin.ensures.begun) at c.in_ok-mark_behind.ensures.seen) c.in_ok-stepped.ensures.calls (leads_journaling c.args.journal g.B.Behind.follows c.step.new.desk.server.profile c.step.new.self c.follow.new.connections (view_of (g.W.Wire.calls c.step.new.wire) (g.W.Wire.faults c.step.new.wire)) (view_of (g.W.Wire.calls c.follow.new.wire) (g.W.Wire.faults c.follow.new.wire)) c.step.new.desk.server.table c.follow.new.desk.server.table c.step.new.desk.rollouts c.follow.new.desk.rollouts
          c.in_ok-stepped.stepped c.follow.new.stepped (g.B.Behind.kept c.args.behind.now) (g.B.Behind.kept c.follow.new.self) c.args.taken.now (record { taken = g.N.Sink.taken c.args.notes.now; faults = g.N.Sink.faults c.args.notes.now }) (record { taken = g.N.Sink.taken c.put_journal.new.notes; faults = g.N.Sink.faults c.put_journal.new.notes }) c.in_ok-follow.ensures.follows (rw c.as_slice-2.ensures.value at c.put_journal.ensures.journals)) c.in_ok-follow.ensures.calls,
    )

-- ---- memory was wanting, or the wire failed

pub returns-in_err-given-clause-ends : goal.returns-in_err-given-clause-ends
returns-in_err-given-clause-ends g c =
    wire_ends (Journaling c.args.journal g.B.Behind.follows) (Journaling c.args.journal g.B.Behind.part) (host_of (λ b. (goal.Handler-dyn g b).answers b.1) c.args.desk.now.server.profile c.args.handlers.now) (looking c.args.connections.now c.args.seen.now) (looking c.args.connections.now c.args.seen.now)
    (site_of (view_of (g.W.Wire.calls c.args.wire.now) (g.W.Wire.faults c.args.wire.now)) (desk_of (g.E.Entropy.state c.args.entropy.now) c.args.desk.now.server.table c.args.desk.now.rollouts) (journaled (g.B.Behind.kept c.args.behind.now) c.args.taken.now (record { taken = g.N.Sink.taken c.args.notes.now; faults = g.N.Sink.faults c.args.notes.now })))
    (site_of (view_of (g.W.Wire.calls c.next.new.self) (g.W.Wire.faults c.next.new.self)) (desk_of (g.E.Entropy.state c.args.entropy.now) c.args.desk.now.server.table c.args.desk.now.rollouts) (journaled (g.B.Behind.kept c.args.behind.now) c.args.taken.now (record { taken = g.N.Sink.taken c.args.notes.now; faults = g.N.Sink.faults c.args.notes.now })))
    c.from_residual.result c.in_err-given.field-0.0 c.from_residual.ensures.1
    (λ is. record { untold = c.in_err-given.ensures.untold; count = c.in_err-given.ensures.count; fault = c.in_err-given.ensures.fault (ap Err is) })
    (record { untold = c.in_err-given.ensures.untold; count = c.in_err-given.ensures.count }) refl

pub returns-in_err-stepped-clause-ends : goal.returns-in_err-stepped-clause-ends
returns-in_err-stepped-clause-ends g c =
    memory_ends (Journaling c.args.journal g.B.Behind.follows) (Journaling c.args.journal g.B.Behind.part) (host_of (λ b. (goal.Handler-dyn g b).answers b.1) c.args.desk.now.server.profile c.args.handlers.now) (looking c.args.connections.now c.args.seen.now) (looking c.step.new.self c.begin.new.self)
    (site_of (view_of (g.W.Wire.calls c.args.wire.now) (g.W.Wire.faults c.args.wire.now)) (desk_of (g.E.Entropy.state c.args.entropy.now) c.args.desk.now.server.table c.args.desk.now.rollouts) (journaled (g.B.Behind.kept c.args.behind.now) c.args.taken.now (record { taken = g.N.Sink.taken c.args.notes.now; faults = g.N.Sink.faults c.args.notes.now })))
    (site_of (view_of (g.W.Wire.calls c.step.new.wire) (g.W.Wire.faults c.step.new.wire)) (desk_of (g.E.Entropy.state c.step.new.entropy) c.step.new.desk.server.table c.step.new.desk.rollouts) (journaled (g.B.Behind.kept c.args.behind.now) c.args.taken.now (record { taken = g.N.Sink.taken c.args.notes.now; faults = g.N.Sink.faults c.args.notes.now })))
    c.from_residual-in_err-stepped.result c.from_residual-in_err-stepped.ensures.1
    (λ streams stands. inl (
      inr (
        c.in_ok-given.given,
        (view_of (g.W.Wire.calls c.next.new.self) (g.W.Wire.faults c.next.new.self)),
        record { told = c.in_ok-given.ensures.told; count = c.in_ok-given.ensures.count },
        (rw c.begin.ensures.begun at (c.in_err-stepped.ensures.wanting streams stands)),
      ),
      refl,
    ))

pub returns-in_err-mark_behind-clause-ends : goal.returns-in_err-mark_behind-clause-ends
returns-in_err-mark_behind-clause-ends g c =
    let host = host_of (λ b. (goal.Handler-dyn g b).answers b.1) c.args.desk.now.server.profile c.args.handlers.now in
    memory_ends (Journaling c.args.journal g.B.Behind.follows) (Journaling c.args.journal g.B.Behind.part) host (looking c.args.connections.now c.args.seen.now) (looking c.step.new.self c.mark_behind.new.seen)
    (site_of (view_of (g.W.Wire.calls c.args.wire.now) (g.W.Wire.faults c.args.wire.now)) (desk_of (g.E.Entropy.state c.args.entropy.now) c.args.desk.now.server.table c.args.desk.now.rollouts) (journaled (g.B.Behind.kept c.args.behind.now) c.args.taken.now (record { taken = g.N.Sink.taken c.args.notes.now; faults = g.N.Sink.faults c.args.notes.now })))
    (site_of (view_of (g.W.Wire.calls c.step.new.wire) (g.W.Wire.faults c.step.new.wire)) (desk_of (g.E.Entropy.state c.step.new.entropy) c.step.new.desk.server.table c.step.new.desk.rollouts) (journaled (g.B.Behind.kept c.args.behind.now) c.args.taken.now (record { taken = g.N.Sink.taken c.args.notes.now; faults = g.N.Sink.faults c.args.notes.now })))
    c.from_residual-in_err-mark_behind.result c.from_residual-in_err-mark_behind.ensures.1
    (λ streams stands. inl (
      inr (
        c.in_ok-given.given,
        (view_of (g.W.Wire.calls c.next.new.self) (g.W.Wire.faults c.next.new.self)),
        record { told = c.in_ok-given.ensures.told; count = c.in_ok-given.ensures.count },
        half_done host (seen_at c.in_ok-given.given.at c.args.seen.now) c.in_ok-given.given.event c.args.connections.now c.step.new.self
            (view_of (g.W.Wire.calls c.next.new.self) (g.W.Wire.faults c.next.new.self)) (view_of (g.W.Wire.calls c.step.new.wire) (g.W.Wire.faults c.step.new.wire))
            (g.E.Entropy.state c.args.entropy.now) (g.E.Entropy.state c.step.new.entropy) c.args.desk.now.server.table c.args.desk.now.rollouts c.step.new.desk.server.table c.step.new.desk.rollouts c.in_ok-stepped.stepped
            (rw c.begin.ensures.begun at c.in_ok-stepped.ensures.steps) streams stands,
      ),
      refl,
    ))

pub returns-in_err-follow-clause-ends : goal.returns-in_err-follow-clause-ends
returns-in_err-follow-clause-ends g c =
    let gave : IsDone (Gave c.in_ok-given.given.at c.in_ok-given.given.event) (view_of (g.W.Wire.calls c.args.wire.now) (g.W.Wire.faults c.args.wire.now)) (view_of (g.W.Wire.calls c.next.new.self) (g.W.Wire.faults c.next.new.self)) = record { told = c.in_ok-given.ensures.told; count = c.in_ok-given.ensures.count } in
    memory_ends (Journaling c.args.journal g.B.Behind.follows) (Journaling c.args.journal g.B.Behind.part) (host_of (λ b. (goal.Handler-dyn g b).answers b.1) c.args.desk.now.server.profile c.args.handlers.now) (looking c.args.connections.now c.args.seen.now) (looking c.follow.new.connections c.mark_behind.new.seen)
    (site_of (view_of (g.W.Wire.calls c.args.wire.now) (g.W.Wire.faults c.args.wire.now)) (desk_of (g.E.Entropy.state c.args.entropy.now) c.args.desk.now.server.table c.args.desk.now.rollouts) (journaled (g.B.Behind.kept c.args.behind.now) c.args.taken.now (record { taken = g.N.Sink.taken c.args.notes.now; faults = g.N.Sink.faults c.args.notes.now })))
    (site_of (view_of (g.W.Wire.calls c.follow.new.wire) (g.W.Wire.faults c.follow.new.wire)) (desk_of (g.E.Entropy.state c.step.new.entropy) c.follow.new.desk.server.table c.follow.new.desk.rollouts) (journaled (g.B.Behind.kept c.follow.new.self) (c.args.taken.now + 1) (record { taken = g.N.Sink.taken c.put_journal.new.notes; faults = g.N.Sink.faults c.put_journal.new.notes })))
    c.from_residual-in_err-follow.result c.from_residual-in_err-follow.ensures.1
    (λ streams stands. inr (part_behind (Journaling c.args.journal g.B.Behind.part) (host_of (λ b. (goal.Handler-dyn g b).answers b.1) c.args.desk.now.server.profile c.args.handlers.now) c.in_ok-given.given c.args.connections.now c.args.seen.now
    (view_of (g.W.Wire.calls c.args.wire.now) (g.W.Wire.faults c.args.wire.now)) (view_of (g.W.Wire.calls c.next.new.self) (g.W.Wire.faults c.next.new.self))
    (g.E.Entropy.state c.args.entropy.now) (g.E.Entropy.state c.step.new.entropy) c.args.desk.now.server.table c.args.desk.now.rollouts c.step.new.desk.server.profile
    (post_of c.step.new.self (view_of (g.W.Wire.calls c.step.new.wire) (g.W.Wire.faults c.step.new.wire)) c.step.new.desk.server.table c.step.new.desk.rollouts c.in_ok-stepped.stepped (journaled (g.B.Behind.kept c.args.behind.now) c.args.taken.now (record { taken = g.N.Sink.taken c.args.notes.now; faults = g.N.Sink.faults c.args.notes.now })))
    (post_of c.follow.new.connections (view_of (g.W.Wire.calls c.follow.new.wire) (g.W.Wire.faults c.follow.new.wire)) c.follow.new.desk.server.table c.follow.new.desk.rollouts c.follow.new.stepped (journaled (g.B.Behind.kept c.follow.new.self) (c.args.taken.now + 1) (record { taken = g.N.Sink.taken c.put_journal.new.notes; faults = g.N.Sink.faults c.put_journal.new.notes })))
    c.step.ensures.profile gave (rw c.begin.ensures.begun at c.in_ok-stepped.ensures.steps) (leads_journaling c.args.journal g.B.Behind.part c.step.new.desk.server.profile c.step.new.self c.follow.new.connections (view_of (g.W.Wire.calls c.step.new.wire) (g.W.Wire.faults c.step.new.wire)) (view_of (g.W.Wire.calls c.follow.new.wire) (g.W.Wire.faults c.follow.new.wire)) c.step.new.desk.server.table c.follow.new.desk.server.table c.step.new.desk.rollouts c.follow.new.desk.rollouts
    c.in_ok-stepped.stepped c.follow.new.stepped (g.B.Behind.kept c.args.behind.now) (g.B.Behind.kept c.follow.new.self) c.args.taken.now (record { taken = g.N.Sink.taken c.args.notes.now; faults = g.N.Sink.faults c.args.notes.now }) (record { taken = g.N.Sink.taken c.put_journal.new.notes; faults = g.N.Sink.faults c.put_journal.new.notes }) c.in_err-follow.ensures.part (rw c.as_slice-2.ensures.value at c.put_journal.ensures.journals)) streams stands))

pub returns-in_err-given-clause-keeps : goal.returns-in_err-given-clause-keeps
returns-in_err-given-clause-keeps g c = g.met.B.Behind.keeps_none c.args.behind.now

pub returns-in_err-stepped-clause-keeps : goal.returns-in_err-stepped-clause-keeps
returns-in_err-stepped-clause-keeps g c = g.met.B.Behind.keeps_none c.args.behind.now

pub returns-in_err-mark_behind-clause-keeps : goal.returns-in_err-mark_behind-clause-keeps
returns-in_err-mark_behind-clause-keeps g c = g.met.B.Behind.keeps_none c.args.behind.now
