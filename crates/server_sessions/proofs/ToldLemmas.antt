-- What a session tells of the wire: the events that it is of, in their order, and between them no others.
use Rattle.std.proofs.Common.{◌≡◌, ℕ, List, [], ◌∷◌, ◌++◌, Bool, true, false, not, ◌&&◌, nat_le, length, is_some, Option, None, Some, MatchBool, MatchOption, refl, sym, ap, ◌∙◌, append_assoc, append-nil, inl, inr, arith}
use Rattle.std.proofs.lemmas.List.Elements.{filter_map-append}
use Rattle.edge_devices.specs.declared.wires.Kind.{Kind}
use Rattle.edge_devices.specs.declared.wires.Given.{Given}
use Rattle.edge_devices.specs.declared.wires.WireEvent.{WireEvent}
use Rattle.edge_devices.specs.declared.wires.WireEvent.TheVariants as event
use Rattle.edge_devices.specs.declared.wires.WireCall.{WireCall}
use Rattle.edge_devices.specs.declared.wires.WireCall.TheVariants.{Gave, Sent, LostOn, Closed}
use Rattle.edge_devices.specs.Wires.{Grows}
use Rattle.server_sessions.specs.Streams.{Stream, Item, Brings}
use Rattle.server_sessions.specs.Reports.{Host}
use Rattle.server_sessions.specs.Answers.{Says, GoesOut}
use Rattle.server_lines.specs.Sights.{Seen, numbers_in, sight_of}
use Rattle.server_sessions.specs.Session.{Scene, Ending, ServesAll, Streams, Moment, SessionState, stream_at, with_stream, after_piece, Opens, Does, ServerSession, moment_of, seen_at}
use Rattle.server_sessions.specs.Wiring.{WireView, IsDone}
use Rattle.server_sessions.specs.Runs.{event_in, Gives}

pub grows_none : (a : Option (List WireCall)) → Grows a a []
grows_none None = refl
grows_none (Some calls) = sym (append-nil calls)

pub grows_trans : (a b c : Option (List WireCall)) (xs ys : List WireCall) → Grows a b xs → Grows b c ys → Grows a c (xs ++ ys)
grows_trans None None c xs ys p q = q
grows_trans None (Some b) c xs ys p q = absurd (cc p)
grows_trans (Some a) None c xs ys p q = absurd p
grows_trans (Some a) (Some b) None xs ys p q = absurd q
grows_trans (Some a) (Some b) (Some c) xs ys p q = q ∙ ap (λ (l : List WireCall). l ++ ys) p ∙ append_assoc a xs ys

pub gives_none : (a : WireView) → Gives a a []
gives_none a = record { more = []; told = grows_none a.calls; gave = refl; count = omega arith }

pub gives_more : (a b c : WireView) (xs ys : List Given) → Gives a b xs → Gives b c ys → Gives a c (xs ++ ys)
gives_more a b c xs ys p q = record {
  more = p.more ++ q.more;
  told = grows_trans a.calls b.calls c.calls p.more q.more p.told q.told;
  gave = rw (filter_map-append, p.gave, q.gave) refl;
  count = omega (arith, p.count, q.count);
}

-- a call that gave no event
pub done_none : (call : WireCall) (a b : WireView) → event_in call ≡ None → IsDone call a b → Gives a b []
done_none call a b none p = record { more = call ∷ []; told = p.told; gave = rw none refl; count = p.count }

-- one that gave this one
pub done_gives : (a b : WireView) (e : Given) → IsDone (Gave e.at e.event) a b → Gives a b (e ∷ [])
done_gives a b e p = record { more = Gave e.at e.event ∷ []; told = p.told; gave = refl; count = p.count }

says_none : (conn : ℕ) (bytes : Option (List ℕ)) (a b : WireView) → Says conn bytes a b → Gives a b []
says_none conn None a b p = rw p (gives_none a)
says_none conn (Some bytes) a b p = done_none (Sent conn bytes) a b refl p

goes_none : (conn : ℕ) (bytes : Option (List ℕ)) (closes : Bool) (a b : WireView) (stays : Bool) → GoesOut conn bytes closes a b stays → Gives a b []
goes_none conn bytes closes a b true p = says_none conn bytes a b p.1
goes_none conn bytes closes a b false (inl p) = record { more = LostOn conn ∷ []; told = p.1.told; gave = refl; count = p.1.count }
goes_none conn bytes closes a b false (inr p) = gives_more a p.1.0 b [] [] (says_none conn bytes a p.1.0 p.1.1) (done_none (Closed conn) p.1.0 b refl p.1.2)

all_none : (host : Host) (k : Kind) (conn : ℕ) (items : List Item) (a b : Scene) (end : Ending) → ServesAll host k conn items a b end → Gives a.wire b.wire []
all_none host k conn [] a b end p = rw p.0 (gives_none a.wire)
all_none host k conn (item ∷ items) a b end p =
    gives_more a.wire p.0.wire b.wire [] [] (goes_none conn p.2.answer.bytes p.2.answer.closes a.wire p.0.wire p.1.stays p.2.goes_out)
    (by_end (p.1.stays && not p.1.stop) (all_none host k conn items p.0 b end) p.3)
  where
    by_end : (t : Bool) → (ServesAll host k conn items p.0 b end → Gives p.0.wire b.wire [])
        → MatchBool t (ServesAll host k conn items p.0 b end) ((b ≡ p.0) × (end ≡ p.1)) → Gives p.0.wire b.wire []
    by_end true rest q = rest q
    by_end false rest q = rw q.0 (gives_none p.0.wire)

opens_none : (limit conn : ℕ) (k : Kind) (old new : Streams) (a b : WireView) → Opens limit conn k old new a b → Gives a b []
opens_none limit conn k old new a b p = by_known (is_some (stream_at old conn)) (nat_le limit (length old)) p
  where
    by_known : (s t : Bool) → MatchBool s ((new ≡ old) × (b ≡ a)) (MatchBool t ((new ≡ old) × IsDone (Closed conn) a b) ((new ≡ with_stream old conn (record { kind = k; bytes = [] })) × (b ≡ a))) → Gives a b []
    by_known true t q = rw q.1 (gives_none a)
    by_known false true q = done_none (Closed conn) a b refl q.1
    by_known false false q = rw q.1 (gives_none a)

pub does_none : (host : Host) (seen : Seen) (e : WireEvent) (old new : Moment) (stop : Bool) → Does host seen e old new stop → Gives old.scene.wire new.scene.wire []
does_none host seen (event.Opened conn k) old new stop p = opens_none host.profile.connections conn k old.streams new.streams old.scene.wire new.scene.wire p.0
does_none host seen (event.Closed conn) old new stop p = rw p.0 (gives_none old.scene.wire)
does_none host seen (event.Piece conn bytes) old new stop p = by_stream (stream_at old.streams conn) p
  where
    by_stream : (o : Option Stream)
        → MatchOption o ((new ≡ old) × (stop ≡ false)) (λ stream. (items : List Item) × (end : Ending) × Brings (sight_of seen (numbers_in old.streams)) stream bytes items × ServesAll host stream.kind conn items old.scene new.scene end
        × (new.streams ≡ after_piece old.streams conn stream bytes end.stays) × (stop ≡ end.stop))
        → Gives old.scene.wire new.scene.wire []
    by_stream None q = rw q.0 (gives_none old.scene.wire)
    by_stream (Some stream) q = all_none host stream.kind conn q.0 old.scene new.scene q.1 q.3

-- the events that the wire gave in a session are those that it is of
pub session_gives : (host : Host) (events : List Given) (old new : SessionState) (stop : Bool) → ServerSession host events old new stop → Gives old.standing.wire new.standing.wire events
session_gives host [] old new stop p = rw p.0 (gives_none old.standing.wire)
session_gives host (e ∷ events) old new stop p =
    let turn = p.2 in
    let given : Gives old.standing.wire turn.0 (e ∷ []) = record { more = Gave e.at e.event ∷ []; told = turn.2.told; gave = refl; count = turn.2.count } in
    let done : Gives turn.0 p.0.standing.wire [] = rw turn.4 (does_none host (seen_at e.at old.seen) e.event (moment_of (record (old.standing) { wire = turn.0 })) turn.1 p.1 turn.3) in
    gives_more old.standing.wire p.0.standing.wire new.standing.wire (e ∷ []) events (gives_more old.standing.wire turn.0 p.0.standing.wire (e ∷ []) [] given done)
    (by_stop p.1 p.3 (session_gives host events p.0 new stop))
  where
    by_stop : (s : Bool) → MatchBool s ((events ≡ []) × (new ≡ p.0) × (stop ≡ true)) (ServerSession host events p.0 new stop)
        → (ServerSession host events p.0 new stop → Gives p.0.standing.wire new.standing.wire events) → Gives p.0.standing.wire new.standing.wire events
    by_stop true q more = rw (q.0, q.1) (gives_none p.0.standing.wire)
    by_stop false q more = more q
