-- One run has one ending: what a wire tells of a session says where it stood, and whether it stopped.
use Rattle.std.proofs.Common.{◌≡◌, ◌≢◌, ℕ, List, [], ◌∷◌, ◌++◌, map, length, nat_le, Bool, true, false, not, ◌&&◌, ◌||◌, if◌then◌else◌, Option, None, Some, is_some, IsSome, All, MatchBool, MatchOption, ◌<◌, Result, Ok, Err, arith, refl, sym, ap, ◌∙◌, subst, append_assoc, ◌⊎◌, inl, inr}
use Rattle.std.specs.Prelude.{IfOk}
use Rattle.std.specs.Result.{IsErrOf}
use Rattle.std.specs.List.{filter_map, flat_map, list_any}
use Rattle.std.proofs.lemmas.List.{append_cancel_left}
use Rattle.std.proofs.lemmas.List.Elements.{All-head, All-tail, filter_map-append}
use Rattle.std.proofs.lemmas.List.Folds.{list_any-append}
use Rattle.edge_devices.specs.declared.wires.Kind.{Kind}
use Rattle.edge_devices.specs.declared.wires.Kind.TheVariants as kind
use Rattle.edge_devices.specs.declared.wires.WireCall.{WireCall}
use Rattle.edge_devices.specs.declared.wires.WireCall.TheVariants.{Closed, Gave, Listened, LostOn, Sent}
use Rattle.edge_devices.specs.declared.wires.Given.{Given}
use Rattle.edge_devices.specs.declared.wires.WireEvent.{WireEvent}
use Rattle.edge_devices.specs.declared.wires.WireEvent.TheVariants as event
use Rattle.edge_devices.specs.Wires.{Grows}
use Rattle.edge_http.specs.declared.messages.HttpMessage.{HttpMessage}
use Rattle.edge_http.specs.Streams.{Rest, Open, Failed}
use Rattle.server_lines.specs.declared.orders.Order.{Order}
use Rattle.server_lines.specs.Lines.{MeansOrder}
use Rattle.server_sessions.specs.declared.answers.limits.TheConstants.{LINE_LIMIT}
use Rattle.server_sessions.specs.Answers.{Answers, Answer, Gets, GoesOut, Says, Sheet, no_memory_on}
use Rattle.server_sessions.specs.Reports.{Host, Desk}
use Rattle.server_lines.specs.Sights.{Seen, Sight, nothing_seen, numbers_in, sight_of}
use Rattle.server_sessions.specs.Session.{Scene, Ending, ServesAll, SessionState, Streams, Moment, Does, Turn, ServerSession, after_piece, moment_of, seen_at, state_of, stream_at, with_stream, without_stream}
use Rattle.server_sessions.specs.Streams.{Stream, Item, Payload, Line, LongLine, Partial, Request, Broken, Unread, AreLines, AreNewLines, AreNewRequests, AreRead, Brings, BringsOn, IsOneLine, broken_items, ended_line, line_item, rest_items}
use Rattle.server_sessions.specs.Wiring.{WireView, IsDone}
use Rattle.server_sessions.specs.declared.serving.ServeEnd.{ServeEnd}
use Rattle.server_sessions.specs.declared.serving.ServeEnd.TheVariants as end
use Rattle.server_sessions.specs.Runs.{FailsAfter, Gives, IsLostLast, ServesEvents, beginning, event_in}
use Rattle.server_sessions.proofs.ToldLemmas.{grows_none, grows_trans}
use Rattle.server_sessions.proofs.ItemAnswers.{closes_as, closes_is, closes_of, quiet, seen_as, speaks_as, speaks_is, spoken, stops_same}

-- ---- what calls tell

-- none of them gives an event
abbrev IsFree : List WireCall → Type 0
IsFree xs = filter_map event_in xs ≡ []

free_append : (xs ys : List WireCall) → IsFree xs → IsFree ys → IsFree (xs ++ ys)
free_append xs ys p q = rw (filter_map-append, p, q) refl

-- a connection ends in it
abbrev is_end : WireCall → Bool
is_end (Listened kind address) = false
is_end (Gave at e) = false
is_end (Sent conn bytes) = false
is_end (LostOn conn) = true
is_end (Closed conn) = true

-- These calls were made, none of which gives an event, and the connection stays exactly where none of them ends one.
record Makes (old new : WireView) (stays : Bool) : Type 0 where
  calls : List WireCall
  told : Grows old.calls new.calls calls
  free : IsFree calls
  ends : list_any is_end calls ≡ not stays

makes_none : (a : WireView) → Makes a a true
makes_none a = record { calls = []; told = grows_none a.calls; free = refl; ends = refl }

makes_more : (a b c : WireView) (stays : Bool) → Makes a b true → Makes b c stays → Makes a c stays
makes_more a b c stays p q = record {
  calls = p.calls ++ q.calls;
  told = grows_trans a.calls b.calls c.calls p.calls q.calls p.told q.told;
  free = free_append p.calls q.calls p.free q.free;
  ends = rw (list_any-append, p.ends) q.ends;
}

makes_said : (conn : ℕ) (bytes : Option (List ℕ)) (a b : WireView) → Says conn bytes a b → Makes a b true
makes_said conn None a b p = rw p (makes_none a)
makes_said conn (Some bytes) a b p = record { calls = Sent conn bytes ∷ []; told = p.told; free = refl; ends = refl }

makes_out : (conn : ℕ) (bytes : Option (List ℕ)) (closes : Bool) (a b : WireView) (stays : Bool) → GoesOut conn bytes closes a b stays → Makes a b stays
makes_out conn bytes closes a b true p = makes_said conn bytes a b p.1
makes_out conn bytes closes a b false (inl p) = record { calls = LostOn conn ∷ []; told = p.1.told; free = refl; ends = refl }
makes_out conn bytes closes a b false (inr p) =
    makes_more a p.1.0 b false (makes_said conn bytes a p.1.0 p.1.1) (record { calls = Closed conn ∷ []; told = p.1.2.told; free = refl; ends = refl })

makes_all : (host : Host) (k : Kind) (conn : ℕ) (items : List Item) (a b : Scene) (end : Ending) → ServesAll host k conn items a b end → Makes a.wire b.wire end.stays
makes_all host k conn [] a b end p = rw (p.0, p.1) (makes_none a.wire)
makes_all host k conn (item ∷ items) a b end p = by_stays p.1.stays p.1.stop refl (makes_out conn p.2.answer.bytes p.2.answer.closes a.wire p.0.wire p.1.stays p.2.goes_out) p.3 (makes_all host k conn items p.0 b end)
  where
    by_stays : (stays stop : Bool) → p.1.stays ≡ stays → Makes a.wire p.0.wire stays
        → MatchBool (stays && not stop) (ServesAll host k conn items p.0 b end) ((b ≡ p.0) × (end ≡ p.1))
        → (ServesAll host k conn items p.0 b end → Makes p.0.wire b.wire end.stays) → Makes a.wire b.wire end.stays
    by_stays true false is first rest more = makes_more a.wire p.0.wire b.wire end.stays first (more rest)
    by_stays true true is first rest more = rw (rest.0, rest.1, is) first
    by_stays false stop is first rest more = rw (rest.0, rest.1, is) first

-- ---- where a session stands behind an event

-- the streams behind an event whose calls are these
abbrev piece_after : Option Stream → Streams → ℕ → List ℕ → Bool → Streams
piece_after None streams conn bytes stays = streams
piece_after (Some stream) streams conn bytes stays = after_piece streams conn stream bytes stays

abbrev streams_after : ℕ → WireEvent → Streams → List WireCall → Streams
streams_after limit (event.Opened conn k) streams xs =
    if is_some (stream_at streams conn) then streams
    else if nat_le limit (length streams) then streams
    else with_stream streams conn (record { kind = k; bytes = [] })
streams_after limit (event.Closed conn) streams xs = without_stream streams conn
streams_after limit (event.Piece conn bytes) streams xs = piece_after (stream_at streams conn) streams conn bytes (not (list_any is_end xs))

record Leads (limit : ℕ) (e : WireEvent) (old new : Moment) : Type 0 where
  calls : List WireCall
  told : Grows old.scene.wire.calls new.scene.wire.calls calls
  free : IsFree calls
  streams : new.streams ≡ streams_after limit e old.streams calls

not_not : (b c : Bool) → b ≡ not c → not b ≡ c
not_not true true e = absurd (cc e)
not_not true false e = refl
not_not false true e = refl
not_not false false e = absurd (cc e)

leads : (host : Host) (seen : Seen) (e : WireEvent) (old new : Moment) (stop : Bool) → Does host seen e old new stop → Leads host.profile.connections e old new
leads host seen (event.Opened conn k) old new stop p = by_known (is_some (stream_at old.streams conn)) (nat_le host.profile.connections (length old.streams)) refl refl p.0
  where
    by_known : (s t : Bool) → is_some (stream_at old.streams conn) ≡ s → nat_le host.profile.connections (length old.streams) ≡ t
        → MatchBool s ((new.streams ≡ old.streams) × (new.scene.wire ≡ old.scene.wire))
        (MatchBool t ((new.streams ≡ old.streams) × IsDone (Closed conn) old.scene.wire new.scene.wire)
        ((new.streams ≡ with_stream old.streams conn (record { kind = k; bytes = [] })) × (new.scene.wire ≡ old.scene.wire)))
        → Leads host.profile.connections (event.Opened conn k) old new
    by_known true t is _ q = record { calls = []; told = rw q.1 (grows_none old.scene.wire.calls); free = refl; streams = rw is q.0 }
    by_known false true is is' q = record { calls = Closed conn ∷ []; told = q.1.told; free = refl; streams = rw (is, is') q.0 }
    by_known false false is is' q = record { calls = []; told = rw q.1 (grows_none old.scene.wire.calls); free = refl; streams = rw (is, is') q.0 }
leads host seen (event.Closed conn) old new stop p = record { calls = []; told = rw p.0 (grows_none old.scene.wire.calls); free = refl; streams = ap (λ (m : Moment). m.streams) p.0 }
leads host seen (event.Piece conn bytes) old new stop p = by_stream (stream_at old.streams conn) refl p
  where
    by_stream : (o : Option Stream) → stream_at old.streams conn ≡ o
        → MatchOption o ((new ≡ old) × (stop ≡ false)) (λ stream. (items : List Item) × (end : Ending) × Brings (sight_of seen (numbers_in old.streams)) stream bytes items × ServesAll host stream.kind conn items old.scene new.scene end
        × (new.streams ≡ after_piece old.streams conn stream bytes end.stays) × (stop ≡ end.stop))
        → Leads host.profile.connections (event.Piece conn bytes) old new
    by_stream None is q = record { calls = []; told = rw q.0 (grows_none old.scene.wire.calls); free = refl; streams = rw is (ap (λ (m : Moment). m.streams) q.0) }
    by_stream (Some stream) is q =
        let made = makes_all host stream.kind conn q.0 old.scene new.scene q.1 q.3 in
        record { calls = made.calls; told = made.told; free = made.free; streams = rw (is, not_not (list_any is_end made.calls) q.1.stays made.ends) q.4 }

-- ---- what a list of calls is made of

told_by : (a b : WireView) (calls xs : List WireCall) → a.calls ≡ Some calls → Grows a.calls b.calls xs → b.calls ≡ Some (calls ++ xs)
told_by a b calls xs is grows = by_calls b.calls (rw is at grows)
  where
    by_calls : (o : Option (List WireCall)) → Grows (Some calls) o xs → o ≡ Some (calls ++ xs)
    by_calls None q = absurd q
    by_calls (Some told) q = ap Some q

-- the first of them gives an event, if there is any
abbrev BeginsAnew : List WireCall → Type 0
BeginsAnew [] = Unit {0}
BeginsAnew (call ∷ calls) = event_in call ≢ None

given_apart : (e : Given) → event_in (Gave e.at e.event) ≢ None
given_apart e is = cc is

free_head : (x : WireCall) (xs : List WireCall) → IsFree (x ∷ xs) → event_in x ≡ None
free_head (Listened k address) xs is = refl
free_head (Gave at e) xs is = absurd (cc is)
free_head (Sent conn bytes) xs is = refl
free_head (LostOn conn) xs is = refl
free_head (Closed conn) xs is = refl

free_tail : (x : WireCall) (xs : List WireCall) → IsFree (x ∷ xs) → IsFree xs
free_tail (Listened k address) xs is = is
free_tail (Gave at e) xs is = absurd (cc is)
free_tail (Sent conn bytes) xs is = is
free_tail (LostOn conn) xs is = is
free_tail (Closed conn) xs is = is

same_front : (xs xs' ys ys' : List WireCall) → IsFree xs → IsFree xs' → BeginsAnew ys → BeginsAnew ys' → xs ++ ys ≡ xs' ++ ys' → xs ≡ xs'
same_front [] [] ys ys' f f' b b' e = refl
same_front [] (x ∷ xs') [] ys' f f' b b' e = absurd (cc e)
same_front [] (x ∷ xs') (y ∷ ys) ys' f f' b b' e =
    let same : y ≡ x = cc e in
    absurd (b (ap event_in same ∙ free_head x xs' f'))
same_front (x ∷ xs) [] ys [] f f' b b' e = absurd (cc e)
same_front (x ∷ xs) [] ys (y ∷ ys') f f' b b' e =
    let same : y ≡ x = cc e in
    absurd (b' (ap event_in same ∙ free_head x xs f))
same_front (x ∷ xs) (x' ∷ xs') ys ys' f f' b b' e =
    let head : x ≡ x' = cc e in
    let tail : xs ++ ys ≡ xs' ++ ys' = cc e in
    let rest : xs ≡ xs' = same_front xs xs' ys ys' (free_tail x xs f) (free_tail x' xs' f') b b' tail in
    cc (head, rest)

-- the calls of a session
record Anew (old new : WireView) : Type 0 where
  calls : List WireCall
  told : Grows old.calls new.calls calls
  anew : BeginsAnew calls

-- those of an event, behind it
turn_told : (host : Host) (e : Given) (a b : SessionState) (stop : Bool) (p : Turn host e a b stop) → (xs : List WireCall) × Grows a.standing.wire.calls b.standing.wire.calls (Gave e.at e.event ∷ xs) × IsFree xs × (b.standing.streams ≡ streams_after host.profile.connections e.event a.standing.streams xs)
turn_told host e a b stop p =
    let it = leads host (seen_at e.at a.seen) e.event (moment_of (record (a.standing) { wire = p.0 })) p.1 stop p.3 in
    let told : Grows a.standing.wire.calls p.1.scene.wire.calls (Gave e.at e.event ∷ it.calls) = grows_trans a.standing.wire.calls p.0.calls p.1.scene.wire.calls (Gave e.at e.event ∷ []) it.calls p.2.told it.told in
    (it.calls, rw p.4 told, it.free, rw p.4 it.streams)

session_anew : (host : Host) (events : List Given) (a b : SessionState) (stop : Bool) → ServerSession host events a b stop → Anew a.standing.wire b.standing.wire
session_anew host [] a b stop p = record { calls = []; told = rw p.0 (grows_none a.standing.wire.calls); anew = tt }
session_anew host (e ∷ events) a b stop p =
    let it = turn_told host e a p.0 p.1 p.2 in by_stop p.1 p.3 it.0 it.1 (session_anew host events p.0 b stop)
  where
    by_stop : (s : Bool) → MatchBool s ((events ≡ []) × (b ≡ p.0) × (stop ≡ true)) (ServerSession host events p.0 b stop) → (xs : List WireCall) → Grows a.standing.wire.calls p.0.standing.wire.calls (Gave e.at e.event ∷ xs)
        → (ServerSession host events p.0 b stop → Anew p.0.standing.wire b.standing.wire) → Anew a.standing.wire b.standing.wire
    by_stop true q xs told more = record { calls = Gave e.at e.event ∷ xs; told = rw q.1 told; anew = given_apart e }
    by_stop false q xs told more =
        let rest = more q in
        record { calls = Gave e.at e.event ∷ (xs ++ rest.calls); told = grows_trans a.standing.wire.calls p.0.standing.wire.calls b.standing.wire.calls (Gave e.at e.event ∷ xs) rest.calls told rest.told; anew = given_apart e }

-- ---- where two sessions of the same events and calls differ

-- the last of them is the answer to the line by which the run stops, be it lost or not
record EndsSaid (calls : List WireCall) : Type 0 where
  before : List WireCall
  conn : ℕ
  said : ((bytes : List ℕ) × (calls ≡ before ++ Sent conn bytes ∷ [])) ⊎ (calls ≡ before ++ LostOn conn ∷ [])

-- what goes out where the connection isn't closed behind it, and where it is
out_open : (conn : ℕ) (bytes : Option (List ℕ)) (a b : WireView) (stays : Bool) → GoesOut conn bytes false a b stays
    → ((stays ≡ true) × Says conn bytes a b) ⊎ ((stays ≡ false) × Grows a.calls b.calls (LostOn conn ∷ []))
out_open conn bytes a b true p = inl (refl, p.1)
out_open conn bytes a b false (inl p) = inr (refl, p.1.told)
out_open conn bytes a b false (inr p) = absurd (cc p.0)

out_closed : (conn : ℕ) (bytes : List ℕ) (a b : WireView) (stays : Bool) → GoesOut conn (Some bytes) true a b stays
    → (stays ≡ false) × (Grows a.calls b.calls (LostOn conn ∷ []) ⊎ Grows a.calls b.calls (Sent conn bytes ∷ Closed conn ∷ []))
out_closed conn bytes a b true p = absurd (cc p.0)
out_closed conn bytes a b false (inl p) = (refl, inl p.1.told)
out_closed conn bytes a b false (inr p) = (refl, inr (grows_trans a.calls p.1.0.calls b.calls (Sent conn bytes ∷ []) (Closed conn ∷ []) p.1.1.told p.1.2.told))

closed_ends : (conn : ℕ) (bytes : Option (List ℕ)) (a b : WireView) (stays : Bool) → GoesOut conn bytes true a b stays → stays ≡ false
closed_ends conn bytes a b true p = absurd (cc p.0)
closed_ends conn bytes a b false p = refl

said_more : (a b c : List WireCall) → b ≡ a ++ c → EndsSaid c → EndsSaid b
said_more a b c is p = record { before = a ++ p.before; conn = p.conn; said = by_said p.said }
  where
    by_said : ((bytes : List ℕ) × (c ≡ p.before ++ Sent p.conn bytes ∷ [])) ⊎ (c ≡ p.before ++ LostOn p.conn ∷ [])
        → ((bytes : List ℕ) × (b ≡ (a ++ p.before) ++ Sent p.conn bytes ∷ [])) ⊎ (b ≡ (a ++ p.before) ++ LostOn p.conn ∷ [])
    by_said (inl q) = inl (q.0, is ∙ ap (λ (xs : List WireCall). a ++ xs) q.1 ∙ sym (append_assoc a p.before (Sent p.conn q.0 ∷ [])))
    by_said (inr q) = inr (is ∙ ap (λ (xs : List WireCall). a ++ xs) q ∙ sym (append_assoc a p.before (LostOn p.conn ∷ [])))

-- it isn't a close
not_closed : (conn : ℕ) (calls : List WireCall) → EndsSaid (calls ++ Closed conn ∷ []) → ⊥
not_closed conn calls p = by_said p.said
  where
    last : (xs ys : List WireCall) (x y : WireCall) → xs ++ x ∷ [] ≡ ys ++ y ∷ [] → x ≡ y
    last [] [] x y e = cc e
    last [] (b ∷ []) x y e = absurd (cc e)
    last [] (b ∷ c ∷ ys) x y e = absurd (cc e)
    last (a ∷ []) [] x y e = absurd (cc e)
    last (a ∷ c ∷ xs) [] x y e = absurd (cc e)
    last (a ∷ xs) (b ∷ ys) x y e = let tail : xs ++ x ∷ [] ≡ ys ++ y ∷ [] = cc e in last xs ys x y tail

    by_said : ((bytes : List ℕ) × (calls ++ Closed conn ∷ [] ≡ p.before ++ Sent p.conn bytes ∷ [])) ⊎ (calls ++ Closed conn ∷ [] ≡ p.before ++ LostOn p.conn ∷ []) → ⊥
    by_said (inl q) = absurd (cc (last calls p.before (Closed conn) (Sent p.conn q.0) q.1))
    by_said (inr q) = absurd (cc (last calls p.before (Closed conn) (LostOn p.conn) q))

-- ---- items that are served

-- what a test of what comes next says, where part of it is known
stays_on : (A B : Type 0) (b c : Bool) → b ≡ true → MatchBool (b && not c) A B → MatchBool (not c) A B
stays_on A B true c e r = r
stays_on A B false c e r = absurd (cc e)

at_stop : (A B : Type 0) (c : Bool) → c ≡ true → MatchBool (not c) A B → B
at_stop A B true e r = r
at_stop A B false e r = absurd (cc e)

at_more : (A B : Type 0) (c : Bool) → c ≡ false → MatchBool (not c) A B → A
at_more A B true e r = absurd (cc e)
at_more A B false e r = r

module _ (host : Host) (k : Kind) (conn : ℕ) where
  -- behind an item after which nothing is handled
  ended : (item : Item) (items : List Item) (a b : Scene) (end : Ending) (p : ServesAll host k conn (item ∷ items) a b end) → (p.1.stays && not p.1.stop) ≡ false → (b ≡ p.0) × (end ≡ p.1)
  ended item items a b end p is = rw is at p.3

  -- an item that ends the run, or behind which it goes on and is ended later: it was answered, and the connection isn't closed behind it
  record Speaks (item : Item) (a : Scene) (mid : Scene) (first : Ending) (answer : Answer) : Type 0 where
    answered : Answers host conn item a.sheet mid.sheet answer
    open_is : closes_of item ≡ false
    said : ((first.stays ≡ true) × Says conn answer.bytes a.wire mid.wire) ⊎ ((first.stays ≡ false) × Grows a.wire.calls mid.wire.calls (LostOn conn ∷ []))
    stop_is : first.stop ≡ answer.stop

  speaks : (item : Item) (items : List Item) (a b : Scene) (end : Ending) (p : ServesAll host k conn (item ∷ items) a b end) → end.stop ≡ true → Speaks item a p.0 p.1 p.2.answer
  speaks item items a b end p stops = by_gets p.2.gets
    where
      over : closes_of item ≡ true → p.2.answer.closes ≡ true → p.2.answer.stop ≡ false → ⊥
      over e closes quiet_is =
          let leaves : p.1.stays ≡ false = closed_ends conn p.2.answer.bytes a.wire p.0.wire p.1.stays (rw closes at p.2.goes_out) in
          let last = ended item items a b end p (rw leaves refl) in
          absurd (cc (stops, ap (λ (e : Ending). e.stop) last.1, p.2.stop, quiet_is))

      by_closes : (c : Bool) → closes_of item ≡ c → Answers host conn item a.sheet p.0.sheet p.2.answer → Speaks item a p.0 p.1 p.2.answer
      by_closes true e r = absurd (over e (closes_is host conn item a.sheet p.0.sheet p.2.answer r ∙ e) (quiet host conn item a.sheet p.0.sheet p.2.answer r e))
      by_closes false e r = record {
        answered = r;
        open_is = e;
        said = out_open conn p.2.answer.bytes a.wire p.0.wire p.1.stays (rw (closes_is host conn item a.sheet p.0.sheet p.2.answer r ∙ e) at p.2.goes_out);
        stop_is = p.2.stop;
      }

      starved : p.2.answer ≡ record { bytes = Some (no_memory_on k); closes = true; stop = false } → ⊥
      starved e =
          let leaves : p.1.stays ≡ false = closed_ends conn p.2.answer.bytes a.wire p.0.wire p.1.stays (rw (ap (λ (x : Answer). x.closes) e) at p.2.goes_out) in
          let last = ended item items a b end p (rw leaves refl) in
          absurd (cc (stops, ap (λ (e : Ending). e.stop) last.1, p.2.stop, ap (λ (x : Answer). x.stop) e))

      by_gets : Gets host k conn item a.sheet p.0.sheet p.2.answer → Speaks item a p.0 p.1 p.2.answer
      by_gets (inl r) = by_closes (closes_of item) refl r
      by_gets (inr r) = absurd (starved r.1)

  -- the last call of a run that ends
  said_last : (item : Item) (a mid : Scene) (first : Ending) (answer : Answer) → Speaks item a mid first answer → first.stop ≡ true → Says conn answer.bytes a.wire mid.wire
      → (calls : List WireCall) × Grows a.wire.calls mid.wire.calls calls × EndsSaid calls
  said_last item a mid first answer it stops says =
      by_bytes answer.bytes (speaks_is host conn item a.sheet mid.sheet answer it.answered ∙ (spoken host conn item a.sheet mid.sheet answer it.answered (sym it.stop_is ∙ stops)).1) says
    where
      by_bytes : (o : Option (List ℕ)) → is_some o ≡ true → Says conn o a.wire mid.wire → (calls : List WireCall) × Grows a.wire.calls mid.wire.calls calls × EndsSaid calls
      by_bytes None e says = absurd (cc e)
      by_bytes (Some bytes) e says = (Sent conn bytes ∷ [], says.told, record { before = []; conn = conn; said = inl (bytes, refl) })

  stop_said : (items : List Item) (a b : Scene) (end : Ending) → ServesAll host k conn items a b end → end.stop ≡ true → (calls : List WireCall) × Grows a.wire.calls b.wire.calls calls × EndsSaid calls
  stop_said [] a b end p stops = absurd (cc (stops, ap (λ (e : Ending). e.stop) p.1))
  stop_said (item ∷ items) a b end p stops = by_said (speaks item items a b end p stops) (speaks item items a b end p stops).said (λ more. stop_said items p.0 b end more stops)
    where
      by_stop : Speaks item a p.0 p.1 p.2.answer → Says conn p.2.answer.bytes a.wire p.0.wire → (s : Bool) → p.1.stop ≡ s → MatchBool (not s) (ServesAll host k conn items p.0 b end) ((b ≡ p.0) × (end ≡ p.1))
          → (ServesAll host k conn items p.0 b end → (calls : List WireCall) × Grows p.0.wire.calls b.wire.calls calls × EndsSaid calls)
          → (calls : List WireCall) × Grows a.wire.calls b.wire.calls calls × EndsSaid calls
      by_stop it says true e rest more = rw rest.0 (said_last item a p.0 p.1 p.2.answer it e says)
      by_stop it says false e rest more =
          let later = more rest in
          let now = makes_said conn p.2.answer.bytes a.wire p.0.wire says in
          (now.calls ++ later.0, grows_trans a.wire.calls p.0.wire.calls b.wire.calls now.calls later.0 now.told later.1, said_more now.calls (now.calls ++ later.0) later.0 refl later.2)

      by_said : Speaks item a p.0 p.1 p.2.answer
          → ((p.1.stays ≡ true) × Says conn p.2.answer.bytes a.wire p.0.wire) ⊎ ((p.1.stays ≡ false) × Grows a.wire.calls p.0.wire.calls (LostOn conn ∷ []))
          → (ServesAll host k conn items p.0 b end → (calls : List WireCall) × Grows p.0.wire.calls b.wire.calls calls × EndsSaid calls)
          → (calls : List WireCall) × Grows a.wire.calls b.wire.calls calls × EndsSaid calls
      by_said it (inr lost) more =
          let last = ended item items a b end p (rw lost.0 refl) in
          (LostOn conn ∷ [], rw last.0 lost.1, record { before = []; conn = conn; said = inr refl })
      by_said it (inl said) more = by_stop it said.1 p.1.stop refl (stays_on (ServesAll host k conn items p.0 b end) ((b ≡ p.0) × (end ≡ p.1)) p.1.stays p.1.stop said.0 p.3) more

  -- what is said of one answer and of another leads to one place, where all calls are the same
  same_mid : (o o' : Option (List ℕ)) (a m b a' m' b' : WireView) (calls ys ys' : List WireCall) → is_some o ≡ is_some o' → Says conn o a m → Says conn o' a' m' → a.calls ≡ Some calls → a'.calls ≡ Some calls
      → Grows m.calls b.calls ys → Grows m'.calls b'.calls ys' → b.calls ≡ b'.calls → m.calls ≡ m'.calls
  same_mid None None a m b a' m' b' calls ys ys' e s s' is is' g g' same = ap (λ (w : WireView). w.calls) s ∙ is ∙ sym is' ∙ sym (ap (λ (w : WireView). w.calls) s')
  same_mid None (Some t') a m b a' m' b' calls ys ys' e s s' is is' g g' same = absurd (cc e)
  same_mid (Some t) None a m b a' m' b' calls ys ys' e s s' is is' g g' same = absurd (cc e)
  same_mid (Some t) (Some t') a m b a' m' b' calls ys ys' e s s' is is' g g' same =
      let m_is : m.calls ≡ Some (calls ++ Sent conn t ∷ []) = told_by a m calls (Sent conn t ∷ []) is s.told in
      let m_is' : m'.calls ≡ Some (calls ++ Sent conn t' ∷ []) = told_by a' m' calls (Sent conn t' ∷ []) is' s'.told in
      let b_is : b.calls ≡ Some ((calls ++ Sent conn t ∷ []) ++ ys) = told_by m b (calls ++ Sent conn t ∷ []) ys m_is g in
      let b_is' : b'.calls ≡ Some ((calls ++ Sent conn t' ∷ []) ++ ys') = told_by m' b' (calls ++ Sent conn t' ∷ []) ys' m_is' g' in
      let all : (calls ++ Sent conn t ∷ []) ++ ys ≡ (calls ++ Sent conn t' ∷ []) ++ ys' = cc (b_is, b_is', same) in
      let tails : Sent conn t ∷ ys ≡ Sent conn t' ∷ ys' =
      append_cancel_left calls (Sent conn t ∷ ys) (Sent conn t' ∷ ys') (sym (append_assoc calls (Sent conn t ∷ []) ys) ∙ all ∙ append_assoc calls (Sent conn t' ∷ []) ys') in
      let heads : Sent conn t ≡ Sent conn t' = cc tails in
      m_is ∙ ap (λ (c : WireCall). Some (calls ++ c ∷ [])) heads ∙ sym m_is'

  module _ (one : (line : List ℕ) (order other : Order) → MeansOrder line order → MeansOrder line other → order ≡ other) (s s' : Sight) where
    -- Items that are served by the same calls end the run both or not, unless the last answer was lost, whatever lines are asked over.
    same_all : (items : List Item) (a b a' b' : Scene) (end end' : Ending) → ServesAll host k conn (map (seen_as s) items) a b end → ServesAll host k conn (map (seen_as s') items) a' b' end'
        → (calls : List WireCall) → a.wire.calls ≡ Some calls → a'.wire.calls ≡ Some calls → b.wire.calls ≡ b'.wire.calls → end.stop ≡ true → (end'.stop ≡ true) ⊎ IsLostLast b.wire.calls
    same_all [] a b a' b' end end' p q calls is is' same stops = absurd (cc (stops, ap (λ (e : Ending). e.stop) p.1))
    same_all (item ∷ items) a b a' b' end end' p q calls is is' same stops =
        let it = speaks (seen_as s item) (map (seen_as s) items) a b end p stops in
        by_gets it it.said q.2.gets (λ mid mid_is mid_is' rest rest'. same_all items p.0 b q.0 b' end end' rest rest' mid mid_is mid_is' same stops)
      where
        -- the other one's answer was lost
        lost : q.1.stays ≡ false → Grows a'.wire.calls q.0.wire.calls (LostOn conn ∷ []) → IsLostLast b.wire.calls
        lost leaves told =
            let last = ended (seen_as s' item) (map (seen_as s') items) a' b' end' q (rw leaves refl) in
            (calls, conn, same ∙ ap (λ (s : Scene). s.wire.calls) last.0 ∙ told_by a'.wire q.0.wire calls (LostOn conn ∷ []) is' told)

        -- or it was closed
        closed : (bytes : List ℕ) → q.1.stays ≡ false → Grows a'.wire.calls q.0.wire.calls (Sent conn bytes ∷ Closed conn ∷ []) → ⊥
        closed bytes leaves told =
            let last = ended (seen_as s' item) (map (seen_as s') items) a' b' end' q (rw leaves refl) in
            let said = stop_said (seen_as s item ∷ map (seen_as s) items) a b end p stops in
            let b_is : b.wire.calls ≡ Some (calls ++ said.0) = told_by a.wire b.wire calls said.0 is said.1 in
            let b_is' : b'.wire.calls ≡ Some (calls ++ Sent conn bytes ∷ Closed conn ∷ []) = ap (λ (s : Scene). s.wire.calls) last.0 ∙ told_by a'.wire q.0.wire calls (Sent conn bytes ∷ Closed conn ∷ []) is' told in
            let all : calls ++ said.0 ≡ calls ++ (Sent conn bytes ∷ Closed conn ∷ []) = cc (b_is, b_is', same) in
            let tails : said.0 ≡ Sent conn bytes ∷ Closed conn ∷ [] = append_cancel_left calls said.0 (Sent conn bytes ∷ Closed conn ∷ []) all in
            not_closed conn (Sent conn bytes ∷ []) (subst EndsSaid tails said.2)

        -- both were said
        both : Speaks (seen_as s item) a p.0 p.1 p.2.answer → p.1.stays ≡ true → Says conn p.2.answer.bytes a.wire p.0.wire → q.1.stays ≡ true → Says conn q.2.answer.bytes a'.wire q.0.wire
            → Answers host conn (seen_as s' item) a'.sheet q.0.sheet q.2.answer → ((mid : List WireCall) → p.0.wire.calls ≡ Some mid → q.0.wire.calls ≡ Some mid → ServesAll host k conn (map (seen_as s) items) p.0 b end → ServesAll host k conn (map (seen_as s') items) q.0 b' end' → (end'.stop ≡ true) ⊎ IsLostLast b.wire.calls) → (end'.stop ≡ true) ⊎ IsLostLast b.wire.calls
        both it stay says stay' says' r more = by_stop p.1.stop refl (stays_on (ServesAll host k conn (map (seen_as s) items) p.0 b end) ((b ≡ p.0) × (end ≡ p.1)) p.1.stays p.1.stop stay p.3) (stays_on (ServesAll host k conn (map (seen_as s') items) q.0 b' end') ((b' ≡ q.0) × (end' ≡ q.1)) q.1.stays q.1.stop stay' q.3)
          where
            stops_too : p.1.stop ≡ q.1.stop
            stops_too = it.stop_is ∙ stops_same host conn one s s' item a.sheet p.0.sheet a'.sheet q.0.sheet p.2.answer q.2.answer it.answered r ∙ sym q.2.stop

            by_stop : (t : Bool) → p.1.stop ≡ t → MatchBool (not p.1.stop) (ServesAll host k conn (map (seen_as s) items) p.0 b end) ((b ≡ p.0) × (end ≡ p.1))
                → MatchBool (not q.1.stop) (ServesAll host k conn (map (seen_as s') items) q.0 b' end') ((b' ≡ q.0) × (end' ≡ q.1)) → (end'.stop ≡ true) ⊎ IsLostLast b.wire.calls
            by_stop true e rest rest' =
                let e' : q.1.stop ≡ true = sym stops_too ∙ e in
                let last : (b' ≡ q.0) × (end' ≡ q.1) = at_stop (ServesAll host k conn (map (seen_as s') items) q.0 b' end') ((b' ≡ q.0) × (end' ≡ q.1)) q.1.stop e' rest' in
                inl (ap (λ (x : Ending). x.stop) last.1 ∙ e')
            by_stop false e rest rest' =
                let e' : q.1.stop ≡ false = sym stops_too ∙ e in
                let rest_p : ServesAll host k conn (map (seen_as s) items) p.0 b end = at_more (ServesAll host k conn (map (seen_as s) items) p.0 b end) ((b ≡ p.0) × (end ≡ p.1)) p.1.stop e rest in
                let rest_q : ServesAll host k conn (map (seen_as s') items) q.0 b' end' = at_more (ServesAll host k conn (map (seen_as s') items) q.0 b' end') ((b' ≡ q.0) × (end' ≡ q.1)) q.1.stop e' rest' in
                let told = makes_all host k conn (map (seen_as s) items) p.0 b end rest_p in
                let told' = makes_all host k conn (map (seen_as s') items) q.0 b' end' rest_q in
                let now = makes_said conn p.2.answer.bytes a.wire p.0.wire says in
                let mid_is : p.0.wire.calls ≡ Some (calls ++ now.calls) = told_by a.wire p.0.wire calls now.calls is now.told in
                let some_same : is_some p.2.answer.bytes ≡ is_some q.2.answer.bytes =
                speaks_is host conn (seen_as s item) a.sheet p.0.sheet p.2.answer it.answered ∙ speaks_as s item ∙ sym (speaks_as s' item) ∙ sym (speaks_is host conn (seen_as s' item) a'.sheet q.0.sheet q.2.answer r) in
                let mids : p.0.wire.calls ≡ q.0.wire.calls =
                same_mid p.2.answer.bytes q.2.answer.bytes a.wire p.0.wire b.wire a'.wire q.0.wire b'.wire calls told.calls told'.calls some_same says says' is is' told.told told'.told same in
                more (calls ++ now.calls) mid_is (sym mids ∙ mid_is) rest_p rest_q

        by_other : Speaks (seen_as s item) a p.0 p.1 p.2.answer → p.1.stays ≡ true → Says conn p.2.answer.bytes a.wire p.0.wire → Answers host conn (seen_as s' item) a'.sheet q.0.sheet q.2.answer
            → ((q.1.stays ≡ true) × Says conn q.2.answer.bytes a'.wire q.0.wire) ⊎ ((q.1.stays ≡ false) × Grows a'.wire.calls q.0.wire.calls (LostOn conn ∷ []))
            → ((mid : List WireCall) → p.0.wire.calls ≡ Some mid → q.0.wire.calls ≡ Some mid → ServesAll host k conn (map (seen_as s) items) p.0 b end → ServesAll host k conn (map (seen_as s') items) q.0 b' end' → (end'.stop ≡ true) ⊎ IsLostLast b.wire.calls) → (end'.stop ≡ true) ⊎ IsLostLast b.wire.calls
        by_other it stay says r (inl said) more = both it stay says said.0 said.1 r more
        by_other it stay says r (inr gone) more = inr (lost gone.0 gone.1)

        starved : (q.1.stays ≡ false) × (Grows a'.wire.calls q.0.wire.calls (LostOn conn ∷ []) ⊎ Grows a'.wire.calls q.0.wire.calls (Sent conn (no_memory_on k) ∷ Closed conn ∷ []))
            → (end'.stop ≡ true) ⊎ IsLostLast b.wire.calls
        starved (leaves, inl told) = inr (lost leaves told)
        starved (leaves, inr told) = absurd (closed (no_memory_on k) leaves told)

        by_gets : Speaks (seen_as s item) a p.0 p.1 p.2.answer
            → ((p.1.stays ≡ true) × Says conn p.2.answer.bytes a.wire p.0.wire) ⊎ ((p.1.stays ≡ false) × Grows a.wire.calls p.0.wire.calls (LostOn conn ∷ []))
            → Gets host k conn (seen_as s' item) a'.sheet q.0.sheet q.2.answer → ((mid : List WireCall) → p.0.wire.calls ≡ Some mid → q.0.wire.calls ≡ Some mid → ServesAll host k conn (map (seen_as s) items) p.0 b end → ServesAll host k conn (map (seen_as s') items) q.0 b' end' → (end'.stop ≡ true) ⊎ IsLostLast b.wire.calls) → (end'.stop ≡ true) ⊎ IsLostLast b.wire.calls
        by_gets it (inr gone) r more =
            let last = ended (seen_as s item) (map (seen_as s) items) a b end p (rw gone.0 refl) in
            inr (calls, conn, ap (λ (s : Scene). s.wire.calls) last.0 ∙ told_by a.wire p.0.wire calls (LostOn conn ∷ []) is gone.1)
        by_gets it (inl said) (inl r) more =
            by_other it said.0 said.1 r
            (out_open conn q.2.answer.bytes a'.wire q.0.wire q.1.stays (rw (closes_is host conn (seen_as s' item) a'.sheet q.0.sheet q.2.answer r ∙ closes_as s' item ∙ sym (closes_as s item) ∙ it.open_is) at q.2.goes_out)) more
        by_gets it (inl said) (inr r) more = starved (out_closed conn (no_memory_on k) a'.wire q.0.wire q.1.stays (rw r.1 at q.2.goes_out))

-- ---- what a piece brings on a connection of an operator

abbrev NotFeed : ℕ → Type 0
NotFeed byte = byte ≢ 10

no_feed_in : (line rest : List ℕ) → All NotFeed (line ++ 10 ∷ rest) → ⊥
no_feed_in [] rest p = All-head NotFeed 10 rest p refl
no_feed_in (b ∷ line) rest p = no_feed_in line rest (All-tail NotFeed b (line ++ 10 ∷ rest) p)

-- a line ends at the first line feed
same_line : (line line' rest rest' : List ℕ) → All NotFeed line → All NotFeed line' → line ++ 10 ∷ rest ≡ line' ++ 10 ∷ rest' → (line ≡ line') × (rest ≡ rest')
same_line [] [] rest rest' p p' e = let same : rest ≡ rest' = cc e in (refl, same)
same_line [] (b ∷ line') rest rest' p p' e = let same : b ≡ 10 = cc e in absurd (All-head NotFeed b line' p' same)
same_line (b ∷ line) [] rest rest' p p' e = let same : b ≡ 10 = cc e in absurd (All-head NotFeed b line p same)
same_line (b ∷ line) (b' ∷ line') rest rest' p p' e =
    let head : b ≡ b' = cc e in
    let tail : line ++ 10 ∷ rest ≡ line' ++ 10 ∷ rest' = cc e in
    let more = same_line line line' rest rest' (All-tail NotFeed b line p) (All-tail NotFeed b' line' p') tail in
    let lines : line ≡ line' = more.0 in
    let whole : b ∷ line ≡ b' ∷ line' = cc (head, lines) in
    (whole, more.1)

apart : (line : List ℕ) (lines : List (List ℕ)) (rest : List ℕ) → flat_map ended_line (line ∷ lines) ++ rest ≡ line ++ 10 ∷ (flat_map ended_line lines ++ rest)
apart line lines rest = append_assoc (line ++ 10 ∷ []) (flat_map ended_line lines) rest ∙ append_assoc line (10 ∷ []) (flat_map ended_line lines ++ rest)

same_lines : (bytes : List ℕ) (lines lines' : List (List ℕ)) (rest rest' : List ℕ) → AreLines bytes lines rest → AreLines bytes lines' rest' → (lines ≡ lines') × (rest ≡ rest')
same_lines bytes [] [] rest rest' p q = (refl, sym p.whole ∙ q.whole)
same_lines bytes [] (line ∷ lines) rest rest' p q =
    let is : rest ≡ line ++ 10 ∷ (flat_map ended_line lines ++ rest') = sym p.whole ∙ q.whole ∙ apart line lines rest' in
    absurd (no_feed_in line (flat_map ended_line lines ++ rest') (subst (All NotFeed) is p.partial))
same_lines bytes (line ∷ lines) [] rest rest' p q =
    let is : rest' ≡ line ++ 10 ∷ (flat_map ended_line lines ++ rest) = sym q.whole ∙ p.whole ∙ apart line lines rest in
    absurd (no_feed_in line (flat_map ended_line lines ++ rest) (subst (All NotFeed) is q.partial))
same_lines bytes (line ∷ lines) (line' ∷ lines') rest rest' p q =
    let is : line ++ 10 ∷ (flat_map ended_line lines ++ rest) ≡ line' ++ 10 ∷ (flat_map ended_line lines' ++ rest') = sym (apart line lines rest) ∙ sym p.whole ∙ q.whole ∙ apart line' lines' rest' in
    let first = same_line line line' (flat_map ended_line lines ++ rest) (flat_map ended_line lines' ++ rest') (All-head IsOneLine line lines p.each) (All-head IsOneLine line' lines' q.each) is in
    let later = same_lines (flat_map ended_line lines ++ rest) lines lines' rest rest'
    (record { whole = refl; each = All-tail IsOneLine line lines p.each; partial = p.partial })
    (record { whole = first.1; each = All-tail IsOneLine line' lines' q.each; partial = q.partial }) in
    let head : line ≡ line' = first.0 in
    let tail : lines ≡ lines' = later.0 in
    let whole : line ∷ lines ≡ line' ∷ lines' = cc (head, tail) in
    (whole, later.1)

-- lines are the same items, but for what they are asked over
line_as : (sight other : Sight) (line : List ℕ) → seen_as other (line_item sight line) ≡ line_item other line
line_as sight other line = by_length (nat_le (length line) LINE_LIMIT)
  where
    by_length : (b : Bool) → seen_as other (if b then Line line sight else LongLine) ≡ (if b then Line line other else LongLine)
    by_length true = refl
    by_length false = refl

rest_as : (other : Sight) (rest : List ℕ) → map (seen_as other) (rest_items rest) ≡ rest_items rest
rest_as other [] = refl
rest_as other (byte ∷ bytes) = by_length (nat_le (length (byte ∷ bytes)) LINE_LIMIT)
  where
    by_length : (b : Bool) → seen_as other (if b then Partial else LongLine) ∷ [] ≡ (if b then Partial else LongLine) ∷ []
    by_length true = refl
    by_length false = refl

lines_as : (sight other : Sight) (lines : List (List ℕ)) (rest : List ℕ) → map (seen_as other) (map (line_item sight) lines ++ rest_items rest) ≡ map (line_item other) lines ++ rest_items rest
lines_as sight other [] rest = rest_as other rest
lines_as sight other (line ∷ lines) rest =
    let head : seen_as other (line_item sight line) ≡ line_item other line = line_as sight other line in
    let tail : map (seen_as other) (map (line_item sight) lines ++ rest_items rest) ≡ map (line_item other) lines ++ rest_items rest = lines_as sight other lines rest in
    cc (head, tail)

same_new_lines : (sight sight' : Sight) (before piece : List ℕ) (items items' : List Item) → AreNewLines sight before piece items → AreNewLines sight' before piece items'
    → (items ≡ map (seen_as sight) items) × (items' ≡ map (seen_as sight') items)
same_new_lines sight sight' before piece items items' p q =
    let olds = same_lines before p.0 q.0 p.2 q.2 p.4 q.4 in
    let alls = same_lines (before ++ piece) (p.0 ++ p.1) (q.0 ++ q.1) p.3 q.3 p.5 q.5 in
    let all : p.0 ++ p.1 ≡ p.0 ++ q.1 = alls.0 ∙ ap (λ (ls : List (List ℕ)). ls ++ q.1) (sym olds.0) in
    let news : p.1 ≡ q.1 = append_cancel_left p.0 p.1 q.1 all in
    let other : items' ≡ map (line_item sight') p.1 ++ rest_items p.3 = q.6 ∙ sym (λ i. map (line_item sight') (news i) ++ rest_items (alls.1 i)) in (
      p.6 ∙ sym (ap (map (seen_as sight)) p.6 ∙ lines_as sight sight p.1 p.3),
      other ∙ sym (ap (map (seen_as sight')) p.6 ∙ lines_as sight sight' p.1 p.3),
    )

-- no item of another connection ends the run
is_line : Item → Bool
is_line (Payload bytes) = false
is_line (Line line sight) = true
is_line LongLine = false
is_line Partial = false
is_line (Request m) = false
is_line (Broken why) = false
is_line Unread = false

no_line_answers : (host : Host) (conn : ℕ) (item : Item) (old new : Sheet) (answer : Answer) → Answers host conn item old new answer → is_line item ≡ false → answer.stop ≡ false
unfolding is_line
no_line_answers host conn (Payload bytes) old new answer p none = ap (λ (a : Answer). a.stop) p.3
no_line_answers host conn (Line line sight) old new answer p none = absurd (cc none)
no_line_answers host conn LongLine old new answer p none = ap (λ (a : Answer). a.stop) p.1
no_line_answers host conn Partial old new answer p none = ap (λ (a : Answer). a.stop) p.1
no_line_answers host conn (Request m) old new answer p none = ap (λ (a : Answer). a.stop) p.3
no_line_answers host conn (Broken why) old new answer p none = ap (λ (a : Answer). a.stop) p.1
no_line_answers host conn Unread old new answer p none = absurd p

no_line_gets : (host : Host) (k : Kind) (conn : ℕ) (item : Item) (old new : Sheet) (answer : Answer) → Gets host k conn item old new answer → is_line item ≡ false → answer.stop ≡ false
no_line_gets host k conn item old new answer (inl p) none = no_line_answers host conn item old new answer p none
no_line_gets host k conn item old new answer (inr p) none = ap (λ (a : Answer). a.stop) p.1

none_first : (b c : Bool) → (b || c) ≡ false → (b ≡ false) × (c ≡ false)
none_first true c e = absurd (cc e)
none_first false c e = (refl, e)

no_line_stops : (host : Host) (k : Kind) (conn : ℕ) (items : List Item) (a b : Scene) (end : Ending) → ServesAll host k conn items a b end → list_any is_line items ≡ false → end.stop ≡ false
no_line_stops host k conn [] a b end p none = ap (λ (e : Ending). e.stop) p.1
no_line_stops host k conn (item ∷ items) a b end p none =
    let parts = none_first (is_line item) (list_any is_line items) none in
    by_more (p.1.stays && not p.1.stop) p.3 (p.2.stop ∙ no_line_gets host k conn item a.sheet p.0.sheet p.2.answer p.2.gets parts.0) (λ more. no_line_stops host k conn items p.0 b end more parts.1)
  where
    by_more : (t : Bool) → MatchBool t (ServesAll host k conn items p.0 b end) ((b ≡ p.0) × (end ≡ p.1)) → p.1.stop ≡ false → (ServesAll host k conn items p.0 b end → end.stop ≡ false) → end.stop ≡ false
    by_more true q e more = more q
    by_more false q e more = ap (λ (x : Ending). x.stop) q.1 ∙ e

requests_no_lines : (requests : List HttpMessage) (last : List Item) → list_any is_line last ≡ false → list_any is_line (map Request requests ++ last) ≡ false
unfolding is_line
requests_no_lines [] last none = none
requests_no_lines (m ∷ requests) last none = requests_no_lines requests last none

broken_no_lines : (rest : Rest) → list_any is_line (broken_items rest) ≡ false
unfolding is_line
broken_no_lines (Open under_way) = refl
broken_no_lines (Failed why) = refl

read_no_lines : (bytes : List ℕ) (requests : List HttpMessage) (items : List Item) → AreRead bytes requests items → list_any is_line items ≡ false
unfolding is_line
read_no_lines bytes requests items (inl p) = ap (list_any is_line) p.2 ∙ broken_no_lines p.0
read_no_lines bytes requests items (inr p) = ap (list_any is_line) p.1

http_no_lines : (before piece : List ℕ) (items : List Item) → AreNewRequests before piece items → list_any is_line items ≡ false
http_no_lines before piece items p = ap (list_any is_line) p.6 ∙ requests_no_lines p.1 p.3 (read_no_lines (before ++ piece) (p.0 ++ p.1) p.3 p.5)

payload_no_lines : (piece : List ℕ) (items : List Item) → items ≡ Payload piece ∷ [] → list_any is_line items ≡ false
unfolding is_line
payload_no_lines piece items is = ap (list_any is_line) is

-- ---- an event, and a session

module _ (host : Host) (one : (line : List ℕ) (order other : Order) → MeansOrder line order → MeansOrder line other → order ≡ other) where
  same_piece : (sight sight' : Sight) (k : Kind) (conn : ℕ) (before piece : List ℕ) (items items' : List Item) (a b a' b' : Scene) (end end' : Ending) → BringsOn k sight before piece items → BringsOn k sight' before piece items'
      → ServesAll host k conn items a b end → ServesAll host k conn items' a' b' end' → (calls : List WireCall) → a.wire.calls ≡ Some calls → a'.wire.calls ≡ Some calls → b.wire.calls ≡ b'.wire.calls
      → end.stop ≡ true → (end'.stop ≡ true) ⊎ IsLostLast b.wire.calls
  same_piece sight sight' kind.Http conn before piece items items' a b a' b' end end' brings brings' p q calls is is' same stops =
      absurd (cc (stops, no_line_stops host kind.Http conn items a b end p (http_no_lines before piece items brings)))
  same_piece sight sight' kind.Ws conn before piece items items' a b a' b' end end' brings brings' p q calls is is' same stops =
      absurd (cc (stops, no_line_stops host kind.Ws conn items a b end p (payload_no_lines piece items brings)))
  same_piece sight sight' kind.Operator conn before piece items items' a b a' b' end end' brings brings' p q calls is is' same stops =
      let alike = same_new_lines sight sight' before piece items items' brings brings' in
      same_all host kind.Operator conn one sight sight' items a b a' b' end end' (subst (λ (xs : List Item). ServesAll host kind.Operator conn xs a b end) alike.0 p)
      (subst (λ (xs : List Item). ServesAll host kind.Operator conn xs a' b' end') alike.1 q) calls is is' same stops

  same_does : (seen seen' : Seen) (e : WireEvent) (m n m' n' : Moment) (stop stop' : Bool) → Does host seen e m n stop → Does host seen' e m' n' stop' → m.streams ≡ m'.streams
      → (calls : List WireCall) → m.scene.wire.calls ≡ Some calls → m'.scene.wire.calls ≡ Some calls → n.scene.wire.calls ≡ n'.scene.wire.calls
      → stop ≡ true → (stop' ≡ true) ⊎ IsLostLast n.scene.wire.calls
  same_does seen seen' (event.Opened conn k) m n m' n' stop stop' p q streams calls is is' same stops = absurd (cc (stops, p.2))
  same_does seen seen' (event.Closed conn) m n m' n' stop stop' p q streams calls is is' same stops = absurd (cc (stops, p.1))
  same_does seen seen' (event.Piece conn bytes) m n m' n' stop stop' p q streams calls is is' same stops = by_stream (stream_at m.streams conn) p
      (subst (λ (o : Option Stream). MatchOption o ((n' ≡ m') × (stop' ≡ false)) (λ stream. (items : List Item) × (end : Ending) × Brings (sight_of seen' (numbers_in m'.streams)) stream bytes items × ServesAll host stream.kind conn items m'.scene n'.scene end
      × (n'.streams ≡ after_piece m'.streams conn stream bytes end.stays) × (stop' ≡ end.stop)))
      (ap (λ (ss : Streams). stream_at ss conn) (sym streams)) q)
    where
      by_stream : (o : Option Stream)
          → MatchOption o ((n ≡ m) × (stop ≡ false)) (λ stream. (items : List Item) × (end : Ending) × Brings (sight_of seen (numbers_in m.streams)) stream bytes items × ServesAll host stream.kind conn items m.scene n.scene end
          × (n.streams ≡ after_piece m.streams conn stream bytes end.stays) × (stop ≡ end.stop))
          → MatchOption o ((n' ≡ m') × (stop' ≡ false)) (λ stream. (items : List Item) × (end : Ending) × Brings (sight_of seen' (numbers_in m'.streams)) stream bytes items × ServesAll host stream.kind conn items m'.scene n'.scene end
          × (n'.streams ≡ after_piece m'.streams conn stream bytes end.stays) × (stop' ≡ end.stop))
          → (stop' ≡ true) ⊎ IsLostLast n.scene.wire.calls
      by_stream None r s = absurd (cc (stops, r.1))
      by_stream (Some stream) r s =
          by_end s.5 (same_piece (sight_of seen (numbers_in m.streams)) (sight_of seen' (numbers_in m'.streams)) stream.kind conn stream.bytes bytes r.0 s.0 m.scene n.scene m'.scene n'.scene r.1 s.1 r.2 s.2 r.3 s.3 calls is is' same (sym r.5 ∙ stops))
        where
          by_end : stop' ≡ s.1.stop → (s.1.stop ≡ true) ⊎ IsLostLast n.scene.wire.calls → (stop' ≡ true) ⊎ IsLostLast n.scene.wire.calls
          by_end e (inl t) = inl (e ∙ t)
          by_end e (inr t) = inr t

  -- Sessions of the same events and calls stop both or not, unless the last answer was lost.
  one_run : (events : List Given) (a b a' b' : SessionState) (s s' : Bool) → ServerSession host events a b s → ServerSession host events a' b' s' → a.standing.streams ≡ a'.standing.streams
      → (calls : List WireCall) → a.standing.wire.calls ≡ Some calls → a'.standing.wire.calls ≡ Some calls → b.standing.wire.calls ≡ b'.standing.wire.calls → s ≡ true → (s' ≡ true) ⊎ IsLostLast b.standing.wire.calls
  one_run [] a b a' b' s s' p q streams calls is is' same stops = absurd (cc (stops, p.1))
  one_run (e ∷ events) a b a' b' s s' p q streams calls is is' same stops =
      by_stops p.1 q.1 refl refl p.3 q.3 (λ rest rest'. one_run events p.0 b q.0 b' s s' rest rest' mid_streams (calls ++ Gave e.at e.event ∷ now.0) mid_is (sym mid_same ∙ mid_is) same stops)
    where
      now : (xs : List WireCall) × Grows a.standing.wire.calls p.0.standing.wire.calls (Gave e.at e.event ∷ xs) × IsFree xs × (p.0.standing.streams ≡ streams_after host.profile.connections e.event a.standing.streams xs)
      now = turn_told host e a p.0 p.1 p.2

      now' : (xs : List WireCall) × Grows a'.standing.wire.calls q.0.standing.wire.calls (Gave e.at e.event ∷ xs) × IsFree xs × (q.0.standing.streams ≡ streams_after host.profile.connections e.event a'.standing.streams xs)
      now' = turn_told host e a' q.0 q.1 q.2

      behind : (x y : SessionState) (t u : Bool) → MatchBool t ((events ≡ []) × (y ≡ x) × (u ≡ true)) (ServerSession host events x y u) → Anew x.standing.wire y.standing.wire
      behind x y true u r = record { calls = []; told = rw r.1 (grows_none x.standing.wire.calls); anew = tt }
      behind x y false u r = session_anew host events x y u r

      later : Anew p.0.standing.wire b.standing.wire
      later = behind p.0 b p.1 s p.3

      later' : Anew q.0.standing.wire b'.standing.wire
      later' = behind q.0 b' q.1 s' q.3

      mid_is : p.0.standing.wire.calls ≡ Some (calls ++ Gave e.at e.event ∷ now.0)
      mid_is = told_by a.standing.wire p.0.standing.wire calls (Gave e.at e.event ∷ now.0) is now.1

      mid_is' : q.0.standing.wire.calls ≡ Some (calls ++ Gave e.at e.event ∷ now'.0)
      mid_is' = told_by a'.standing.wire q.0.standing.wire calls (Gave e.at e.event ∷ now'.0) is' now'.1

      alike : now.0 ≡ now'.0
      alike =
          let b_is : b.standing.wire.calls ≡ Some ((calls ++ Gave e.at e.event ∷ now.0) ++ later.calls) = told_by p.0.standing.wire b.standing.wire (calls ++ Gave e.at e.event ∷ now.0) later.calls mid_is later.told in
          let b_is' : b'.standing.wire.calls ≡ Some ((calls ++ Gave e.at e.event ∷ now'.0) ++ later'.calls) = told_by q.0.standing.wire b'.standing.wire (calls ++ Gave e.at e.event ∷ now'.0) later'.calls mid_is' later'.told in
          let all : (calls ++ Gave e.at e.event ∷ now.0) ++ later.calls ≡ (calls ++ Gave e.at e.event ∷ now'.0) ++ later'.calls = cc (b_is, b_is', same) in
          let tails : Gave e.at e.event ∷ (now.0 ++ later.calls) ≡ Gave e.at e.event ∷ (now'.0 ++ later'.calls) =
          append_cancel_left calls (Gave e.at e.event ∷ (now.0 ++ later.calls)) (Gave e.at e.event ∷ (now'.0 ++ later'.calls))
          (sym (append_assoc calls (Gave e.at e.event ∷ now.0) later.calls) ∙ all ∙ append_assoc calls (Gave e.at e.event ∷ now'.0) later'.calls) in
          let rests : now.0 ++ later.calls ≡ now'.0 ++ later'.calls = cc tails in
          same_front now.0 now'.0 later.calls later'.calls now.2 now'.2 later.anew later'.anew rests

      mid_same : p.0.standing.wire.calls ≡ q.0.standing.wire.calls
      mid_same = mid_is ∙ ap (λ (xs : List WireCall). Some (calls ++ Gave e.at e.event ∷ xs)) alike ∙ sym mid_is'

      mid_streams : p.0.standing.streams ≡ q.0.standing.streams
      mid_streams = now.3 ∙ (λ i. streams_after host.profile.connections e.event (streams i) (alike i)) ∙ sym now'.3

      at_end : p.1 ≡ true → (q.1 ≡ true) ⊎ IsLostLast p.0.standing.wire.calls
      at_end t =
          let w : p.0.standing.wire.calls ≡ p.2.1.scene.wire.calls = ap (λ (x : SessionState). x.standing.wire.calls) p.2.4 in
          let w' : q.0.standing.wire.calls ≡ q.2.1.scene.wire.calls = ap (λ (x : SessionState). x.standing.wire.calls) q.2.4 in
          let ends : p.2.1.scene.wire.calls ≡ q.2.1.scene.wire.calls = sym w ∙ mid_same ∙ w' in
          rw w (same_does (seen_at e.at a.seen) (seen_at e.at a'.seen) e.event (moment_of (record (a.standing) { wire = p.2.0 })) p.2.1 (moment_of (record (a'.standing) { wire = q.2.0 })) q.2.1 p.1 q.1 p.2.3 q.2.3 streams (calls ++ Gave e.at e.event ∷ [])
          (told_by a.standing.wire p.2.0 calls (Gave e.at e.event ∷ []) is p.2.2.told) (told_by a'.standing.wire q.2.0 calls (Gave e.at e.event ∷ []) is' q.2.2.told) ends t)

      by_last : (q.1 ≡ true) ⊎ IsLostLast p.0.standing.wire.calls → q.1 ≡ false → b ≡ p.0 → IsLostLast b.standing.wire.calls
      by_last (inl t) f r = absurd (cc (t, f))
      by_last (inr t) f r = rw r t

      by_stops : (t t' : Bool) → p.1 ≡ t → q.1 ≡ t' → MatchBool t ((events ≡ []) × (b ≡ p.0) × (s ≡ true)) (ServerSession host events p.0 b s)
          → MatchBool t' ((events ≡ []) × (b' ≡ q.0) × (s' ≡ true)) (ServerSession host events q.0 b' s')
          → (ServerSession host events p.0 b s → ServerSession host events q.0 b' s' → (s' ≡ true) ⊎ IsLostLast b.standing.wire.calls)
          → (s' ≡ true) ⊎ IsLostLast b.standing.wire.calls
      by_stops true true t t' r r' more = inl r'.2
      by_stops true false t t' r r' more = inr (by_last (at_end t) t' r.1)
      by_stops false true t t' r r' more =
          let none : ServerSession host [] p.0 b s = subst (λ (es : List Given). ServerSession host es p.0 b s) r'.0 r in
          absurd (cc (stops, none.1))
      by_stops false false t t' r r' more = more r r'

-- ---- runs

-- what a wire gives is told
pub same_gives : (old new new' : WireView) (xs ys : List Given) → IsSome old.calls → Gives old new xs → Gives old new' ys → new.calls ≡ new'.calls → xs ≡ ys
same_gives old new new' xs ys told p q same = by_calls old.calls refl told
  where
    by_calls : (o : Option (List WireCall)) → old.calls ≡ o → IsSome o → xs ≡ ys
    by_calls None is some = absurd (cc some)
    by_calls (Some calls) is some =
        let one : new.calls ≡ Some (calls ++ p.more) = told_by old new calls p.more is p.told in
        let other : new'.calls ≡ Some (calls ++ q.more) = told_by old new' calls q.more is q.told in
        let all : calls ++ p.more ≡ calls ++ q.more = cc (one, other, same) in
        sym p.gave ∙ ap (filter_map event_in) (append_cancel_left calls p.more q.more all) ∙ q.gave

module _ (host : Host) where
  pub same_number : (n m : ℕ) (old new new' : WireView) (desk a b : Desk) (s s' : Bool) → IsSome old.calls → ServesEvents host n old new desk a s → ServesEvents host m old new' desk b s' → new.calls ≡ new'.calls → n ≡ m
  same_number n m old new new' desk a b s s' told p q same =
      sym p.number ∙ ap length (same_gives old new new' p.events q.events told p.given q.given same) ∙ q.number

  pub same_stop : (one : (line : List ℕ) (order other : Order) → MeansOrder line order → MeansOrder line other → order ≡ other) (n m : ℕ) (old new new' : WireView) (desk a b : Desk) → IsSome old.calls
      → ServesEvents host n old new desk a true → ServesEvents host m old new' desk b false → new.calls ≡ new'.calls → IsLostLast new.calls
  same_stop one n m old new new' desk a b told p q same = by_calls old.calls refl told
    where
      by_lost : (false ≡ true) ⊎ IsLostLast new.calls → IsLostLast new.calls
      by_lost (inl e) = absurd (cc e)
      by_lost (inr lost) = lost

      by_calls : (o : Option (List WireCall)) → old.calls ≡ o → IsSome o → IsLostLast new.calls
      by_calls None is some = absurd (cc some)
      by_calls (Some calls) is some =
          let events : q.events ≡ p.events = same_gives old new' new q.events p.events told q.given p.given (sym same) in
          let session : ServerSession host p.events (state_of nothing_seen (beginning old desk)) (state_of q.seen (record { streams = q.streams; wire = new'; desk = b })) false =
          subst (λ (es : List Given). ServerSession host es (state_of nothing_seen (beginning old desk)) (state_of q.seen (record { streams = q.streams; wire = new'; desk = b })) false) events q.session in
          by_lost (one_run host one p.events (state_of nothing_seen (beginning old desk)) (state_of p.seen (record { streams = p.streams; wire = new; desk = a })) (state_of nothing_seen (beginning old desk)) (state_of q.seen (record { streams = q.streams; wire = new'; desk = b })) true false
          p.session session refl calls is is same refl)

-- a run has the ending that it is of, but for want of memory
module _ (host : Host) (one : (line : List ℕ) (order other : Order) → MeansOrder line order → MeansOrder line other → order ≡ other) (turns : ℕ) (old new : WireView) (desk desk' : Desk) where
  pub spent_so : (result : Result ℕ ServeEnd) → IfOk result (λ n. ServesEvents host n old new desk desk' true)
      → (IsErrOf result end.WireFault → (n : ℕ) × (n < turns) × FailsAfter host n old new desk desk')
      → ServesEvents host turns old new desk desk' false → IsSome old.calls → IsErrOf result end.TurnsSpent ⊎ (IsErrOf result end.NoMemory ⊎ IsLostLast new.calls)
  spent_so (Ok n) stopped failed all told = inr (inr (same_stop host one n turns old new new desk desk' desk' told stopped all refl))
  spent_so (Err end.TurnsSpent) stopped failed all told = inl refl
  spent_so (Err end.NoMemory) stopped failed all told = inr (inl refl)
  spent_so (Err end.WireFault) stopped failed all told =
      let f = failed refl in
      let same : f.0 ≡ turns = same_number host f.0 turns old f.2.mid new desk desk' desk' false false told f.2.served all (sym f.2.failed.untold) in
      absurd (omega (arith, f.1, same))

  pub stopped_so : (result : Result ℕ ServeEnd) → IfOk result (λ n. ServesEvents host n old new desk desk' true) → (IsErrOf result end.TurnsSpent → ServesEvents host turns old new desk desk' false)
      → (IsErrOf result end.WireFault → (n : ℕ) × (n < turns) × FailsAfter host n old new desk desk')
      → (n : ℕ) → ServesEvents host n old new desk desk' true → IsSome old.calls → (result ≡ Ok n) ⊎ (IsErrOf result end.NoMemory ⊎ IsLostLast new.calls)
  stopped_so (Ok k) stopped spent failed n all told = inl (ap Ok (same_number host k n old new new desk desk' desk' true true told stopped all refl))
  stopped_so (Err end.TurnsSpent) stopped spent failed n all told = inr (inr (same_stop host one n turns old new new desk desk' desk' told all (spent refl) refl))
  stopped_so (Err end.NoMemory) stopped spent failed n all told = inr (inl refl)
  stopped_so (Err end.WireFault) stopped spent failed n all told =
      let f = failed refl in
      inr (inr (same_stop host one n f.0 old new f.2.mid desk desk' desk' told all f.2.served f.2.failed.untold))
