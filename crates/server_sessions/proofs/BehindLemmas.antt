-- The one session: one more event, and how a run ends.
use Rattle.std.proofs.Common.{◌≡◌, ℕ, ◌+◌, ◌<◌, ◌≤◌, List, [], ◌∷◌, ◌++◌, Bool, true, false, IsSome, MatchBool, Result, Ok, Err, refl, sym, ap, ◌∙◌, subst, inl, inr, ◌⊎◌, length, length-append, arith}
use Rattle.std.specs.Prelude.{IfOk}
use Rattle.std.specs.Result.{IsErrAnd, IsErrOf}
use Rattle.edge_devices.specs.Clocks.{EntropyState}
use Rattle.edge_devices.specs.Faults.{HasRisen}
use Rattle.edge_devices.specs.declared.wires.WireCall.TheVariants.{Gave}
use Rattle.edge_devices.specs.declared.wires.Given.{Given}
use Rattle.edge_devices.specs.declared.wires.WireFail.{WireFail}
use Rattle.edge_devices.specs.declared.wires.WireFail.TheVariants as fail
use Rattle.server_core.specs.declared.replies.Profile.{Profile}
use Rattle.server_core.specs.Table.{Table}
use Rattle.server_waves.specs.Register.{Rolling}
use Rattle.server_sessions.specs.Reports.{Host, desk_of}
use Rattle.server_lines.specs.Sights.{Seen, nothing_seen}
use Rattle.server_sessions.specs.Session.{Moment, SessionState, Streams, ServerSession, Turn, seen_at, seen_behind, standing_of, state_of}
use Rattle.server_sessions.specs.Streams.{Stream}
use Rattle.server_sessions.specs.Wiring.{IsDone, IsFailed, WireView}
use Rattle.server_sessions.specs.declared.serving.ServeEnd.{ServeEnd}
use Rattle.server_sessions.specs.declared.serving.ServeEnd.TheVariants as end
use Rattle.server_sessions.specs.Ends.{end_of}
use Rattle.server_sessions.specs.Behind.{HasServedBy, IsKeyed, LeadsBy, Looking, Post, TurnEndsBy, TurnsBy, looking, moment_at}
use Rattle.server_sessions.specs.Connections.{Known, StandsFor, Steps, first_scene, scene_at}
use Rattle.server_sessions.specs.Runs.{FailsAfter, Gives, IsUngiven, IsWanting, ServesEvents, WantsAfter}
use Rattle.server_sessions.specs.Sessions.{EndsBy, FailsBy, FollowsInPart, Following, Nothing, Place, ServesBy, SessionBy, Site, TurnBy, WantsAfterBy, WantsBy, alone, place_of, site_of, state_in}
use Rattle.server_sessions.proofs.EndLemmas.{same_gives}
use Rattle.server_sessions.proofs.Keyed.{keyed_none}
use Rattle.server_sessions.proofs.ToldLemmas.{gives_more, gives_none}
use Rattle.server_sessions.proofs.Unheard.{keyed_does}

module _ {K : Type 0} (follows : Following K) (host : Host) where
  -- what is due for an event is done, and then what follows it
  pub turns_then : (e : Given) (known : Known) (seen sees : Seen) (wire given : WireView) (entropy entropy1 : EntropyState) (table : Table) (rollouts : List Rolling) (profile : Profile) (a b : Post K) → profile ≡ host.profile
      → IsDone (Gave e.at e.event) wire given → Gives wire given (e ∷ [])
      → Steps host (seen_at e.at seen) e.event known a.known (first_scene given entropy table rollouts) (scene_at a.wire entropy1 a.table a.rollouts a.stepped) a.stepped
      → sees ≡ seen_behind a.table.records a.stepped.handled (seen_at e.at seen)
      → ((streams : Streams) → StandsFor known streams → Gives given a.wire [])
      → LeadsBy follows profile a b → Gives a.wire b.wire []
      → TurnsBy follows host e (looking known seen) (looking b.known sees) (site_of wire (desk_of entropy table rollouts) a.kept) (site_of b.wire (desk_of entropy1 b.table b.rollouts) b.kept) a.stepped.stop
  turns_then e known seen sees wire given entropy entropy1 table rollouts profile a b same gave given_one steps marks calls leads led_calls = λ streams stands.
      let stepping = steps streams stands in
      let led = leads entropy1 stepping.0 in
      let one : follows host.profile a.stepped.ended (moment_at stepping.0 entropy1 a) a.kept (moment_at led.0 entropy1 b) b.kept =
      subst (λ (p : Profile). follows p a.stepped.ended (moment_at stepping.0 entropy1 a) a.kept (moment_at led.0 entropy1 b) b.kept) same led.1 in (
        led.0,
        record {
          given = given;
          end = moment_at stepping.0 entropy1 a;
          gave = gave;
          does = stepping.1;
          last = moment_at led.0 entropy1 b;
          behind = subst (λ (ended : List ℕ). follows host.profile ended (moment_at stepping.0 entropy1 a) a.kept (moment_at led.0 entropy1 b) b.kept) stepping.3 one;
          stands = refl;
          sees = marks;
        },
        (λ goes_on. led.2 (stepping.2 goes_on)),
        (λ keyed. led.3 (keyed_does host (seen_at e.at seen) e.event (record { streams = streams; scene = first_scene given entropy table rollouts }) (moment_at stepping.0 entropy1 a) a.stepped.stop stepping.1 keyed)),
        gives_more wire given b.wire (e ∷ []) [] given_one (gives_more given a.wire b.wire [] [] (calls streams stands) led_calls),
      )

  -- and then memory is wanting
  pub part_behind : (e : Given) (known : Known) (seen : Seen) (wire given : WireView) (entropy entropy1 : EntropyState) (table : Table) (rollouts : List Rolling) (profile : Profile) (a b : Post K) → profile ≡ host.profile
      → IsDone (Gave e.at e.event) wire given
      → Steps host (seen_at e.at seen) e.event known a.known (first_scene given entropy table rollouts) (scene_at a.wire entropy1 a.table a.rollouts a.stepped) a.stepped
      → LeadsBy follows profile a b
      → (streams : Streams) → StandsFor known streams → FollowsInPart follows host (place_of seen streams (site_of wire (desk_of entropy table rollouts) a.kept)) (site_of b.wire (desk_of entropy1 b.table b.rollouts) b.kept)
  part_behind e known seen wire given entropy entropy1 table rollouts profile a b same gave steps leads streams stands =
      let stepping = steps streams stands in
      let led = leads entropy1 stepping.0 in
      let one : follows host.profile a.stepped.ended (moment_at stepping.0 entropy1 a) a.kept (moment_at led.0 entropy1 b) b.kept =
      subst (λ (p : Profile). follows p a.stepped.ended (moment_at stepping.0 entropy1 a) a.kept (moment_at led.0 entropy1 b) b.kept) same led.1 in record {
        next = e;
        given = given;
        end = moment_at stepping.0 entropy1 a;
        stop = a.stepped.stop;
        gave = gave;
        does = stepping.1;
        last = moment_at led.0 entropy1 b;
        behind = subst (λ (ended : List ℕ). follows host.profile ended (moment_at stepping.0 entropy1 a) a.kept (moment_at led.0 entropy1 b) b.kept) stepping.3 one;
        wire_is = refl;
        desk_is = refl;
      }

  -- one more event
  pub session_by_more : (events : List Given) (e : Given) (a b c : Place K) (stop : Bool)
      → SessionBy follows host events a b false → TurnBy follows host e b c stop → SessionBy follows host (events ++ e ∷ []) a c stop
  session_by_more [] e a b c stop session turn = (c, stop, rw (sym session.0) turn, by_stop stop)
    where
      by_stop : (s : Bool) → MatchBool s ((◌≡◌ {A = List Given} [] []) × (c ≡ c) × (s ≡ true)) ((c ≡ c) × (s ≡ false))
      by_stop true = (refl, refl, refl)
      by_stop false = (refl, refl)
  session_by_more (x ∷ events) e a b c stop session turn = (session.0, session.1, session.2, by_stop session.1 session.3 (session_by_more events e session.0 b c stop))
    where
      by_stop : (s : Bool) → MatchBool s ((events ≡ []) × (b ≡ session.0) × (false ≡ true)) (SessionBy follows host events session.0 b false)
          → (SessionBy follows host events session.0 b false → TurnBy follows host e b c stop → SessionBy follows host (events ++ e ∷ []) session.0 c stop)
          → MatchBool s ((events ++ e ∷ [] ≡ []) × (c ≡ session.0) × (stop ≡ true)) (SessionBy follows host (events ++ e ∷ []) session.0 c stop)
      by_stop true p more = absurd (cc p.2)
      by_stop false p more = more p turn

  -- where a run begins
  pub begins : (looks : Looking) (site : Site K) → looks.known ≡ [] → looks.seen ≡ nothing_seen → HasServedBy follows host 0 looks site site
  begins looks site nothing unseen = record { events = []; streams = []; number = refl; session = (ap (λ (seen : Seen). place_of seen [] site) unseen, refl); given = gives_none site.wire; stands = rw nothing tt; keyed = keyed_none Stream }

  module _ (n : ℕ) (looks looks' : Looking) (old mid new : Site K) where
    -- one more turn
    more_events : (stop : Bool) → HasServedBy follows host n looks old mid → ((e : Given) × TurnsBy follows host e looks looks' mid new stop)
        → (events : List Given) × (streams : Streams) × (length events ≡ n + 1)
        × SessionBy follows host events (place_of nothing_seen [] old) (place_of looks'.seen streams new) stop
        × (stop ≡ false → StandsFor looks'.known streams)
        × IsKeyed streams
        × Gives old.wire new.wire events
    more_events stop served turned =
        let turns = turned.1 served.streams served.stands in
        let longer : length (served.events ++ turned.0 ∷ []) ≡ n + 1 = length-append served.events (turned.0 ∷ []) ∙ ap (λ k. k + 1) served.number in (
          served.events ++ turned.0 ∷ [],
          turns.0,
          longer,
          session_by_more served.events turned.0 (place_of nothing_seen [] old) (place_of looks.seen served.streams mid) (place_of looks'.seen turns.0 new) stop served.session turns.1,
          turns.2,
          turns.3 served.keyed,
          gives_more old.wire mid.wire new.wire served.events (turned.0 ∷ []) served.given turns.4,
        )

    -- which goes on
    pub served_on : HasServedBy follows host n looks old mid → ((e : Given) × TurnsBy follows host e looks looks' mid new false) → HasServedBy follows host (n + 1) looks' old new
    served_on served turned =
        let more = more_events false served turned in
        record { events = more.0; streams = more.1; number = more.2; session = more.3; given = more.6; stands = more.4 refl; keyed = more.5 }

    -- which is the last
    pub served_stop : HasServedBy follows host n looks old mid → ((e : Given) × TurnsBy follows host e looks looks' mid new true) → ServesBy follows host (n + 1) old new true
    served_stop served turned =
        let more = more_events true served turned in
        record { events = more.0; streams = more.1; seen = looks'.seen; number = more.2; session = more.3; given = more.6 }

  -- what was served so far
  pub served_so_far : (n : ℕ) (looks : Looking) (old new : Site K) → HasServedBy follows host n looks old new → ServesBy follows host n old new false
  served_so_far n looks old new served = record { events = served.events; streams = served.streams; seen = looks.seen; number = served.number; session = served.session; given = served.given }

  -- how a run ends by a turn that ended otherwise
  pub ends_in_turn : (part : Following K) (turns n : ℕ) (looks looks' : Looking) (old mid new : Site K) (why : ServeEnd) → n < turns → HasServedBy follows host n looks old mid
      → TurnEndsBy follows part host looks looks' mid new (Err why) → EndsBy follows part host turns old new (Err why)
  unfolding served_so_far
  ends_in_turn part turns n looks looks' old mid new end.TurnsSpent few served turned = absurd turned
  ends_in_turn part turns n looks looks' old mid new end.WireFault few served turned = (
    n,
    few,
    record { mid = mid.wire; served = subst (λ (site : Site K). ServesBy follows host n old site false) (by_wire turned.1) (served_so_far n looks old mid served); failed = turned.0 },
  )
    where
      by_wire : new ≡ record mid { wire = new.wire } → mid ≡ record new { wire = mid.wire }
      by_wire is = ap (λ (site : Site K). record site { wire = mid.wire }) (sym is)
  ends_in_turn part turns n looks looks' old mid new end.NoMemory few served turned =
      (n, few, record { mid = mid; served = served_so_far n looks old mid served; wanting = turned served.streams served.stands })

-- ---- how a turn ends

module _ {K : Type 0} (follows part : Following K) (host : Host) (looks looks' : Looking) (old new : Site K) where
  pub memory_ends : (r : Result Bool ServeEnd) → IsErrAnd r (λ why. why ≡ end.NoMemory) → ((streams : Streams) → StandsFor looks.known streams → WantsBy part host (place_of looks.seen streams old) new)
      → TurnEndsBy follows part host looks looks' old new r
  memory_ends (Ok stop) is wants = absurd is
  memory_ends (Err why) is wants = subst (λ (w : ServeEnd). TurnEndsBy follows part host looks looks' old new (Err w)) (sym is) wants

  pub wire_ends : (r : Result Bool ServeEnd) (why : WireFail) → IsErrAnd r (λ by. by ≡ end_of why) → (why ≡ fail.Fault → IsFailed old.wire new.wire) → IsUngiven old.wire new.wire → new ≡ record old { wire = new.wire }
      → TurnEndsBy follows part host looks looks' old new r
  wire_ends (Ok stop) why is failed ungiven same = absurd is
  wire_ends (Err by) fail.Fault is failed ungiven same = subst (λ (w : ServeEnd). TurnEndsBy follows part host looks looks' old new (Err w)) (sym is) (failed refl, same)
  wire_ends (Err by) fail.NoMemory is failed ungiven same =
      subst (λ (w : ServeEnd). TurnEndsBy follows part host looks looks' old new (Err w)) (sym is)
      (λ streams stands. inl (inl (ungiven, ap (λ (s : Site K). s.desk) same), ap (λ (s : Site K). s.kept) same))

-- ---- what an ending tells

module _ {K : Type 0} (follows part : Following K) (host : Host) (turns : ℕ) (old new : Site K) where
  same_number : (n m : ℕ) (a b : Site K) (s s' : Bool) → IsSome old.wire.calls → ServesBy follows host n old a s → ServesBy follows host m old b s' → a.wire.calls ≡ b.wire.calls → n ≡ m
  same_number n m a b s s' told p q same = sym p.number ∙ ap length (same_gives old.wire a.wire b.wire p.events q.events told p.given q.given same) ∙ q.number

  pub risen_by : (n : ℕ) → FailsBy follows host n old new → HasRisen old.wire.faults new.wire.faults
  risen_by n fails = by_risen fails.failed.fault
    where
      by_risen : HasRisen fails.mid.faults new.wire.faults → HasRisen old.wire.faults new.wire.faults
      by_risen (inl more) = inl (omega (arith, fails.served.given.count, more))
      by_risen (inr most) = inr most

  pub spent_by : (result : Result ℕ ServeEnd) → EndsBy follows part host turns old new result → (other : Site K) → ServesBy follows host turns old other false → other.wire.calls ≡ new.wire.calls → IsSome old.wire.calls
      → IsErrOf result end.TurnsSpent ⊎ (IsErrOf result end.NoMemory ⊎ ((result ≡ Ok turns) × ServesBy follows host turns old new true))
  spent_by (Ok n) ends other all calls told =
      let same : n ≡ turns = same_number n turns new other true false told ends.1 all (sym calls) in
      inr (inr (ap Ok same, subst (λ (k : ℕ). ServesBy follows host k old new true) same ends.1))
  spent_by (Err end.TurnsSpent) ends other all calls told = inl refl
  spent_by (Err end.NoMemory) ends other all calls told = inr (inl refl)
  spent_by (Err end.WireFault) ends other all calls told =
      let same : ends.0 ≡ turns = same_number ends.0 turns (record new { wire = ends.2.mid }) other false false told ends.2.served all (sym ends.2.failed.untold ∙ sym calls) in
      absurd (omega (arith, ends.1, same))

  pub stop_by : (result : Result ℕ ServeEnd) → EndsBy follows part host turns old new result → (n : ℕ) → ServesBy follows host n old new true → IsSome old.wire.calls
      → (result ≡ Ok n) ⊎ (IsErrOf result end.NoMemory ⊎ ((wire : WireView) × (wire.calls ≡ new.wire.calls) × ServesBy follows host n old (record new { wire = wire }) false))
  stop_by (Ok k) ends n all told = inl (ap Ok (same_number k n new new true true told ends.1 all refl))
  stop_by (Err end.TurnsSpent) ends n all told =
      let same : turns ≡ n = same_number turns n new new false true told ends all refl in
      inr (inr (new.wire, refl, subst (λ (k : ℕ). ServesBy follows host k old new false) same ends))
  stop_by (Err end.NoMemory) ends n all told = inr (inl refl)
  stop_by (Err end.WireFault) ends n all told =
      let same : ends.0 ≡ n = same_number ends.0 n (record new { wire = ends.2.mid }) new false true told ends.2.served all (sym ends.2.failed.untold) in
      inr (inr (ends.2.mid, sym ends.2.failed.untold, subst (λ (k : ℕ). ServesBy follows host k old (record new { wire = ends.2.mid }) false) same ends.2.served))

-- ---- where nothing follows

module _ (host : Host) where
  turn_alone : (e : Given) (a b : Place Unit) (stop : Bool) → TurnBy Nothing host e a b stop → Turn host e (state_in a) (state_in b) stop
  turn_alone e a b stop p = (p.given, p.end, p.gave, p.does, (λ i. state_of (p.sees i) ((p.stands ∙ ap standing_of p.behind) i)))

  pub session_alone : (events : List Given) (a b : Place Unit) (stop : Bool) → SessionBy Nothing host events a b stop → ServerSession host events (state_in a) (state_in b) stop
  session_alone [] a b stop p = (ap state_in p.0, p.1)
  session_alone (e ∷ events) a b stop p = (state_in p.0, p.1, turn_alone e a p.0 p.1 p.2, by_stop p.1 p.3 (session_alone events p.0 b stop))
    where
      by_stop : (s : Bool) → MatchBool s ((events ≡ []) × (b ≡ p.0) × (stop ≡ true)) (SessionBy Nothing host events p.0 b stop)
          → (SessionBy Nothing host events p.0 b stop → ServerSession host events (state_in p.0) (state_in b) stop)
          → MatchBool s ((events ≡ []) × (state_in b ≡ state_in p.0) × (stop ≡ true)) (ServerSession host events (state_in p.0) (state_in b) stop)
      by_stop true q more = (q.0, ap state_in q.1, q.2)
      by_stop false q more = more q

  turn_from : (e : Given) (a b : SessionState) (stop : Bool) → Turn host e a b stop → TurnBy Nothing host e (alone a) (alone b) stop
  turn_from e a b stop p = record { given = p.0; end = p.1; gave = p.2; does = p.3; last = p.1; behind = refl; stands = ap (λ (s : SessionState). s.standing) p.4; sees = ap (λ (s : SessionState). s.seen) p.4 }

  pub session_from : (events : List Given) (a b : SessionState) (stop : Bool) → ServerSession host events a b stop → SessionBy Nothing host events (alone a) (alone b) stop
  session_from [] a b stop p = (ap alone p.0, p.1)
  session_from (e ∷ events) a b stop p = (alone p.0, p.1, turn_from e a p.0 p.1 p.2, by_stop p.1 p.3 (session_from events p.0 b stop))
    where
      by_stop : (s : Bool) → MatchBool s ((events ≡ []) × (b ≡ p.0) × (stop ≡ true)) (ServerSession host events p.0 b stop)
          → (ServerSession host events p.0 b stop → SessionBy Nothing host events (alone p.0) (alone b) stop)
          → MatchBool s ((events ≡ []) × (alone b ≡ alone p.0) × (stop ≡ true)) (SessionBy Nothing host events (alone p.0) (alone b) stop)
      by_stop true q more = (q.0, ap alone q.1, q.2)
      by_stop false q more = more q

  module _ (old new : Site Unit) where
    pub serves_alone : (n : ℕ) (stop : Bool) → ServesBy Nothing host n old new stop → ServesEvents host n old.wire new.wire old.desk new.desk stop
    serves_alone n stop p = record { events = p.events; streams = p.streams; seen = p.seen; number = p.number; session = session_alone p.events (place_of nothing_seen [] old) (place_of p.seen p.streams new) stop p.session; given = p.given }

  pub fails_alone : (n : ℕ) (old new : Site Unit) → FailsBy Nothing host n old new → FailsAfter host n old.wire new.wire old.desk new.desk
  fails_alone n old new p = record { mid = p.mid; served = serves_alone old (record new { wire = p.mid }) n false p.served; failed = p.failed }

  pub wants_alone : (n : ℕ) (old new : Site Unit) → WantsAfterBy Nothing Nothing host n old new → WantsAfter host n old.wire new.wire old.desk new.desk
  unfolding serves_alone
  wants_alone n old new p = record { mid = p.mid.wire; kept = p.mid.desk; served = serves_alone old p.mid n false p.served; wanting = by_wanting p.wanting }
    where
      by_wanting : WantsBy Nothing host (place_of p.served.seen p.served.streams p.mid) new
          → IsWanting host p.served.seen (record { streams = p.served.streams; wire = p.mid.wire; desk = p.mid.desk }) new.wire new.desk
      by_wanting (inl q) = q.0
      by_wanting (inr q) = inr (
        q.next,
        q.given,
        q.gave,
        inr (q.end, q.stop, q.does, q.wire_is ∙ ap (λ (m : Moment). m.scene.wire) q.behind, q.desk_is ∙ ap (λ (m : Moment). m.scene.sheet.desk) q.behind),
      )

  -- how a run ended where nothing follows
  module _ (turns : ℕ) (old new : Site Unit) where
    pub stopped_alone : (r : Result ℕ ServeEnd) → EndsBy Nothing Nothing host turns old new r → IfOk r (λ n. ServesEvents host n old.wire new.wire old.desk new.desk true)
    stopped_alone (Ok n) p = serves_alone old new n true p.1
    stopped_alone (Err why) p = tt

    pub within_alone : (r : Result ℕ ServeEnd) → EndsBy Nothing Nothing host turns old new r → IfOk r (λ n. n ≤ turns)
    within_alone (Ok n) p = p.0
    within_alone (Err why) p = tt

    pub spent_alone : (r : Result ℕ ServeEnd) → EndsBy Nothing Nothing host turns old new r → IsErrOf r end.TurnsSpent → ServesEvents host turns old.wire new.wire old.desk new.desk false
    spent_alone (Ok n) p is = absurd (cc is)
    spent_alone (Err end.TurnsSpent) p is = serves_alone old new turns false p
    spent_alone (Err end.WireFault) p is = absurd (cc is)
    spent_alone (Err end.NoMemory) p is = absurd (cc is)

    pub failed_alone : (r : Result ℕ ServeEnd) → EndsBy Nothing Nothing host turns old new r → IsErrOf r end.WireFault → (n : ℕ) × (n < turns) × FailsAfter host n old.wire new.wire old.desk new.desk
    failed_alone (Ok n) p is = absurd (cc is)
    failed_alone (Err end.TurnsSpent) p is = absurd (cc is)
    failed_alone (Err end.WireFault) p is = (p.0, p.1, fails_alone p.0 old new p.2)
    failed_alone (Err end.NoMemory) p is = absurd (cc is)

    pub fault_alone : (r : Result ℕ ServeEnd) → EndsBy Nothing Nothing host turns old new r → IsErrOf r end.WireFault → HasRisen old.wire.faults new.wire.faults
    fault_alone (Ok n) p is = absurd (cc is)
    fault_alone (Err end.TurnsSpent) p is = absurd (cc is)
    fault_alone (Err end.WireFault) p is = risen_by Nothing Nothing host turns old new p.0 p.2
    fault_alone (Err end.NoMemory) p is = absurd (cc is)

    pub wanting_alone : (r : Result ℕ ServeEnd) → EndsBy Nothing Nothing host turns old new r → IsErrOf r end.NoMemory → (n : ℕ) × (n < turns) × WantsAfter host n old.wire new.wire old.desk new.desk
    wanting_alone (Ok n) p is = absurd (cc is)
    wanting_alone (Err end.TurnsSpent) p is = absurd (cc is)
    wanting_alone (Err end.WireFault) p is = absurd (cc is)
    wanting_alone (Err end.NoMemory) p is = (p.0, p.1, wants_alone p.0 old new p.2)
