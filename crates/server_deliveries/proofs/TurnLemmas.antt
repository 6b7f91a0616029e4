-- What follows an event where offers are pushed, and the sessions of that.
use Rattle.std.proofs.Common.{◌≡◌, ℕ, ◌<◌, ◌≤◌, List, [], ◌∷◌, Bool, true, false, MatchBool, MatchOption, Option, None, Some, Result, Ok, Err, refl, sym, ap, ◌∙◌, subst, inl, inr, ◌⊎◌, take}
use Rattle.std.proofs.Math.Path.{fun_ext}
use Rattle.std.specs.Prelude.{IfOk, OnErr, OnOk}
use Rattle.std.specs.Result.{IsErrOf}
use Rattle.edge_devices.specs.Clocks.{EntropyState}
use Rattle.edge_devices.specs.Faults.{HasRisen}
use Rattle.edge_devices.specs.declared.wires.Given.{Given}
use Rattle.plain_values.specs.declared.memory.NoMemory.{NoMemory}
use Rattle.server_core.specs.declared.replies.Profile.{Profile}
use Rattle.server_core.specs.Table.{Table}
use Rattle.server_sessions.specs.declared.answers.stepped.Handled.{Handled}
use Rattle.server_sessions.specs.declared.answers.stepped.Stepped.{Stepped}
use Rattle.server_waves.specs.Register.{Rolling}
use Rattle.server_sessions.specs.Reports.{Desk, Host, desk_of}
use Rattle.server_lines.specs.Sights.{nothing_seen}
use Rattle.server_sessions.specs.Session.{Standing, Streams, standing_of, without_stream}
use Rattle.server_sessions.specs.Wiring.{WireView}
use Rattle.server_sessions.specs.declared.serving.ServeEnd.{ServeEnd}
use Rattle.server_sessions.specs.declared.serving.ServeEnd.TheVariants as end
use Rattle.server_sessions.specs.Behind.{IsKeyed, LeadsBy}
use Rattle.server_sessions.specs.Behind.{post_of as behind_of}
use Rattle.server_sessions.specs.Connections.{Known}
use Rattle.server_sessions.specs.Sessions.{EndsBy, FailsBy, FollowsInPart, Place, ServesBy, SessionBy, Site, TurnBy, WantsBy, place_of, site_of}
use Rattle.server_deliveries.specs.Pushing.{Push, PushStanding, PushTurn, Pushes, PushesEvents, PushesInPart, PushesOver, PushesOverInPart, PushesSome, PushesTo, PushesToAll, PushingFails, PushingSession, PushingWants, SendsPush, WantsToPush, beginning, push_to, pushing_at, routes_after}
use Rattle.server_deliveries.specs.Routes.{Reach, no_routes, routes_ended, routes_noted}
use Rattle.server_deliveries.specs.Turns.{Leads, PushesFirst, post_of}

-- what the routes became behind an event
pub followed : (now routes : Reach) (handled handled' : List Handled) (ended ended' : List ℕ) → ((uid : List ℕ) → now uid ≡ routes_ended ended' (routes_noted handled' routes) uid)
    → handled' ≡ handled → ended' ≡ ended → now ≡ routes_ended ended (routes_noted handled routes)
followed now routes handled handled' ended ended' is h e =
    fun_ext is ∙ ap (λ (hs : List Handled). routes_ended ended' (routes_noted hs routes)) h ∙ ap (λ (es : List ℕ). routes_ended es (routes_noted handled routes)) e

-- ---- what pushes leave

push_desk : (profile : Profile) (uid : List ℕ) (a b : PushStanding) → PushesTo profile uid a b → b.session.desk ≡ a.session.desk
push_desk profile uid a b p = by_push (push_to profile a uid) p
  where
    by_push : (o : Option Push) → MatchOption o (b ≡ a) (λ push. SendsPush push a b) → b.session.desk ≡ a.session.desk
    by_push None q = ap (λ (s : PushStanding). s.session.desk) q
    by_push (Some push) (inl q) = ap (λ (s : PushStanding). s.session.desk) q.1
    by_push (Some push) (inr q) = ap (λ (s : PushStanding). s.session.desk) q.1

pushes_desk : (profile : Profile) (uids : List (List ℕ)) (a b : PushStanding) → PushesToAll profile uids a b → b.session.desk ≡ a.session.desk
pushes_desk profile [] a b p = ap (λ (s : PushStanding). s.session.desk) p
pushes_desk profile (uid ∷ uids) a b p = pushes_desk profile uids p.0 b p.2 ∙ push_desk profile uid a p.0 p.1

abbrev pub StayKeyed : Type 0
StayKeyed = (conn : ℕ) (streams : Streams) → IsKeyed streams → IsKeyed (without_stream streams conn)

push_keyed : StayKeyed → (profile : Profile) (uid : List ℕ) (a b : PushStanding) → PushesTo profile uid a b → IsKeyed a.session.streams → IsKeyed b.session.streams
push_keyed stay profile uid a b p keyed = by_push (push_to profile a uid) p
  where
    kept : (streams : Streams) → b.session.streams ≡ streams → IsKeyed streams → IsKeyed b.session.streams
    kept streams is known = subst (λ (s : Streams). IsKeyed s) (sym is) known

    by_push : (o : Option Push) → MatchOption o (b ≡ a) (λ push. SendsPush push a b) → IsKeyed b.session.streams
    by_push None q = kept a.session.streams (ap (λ (s : PushStanding). s.session.streams) q) keyed
    by_push (Some push) (inl q) = kept a.session.streams (ap (λ (s : PushStanding). s.session.streams) q.1) keyed
    by_push (Some push) (inr q) = kept (without_stream a.session.streams push.conn) (ap (λ (s : PushStanding). s.session.streams) q.1) (stay push.conn a.session.streams keyed)

pushes_keyed : StayKeyed → (profile : Profile) (uids : List (List ℕ)) (a b : PushStanding) → PushesToAll profile uids a b → IsKeyed a.session.streams → IsKeyed b.session.streams
pushes_keyed stay profile [] a b p keyed = subst (λ (s : PushStanding). IsKeyed s.session.streams) (sym p) keyed
pushes_keyed stay profile (uid ∷ uids) a b p keyed = pushes_keyed stay profile uids p.0 b p.2 (push_keyed stay profile uid a p.0 p.1 keyed)

-- ---- what follows an event

module _ (stay : StayKeyed) (profile : Profile) (known known' : Known) (wire wire' : WireView) (table : Table) (rollouts : List Rolling) (stepped : Stepped) (routes routes' : Reach) where
  pub pushed_by : (r : Result Unit NoMemory)
      → OnOk r ((entropy : EntropyState) (rolling : List Rolling) → Leads (PushesToAll profile stepped.ordered) (desk_of entropy table rolling) (post_of known (routes_ended stepped.ended (routes_noted stepped.handled routes)) wire) (post_of known' routes' wire'))
      → OnOk r (LeadsBy Pushes profile (behind_of known wire table rollouts stepped routes) (behind_of known' wire' table rollouts stepped routes'))
  pushed_by (Err why) p = tt
  pushed_by (Ok done) p = λ entropy streams.
      let led = p entropy rollouts streams in
      (led.0, (led.1, refl), led.2, λ keyed. pushes_keyed stay profile stepped.ordered _ _ led.1 keyed)

  pub pushed_in_part : (r : Result Unit NoMemory)
      → OnErr r ((reach : Reach) × PushesFirst profile stepped.ordered table (post_of known (routes_ended stepped.ended (routes_noted stepped.handled routes)) wire) (post_of known' reach wire'))
      → OnErr r (LeadsBy PushesInPart profile (behind_of known wire table rollouts stepped routes) (behind_of known' wire' table rollouts stepped routes'))
  pushed_in_part (Ok done) p = tt
  pushed_in_part (Err why) p = λ entropy streams.
      let led = p.1.1 entropy rollouts streams in
      (led.0, (p.1.0, p.0, (led.1, refl)), led.2, λ keyed. pushes_keyed stay profile (take p.1.0 stepped.ordered) _ _ led.1 keyed)

-- the same, to whomever the pushes go
module _ (stay : StayKeyed) (profile : Profile) (known known' : Known) (wire wire' : WireView) (table : Table) (rollouts : List Rolling) (stepped : Stepped) (routes routes' : Reach) (uids : List (List ℕ)) where
  pub led_on : ((entropy : EntropyState) (rolling : List Rolling) → Leads (PushesToAll profile uids) (desk_of entropy table rolling) (post_of known (routes_ended stepped.ended (routes_noted stepped.handled routes)) wire) (post_of known' routes' wire'))
      → LeadsBy (PushesOver uids) profile (behind_of known wire table rollouts stepped routes) (behind_of known' wire' table rollouts stepped routes')
  led_on p = λ entropy streams.
      let led = p entropy rollouts streams in
      (led.0, (led.1, refl), led.2, λ keyed. pushes_keyed stay profile uids _ _ led.1 keyed)

  pub led_in_part : (reach : Reach) → PushesFirst profile uids table (post_of known (routes_ended stepped.ended (routes_noted stepped.handled routes)) wire) (post_of known' reach wire')
      → LeadsBy (PushesOverInPart uids) profile (behind_of known wire table rollouts stepped routes) (behind_of known' wire' table rollouts stepped routes')
  led_in_part reach p = λ entropy streams.
      let led = p.1 entropy rollouts streams in
      (led.0, (p.0, reach, (led.1, refl)), led.2, λ keyed. pushes_keyed stay profile (take p.0 uids) _ _ led.1 keyed)

-- ---- the case of the one session

module _ (host : Host) where
  turn_case : (e : Given) (a b : Place Reach) (stop : Bool) → PushTurn host e a b stop → TurnBy Pushes host e a b stop
  turn_case e a b stop p =
      let desk : b.standing.desk ≡ p.end.scene.sheet.desk = pushes_desk host.profile p.end.scene.sheet.ordered _ (pushing_at b) p.pushes in
      let same : b.standing ≡ record { streams = b.standing.streams; wire = b.standing.wire; desk = p.end.scene.sheet.desk } = ap (λ (d : Desk). record { streams = b.standing.streams; wire = b.standing.wire; desk = d }) desk in record {
        given = p.given;
        end = p.end;
        gave = p.gave;
        does = p.does;
        last = record { streams = b.standing.streams; scene = record { wire = b.standing.wire; sheet = p.end.scene.sheet } };
        behind = (
          subst (λ (s : Standing). PushesToAll host.profile p.end.scene.sheet.ordered (record { session = standing_of p.end; routes = routes_after e.event a.standing.streams p.end a.kept }) (record { session = s; routes = b.kept })) same p.pushes,
          refl,
        );
        stands = same;
        sees = p.sees;
      }

  pub session_case : (events : List Given) (a b : Place Reach) (stop : Bool) → PushingSession host events a b stop → SessionBy Pushes host events a b stop
  session_case [] a b stop p = p
  session_case (e ∷ events) a b stop p = (p.0, p.1, turn_case e a p.0 p.1 p.2, by_stop p.1 p.3 (session_case events p.0 b stop))
    where
      by_stop : (s : Bool) → MatchBool s ((events ≡ []) × (b ≡ p.0) × (stop ≡ true)) (PushingSession host events p.0 b stop)
          → (PushingSession host events p.0 b stop → SessionBy Pushes host events p.0 b stop)
          → MatchBool s ((events ≡ []) × (b ≡ p.0) × (stop ≡ true)) (SessionBy Pushes host events p.0 b stop)
      by_stop true q more = q
      by_stop false q more = more q

  turn_only : (e : Given) (a b : Place Reach) (stop : Bool) → TurnBy Pushes host e a b stop → PushTurn host e a b stop
  turn_only e a b stop p = record {
    given = p.given;
    end = p.end;
    gave = p.gave;
    does = p.does;
    pushes = subst (λ (s : Standing). PushesToAll host.profile p.end.scene.sheet.ordered (record { session = standing_of p.end; routes = routes_after e.event a.standing.streams p.end a.kept }) (record { session = s; routes = b.kept })) (sym p.stands) p.behind.0;
    sees = p.sees;
  }

  pub session_only : (events : List Given) (a b : Place Reach) (stop : Bool) → SessionBy Pushes host events a b stop → PushingSession host events a b stop
  session_only [] a b stop p = p
  session_only (e ∷ events) a b stop p = (p.0, p.1, turn_only e a p.0 p.1 p.2, by_stop p.1 p.3 (session_only events p.0 b stop))
    where
      by_stop : (s : Bool) → MatchBool s ((events ≡ []) × (b ≡ p.0) × (stop ≡ true)) (SessionBy Pushes host events p.0 b stop)
          → (SessionBy Pushes host events p.0 b stop → PushingSession host events p.0 b stop)
          → MatchBool s ((events ≡ []) × (b ≡ p.0) × (stop ≡ true)) (PushingSession host events p.0 b stop)
      by_stop true q more = q
      by_stop false q more = more q

  -- ---- how a run ended

  abbrev from_none : Site Reach → Type 0
  from_none old = old.kept ≡ no_routes

  begun : (old : Site Reach) → from_none old → place_of nothing_seen [] old ≡ beginning old.wire old.desk
  begun old none = ap (λ (r : Reach). place_of nothing_seen [] (site_of old.wire old.desk r)) none

  pub serves_pushing : (n : ℕ) (old new : Site Reach) (stop : Bool) → from_none old → ServesBy Pushes host n old new stop → PushesEvents host n old.wire new.wire old.desk new.desk stop
  serves_pushing n old new stop none p = record {
    events = p.events;
    streams = p.streams;
    seen = p.seen;
    routes = new.kept;
    number = p.number;
    session = subst (λ (s : Place Reach). PushingSession host p.events s (place_of p.seen p.streams new) stop) (begun old none) (session_only p.events (place_of nothing_seen [] old) (place_of p.seen p.streams new) stop p.session);
    given = p.given;
  }

  pub serves_case : (n : ℕ) (old : Site Reach) (wire : WireView) (desk : Desk) (stop : Bool) → from_none old → (p : PushesEvents host n old.wire wire old.desk desk stop) → ServesBy Pushes host n old (site_of wire desk p.routes) stop
  serves_case n old wire desk stop none p = record {
    events = p.events;
    streams = p.streams;
    seen = p.seen;
    number = p.number;
    session = session_case p.events (place_of nothing_seen [] old) (place_of p.seen p.streams (site_of wire desk p.routes)) stop
        (subst (λ (s : Place Reach). PushingSession host p.events s (place_of p.seen p.streams (site_of wire desk p.routes)) stop) (sym (begun old none)) p.session);
    given = p.given;
  }

  some_pushed : (old : Place Reach) (new : Site Reach) → FollowsInPart PushesInPart host old new → PushesSome host old new.wire new.desk
  some_pushed old new p = record {
    next = p.next;
    given = p.given;
    end = p.end;
    stop = p.stop;
    gave = p.gave;
    does = p.does;
    count = p.behind.0;
    last = record { session = standing_of p.last; routes = p.behind.1 };
    pushes = p.behind.2.0;
    wire_is = p.wire_is;
    desk_is = p.desk_is;
  }

  wants_pushing : (old : Place Reach) (new : Site Reach) → WantsBy PushesInPart host old new → WantsToPush host old new.wire new.desk
  wants_pushing old new (inl p) = inl p.0
  wants_pushing old new (inr p) = inr (some_pushed old new p)

  module _ (turns : ℕ) (old new : Site Reach) (none : from_none old) where
    pub within_pushing : (r : Result ℕ ServeEnd) → EndsBy Pushes PushesInPart host turns old new r → IfOk r (λ n. n ≤ turns)
    within_pushing (Ok n) p = p.0
    within_pushing (Err why) p = tt

    pub stopped_pushing : (r : Result ℕ ServeEnd) → EndsBy Pushes PushesInPart host turns old new r → IfOk r (λ n. PushesEvents host n old.wire new.wire old.desk new.desk true)
    stopped_pushing (Ok n) p = serves_pushing n old new true none p.1
    stopped_pushing (Err why) p = tt

    pub spent_pushing : (r : Result ℕ ServeEnd) → EndsBy Pushes PushesInPart host turns old new r → IsErrOf r end.TurnsSpent → PushesEvents host turns old.wire new.wire old.desk new.desk false
    spent_pushing (Ok n) p is = absurd (cc is)
    spent_pushing (Err end.TurnsSpent) p is = serves_pushing turns old new false none p
    spent_pushing (Err end.WireFault) p is = absurd (cc is)
    spent_pushing (Err end.NoMemory) p is = absurd (cc is)

    pub failed_pushing : (r : Result ℕ ServeEnd) → EndsBy Pushes PushesInPart host turns old new r → IsErrOf r end.WireFault → (n : ℕ) × (n < turns) × PushingFails host n old.wire new.wire old.desk new.desk
    failed_pushing (Ok n) p is = absurd (cc is)
    failed_pushing (Err end.TurnsSpent) p is = absurd (cc is)
    failed_pushing (Err end.WireFault) p is =
        (p.0, p.1, record { mid = p.2.mid; served = serves_pushing p.0 old (record new { wire = p.2.mid }) false none p.2.served; failed = p.2.failed })
    failed_pushing (Err end.NoMemory) p is = absurd (cc is)

    pub fault_pushing : ((n : ℕ) (a b : Site Reach) → FailsBy Pushes host n a b → HasRisen a.wire.faults b.wire.faults) → (r : Result ℕ ServeEnd) → EndsBy Pushes PushesInPart host turns old new r → IsErrOf r end.WireFault
        → HasRisen old.wire.faults new.wire.faults
    fault_pushing risen (Ok n) p is = absurd (cc is)
    fault_pushing risen (Err end.TurnsSpent) p is = absurd (cc is)
    fault_pushing risen (Err end.WireFault) p is = risen p.0 old new p.2
    fault_pushing risen (Err end.NoMemory) p is = absurd (cc is)

    pub wanting_pushing : (r : Result ℕ ServeEnd) → EndsBy Pushes PushesInPart host turns old new r → IsErrOf r end.NoMemory → (n : ℕ) × (n < turns) × PushingWants host n old.wire new.wire old.desk new.desk
    unfolding serves_pushing
    wanting_pushing (Ok n) p is = absurd (cc is)
    wanting_pushing (Err end.TurnsSpent) p is = absurd (cc is)
    wanting_pushing (Err end.WireFault) p is = absurd (cc is)
    wanting_pushing (Err end.NoMemory) p is = (
      p.0,
      p.1,
      record {
        mid = p.2.mid.wire;
        kept = p.2.mid.desk;
        served = serves_pushing p.0 old p.2.mid false none p.2.served;
        wanting = wants_pushing (place_of p.2.served.seen p.2.served.streams p.2.mid) new p.2.wanting;
      },
    )

    -- a run of all turns was told
    pub told_pushing : (r : Result ℕ ServeEnd) → IsErrOf r end.TurnsSpent ⊎ (IsErrOf r end.NoMemory ⊎ ((r ≡ Ok turns) × ServesBy Pushes host turns old new true))
        → IsErrOf r end.TurnsSpent ⊎ (IsErrOf r end.NoMemory ⊎ ((r ≡ Ok turns) × PushesEvents host turns old.wire new.wire old.desk new.desk true))
    told_pushing r (inl spent) = inl spent
    told_pushing r (inr (inl wants)) = inr (inl wants)
    told_pushing r (inr (inr stopped)) = inr (inr (stopped.0, serves_pushing turns old new true none stopped.1))
