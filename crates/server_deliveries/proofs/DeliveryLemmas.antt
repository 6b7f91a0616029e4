-- What follows an event where there are rollouts and may be pushes, and the sessions of that.
use Rattle.std.proofs.Common.{◌≡◌, ℕ, List, [], ◌∷◌, Bool, true, false, MatchBool, Option, None, Some, Result, Ok, Err, OnOk, OnErr, refl, sym, ap, ◌∙◌, subst, inl, inr, ◌⊎◌, append-nil, ◌||◌}
use Rattle.std.specs.Result.{IsErr}
use Rattle.std.specs.Str.{bytes_eq}
use Rattle.edge_devices.specs.declared.wires.Given.{Given}
use Rattle.edge_devices.specs.declared.wires.WireEvent.{WireEvent}
use Rattle.server_core.specs.declared.replies.Profile.{Profile}
use Rattle.server_core.specs.declared.rows.Record.{Record}
use Rattle.server_core.specs.History.{is_among}
use Rattle.server_core.specs.Table.{Table, find_record}
use Rattle.server_waves.specs.Points.{AfterPoints, AreCurrentBut, ArePointedInPart, AreWithin, OfferNoMore, points, rolled, rolled_table, with_heard}
use Rattle.server_waves.specs.declared.finders.Finder.{Finder}
use Rattle.server_waves.specs.Register.{Rolling, all_without, changed, finished, with_rolling}
use Rattle.server_waves.specs.Waves.{IsPoint, Terms, is_decided, passes, resumed, with_halt}
use Rattle.server_sessions.specs.declared.answers.stepped.Handled.{Handled}
use Rattle.server_sessions.specs.declared.answers.stepped.Stepped.{Stepped}
use Rattle.server_sessions.specs.Reports.{Host}
use Rattle.server_sessions.specs.Answers.{Sheet}
use Rattle.server_sessions.specs.Session.{Moment, Standing, seen_at}
use Rattle.server_sessions.specs.Wiring.{WireView}
use Rattle.server_sessions.specs.Behind.{LeadsBy, OthersStay, Stays, is_heard, moment_at, post_of}
use Rattle.server_sessions.specs.Connections.{AreHeard, KeepsKnown, Known, conn_of, ended_at}
use Rattle.server_sessions.specs.Sessions.{Following, Nothing, Place, SessionBy, TurnBy}
use Rattle.server_deliveries.specs.Pushing.{Pushes, PushesOver, PushesOverInPart, pushed_to}
use Rattle.server_deliveries.specs.Routes.{Reach}
use Rattle.server_deliveries.specs.Views.{Entries}
use Rattle.server_deliveries.specs.Deliveries.{AreKnownWhere, Delivered, Delivers, DeliversInPart, EachKeepsWidth, KeepsWidth, NoRollouts, PushesInPartWhere, PushesWhere, WereKnownWhere, heard_in, pointed_behind, with_fleet, with_none, with_pushes}
use Rattle.server_deliveries.specs.Delivering.{pushes_leave}
use Rattle.server_deliveries.proofs.Steered.{event_keeps}

-- from what is known where a call was done, or refused
module _ {T E : Type 0} where
  pub map_ok : {P Q : Type 0} (r : Result T E) → (P → Q) → OnOk r P → OnOk r Q
  map_ok (Ok x) f p = f p
  map_ok (Err why) f p = tt

  pub map_err : {P Q : Type 0} (r : Result T E) → (P → Q) → OnErr r P → OnErr r Q
  map_err (Ok x) f p = tt
  map_err (Err why) f p = f p

  pub on_err : {P : Type 0} (r : Result T E) → P → OnErr r P
  on_err (Ok x) holds = tt
  on_err (Err e) holds = holds

  pub on_refused : (P : Type 0) (r : Result T E) → IsErr r → OnOk r P
  on_refused P (Ok x) is = absurd (cc is)
  on_refused P (Err e) is = tt

-- ---- the pushes, where offers are pushed

module _ (profile : Profile) (newly : List (List ℕ)) (known known' : Known) (wire wire' : WireView) (table : Table) (rollouts : List Rolling) (stepped : Stepped) where
  pub none_pushed : (routes : Option Reach) → routes ≡ None → LeadsBy (PushesWhere newly) profile (post_of known wire table rollouts stepped routes) (post_of known wire table rollouts stepped routes)
  none_pushed None is = λ entropy streams. (streams, (refl, refl), (λ stands. stands), (λ keyed. keyed))
  none_pushed (Some routes) is = absurd (cc is)

  pub some_pushed : (routes routes' : Reach) → LeadsBy (PushesOver (pushed_to stepped.ordered newly)) profile (post_of known wire table rollouts stepped routes) (post_of known' wire' table rollouts stepped routes')
      → LeadsBy (PushesWhere newly) profile (post_of known wire table rollouts stepped (Some routes)) (post_of known' wire' table rollouts stepped (Some routes'))
  some_pushed routes routes' p = λ entropy streams.
      let led = p entropy streams in
      (led.0, (routes', refl, led.1), led.2, led.3)

  pub first_pushed : (routes routes' : Reach) → LeadsBy (PushesOverInPart (pushed_to stepped.ordered newly)) profile (post_of known wire table rollouts stepped routes) (post_of known' wire' table rollouts stepped routes')
      → LeadsBy (PushesInPartWhere newly) profile (post_of known wire table rollouts stepped (Some routes)) (post_of known' wire' table rollouts stepped (Some routes'))
  first_pushed routes routes' p = λ entropy streams.
      let led = p entropy streams in
      (led.0, led.1, led.2, led.3)

-- ---- what follows an event

module _ (fine : Record → Bool) (profile : Profile) (known known' : Known) (wire wire' : WireView) (table table' : Table) (rollouts rollouts' : List Rolling) (stepped : Stepped) (routes routes' : Option Reach) where
  pub points_short : ArePointedInPart fine (heard_in stepped.handled) rollouts rollouts' table table'
      → LeadsBy DeliversInPart profile (post_of known wire table rollouts stepped (record { fine = fine; routes = routes })) (post_of known wire table' rollouts' stepped (record { fine = fine; routes = routes }))
  points_short p = λ entropy streams. (streams, (inl (p, refl), refl), (λ stands. stands), (λ keyed. keyed))

  module _ (newly : List (List ℕ)) (newly_is : newly ≡ (points fine (heard_in stepped.handled) rollouts table).newly) (table_is : table' ≡ (points fine (heard_in stepped.handled) rollouts table).table)
      (rollouts_are : rollouts' ≡ (points fine (heard_in stepped.handled) rollouts table).rollouts) where
    pushed_there : (ended : List ℕ) (end last : Moment) → PushesWhere newly profile ended (with_fleet end table' rollouts') routes last routes'
        → PushesWhere (points fine (heard_in stepped.handled) rollouts table).newly profile ended
        (with_fleet end (points fine (heard_in stepped.handled) rollouts table).table (points fine (heard_in stepped.handled) rollouts table).rollouts) routes last routes'
    pushed_there ended end last p =
        subst (λ (rs : List Rolling). PushesWhere (points fine (heard_in stepped.handled) rollouts table).newly profile ended (with_fleet end (points fine (heard_in stepped.handled) rollouts table).table rs) routes last routes') rollouts_are
        (subst (λ (t : Table). PushesWhere (points fine (heard_in stepped.handled) rollouts table).newly profile ended (with_fleet end t rollouts') routes last routes') table_is
        (subst (λ (us : List (List ℕ)). PushesWhere us profile ended (with_fleet end table' rollouts') routes last routes') newly_is p))

    some_there : (ended : List ℕ) (end last : Moment) → PushesInPartWhere newly profile ended (with_fleet end table' rollouts') routes last routes'
        → PushesInPartWhere (points fine (heard_in stepped.handled) rollouts table).newly profile ended
        (with_fleet end (points fine (heard_in stepped.handled) rollouts table).table (points fine (heard_in stepped.handled) rollouts table).rollouts) routes last routes'
    some_there ended end last p =
        subst (λ (rs : List Rolling). PushesInPartWhere (points fine (heard_in stepped.handled) rollouts table).newly profile ended (with_fleet end (points fine (heard_in stepped.handled) rollouts table).table rs) routes last routes') rollouts_are
        (subst (λ (t : Table). PushesInPartWhere (points fine (heard_in stepped.handled) rollouts table).newly profile ended (with_fleet end t rollouts') routes last routes') table_is
        (subst (λ (us : List (List ℕ)). PushesInPartWhere us profile ended (with_fleet end table' rollouts') routes last routes') newly_is p))

    pub delivered_on : LeadsBy (PushesWhere newly) profile (post_of known wire table' rollouts' stepped routes) (post_of known' wire' table' rollouts' stepped routes')
        → LeadsBy Delivers profile (post_of known wire table rollouts stepped (record { fine = fine; routes = routes })) (post_of known' wire' table' rollouts' stepped (record { fine = fine; routes = routes' }))
    delivered_on p = λ entropy streams.
        let led = p entropy streams in
        (led.0, (pushed_there stepped.ended (moment_at streams entropy (post_of known wire table rollouts stepped routes)) (moment_at led.0 entropy (post_of known' wire' table' rollouts' stepped routes')) led.1, refl), led.2, led.3)

    pub pushes_short : LeadsBy (PushesInPartWhere newly) profile (post_of known wire table' rollouts' stepped routes) (post_of known' wire' table' rollouts' stepped routes')
        → LeadsBy DeliversInPart profile (post_of known wire table rollouts stepped (record { fine = fine; routes = routes })) (post_of known' wire' table' rollouts' stepped (record { fine = fine; routes = routes' }))
    pushes_short p = λ entropy streams.
        let led = p entropy streams in
        (led.0, (inr (some_there stepped.ended (moment_at streams entropy (post_of known wire table rollouts stepped routes)) (moment_at led.0 entropy (post_of known' wire' table' rollouts' stepped routes')) led.1), refl), led.2, led.3)

-- what was known before an event
pub were_known : (before known : Known) (e : WireEvent) (stepped : Stepped) (routes : Option Entries) → AreKnownWhere before routes → AreHeard before e stepped.handled → KeepsKnown before known stepped.ended
    → WereKnownWhere known stepped routes
were_known before known e stepped None fits heard keeps = tt
were_known before known e stepped (Some routes) fits heard keeps = (before, e, fits, heard, keeps)

-- ---- of whom nothing is known behind an event

-- who reports is heard
pub heard_as : (handled : List Handled) (uid : List ℕ) → is_among (heard_in handled) uid ≡ is_heard handled uid
heard_as [] uid = refl
heard_as (h ∷ handled) uid = ap (λ b. bytes_eq h.uid uid || b) (heard_as handled uid)

-- nothing came of a report of another agent
module _ (fine : Record → Bool) (first table : Table) (hash uid : List ℕ) where
  pub still_unknown : Stays uid first table → passes (is_decided fine hash) (find_record first.records uid) ≡ false → passes (is_decided fine hash) (find_record table.records uid) ≡ false
  still_unknown (inl same) was = ap (passes (is_decided fine hash)) same ∙ was
  still_unknown (inr gone) was = ap (passes (is_decided fine hash)) gone

first_none : (a b : Bool) → (a || b) ≡ false → a ≡ false
first_none true b is = absurd (cc is)
first_none false b is = refl

second_none : (a b : Bool) → (a || b) ≡ false → b ≡ false
second_none true b is = absurd (cc is)
second_none false b is = is

-- so the candidates and those that were heard are all of whom something may be known
pub current_behind : (fine : Record → Bool) (old new : List ℕ → Bool) (piece : Bool) (handled : List Handled) (ended : List ℕ) (first table : Table) (rolling rollouts : List Rolling) → AreCurrentBut old fine first.records rolling → OfferNoMore rolling rollouts
    → ((piece ≡ false) ⊎ (ended ≡ []) → OthersStay handled first table) → ((uid : List ℕ) → new uid ≡ false → (old uid ≡ false) × ((piece ≡ false) ⊎ (ended ≡ [])))
    → AreCurrentBut (λ u. new u || is_among (heard_in handled) u) fine table.records rollouts
current_behind fine old new piece handled ended first table rolling rollouts fitted offers others kept = λ hash uid there isnt.
    let mine = kept uid (first_none (new uid) (is_among (heard_in handled) uid) isnt) in
    let unheard : is_heard handled uid ≡ false = sym (heard_as handled uid) ∙ second_none (new uid) (is_among (heard_in handled) uid) isnt in
    still_unknown fine first table hash uid (others mine.1 uid unheard) (fitted hash uid (offers hash uid there) mine.0)

-- nothing done is a part of it
pub nothing_done : (fine : Record → Bool) (heard : List (List ℕ)) (rollouts : List Rolling) (table : Table) → ArePointedInPart fine heard rollouts rollouts table table
nothing_done fine heard [] table = (refl, refl)
nothing_done fine heard (r ∷ rollouts) table = inl (r, refl, inl (0, refl, refl))

-- ---- the cases

abbrev pub placed : {K K' : Type 0} → (K → K') → Place K → Place K'
placed into place = record { standing = place.standing; seen = place.seen; kept = into place.kept }

module _ {K K' : Type 0} (follows : Following K) (other : Following K') (into : K → K') (host : Host) where
  abbrev pub Into : Type 0
  Into = (profile : Profile) (ended : List ℕ) (end : Moment) (kept : K) (last : Moment) (kept' : K) → follows profile ended end kept last kept' → other profile ended end (into kept) last (into kept')

  abbrev pub From : Type 0
  From = (profile : Profile) (ended : List ℕ) (end : Moment) (kept : K) (last : Moment) (kept' : K') → other profile ended end (into kept) last kept'
      → (back : K) × (kept' ≡ into back) × follows profile ended end kept last back

  turn_into : Into → (e : Given) (a b : Place K) (stop : Bool) → TurnBy follows host e a b stop → TurnBy other host e (placed into a) (placed into b) stop
  turn_into to e a b stop p = record {
    given = p.given;
    end = p.end;
    gave = p.gave;
    does = p.does;
    last = p.last;
    behind = to host.profile _ p.end a.kept p.last b.kept p.behind;
    stands = p.stands;
    sees = p.sees;
  }

  pub session_into : Into → (events : List Given) (a b : Place K) (stop : Bool) → SessionBy follows host events a b stop → SessionBy other host events (placed into a) (placed into b) stop
  session_into to [] a b stop p = (ap (placed into) p.0, p.1)
  session_into to (e ∷ events) a b stop p = (placed into p.0, p.1, turn_into to e a p.0 p.1 p.2, by_stop p.1 p.3 (session_into to events p.0 b stop))
    where
      by_stop : (s : Bool) → MatchBool s ((events ≡ []) × (b ≡ p.0) × (stop ≡ true)) (SessionBy follows host events p.0 b stop)
          → (SessionBy follows host events p.0 b stop → SessionBy other host events (placed into p.0) (placed into b) stop)
          → MatchBool s ((events ≡ []) × (placed into b ≡ placed into p.0) × (stop ≡ true)) (SessionBy other host events (placed into p.0) (placed into b) stop)
      by_stop true q more = (q.0, ap (placed into) q.1, q.2)
      by_stop false q more = more q

  turn_from : From → (e : Given) (a : Place K) (b : Place K') (stop : Bool) → TurnBy other host e (placed into a) b stop → (b' : Place K) × (b ≡ placed into b') × TurnBy follows host e a b' stop
  turn_from back e a b stop p =
      let got = back host.profile _ p.end a.kept p.last b.kept p.behind in (
        record { standing = b.standing; seen = b.seen; kept = got.0 },
        ap (λ (k : K'). record { standing = b.standing; seen = b.seen; kept = k }) got.1,
        record { given = p.given; end = p.end; gave = p.gave; does = p.does; last = p.last; behind = got.2; stands = p.stands; sees = p.sees },
      )

  pub session_from : From → (events : List Given) (a : Place K) (b : Place K') (stop : Bool) → SessionBy other host events (placed into a) b stop → (b' : Place K) × (b ≡ placed into b') × SessionBy follows host events a b' stop
  session_from back [] a b stop p = (a, p.0, (refl, p.1))
  session_from back (e ∷ events) a b stop p =
      let turn = turn_from back e a p.0 p.1 p.2 in
      by_stop turn.0 p.1 turn.1 turn.2 p.3 (λ q. session_from back events turn.0 b stop (subst (λ (m : Place K'). SessionBy other host events m b stop) turn.1 q))
    where
      by_stop : (mid : Place K) (s : Bool) → p.0 ≡ placed into mid → TurnBy follows host e a mid s → MatchBool s ((events ≡ []) × (b ≡ p.0) × (stop ≡ true)) (SessionBy other host events p.0 b stop)
          → (SessionBy other host events p.0 b stop → (b' : Place K) × (b ≡ placed into b') × SessionBy follows host events mid b' stop)
          → (b' : Place K) × (b ≡ placed into b') × SessionBy follows host (e ∷ events) a b' stop
      by_stop mid true is turn q more = (mid, q.1 ∙ is, (mid, true, turn, (q.0, refl, q.2)))
      by_stop mid false is turn q more = let rest = more q in (rest.0, rest.1, (mid, false, turn, rest.2))

-- nothing follows, where there are no rollouts
abbrev pub none_in : (Record → Bool) → Unit {0} → Delivered
none_in fine kept = record { fine = fine; routes = None }

delivered_is : (k : Delivered) (fine : Record → Bool) (routes : Option Reach) → k.fine ≡ fine → k.routes ≡ routes → k ≡ record { fine = fine; routes = routes }
delivered_is k fine routes p q = ap (λ f. kept_of f k.routes) p ∙ ap (kept_of fine) q
  where
    kept_of : (Record → Bool) → Option Reach → Delivered
    kept_of f r = record { fine = f; routes = r }

-- where there are no rollouts nothing comes of their points
pointed_none : (fine : Record → Bool) (end : Moment) → end.scene.sheet.desk.rollouts ≡ [] → pointed_behind fine end ≡ points fine (heard_in end.scene.sheet.handled) [] end.scene.sheet.desk.table
pointed_none fine end none = ap (λ (rs : List Rolling). points fine (heard_in end.scene.sheet.handled) rs end.scene.sheet.desk.table) none

fleet_same : (fine : Record → Bool) (end : Moment) → end.scene.sheet.desk.rollouts ≡ [] → with_fleet end (pointed_behind fine end).table (pointed_behind fine end).rollouts ≡ end
fleet_same fine end none =
    ap (λ (p : AfterPoints). with_fleet end p.table p.rollouts) (pointed_none fine end none) ∙ ap (λ (rs : List Rolling). with_fleet end end.scene.sheet.desk.table rs) (sym none)

none_into : (fine : Record → Bool) (host : Host) → Into (NoRollouts Nothing) (NoRollouts Delivers) (none_in fine) host
none_into fine host profile ended end kept last kept' p = (p.0, ((p.1 ∙ sym (fleet_same fine end p.0), refl), refl))

none_from : (fine : Record → Bool) (host : Host) → From (NoRollouts Nothing) (NoRollouts Delivers) (none_in fine) host
none_from fine host profile ended end kept last kept' p = (tt, delivered_is kept' fine None p.1.1 p.1.0.1, (p.0, p.1.0.0 ∙ fleet_same fine end p.0))

-- pushes alone
abbrev pub routes_in : (Record → Bool) → Reach → Delivered
routes_in fine routes = record { fine = fine; routes = Some routes }

newly_none : (fine : Record → Bool) (end : Moment) → end.scene.sheet.desk.rollouts ≡ [] → pushed_to end.scene.sheet.ordered (pointed_behind fine end).newly ≡ end.scene.sheet.ordered
newly_none fine end none = ap (λ (p : AfterPoints). pushed_to end.scene.sheet.ordered p.newly) (pointed_none fine end none) ∙ append-nil end.scene.sheet.ordered

pushes_as : (fine : Record → Bool) (end : Moment) → end.scene.sheet.desk.rollouts ≡ [] → (profile : Profile) (ended : List ℕ) (routes : Reach) (last : Moment) (routes' : Reach)
    → PushesOver (pushed_to end.scene.sheet.ordered (pointed_behind fine end).newly) profile ended (with_fleet end (pointed_behind fine end).table (pointed_behind fine end).rollouts) routes last routes'
    ≡ PushesOver end.scene.sheet.ordered profile ended end routes last routes'
pushes_as fine end none profile ended routes last routes' =
    ap (λ (us : List (List ℕ)). PushesOver us profile ended (with_fleet end (pointed_behind fine end).table (pointed_behind fine end).rollouts) routes last routes') (newly_none fine end none)
    ∙ ap (λ (m : Moment). PushesOver end.scene.sheet.ordered profile ended m routes last routes') (fleet_same fine end none)

along : {A B : Type 0} → A ≡ B → A → B
along is a = subst (λ (X : Type 0). X) is a

routes_into : (fine : Record → Bool) (host : Host) → Into (NoRollouts Pushes) (NoRollouts Delivers) (routes_in fine) host
routes_into fine host profile ended end kept last kept' p = (p.0, ((kept', refl, along (sym (pushes_as fine end p.0 profile ended kept last kept')) p.1), refl))

routes_from : (fine : Record → Bool) (host : Host) → From (NoRollouts Pushes) (NoRollouts Delivers) (routes_in fine) host
routes_from fine host profile ended end kept last kept' p =
    (p.1.0.0, delivered_is kept' fine (Some p.1.0.0) p.1.1 p.1.0.1, (p.0, along (pushes_as fine end p.0 profile ended kept last p.1.0.0) p.1.0.2))

module _ (fine : Record → Bool) (host : Host) (events : List Given) (stop : Bool) where
  pub none_case : (a b : Place Unit) → SessionBy (NoRollouts Nothing) host events a b stop → SessionBy (NoRollouts Delivers) host events (with_none fine a) (with_none fine b) stop
  none_case a b p = session_into (NoRollouts Nothing) (NoRollouts Delivers) (none_in fine) host (none_into fine host) events a b stop p

  pub none_only : (a : Place Unit) (b : Place Delivered) → SessionBy (NoRollouts Delivers) host events (with_none fine a) b stop → (last : Place Unit) × (b ≡ with_none fine last) × SessionBy (NoRollouts Nothing) host events a last stop
  none_only a b p = session_from (NoRollouts Nothing) (NoRollouts Delivers) (none_in fine) host (none_from fine host) events a b stop p

  pub pushes_case : (a b : Place Reach) → SessionBy (NoRollouts Pushes) host events a b stop → SessionBy (NoRollouts Delivers) host events (with_pushes fine a) (with_pushes fine b) stop
  pushes_case a b p = session_into (NoRollouts Pushes) (NoRollouts Delivers) (routes_in fine) host (routes_into fine host) events a b stop p

  pub pushes_only : (a : Place Reach) (b : Place Delivered) → SessionBy (NoRollouts Delivers) host events (with_pushes fine a) b stop → (last : Place Reach) × (b ≡ with_pushes fine last) × SessionBy (NoRollouts Pushes) host events a last stop
  pushes_only a b p = session_from (NoRollouts Pushes) (NoRollouts Delivers) (routes_in fine) host (routes_from fine host) events a b stop p

-- ---- one rollout alone

pub each_keeps : (fine : Record → Bool) (heard : List (List ℕ)) → ((table : Table) (r : Rolling) → KeepsWidth fine heard table r) → (rollouts : List Rolling) (table : Table) → EachKeepsWidth fine heard rollouts table
each_keeps fine heard one [] table = tt
each_keeps fine heard one (r ∷ rollouts) table = (one table r, each_keeps fine heard one rollouts (rolled_table fine heard table r))

module _ (fine : Record → Bool) (profile : Profile) (ended : List ℕ) (end last : Moment) (kept : Delivered) (rolling : Rolling) (alone : end.scene.sheet.desk.rollouts ≡ rolling ∷ [])
    (delivers : Delivers profile ended end (record { fine = fine; routes = None }) last kept) where
  pointed_alone : pointed_behind fine end ≡ points fine (heard_in end.scene.sheet.handled) (rolling ∷ []) end.scene.sheet.desk.table
  pointed_alone = ap (λ (rs : List Rolling). points fine (heard_in end.scene.sheet.handled) rs end.scene.sheet.desk.table) alone

  last_is : last ≡ with_fleet end (rolled_table fine (heard_in end.scene.sheet.handled) end.scene.sheet.desk.table rolling) (rolled fine (heard_in end.scene.sheet.handled) end.scene.sheet.desk.table rolling ∷ [])
  last_is = delivers.0.0 ∙ ap (λ (p : AfterPoints). with_fleet end p.table p.rollouts) pointed_alone

  pub alone_point : IsPoint fine (with_heard end.scene.sheet.desk.table.records (heard_in end.scene.sheet.handled) rolling).terms
      (with_heard end.scene.sheet.desk.table.records (heard_in end.scene.sheet.handled) rolling).waves
      (rolled fine (heard_in end.scene.sheet.handled) end.scene.sheet.desk.table rolling).waves end.scene.sheet.desk.table last.scene.sheet.desk.table
  alone_point = record { waves = refl; table = ap (λ (m : Moment). m.scene.sheet.desk.table) last_is }

  pub alone_rest : last ≡ with_fleet end last.scene.sheet.desk.table (rolled fine (heard_in end.scene.sheet.handled) end.scene.sheet.desk.table rolling ∷ [])
  alone_rest =
      last_is ∙ ap (λ (t : Table). with_fleet end t (rolled fine (heard_in end.scene.sheet.handled) end.scene.sheet.desk.table rolling ∷ [])) (sym (ap (λ (m : Moment). m.scene.sheet.desk.table) last_is))

-- ---- the width, in every session

module _ (host : Host)
    (begun : (records : List Record) (id : List ℕ) (sought : Option Finder) (terms : Terms) (rollouts : List Rolling) → AreWithin rollouts → AreWithin (with_rolling records id sought terms rollouts))
    (halted : (id : List ℕ) (rollouts : List Rolling) → AreWithin rollouts → AreWithin (changed with_halt id rollouts))
    (resuming : (id : List ℕ) (rollouts : List Rolling) → AreWithin rollouts → AreWithin (changed resumed id rollouts))
    (ended : (id : List ℕ) (rollouts : List Rolling) → AreWithin rollouts → AreWithin (finished id rollouts))
    (left : (uid : List ℕ) (rollouts : List Rolling) → AreWithin rollouts → AreWithin (all_without uid rollouts))
    (pointed : (fine : Record → Bool) (heard : List (List ℕ)) (rollouts : List Rolling) (table : Table) → AreWithin rollouts → AreWithin (points fine heard rollouts table).rollouts) where
  turn_within : (e : Given) (a b : Place Delivered) (stop : Bool) → TurnBy Delivers host e a b stop → AreWithin a.standing.desk.rollouts → AreWithin b.standing.desk.rollouts
  turn_within e a b stop p within =
      let does : AreWithin p.end.scene.sheet.desk.rollouts = event_keeps begun halted resuming ended left host (seen_at e.at a.seen) e.event _ p.end stop p.does within in
      let after : AreWithin (pointed_behind a.kept.fine p.end).rollouts = pointed a.kept.fine (heard_in p.end.scene.sheet.handled) p.end.scene.sheet.desk.rollouts p.end.scene.sheet.desk.table does in
      let same : p.last.scene.sheet.desk.rollouts ≡ (pointed_behind a.kept.fine p.end).rollouts =
      ap (λ (s : Sheet). s.desk.rollouts) (pushes_leave (pointed_behind a.kept.fine p.end).newly host.profile (ended_at (conn_of e.event) a.standing.streams p.end.streams) (with_fleet p.end (pointed_behind a.kept.fine p.end).table (pointed_behind a.kept.fine p.end).rollouts) a.kept.routes p.last b.kept.routes p.behind.0) in
      subst (λ (rs : List Rolling). AreWithin rs) (sym (ap (λ (s : Standing). s.desk.rollouts) p.stands ∙ same)) after

  pub session_within : (events : List Given) (a b : Place Delivered) (stop : Bool) → SessionBy Delivers host events a b stop → AreWithin a.standing.desk.rollouts → AreWithin b.standing.desk.rollouts
  session_within [] a b stop p within = subst (λ (place : Place Delivered). AreWithin place.standing.desk.rollouts) (sym p.0) within
  session_within (e ∷ events) a b stop p within = by_stop p.1 p.3 (session_within events p.0 b stop) (turn_within e a p.0 p.1 p.2 within)
    where
      by_stop : (s : Bool) → MatchBool s ((events ≡ []) × (b ≡ p.0) × (stop ≡ true)) (SessionBy Delivers host events p.0 b stop)
          → (SessionBy Delivers host events p.0 b stop → AreWithin p.0.standing.desk.rollouts → AreWithin b.standing.desk.rollouts) → AreWithin p.0.standing.desk.rollouts → AreWithin b.standing.desk.rollouts
      by_stop true q more mid = subst (λ (place : Place Delivered). AreWithin place.standing.desk.rollouts) (sym q.1) mid
      by_stop false q more mid = more q mid
