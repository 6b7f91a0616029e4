-- That the rollouts keep their widths also where memory was wanting: what was done for an event keeps them, and each part of what follows it.
use Rattle.std.proofs.Common.{◌≡◌, ℕ, ◌+◌, ◌≤◌, List, [], ◌∷◌, ◌++◌, length, take, Bool, true, false, not, cond, ◌&&◌, ◌||◌, Option, None, Some, inl, inr, refl, sym, ap, ◌∙◌, subst, arith, length-append, length-take}
use Rattle.edge_devices.specs.declared.wires.Given.{Given}
use Rattle.edge_devices.specs.declared.wires.WireCall.TheVariants.{Gave}
use Rattle.server_core.specs.declared.replies.Profile.{Profile}
use Rattle.server_core.specs.declared.rows.Record.{Record}
use Rattle.server_core.specs.Table.{Table, find_record}
use Rattle.server_waves.specs.Courses.{unsettled}
use Rattle.server_waves.specs.Points.{ArePointedInPart, AreWithin, RollsInPart, most, points, rolled, rolled_table, with_found, with_heard}
use Rattle.server_waves.specs.Register.{Rolling, is_found, with_agent}
use Rattle.server_waves.specs.Waves.{Terms, Waves, can_join, has_failed, hash_of, is_decided, joined, others, passes, tells, those, waves_at}
use Rattle.server_waves.specs.declared.verdicts.TheConstants.{APPLIED}
use Rattle.server_sessions.specs.Answers.{Sheet}
use Rattle.server_sessions.specs.Reports.{Desk, Host}
use Rattle.server_lines.specs.Sights.{Seen, nothing_seen}
use Rattle.server_sessions.specs.Session.{Does, Moment, Standing, moment_of, seen_at, seen_then, standing_of}
use Rattle.server_sessions.specs.Wiring.{IsDone, WireView}
use Rattle.server_sessions.specs.Connections.{conn_of, ended_at}
use Rattle.server_sessions.specs.Runs.{HalfDoes, IsWanting}
use Rattle.server_sessions.specs.Sessions.{Place, SessionBy, Site, TurnBy, WantsAfterBy, WantsBy, place_of}
use Rattle.server_deliveries.specs.Routes.{Reach}
use Rattle.server_deliveries.specs.Deliveries.{Delivered, Delivers, DeliversInPart, PushesInPartWhere, SessionsKeepWidth, heard_in, pointed_behind, with_fleet}

-- what a law of `server_waves` says of points
abbrev pub PointsKeepWidth : Type 0
PointsKeepWidth = (fine : Record → Bool) (heard : List (List ℕ)) (rollouts : List Rolling) (table : Table) → AreWithin rollouts → AreWithin (points fine heard rollouts table).rollouts

abbrev Within : Rolling → Type 0
Within r = unsettled r.waves ≤ r.terms.width

-- ---- who joins is neither offered to nor failed

abbrev IsSame : Rolling → Rolling → Type 0
IsSame old new = (unsettled new.waves ≡ unsettled old.waves) × (new.terms ≡ old.terms)

same_joined : (agent : Record) (w : Waves) → unsettled (joined agent w) ≡ unsettled w
same_joined agent w = by_test (can_join w agent)
  where
    by_test : (b : Bool) → unsettled (cond b (record w { members = w.members ++ agent.uid ∷ []; waiting = w.waiting ++ agent.uid ∷ [] }) w) ≡ unsettled w
    by_test true = refl
    by_test false = refl

same_agent : (agent : Record) (r : Rolling) → IsSame r (with_agent agent r)
same_agent agent r = by_test (is_found r.finds agent)
  where
    by_test : (b : Bool) → IsSame r (cond b (record r { waves = joined agent r.waves }) r)
    by_test true = (same_joined agent r.waves, refl)
    by_test false = (refl, refl)

same_found : (found : Option Record) (r : Rolling) → IsSame r (with_found found r)
same_found None r = (refl, refl)
same_found (Some agent) r = same_agent agent r

same_heard : (records : List Record) (heard : List (List ℕ)) (r : Rolling) → IsSame r (with_heard records heard r)
same_heard records [] r = (refl, refl)
same_heard records (uid ∷ heard) r =
    let first = same_found (find_record records uid) r in
    let rest = same_heard records heard (with_found (find_record records uid) r) in
    (rest.0 ∙ first.0, rest.1 ∙ first.1)

within_same : (old new : Rolling) → IsSame old new → Within old → Within new
within_same old new same within =
    let width : new.terms.width ≡ old.terms.width = ap (λ (t : Terms). t.width) same.1 in
    omega (arith, same.0, width, within)

-- ---- a point in part

fewer_taken : (m n : ℕ) (uids : List (List ℕ)) → m ≤ n → length (take m uids) ≤ length (take n uids)
fewer_taken m n uids few = omega (arith, few, length-take m uids, length-take n uids)

fewer_made : (fine : Record → Bool) (terms : Terms) (table : Table) (w : Waves) (m n : ℕ) → m ≤ n → unsettled (waves_at fine terms table w m) ≤ unsettled (waves_at fine terms table w n)
fewer_made fine terms table w m n few =
    let offered = others (is_decided fine (hash_of terms)) table.records w.offered in
    let fewer = fewer_taken m n w.waiting few in
    let one = length-append offered (take m w.waiting) in
    let other = length-append offered (take n w.waiting) in
    omega (arith, fewer, one, other)

module _ (law : PointsKeepWidth) (fine : Record → Bool) (heard : List (List ℕ)) where
  rolled_within : (r : Rolling) (table : Table) → Within r → Within (rolled fine heard table r)
  rolled_within r table within = (law fine heard (r ∷ []) table (within, tt)).0

  rolls_within : (r next : Rolling) (before after : Table) → RollsInPart fine heard r next before after → Within r → Within next
  rolls_within r next before after (inl p) within =
      subst (λ (x : Rolling). Within x) (sym p.1) (within_same r (with_heard before.records (take p.0 heard) r) (same_heard before.records (take p.0 heard) r) within)
  rolls_within r next before after (inr p) within =
      let ready = with_heard before.records heard r in
      let whole = rolled_within r before within in
      let fewer = fewer_made fine ready.terms before ready.waves p.0 (most fine before ready) p.1 in
      subst (λ (x : Rolling). Within x) (sym p.2) (omega (arith, whole, fewer))

  parts_within : (rollouts new : List Rolling) (before after : Table) → ArePointedInPart fine heard rollouts new before after → AreWithin rollouts → AreWithin new
  parts_within [] new before after p within = subst (λ (rs : List Rolling). AreWithin rs) (sym p.0) tt
  parts_within (r ∷ rollouts) new before after (inl p) within = subst (λ (rs : List Rolling). AreWithin rs) (sym p.1) (rolls_within r p.0 before after p.2 within.0, within.1)
  parts_within (r ∷ rollouts) new before after (inr p) within =
      subst (λ (rs : List Rolling). AreWithin rs) (sym p.1) (rolled_within r before within.0, parts_within rollouts p.0 (rolled_table fine heard before r) after p.2 within.1)

-- pushes leave the sheet
pushes_part : (newly : List (List ℕ)) (profile : Profile) (ended : List ℕ) (end : Moment) (old : Option Reach) (last : Moment) (new : Option Reach) → PushesInPartWhere newly profile ended end old last new
    → last.scene.sheet ≡ end.scene.sheet
pushes_part newly profile ended end None last new p = absurd p
pushes_part newly profile ended end (Some routes) last new p = p.2.1

follows_within : PointsKeepWidth → (profile : Profile) (ended : List ℕ) (end : Moment) (kept : Delivered) (last : Moment) (kept' : Delivered) → DeliversInPart profile ended end kept last kept'
    → AreWithin end.scene.sheet.desk.rollouts → AreWithin last.scene.sheet.desk.rollouts
follows_within law profile ended end kept last kept' (inl q, same) within =
    parts_within law kept.fine (heard_in end.scene.sheet.handled) end.scene.sheet.desk.rollouts last.scene.sheet.desk.rollouts end.scene.sheet.desk.table last.scene.sheet.desk.table q.0 within
follows_within law profile ended end kept last kept' (inr q, same) within =
    let after = pointed_behind kept.fine end in
    let here = pushes_part after.newly profile ended (with_fleet end after.table after.rollouts) kept.routes last kept'.routes q in
    subst (λ (rs : List Rolling). AreWithin rs) (sym (ap (λ (s : Sheet). s.desk.rollouts) here))
    (law kept.fine (heard_in end.scene.sheet.handled) end.scene.sheet.desk.rollouts end.scene.sheet.desk.table within)

-- ---- What was done for an event: behind it a point by a judge that finds nobody fine could come, which leaves no fewer that are offered to or failed.

either_way : (b c : Bool) → (b && false) || c ≡ c
either_way true c = refl
either_way false c = refl

same_known : (hash : List ℕ) (found : Option Record) → passes (is_decided (λ agent. false) hash) found ≡ passes (has_failed (λ agent. false) hash) found
same_known hash None = refl
same_known hash (Some agent) = either_way (tells APPLIED hash agent) (has_failed (λ agent. false) hash agent)

parted : (hash : List ℕ) (records : List Record) (uids : List (List ℕ))
    → length (others (is_decided (λ agent. false) hash) records uids) + length (those (has_failed (λ agent. false) hash) records uids) ≡ length uids
parted hash records [] = refl
parted hash records (uid ∷ uids) =
    by_test (passes (is_decided (λ agent. false) hash) (find_record records uid)) (passes (has_failed (λ agent. false) hash) (find_record records uid)) (same_known hash (find_record records uid)) (parted hash records uids)
  where
    by_test : (d f : Bool) → d ≡ f
        → length (others (is_decided (λ agent. false) hash) records uids) + length (those (has_failed (λ agent. false) hash) records uids) ≡ length uids
        → length (cond (not d) (uid ∷ others (is_decided (λ agent. false) hash) records uids) (others (is_decided (λ agent. false) hash) records uids))
        + length (cond f (uid ∷ those (has_failed (λ agent. false) hash) records uids) (those (has_failed (λ agent. false) hash) records uids))
        ≡ length (uid ∷ uids)
    by_test true true is rest = omega (arith, rest)
    by_test false false is rest = omega (arith, rest)
    by_test true false is rest = absurd (cc is)
    by_test false true is rest = absurd (cc is)

no_fewer : (terms : Terms) (table : Table) (w : Waves) (n : ℕ) → unsettled w ≤ unsettled (waves_at (λ agent. false) terms table w n)
no_fewer terms table w n =
    let offered = others (is_decided (λ agent. false) (hash_of terms)) table.records w.offered in
    let failed = those (has_failed (λ agent. false) (hash_of terms)) table.records w.offered in
    let one = length-append offered (take n w.waiting) in
    let other = length-append w.failed failed in
    let all = parted (hash_of terms) table.records w.offered in
    omega (arith, one, other, all)

within_before : (heard : List (List ℕ)) (rollouts : List Rolling) (table : Table) → AreWithin (points (λ agent. false) heard rollouts table).rollouts → AreWithin rollouts
within_before heard [] table within = tt
within_before heard (r ∷ rollouts) table within =
    let ready = with_heard table.records heard r in
    let same = same_heard table.records heard r in
    let width : ready.terms.width ≡ r.terms.width = ap (λ (t : Terms). t.width) same.1 in
    let more = no_fewer ready.terms table ready.waves (most (λ agent. false) table ready) in
    (omega (arith, same.0, width, more, within.0), within_before heard rollouts (rolled_table (λ agent. false) heard table r) within.1)

abbrev severe : Delivered
severe = record { fine = λ agent. false; routes = None }

abbrev place_behind : Seen → Moment → Place Delivered
place_behind seen end = record { standing = standing_of (with_fleet end (pointed_behind (λ agent. false) end).table (pointed_behind (λ agent. false) end).rollouts); seen = seen; kept = severe }

one_turn : (host : Host) (e : Given) (old new : Place Delivered) (stop : Bool) → TurnBy Delivers host e old new stop → SessionBy Delivers host (e ∷ []) old new stop
one_turn host e old new true turn = (new, true, turn, (refl, refl, refl))
one_turn host e old new false turn = (new, false, turn, (refl, refl))

module _ (host : Host) (keeps : SessionsKeepWidth host) where
  event_within : (e : Given) (seen : Seen) (s : Standing) (given : WireView) (end : Moment) (stop : Bool) → IsDone (Gave e.at e.event) s.wire given → Does host (seen_at e.at seen) e.event (moment_of (record s { wire = given })) end stop
      → AreWithin s.desk.rollouts → AreWithin end.scene.sheet.desk.rollouts
  event_within e seen s given end stop gave does within =
      let after = pointed_behind (λ agent. false) end in
      let first : Place Delivered = record { standing = s; seen = seen; kept = severe } in
      let later : Place Delivered = place_behind (seen_then e.at end seen) end in
      let turn : TurnBy Delivers host e first later stop =
      record { given = given; end = end; gave = gave; does = does; last = with_fleet end after.table after.rollouts; behind = ((refl, refl), refl); stands = refl; sees = refl } in
      within_before (heard_in end.scene.sheet.handled) end.scene.sheet.desk.rollouts end.scene.sheet.desk.table
      (keeps (e ∷ []) first later stop (one_turn host e first later stop turn) within)

  half_within : (e : Given) (seen : Seen) (s : Standing) (given wire : WireView) (desk : Desk) → IsDone (Gave e.at e.event) s.wire given → HalfDoes host (seen_at e.at seen) e.event (record s { wire = given }) wire desk → AreWithin s.desk.rollouts → AreWithin desk.rollouts
  half_within e seen s given wire desk gave (inl same) within = subst (λ (d : Desk). AreWithin d.rollouts) (sym same.1) within
  half_within e seen s given wire desk gave (inr did) within = subst (λ (d : Desk). AreWithin d.rollouts) (sym did.4) (event_within e seen s given did.0 did.1 gave did.2 within)

  wanting_within : (seen : Seen) (s : Standing) (wire : WireView) (desk : Desk) → IsWanting host seen s wire desk → AreWithin s.desk.rollouts → AreWithin desk.rollouts
  wanting_within seen s wire desk (inl p) within = subst (λ (d : Desk). AreWithin d.rollouts) (sym p.1) within
  wanting_within seen s wire desk (inr p) within = half_within p.0 seen s p.1 wire desk p.2 p.3 within

  module _ (law : PointsKeepWidth) where
    wants_within : (old : Place Delivered) (new : Site Delivered) → WantsBy DeliversInPart host old new → AreWithin old.standing.desk.rollouts → AreWithin new.desk.rollouts
    wants_within old new (inl p) within = wanting_within old.seen old.standing new.wire new.desk p.0 within
    wants_within old new (inr p) within =
        let there = event_within p.next old.seen old.standing p.given p.end p.stop p.gave p.does within in
        subst (λ (d : Desk). AreWithin d.rollouts) (sym p.desk_is) (follows_within law host.profile (ended_at (conn_of p.next.event) old.standing.streams p.end.streams) p.end old.kept p.last new.kept p.behind there)

    pub left_within : (n : ℕ) (old new : Site Delivered) → WantsAfterBy Delivers DeliversInPart host n old new → AreWithin old.desk.rollouts → AreWithin new.desk.rollouts
    left_within n old new p within =
        wants_within (place_of p.served.seen p.served.streams p.mid) new p.wanting
        (keeps p.served.events (place_of nothing_seen [] old) (place_of p.served.seen p.served.streams p.mid) false p.served.session within)
