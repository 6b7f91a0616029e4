-- What follows an event: the rollouts come to their points, and offers are pushed, where they are.
use Rattle.std.specs.Prelude.{◌≡◌, ◌⊎◌, ℕ, List, [], ◌∷◌, ◌++◌, map, length, ◌≤◌, ◌<◌, true, Bool, if◌then◌else◌, Option, None, Some}
use Rattle.std.specs.Option.{option_map}
use Rattle.edge_devices.specs.declared.wires.Given.{Given}
use Rattle.server_core.specs.declared.offers.Offer.TheVariants.{Config as ConfigOffer}
use Rattle.server_core.specs.declared.rows.Record.{Record}
use Rattle.server_core.specs.History.{Event, Offered}
use Rattle.server_core.specs.Table.{Table}
use Rattle.server_waves.specs.Points.{AfterPoints, AreCurrentBut, ArePointedInPart, AreWithin, points, rolled, rolled_newly, rolled_table}
use Rattle.server_waves.specs.Candidates.{is_candidate}
use Rattle.server_waves.specs.Register.{Rolling}
use Rattle.server_sessions.specs.declared.answers.stepped.Handled.{Handled}
use Rattle.server_sessions.specs.declared.answers.stepped.Stepped.{Stepped}
use Rattle.server_sessions.specs.Reports.{Host, desk_of}
use Rattle.server_sessions.specs.Session.{Moment, scene_of}
use Rattle.server_sessions.specs.Connections.{Known}
use Rattle.server_sessions.specs.Sessions.{Following, Offering, Place, SessionBy}
use Rattle.server_deliveries.specs.Pushing.{PushesOver, PushesOverInPart, pushed_to}
use Rattle.server_deliveries.specs.Routes.{Reach, no_routes}
use Rattle.server_deliveries.specs.Turns.{AreKnown, WereKnown}
use Rattle.server_deliveries.specs.Views.{Entries, reach_of}
use Rattle.server_deliveries.specs.declared.deliveries.Delivery.{Delivery}

-- what is kept for it: whom the judge finds fine, which stays, and which connections reach which agents, if offers are pushed
pub record Delivered : Type 0 where
  pub fine : Record → Bool
  pub routes : Option Reach

-- the agents of these reports
abbrev pub heard_in : List Handled → List (List ℕ)
heard_in handled = map (λ h. h.uid) handled

-- where the points behind an event lead
abbrev pub pointed_behind : (Record → Bool) → Moment → AfterPoints
pointed_behind fine end = points fine (heard_in end.scene.sheet.handled) end.scene.sheet.desk.rollouts end.scene.sheet.desk.table

-- the table and the rollouts were changed, and nothing else
abbrev pub with_fleet : Moment → Table → List Rolling → Moment
with_fleet end table rollouts = record {
  streams = end.streams;
  scene = scene_of end.scene.wire (record {
    desk = desk_of end.scene.sheet.desk.entropy table rollouts;
    handled = end.scene.sheet.handled;
    ordered = end.scene.sheet.ordered;
    entries = end.scene.sheet.entries;
  });
}

-- The pushes go out, if there are any: to the agents of the event's orders, and then to those newly offered that aren't among them.
abbrev pub PushesWhere : List (List ℕ) → Following (Option Reach)
PushesWhere newly profile ended end None last new = (last ≡ end) × (new ≡ None)
PushesWhere newly profile ended end (Some routes) last new =
    (routes' : Reach) × (new ≡ Some routes') × PushesOver (pushed_to end.scene.sheet.ordered newly) profile ended end routes last routes'

-- To some first ones of them they went out, and nothing is said of the routes.
abbrev pub PushesInPartWhere : List (List ℕ) → Following (Option Reach)
PushesInPartWhere newly profile ended end None last new = ⊥
PushesInPartWhere newly profile ended end (Some routes) last new = PushesOverInPart (pushed_to end.scene.sheet.ordered newly) profile ended end routes last routes

-- What follows an event: each rollout, in the order of begin, has the agents of its reports join and comes to its point, which changes the table and
-- the rollouts alone; and then the pushes go out.
abbrev pub Delivers : Following Delivered
Delivers profile ended end kept last kept' =
    let after = pointed_behind kept.fine end in
    PushesWhere after.newly profile ended (with_fleet end after.table after.rollouts) kept.routes last kept'.routes × (kept'.fine ≡ kept.fine)

-- Some first part of it was done: of the points; or all of them, and of the pushes some first ones.
abbrev pub DeliversInPart : Following Delivered
DeliversInPart profile ended end kept last kept' =
    let after = pointed_behind kept.fine end in
    ((ArePointedInPart kept.fine (heard_in end.scene.sheet.handled) end.scene.sheet.desk.rollouts last.scene.sheet.desk.rollouts end.scene.sheet.desk.table last.scene.sheet.desk.table
    × (last ≡ with_fleet end last.scene.sheet.desk.table last.scene.sheet.desk.rollouts))
    ⊎ PushesInPartWhere after.newly profile ended (with_fleet end after.table after.rollouts) kept.routes last kept'.routes)
    × (kept'.fine ≡ kept.fine)

-- the offers of a rollout's point
abbrev pub offers_to : Rolling → List (List ℕ) → List Event
offers_to rolling uids = map (λ uid. Offered uid (ConfigOffer rolling.terms.files)) uids

-- the offers of the points of these rollouts, in order
abbrev pub points_offers : (Record → Bool) → List (List ℕ) → List Rolling → Table → List Event
points_offers fine heard [] table = []
points_offers fine heard (r ∷ rollouts) table =
    offers_to r (rolled_newly fine heard table r) ++ points_offers fine heard rollouts (rolled_table fine heard table r)

-- Pushes make no offers.
abbrev pub delivered_offers : Offering Delivered
delivered_offers end kept = points_offers kept.fine (heard_in end.scene.sheet.handled) end.scene.sheet.desk.rollouts end.scene.sheet.desk.table

-- ---- what contracts see

abbrev pub delivered_of : {J : Type 0} → (J → Record → Bool) → Delivery J → Delivered
delivered_of finds delivery = record { fine = finds delivery.judge; routes = option_map reach_of delivery.routes }

-- no connection reaches an agent
abbrev pub anew : Delivered → Delivered
anew kept = record { fine = kept.fine; routes = option_map (λ routes. no_routes) kept.routes }

-- no connection reaches an agent yet, where offers are pushed
abbrev pub pushing : Bool → Option Reach
pushing push = if push then Some no_routes else None

-- ---- what it keeps to

abbrev pub IsCurrent : {J : Type 0} → (J → Record → Bool) → Delivery J → Table → List Rolling → Type 0
IsCurrent finds delivery table rollouts = AreCurrentBut (is_candidate delivery.candidates) (finds delivery.judge) table.records rollouts

abbrev pub AreKnownWhere : Known → Option Entries → Type 0
AreKnownWhere known None = Unit {0}
AreKnownWhere known (Some routes) = AreKnown known (reach_of routes)

abbrev pub WereKnownWhere : Known → Stepped → Option Entries → Type 0
WereKnownWhere known stepped None = Unit {0}
WereKnownWhere known stepped (Some routes) = WereKnown known stepped (reach_of routes)

-- A rollout behind its point: at most so many agents as its width have its offer and neither applied it nor failed, or more than that had it before, and then it was newly made to none; and to none was it
-- newly made where the rollout was halted.
abbrev pub KeepsWidth : (Record → Bool) → List (List ℕ) → Table → Rolling → Type 0
KeepsWidth fine heard table r =
    ((length (rolled fine heard table r).waves.offered ≤ r.terms.width) ⊎ ((r.terms.width < length r.waves.offered) × (rolled_newly fine heard table r ≡ [])))
    × (r.waves.halted ≡ true → ((rolled fine heard table r).waves.halted ≡ true) × (rolled_newly fine heard table r ≡ []))

abbrev pub EachKeepsWidth : (Record → Bool) → List (List ℕ) → List Rolling → Table → Type 0
EachKeepsWidth fine heard [] table = Unit {0}
EachKeepsWidth fine heard (r ∷ rollouts) table = KeepsWidth fine heard table r × EachKeepsWidth fine heard rollouts (rolled_table fine heard table r)

-- In every session of such a host at most so many agents as a rollout's width have its offer and haven't applied it, but for those that are excused: so it is of each rollout that is begun
-- in it, and of each of which it was so before.
abbrev pub SessionsKeepWidth : Host → Type 0
SessionsKeepWidth host = (events : List Given) (old new : Place Delivered) (stop : Bool) → SessionBy Delivers host events old new stop
    → AreWithin old.standing.desk.rollouts → AreWithin new.standing.desk.rollouts

-- ---- the cases

-- Behind each event there are no rollouts.
abbrev pub NoRollouts : {K : Type 0} → Following K → Following K
NoRollouts follows profile ended end kept last kept' = (end.scene.sheet.desk.rollouts ≡ []) × follows profile ended end kept last kept'

abbrev pub with_none : (Record → Bool) → Place Unit → Place Delivered
with_none fine place = record { standing = place.standing; seen = place.seen; kept = record { fine = fine; routes = None } }

abbrev pub with_pushes : (Record → Bool) → Place Reach → Place Delivered
with_pushes fine place = record { standing = place.standing; seen = place.seen; kept = record { fine = fine; routes = Some place.kept } }
