use Rattle.std.proofs.Common.{◌≡◌, ℕ, List, true, Result, Err, Ok, subst}
use Rattle.std.specs.Prelude.{OnErr, OnOk}
use Rattle.std.specs.Result.{IsErr}
use Rattle.plain_values.specs.declared.memory.NoMemory.{NoMemory}
use Rattle.edge_devices.specs.Clocks.{EntropyState}
use Rattle.server_core.specs.declared.replies.Profile.{Profile}
use Rattle.server_core.specs.Table.{Table}
use Rattle.server_waves.specs.Register.{Rolling}
use Rattle.server_sessions.specs.Reports.{desk_of}
use Rattle.server_sessions.specs.Wiring.{WireView, view_of}
use Rattle.server_sessions.specs.Connections.{Known}
use Rattle.server_deliveries.specs.Lists.{has_conn}
use Rattle.server_deliveries.specs.Pushing.{PushesToAll}
use Rattle.server_deliveries.specs.Routes.{Reach, routes_ended, routes_noted}
use Rattle.server_deliveries.specs.Turns.{Leads, Post, PushesFirst, post_of}
use Rattle.server_deliveries.specs.Views.{reach_of}
use Rattle.server_deliveries.proofs.PushLemmas.{leads_none}
use Rattle.server_deliveries.proofs.TurnLemmas.{followed}
use Rattle.server_deliveries.proofs.pushing.push_due.Goals as goal

-- the same agents are pushed to, by the same routes
module _ (r : Result Unit NoMemory) (profile : Profile) (uids uids' : List (List ℕ)) (table : Table) (known : Known) (routes routes' : Reach) (wire : WireView) (same : uids ≡ uids') (is : routes ≡ routes') where
  sent : (new : Post) → OnOk r ((entropy : EntropyState) (rollouts : List Rolling) → Leads (PushesToAll profile uids) (desk_of entropy table rollouts) (post_of known routes wire) new)
      → OnOk r ((entropy : EntropyState) (rollouts : List Rolling) → Leads (PushesToAll profile uids') (desk_of entropy table rollouts) (post_of known routes' wire) new)
  sent new all =
      subst (λ (us : List (List ℕ)). OnOk r ((entropy : EntropyState) (rollouts : List Rolling) → Leads (PushesToAll profile us) (desk_of entropy table rollouts) (post_of known routes' wire) new)) same
      (subst (λ (way : Reach). OnOk r ((entropy : EntropyState) (rollouts : List Rolling) → Leads (PushesToAll profile uids) (desk_of entropy table rollouts) (post_of known way wire) new)) is all)

  some_sent : (known' : Known) (reach : Reach) (wire' : WireView) → OnErr r (PushesFirst profile uids table (post_of known routes wire) (post_of known' reach wire'))
      → OnErr r (PushesFirst profile uids' table (post_of known routes' wire) (post_of known' reach wire'))
  some_sent known' reach wire' some =
      subst (λ (us : List (List ℕ)). OnErr r (PushesFirst profile us table (post_of known routes' wire) (post_of known' reach wire'))) same
      (subst (λ (way : Reach). OnErr r (PushesFirst profile uids table (post_of known way wire) (post_of known' reach wire'))) is some)

by_some : (P : Reach → Type 0) (r : Result Unit NoMemory) (reach : Reach) → OnErr r (P reach) → OnErr r ((way : Reach) × P way)
by_some P (Ok done) reach some = tt
by_some P (Err e) reach some = (reach, some)

on_done : (P : Type 0) (r : Result Unit NoMemory) → P → OnOk r P
on_done P (Ok done) holds = holds
on_done P (Err e) holds = tt

on_refused : (P : Type 0) (r : Result Unit NoMemory) → IsErr r → OnOk r P
on_refused P (Ok done) is = absurd (cc is)
on_refused P (Err e) is = tt

on_err : (P : Type 0) (r : Result Unit NoMemory) → P → OnErr r P
on_err P (Ok done) holds = tt
on_err P (Err e) holds = holds

pub push_to_all-requires-clause-open : goal.push_to_all-requires-clause-open
push_to_all-requires-clause-open g c = c.requires.open

pub push_to_all-requires-clause-known : goal.push_to_all-requires-clause-known
push_to_all-requires-clause-known g c = λ uid conn there. c.requires.known uid conn (subst (λ (r : Reach). has_conn (r uid) conn ≡ true) (followed (reach_of c.follow.new.self) (reach_of c.args.routes.now) c.args.stepped.now.handled c.as_slice.result.now c.args.stepped.now.ended c.as_slice-2.result.now c.in_ok-follow.ensures.follows c.as_slice.ensures.value c.as_slice-2.ensures.value) there)

pub returns-clause-pushes : goal.returns-clause-pushes
returns-clause-pushes g c =
    sent c.push_to_all.result c.args.server.now.profile c.as_slice-3.result.now c.args.stepped.now.ordered c.args.server.now.table c.args.connections.now (reach_of c.follow.new.self) (routes_ended c.args.stepped.now.ended (routes_noted c.args.stepped.now.handled (reach_of c.args.routes.now))) (view_of (g.W.Wire.calls c.args.wire.now) (g.W.Wire.faults c.args.wire.now)) c.as_slice-3.ensures.value
    (followed (reach_of c.follow.new.self) (reach_of c.args.routes.now) c.args.stepped.now.handled c.as_slice.result.now c.args.stepped.now.ended c.as_slice-2.result.now c.in_ok-follow.ensures.follows c.as_slice.ensures.value c.as_slice-2.ensures.value)
    (post_of c.push_to_all.new.connections (reach_of c.push_to_all.new.routes) (view_of (g.W.Wire.calls c.push_to_all.new.wire) (g.W.Wire.faults c.push_to_all.new.wire))) c.push_to_all.ensures.pushes

pub returns-clause-some : goal.returns-clause-some
returns-clause-some g c =
    by_some (λ (way : Reach). PushesFirst c.args.server.now.profile c.args.stepped.now.ordered c.args.server.now.table (post_of c.args.connections.now (routes_ended c.args.stepped.now.ended (routes_noted c.args.stepped.now.handled (reach_of c.args.routes.now))) (view_of (g.W.Wire.calls c.args.wire.now) (g.W.Wire.faults c.args.wire.now))) (post_of c.push_to_all.new.connections way (view_of (g.W.Wire.calls c.push_to_all.new.wire) (g.W.Wire.faults c.push_to_all.new.wire))))
    c.push_to_all.result (reach_of c.push_to_all.new.routes)
    (some_sent c.push_to_all.result c.args.server.now.profile c.as_slice-3.result.now c.args.stepped.now.ordered c.args.server.now.table c.args.connections.now (reach_of c.follow.new.self) (routes_ended c.args.stepped.now.ended (routes_noted c.args.stepped.now.handled (reach_of c.args.routes.now))) (view_of (g.W.Wire.calls c.args.wire.now) (g.W.Wire.faults c.args.wire.now)) c.as_slice-3.ensures.value
    (followed (reach_of c.follow.new.self) (reach_of c.args.routes.now) c.args.stepped.now.handled c.as_slice.result.now c.args.stepped.now.ended c.as_slice-2.result.now c.in_ok-follow.ensures.follows c.as_slice.ensures.value c.as_slice-2.ensures.value)
    c.push_to_all.new.connections (reach_of c.push_to_all.new.routes) (view_of (g.W.Wire.calls c.push_to_all.new.wire) (g.W.Wire.faults c.push_to_all.new.wire)) c.push_to_all.ensures.some)

pub returns-clause-open : goal.returns-clause-open
returns-clause-open g c = on_done _ c.push_to_all.result c.push_to_all.ensures.open

pub returns-clause-known : goal.returns-clause-known
returns-clause-known g c = on_done _ c.push_to_all.result c.push_to_all.ensures.known

pub returns-clause-calls : goal.returns-clause-calls
returns-clause-calls g c = on_done _ c.push_to_all.result c.push_to_all.ensures.calls

pub returns-in_err-follow-clause-some : goal.returns-in_err-follow-clause-some
returns-in_err-follow-clause-some g c =
    let some : (way : Reach) × PushesFirst c.args.server.now.profile c.args.stepped.now.ordered c.args.server.now.table (post_of c.args.connections.now (routes_ended c.args.stepped.now.ended (routes_noted c.args.stepped.now.handled (reach_of c.args.routes.now))) (view_of (g.W.Wire.calls c.args.wire.now) (g.W.Wire.faults c.args.wire.now))) (post_of c.args.connections.now way (view_of (g.W.Wire.calls c.args.wire.now) (g.W.Wire.faults c.args.wire.now))) =
    ((routes_ended c.args.stepped.now.ended (routes_noted c.args.stepped.now.handled (reach_of c.args.routes.now))), (0, λ entropy rollouts. leads_none c.args.server.now.profile (desk_of entropy c.args.server.now.table rollouts) (post_of c.args.connections.now (routes_ended c.args.stepped.now.ended (routes_noted c.args.stepped.now.handled (reach_of c.args.routes.now))) (view_of (g.W.Wire.calls c.args.wire.now) (g.W.Wire.faults c.args.wire.now))))) in
    on_err _ c.from_residual.result some

pub returns-in_err-follow-clause-pushes : goal.returns-in_err-follow-clause-pushes
returns-in_err-follow-clause-pushes g c = on_refused _ c.from_residual.result c.from_residual.ensures.0

pub returns-in_err-follow-clause-open : goal.returns-in_err-follow-clause-open
returns-in_err-follow-clause-open g c = on_refused _ c.from_residual.result c.from_residual.ensures.0

pub returns-in_err-follow-clause-known : goal.returns-in_err-follow-clause-known
returns-in_err-follow-clause-known g c = on_refused _ c.from_residual.result c.from_residual.ensures.0

pub returns-in_err-follow-clause-calls : goal.returns-in_err-follow-clause-calls
returns-in_err-follow-clause-calls g c = on_refused _ c.from_residual.result c.from_residual.ensures.0
