use Rattle.std.proofs.Common.{false, refl}
use Rattle.std.proofs.Math.Path.{fun_ext}
use Rattle.server_sessions.specs.Reports.{desk_of, host_of}
use Rattle.server_sessions.specs.Wiring.{view_of}
use Rattle.server_sessions.specs.Sessions.{site_of}
use Rattle.server_deliveries.specs.Views.{reach_of}
use Rattle.server_deliveries.proofs.Reaching.{none_reached}
use Rattle.server_deliveries.proofs.TurnLemmas.{failed_pushing, fault_pushing, serves_case, spent_pushing, stopped_pushing, told_pushing, wanting_pushing, within_pushing}
use Rattle.server_deliveries.proofs.pushing.serve_pushing.Goals as goal

pub serve_by-requires : goal.serve_by-requires
serve_by-requires g c = record { fits = λ uid conn is. absurd (none_reached (reach_of c.new-routes.result) uid conn (c.new-routes.ensures.none uid) is) }

pub returns-clause-within : goal.returns-clause-within
returns-clause-within g c = within_pushing (host_of (λ b. (goal.Handler-dyn g b).answers b.1) c.args.desk.now.server.profile c.args.handlers.now) c.args.turns (site_of (view_of (g.W.Wire.calls c.args.wire.now) (g.W.Wire.faults c.args.wire.now)) (desk_of (g.E.Entropy.state c.args.entropy.now) c.args.desk.now.server.table c.args.desk.now.rollouts) (reach_of c.new-routes.result)) (site_of (view_of (g.W.Wire.calls c.serve_by.new.wire) (g.W.Wire.faults c.serve_by.new.wire)) (desk_of (g.E.Entropy.state c.serve_by.new.entropy) c.serve_by.new.desk.server.table c.serve_by.new.desk.rollouts) (reach_of c.serve_by.new.behind)) (fun_ext c.new-routes.ensures.none) c.serve_by.result c.serve_by.ensures.ends

pub returns-clause-stopped : goal.returns-clause-stopped
returns-clause-stopped g c = stopped_pushing (host_of (λ b. (goal.Handler-dyn g b).answers b.1) c.args.desk.now.server.profile c.args.handlers.now) c.args.turns (site_of (view_of (g.W.Wire.calls c.args.wire.now) (g.W.Wire.faults c.args.wire.now)) (desk_of (g.E.Entropy.state c.args.entropy.now) c.args.desk.now.server.table c.args.desk.now.rollouts) (reach_of c.new-routes.result)) (site_of (view_of (g.W.Wire.calls c.serve_by.new.wire) (g.W.Wire.faults c.serve_by.new.wire)) (desk_of (g.E.Entropy.state c.serve_by.new.entropy) c.serve_by.new.desk.server.table c.serve_by.new.desk.rollouts) (reach_of c.serve_by.new.behind)) (fun_ext c.new-routes.ensures.none) c.serve_by.result c.serve_by.ensures.ends

pub returns-clause-spent : goal.returns-clause-spent
returns-clause-spent g c = spent_pushing (host_of (λ b. (goal.Handler-dyn g b).answers b.1) c.args.desk.now.server.profile c.args.handlers.now) c.args.turns (site_of (view_of (g.W.Wire.calls c.args.wire.now) (g.W.Wire.faults c.args.wire.now)) (desk_of (g.E.Entropy.state c.args.entropy.now) c.args.desk.now.server.table c.args.desk.now.rollouts) (reach_of c.new-routes.result)) (site_of (view_of (g.W.Wire.calls c.serve_by.new.wire) (g.W.Wire.faults c.serve_by.new.wire)) (desk_of (g.E.Entropy.state c.serve_by.new.entropy) c.serve_by.new.desk.server.table c.serve_by.new.desk.rollouts) (reach_of c.serve_by.new.behind)) (fun_ext c.new-routes.ensures.none) c.serve_by.result c.serve_by.ensures.ends

pub returns-clause-failed : goal.returns-clause-failed
returns-clause-failed g c = failed_pushing (host_of (λ b. (goal.Handler-dyn g b).answers b.1) c.args.desk.now.server.profile c.args.handlers.now) c.args.turns (site_of (view_of (g.W.Wire.calls c.args.wire.now) (g.W.Wire.faults c.args.wire.now)) (desk_of (g.E.Entropy.state c.args.entropy.now) c.args.desk.now.server.table c.args.desk.now.rollouts) (reach_of c.new-routes.result)) (site_of (view_of (g.W.Wire.calls c.serve_by.new.wire) (g.W.Wire.faults c.serve_by.new.wire)) (desk_of (g.E.Entropy.state c.serve_by.new.entropy) c.serve_by.new.desk.server.table c.serve_by.new.desk.rollouts) (reach_of c.serve_by.new.behind)) (fun_ext c.new-routes.ensures.none) c.serve_by.result c.serve_by.ensures.ends

pub returns-clause-fault : goal.returns-clause-fault
returns-clause-fault g c = fault_pushing (host_of (λ b. (goal.Handler-dyn g b).answers b.1) c.args.desk.now.server.profile c.args.handlers.now) c.args.turns (site_of (view_of (g.W.Wire.calls c.args.wire.now) (g.W.Wire.faults c.args.wire.now)) (desk_of (g.E.Entropy.state c.args.entropy.now) c.args.desk.now.server.table c.args.desk.now.rollouts) (reach_of c.new-routes.result)) (site_of (view_of (g.W.Wire.calls c.serve_by.new.wire) (g.W.Wire.faults c.serve_by.new.wire)) (desk_of (g.E.Entropy.state c.serve_by.new.entropy) c.serve_by.new.desk.server.table c.serve_by.new.desk.rollouts) (reach_of c.serve_by.new.behind)) (fun_ext c.new-routes.ensures.none) c.endings_are_told.ensures.fault c.serve_by.result c.serve_by.ensures.ends

pub returns-clause-wanting : goal.returns-clause-wanting
returns-clause-wanting g c = wanting_pushing (host_of (λ b. (goal.Handler-dyn g b).answers b.1) c.args.desk.now.server.profile c.args.handlers.now) c.args.turns (site_of (view_of (g.W.Wire.calls c.args.wire.now) (g.W.Wire.faults c.args.wire.now)) (desk_of (g.E.Entropy.state c.args.entropy.now) c.args.desk.now.server.table c.args.desk.now.rollouts) (reach_of c.new-routes.result)) (site_of (view_of (g.W.Wire.calls c.serve_by.new.wire) (g.W.Wire.faults c.serve_by.new.wire)) (desk_of (g.E.Entropy.state c.serve_by.new.entropy) c.serve_by.new.desk.server.table c.serve_by.new.desk.rollouts) (reach_of c.serve_by.new.behind)) (fun_ext c.new-routes.ensures.none) c.serve_by.result c.serve_by.ensures.ends

pub returns-clause-spent_told : goal.returns-clause-spent_told
returns-clause-spent_told g c = λ all told.
    told_pushing (host_of (λ b. (goal.Handler-dyn g b).answers b.1) c.args.desk.now.server.profile c.args.handlers.now) c.args.turns (site_of (view_of (g.W.Wire.calls c.args.wire.now) (g.W.Wire.faults c.args.wire.now)) (desk_of (g.E.Entropy.state c.args.entropy.now) c.args.desk.now.server.table c.args.desk.now.rollouts) (reach_of c.new-routes.result)) (site_of (view_of (g.W.Wire.calls c.serve_by.new.wire) (g.W.Wire.faults c.serve_by.new.wire)) (desk_of (g.E.Entropy.state c.serve_by.new.entropy) c.serve_by.new.desk.server.table c.serve_by.new.desk.rollouts) (reach_of c.serve_by.new.behind)) (fun_ext c.new-routes.ensures.none) c.serve_by.result
    (c.endings_are_told.ensures.spent c.args.turns (site_of (view_of (g.W.Wire.calls c.args.wire.now) (g.W.Wire.faults c.args.wire.now)) (desk_of (g.E.Entropy.state c.args.entropy.now) c.args.desk.now.server.table c.args.desk.now.rollouts) (reach_of c.new-routes.result)) (site_of (view_of (g.W.Wire.calls c.serve_by.new.wire) (g.W.Wire.faults c.serve_by.new.wire)) (desk_of (g.E.Entropy.state c.serve_by.new.entropy) c.serve_by.new.desk.server.table c.serve_by.new.desk.rollouts) (reach_of c.serve_by.new.behind)) _ c.serve_by.result c.serve_by.ensures.ends (serves_case (host_of (λ b. (goal.Handler-dyn g b).answers b.1) c.args.desk.now.server.profile c.args.handlers.now) c.args.turns (site_of (view_of (g.W.Wire.calls c.args.wire.now) (g.W.Wire.faults c.args.wire.now)) (desk_of (g.E.Entropy.state c.args.entropy.now) c.args.desk.now.server.table c.args.desk.now.rollouts) (reach_of c.new-routes.result)) (view_of (g.W.Wire.calls c.serve_by.new.wire) (g.W.Wire.faults c.serve_by.new.wire)) _ false (fun_ext c.new-routes.ensures.none) all) refl told)
