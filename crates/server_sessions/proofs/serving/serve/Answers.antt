use Rattle.server_sessions.specs.Reports.{desk_of, host_of}
use Rattle.server_sessions.specs.Wiring.{view_of}
use Rattle.server_sessions.specs.Sessions.{site_of}
use Rattle.server_sessions.proofs.BehindLemmas.{failed_alone, fault_alone, spent_alone, stopped_alone, wanting_alone, within_alone}
use Rattle.server_sessions.proofs.EndLemmas.{spent_so, stopped_so}
use Rattle.server_sessions.proofs.serving.serve.Goals as goal

pub returns-clause-within : goal.returns-clause-within
returns-clause-within g c = within_alone (host_of (λ b. (goal.Handler-dyn g b).answers b.1) c.args.desk.now.server.profile c.args.handlers.now) c.args.turns (site_of (view_of (g.W.Wire.calls c.args.wire.now) (g.W.Wire.faults c.args.wire.now)) (desk_of (g.E.Entropy.state c.args.entropy.now) c.args.desk.now.server.table c.args.desk.now.rollouts) tt) (site_of (view_of (g.W.Wire.calls c.serve_by.new.wire) (g.W.Wire.faults c.serve_by.new.wire)) (desk_of (g.E.Entropy.state c.serve_by.new.entropy) c.serve_by.new.desk.server.table c.serve_by.new.desk.rollouts) tt) c.serve_by.result c.serve_by.ensures.ends

pub returns-clause-stopped : goal.returns-clause-stopped
returns-clause-stopped g c = stopped_alone (host_of (λ b. (goal.Handler-dyn g b).answers b.1) c.args.desk.now.server.profile c.args.handlers.now) c.args.turns (site_of (view_of (g.W.Wire.calls c.args.wire.now) (g.W.Wire.faults c.args.wire.now)) (desk_of (g.E.Entropy.state c.args.entropy.now) c.args.desk.now.server.table c.args.desk.now.rollouts) tt) (site_of (view_of (g.W.Wire.calls c.serve_by.new.wire) (g.W.Wire.faults c.serve_by.new.wire)) (desk_of (g.E.Entropy.state c.serve_by.new.entropy) c.serve_by.new.desk.server.table c.serve_by.new.desk.rollouts) tt) c.serve_by.result c.serve_by.ensures.ends

pub returns-clause-spent : goal.returns-clause-spent
returns-clause-spent g c = spent_alone (host_of (λ b. (goal.Handler-dyn g b).answers b.1) c.args.desk.now.server.profile c.args.handlers.now) c.args.turns (site_of (view_of (g.W.Wire.calls c.args.wire.now) (g.W.Wire.faults c.args.wire.now)) (desk_of (g.E.Entropy.state c.args.entropy.now) c.args.desk.now.server.table c.args.desk.now.rollouts) tt) (site_of (view_of (g.W.Wire.calls c.serve_by.new.wire) (g.W.Wire.faults c.serve_by.new.wire)) (desk_of (g.E.Entropy.state c.serve_by.new.entropy) c.serve_by.new.desk.server.table c.serve_by.new.desk.rollouts) tt) c.serve_by.result c.serve_by.ensures.ends

pub returns-clause-failed : goal.returns-clause-failed
returns-clause-failed g c = failed_alone (host_of (λ b. (goal.Handler-dyn g b).answers b.1) c.args.desk.now.server.profile c.args.handlers.now) c.args.turns (site_of (view_of (g.W.Wire.calls c.args.wire.now) (g.W.Wire.faults c.args.wire.now)) (desk_of (g.E.Entropy.state c.args.entropy.now) c.args.desk.now.server.table c.args.desk.now.rollouts) tt) (site_of (view_of (g.W.Wire.calls c.serve_by.new.wire) (g.W.Wire.faults c.serve_by.new.wire)) (desk_of (g.E.Entropy.state c.serve_by.new.entropy) c.serve_by.new.desk.server.table c.serve_by.new.desk.rollouts) tt) c.serve_by.result c.serve_by.ensures.ends

pub returns-clause-fault : goal.returns-clause-fault
returns-clause-fault g c = fault_alone (host_of (λ b. (goal.Handler-dyn g b).answers b.1) c.args.desk.now.server.profile c.args.handlers.now) c.args.turns (site_of (view_of (g.W.Wire.calls c.args.wire.now) (g.W.Wire.faults c.args.wire.now)) (desk_of (g.E.Entropy.state c.args.entropy.now) c.args.desk.now.server.table c.args.desk.now.rollouts) tt) (site_of (view_of (g.W.Wire.calls c.serve_by.new.wire) (g.W.Wire.faults c.serve_by.new.wire)) (desk_of (g.E.Entropy.state c.serve_by.new.entropy) c.serve_by.new.desk.server.table c.serve_by.new.desk.rollouts) tt) c.serve_by.result c.serve_by.ensures.ends

pub returns-clause-wanting : goal.returns-clause-wanting
returns-clause-wanting g c = wanting_alone (host_of (λ b. (goal.Handler-dyn g b).answers b.1) c.args.desk.now.server.profile c.args.handlers.now) c.args.turns (site_of (view_of (g.W.Wire.calls c.args.wire.now) (g.W.Wire.faults c.args.wire.now)) (desk_of (g.E.Entropy.state c.args.entropy.now) c.args.desk.now.server.table c.args.desk.now.rollouts) tt) (site_of (view_of (g.W.Wire.calls c.serve_by.new.wire) (g.W.Wire.faults c.serve_by.new.wire)) (desk_of (g.E.Entropy.state c.serve_by.new.entropy) c.serve_by.new.desk.server.table c.serve_by.new.desk.rollouts) tt) c.serve_by.result c.serve_by.ensures.ends

pub returns-clause-spent_told : goal.returns-clause-spent_told
returns-clause-spent_told g c = spent_so (host_of (λ b. (goal.Handler-dyn g b).answers b.1) c.args.desk.now.server.profile c.args.handlers.now) c.one_order_a_line.ensures.one c.args.turns (view_of (g.W.Wire.calls c.args.wire.now) (g.W.Wire.faults c.args.wire.now)) (view_of (g.W.Wire.calls c.serve_by.new.wire) (g.W.Wire.faults c.serve_by.new.wire)) (desk_of (g.E.Entropy.state c.args.entropy.now) c.args.desk.now.server.table c.args.desk.now.rollouts) (desk_of (g.E.Entropy.state c.serve_by.new.entropy) c.serve_by.new.desk.server.table c.serve_by.new.desk.rollouts) c.serve_by.result (returns-clause-stopped g c) (returns-clause-failed g c)

pub returns-clause-stop_told : goal.returns-clause-stop_told
returns-clause-stop_told g c = stopped_so (host_of (λ b. (goal.Handler-dyn g b).answers b.1) c.args.desk.now.server.profile c.args.handlers.now) c.one_order_a_line.ensures.one c.args.turns (view_of (g.W.Wire.calls c.args.wire.now) (g.W.Wire.faults c.args.wire.now)) (view_of (g.W.Wire.calls c.serve_by.new.wire) (g.W.Wire.faults c.serve_by.new.wire)) (desk_of (g.E.Entropy.state c.args.entropy.now) c.args.desk.now.server.table c.args.desk.now.rollouts) (desk_of (g.E.Entropy.state c.serve_by.new.entropy) c.serve_by.new.desk.server.table c.serve_by.new.desk.rollouts) c.serve_by.result (returns-clause-stopped g c) (returns-clause-spent g c) (returns-clause-failed g c)
