use Rattle.std.proofs.Common.{◌∙◌, [], Bool, cond, sym, ap, subst, refl}
use Rattle.world_lab.specs.Mirrors.{IsAgent}
use Rattle.world_lab.proofs.GivingUp.{gives_up, never_waited, nothing_given_up, line_given_up}
use Rattle.world_lab.proofs.Hosts.{hosted_beside}
use Rattle.world_lab.proofs.Lines.{given_up_plays}
use Rattle.world_lab.proofs.agents.give_up.Goals as goal

pub returns-then-not-awaits : goal.returns-then-not-awaits
returns-then-not-awaits c =
    let play = c.args.play.now in
    let idle = sym c.if-not-awaits.ensures.awaits in
    record {
      played = λ servers p m. given_up_plays c.runs_go_on.ensures.world c.runs_go_on.ensures.arrivals play play _ (never_waited play.host.agent.half idle) refl m.hosted refl refl refl refl refl refl
          (sym (ap (λ (b : Bool). cond b [] play.pushes.items) idle)) (nothing_given_up play.host.agent.half idle) servers p m;
    }

pub returns : goal.returns
returns c =
    let play = c.args.play.now in
    let agent = c.stop_waiting.new.agent in
    let waits = sym c.if-not-awaits.ensures.awaits in
    let left = c.in_ok-abandoned.ensures.left in
    let same = gives_up play.host.agent.half in
    record {
      played = λ servers p m. given_up_plays c.runs_go_on.ensures.world c.runs_go_on.ensures.arrivals play _ _ left (ap (λ a. a.local) left ∙ same.local)
          (hosted_beside play.host agent m.hosted (subst IsAgent (sym left) (same.agent m.hosted.seated.agent)) c.stop_waiting.ensures.store (ap (λ a. a.saved) left ∙ same.saved) (ap (λ a. a.is_kept) left ∙ same.is_kept))
          c.stop_waiting.ensures.store refl refl refl refl refl (c.clear.ensures.items ∙ sym (ap (λ (b : Bool). cond b [] play.pushes.items) waits)) (line_given_up play.host.agent.half _ waits c.in_ok-abandoned.ensures.abandoned) servers p m;
    }
