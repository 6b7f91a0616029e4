use Rattle.std.proofs.Common.{◌≡◌, ◌∙◌, List, [], Bool, not, ◌&&◌, ◌||◌, cond, Some, ap, sym, refl, rules}
use Rattle.std.specs.Prelude.{is_some}
use Rattle.agent_rules.specs.Half.{target}
use Rattle.agent_rules.specs.Events.{Hears, calls_in}
use Rattle.world_model.specs.World.{no_reactions}
use Rattle.world_lab.specs.declared.plays.WaitingPush.{WaitingPush}
use Rattle.world_lab.specs.Playing.{endpoint_of, oldest}
use Rattle.world_lab.specs.Hosts.{lab_opening, stage_at}
use Rattle.world_lab.proofs.Recovering.{stop_laws}
use Rattle.world_lab.proofs.Unstopped.{never_stops}
use Rattle.world_lab.proofs.Pushing.{absent_plays, idle_untaken, oldest_is_reply, took_plays, untaken_plays}
use Rattle.world_lab.proofs.pushes.take_push.Goals as goal

pub returns-then-not-awaits : goal.returns-then-not-awaits
returns-then-not-awaits c =
    let play = c.args.play.now in
    record {
      played = λ servers p m. untaken_plays play play (record { host = refl; stop = refl; opening = refl; local = refl; sent = refl }) refl servers p m
          (idle_untaken p play servers m (sym c.if-not-awaits.ensures.awaits));
    }

pub hear_reply-requires : goal.hear_reply-requires
hear_reply-requires c =
    let play = c.args.play.now in
    let p = c.requires.mirror.1.0 in
    let m = c.requires.mirror.1.1 in
    let found : Some c.in-Some.message ≡ oldest c.number_at-server.result play.pushes.items = sym c.in-Some.is ∙ c.take_oldest.ensures.oldest in
    record {
      hosted = record {
        seated = record { agent = m.hosted.seated.agent; rest = c.arm.ensures.at_rest lab_opening play.host.agent m.hosted.seated.rest };
        files = record { config = m.hosted.files.config; packages = m.hosted.files.packages; status = m.hosted.files.status };
      };
      generations = c.requires.generations;
      awaits = sym c.if-not-awaits.ensures.awaits;
      reply = oldest_is_reply c.number_at-server.result p.pushes c.in-Some.message m.pushed (ap (oldest c.number_at-server.result) (sym m.pushes) ∙ sym found);
    }

pub returns-in_default : goal.returns-in_default
returns-in_default c =
    let play = c.args.play.now in
    let endpoint : endpoint_of c.number_at-server.result ≡ (target play.host.agent.half).endpoint = search rules in
    record {
      played = absent_plays c.number_at-server.result play (record play { pushes = c.take_oldest.new.pushes }) (sym c.if-not-awaits.ensures.awaits) endpoint
          (record { host = refl; stop = refl; opening = refl; local = refl; sent = refl }) c.in_default.ensures.oldest c.take_oldest.ensures.left;
    }

pub returns-in-Ok : goal.returns-in-Ok
returns-in-Ok c =
    let play = c.args.play.now in
    let mid = record play { host = record (play.host) { disk = c.arm.new.disk } } in
    let end = c.hear_reply.new.host.agent.half in
    let endpoint : endpoint_of c.number_at-server.result ≡ (target play.host.agent.half).endpoint = search rules in
    let found : Some c.in-Some.message ≡ oldest c.number_at-server.result play.pushes.items = sym c.in-Some.is ∙ c.take_oldest.ensures.oldest in
    record {
      played = took_plays
          (stop_laws c.events_are_their_calls.ensures.reports c.events_are_their_calls.ensures.hears c.stages_join.ensures.none c.stages_join.ensures.done c.stages_join.ensures.crashed c.outcomes_tell_endings.ensures.done c.outcomes_tell_endings.ensures.crashed)
          c.runs_go_on.ensures.world c.runs_go_on.ensures.arrivals c.number_at-server.result play mid _ c.in-Some.message c.in-Ok.written
          (record { agent = refl; stage = c.arm.ensures.stage play.host.agent }) (sym c.if-not-awaits.ensures.awaits) endpoint found c.in-Ok.ensures.goes
          (record { stop = refl; opening = refl; local = refl }) refl c.in-Ok.ensures.written
          (c.keep_pushes.ensures.kept
          ∙ ap (λ (t : Bool). cond (not end.awaits && (t || is_some end.trial)) [] c.take_oldest.new.pushes.items) c.trying-tried.ensures.trying
          ∙ ap (λ (ps : List WaitingPush). cond (not end.awaits && (is_some play.host.agent.half.trial || is_some end.trial)) [] ps) c.take_oldest.ensures.left);
    }

pub unreachable-requires : goal.unreachable-requires
unreachable-requires c =
    let play = c.args.play.now in
    let mid = record play { host = record (play.host) { disk = c.arm.new.disk } } in
    let stops = (rw c.in-Err-Stopped.field-0-is at c.in-Err-Stopped.ensures.stopped) refl in
    never_stops lab_opening (stage_at mid.host) (calls_in mid.host.agent.half (Hears c.in-Some.message no_reactions)) c.hear_reply.new.host.disk (ap (λ s. s.left) (c.arm.ensures.stage play.host.agent)) stops.stopped
