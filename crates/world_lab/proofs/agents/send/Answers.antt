use Rattle.std.proofs.Common.{◌∙◌, ◌+◌, ◌<◌, ◌^◌, [], ◌∷◌, ap, sym, subst, refl, arith}
use Rattle.agent_rules.specs.Half.{entry_of}
use Rattle.agent_rules.specs.Reports.{message_of}
use Rattle.agent_rules.specs.Keeping.{Report}
use Rattle.world_lab.specs.Reports.{IsReported, Reports}
use Rattle.world_lab.proofs.ScriptAgents.{target_is}
use Rattle.world_lab.proofs.Lines.{if_ok}
use Rattle.world_lab.proofs.MayReport.{awaiting_may}
use Rattle.world_lab.proofs.Reporting.{report_target}
use Rattle.world_lab.proofs.Recovering.{if_recovered, is_recovered, is_taken, stop_laws}
use Rattle.world_lab.proofs.Stopping.{sent_plays, stopped_send, unsent_plays}
use Rattle.world_lab.proofs.agents.send.Goals as goal

pub report-requires : goal.report-requires
report-requires c = record {
  hosted = c.take_stop-mode.ensures.hosted c.requires.mirror.1.1.hosted;
  generations = subst (λ a. a.store.generation + 1 < 2 ^ 64) (sym c.take_stop-mode.ensures.agent) c.requires.generations;
  idle = sym c.if-awaits.ensures.awaits;
}

pub returns-then-awaits : goal.returns-then-awaits
returns-then-awaits c = record {
  played = unsent_plays
      (stop_laws c.events_are_their_calls.ensures.reports c.events_are_their_calls.ensures.hears c.stages_join.ensures.none c.stages_join.ensures.done c.stages_join.ensures.crashed c.outcomes_tell_endings.ensures.done c.outcomes_tell_endings.ensures.crashed)
      c.runs_go_on.ensures.world c.runs_go_on.ensures.arrivals c.args.play.now c.take_stop-mode.new.play c.take_stop-mode.new.play
      (is_taken c.args.play.now c.take_stop-mode.new.play c.take_stop-mode.ensures.agent c.take_stop-mode.ensures.stage c.take_stop-mode.ensures.taken c.take_stop-mode.ensures.opening c.take_stop-mode.ensures.local c.take_stop-mode.ensures.sent c.take_stop-mode.ensures.pushes)
      (awaiting_may c.take_stop-mode.new.play.host.agent.half (sym c.if-awaits.ensures.awaits)) refl refl (c.take_stop-mode.ensures.hosted c.requires.mirror.1.1.hosted) (record { stop = refl; opening = refl; local = refl }) refl refl;
}

pub returns-in-None : goal.returns-in-None
returns-in-None c =
    let stays = subst (Reports c.take_stop-mode.new.play.host c.report.new.host) c.in-None.is c.in-Ok.ensures.sent in
    record {
      played = unsent_plays
          (stop_laws c.events_are_their_calls.ensures.reports c.events_are_their_calls.ensures.hears c.stages_join.ensures.none c.stages_join.ensures.done c.stages_join.ensures.crashed c.outcomes_tell_endings.ensures.done c.outcomes_tell_endings.ensures.crashed)
          c.runs_go_on.ensures.world c.runs_go_on.ensures.arrivals c.args.play.now c.take_stop-mode.new.play _
          (is_taken c.args.play.now c.take_stop-mode.new.play c.take_stop-mode.ensures.agent c.take_stop-mode.ensures.stage c.take_stop-mode.ensures.taken c.take_stop-mode.ensures.opening c.take_stop-mode.ensures.local c.take_stop-mode.ensures.sent c.take_stop-mode.ensures.pushes)
          stays.0 stays.1.agent (ap (λ s. s.image) stays.1.stage) stays.1.hosted (record { stop = refl; opening = refl; local = refl }) refl refl;
    }

pub keep_sent-requires : goal.keep_sent-requires
keep_sent-requires c =
    let sent = subst (Reports c.take_stop-mode.new.play.host c.report.new.host) c.in-Some.is c.in-Ok.ensures.sent in
    record {
      prepared = (message_of (entry_of c.take_stop-mode.new.play.host.agent.half), sent.prepared.means);
      server = target_is c.report.new.host.agent.half sent.goes.hosted.seated.agent;
    }

pub returns-in-Some : goal.returns-in-Some
returns-in-Some c =
    let sent = subst (Reports c.take_stop-mode.new.play.host c.report.new.host) c.in-Some.is c.in-Ok.ensures.sent in
    let mid = c.take_stop-mode.new.play in
    record {
      played = if_ok c.keep_sent.result
          (λ written kept. sent_plays
          (stop_laws c.events_are_their_calls.ensures.reports c.events_are_their_calls.ensures.hears c.stages_join.ensures.none c.stages_join.ensures.done c.stages_join.ensures.crashed c.outcomes_tell_endings.ensures.done c.outcomes_tell_endings.ensures.crashed)
          c.runs_go_on.ensures.world c.runs_go_on.ensures.arrivals c.args.play.now mid c.keep_sent.new.play c.in-Some.prepared written
          (is_taken c.args.play.now c.take_stop-mode.new.play c.take_stop-mode.ensures.agent c.take_stop-mode.ensures.stage c.take_stop-mode.ensures.taken c.take_stop-mode.ensures.opening c.take_stop-mode.ensures.local c.take_stop-mode.ensures.sent c.take_stop-mode.ensures.pushes)
          (subst (λ h. IsReported mid.host h c.in-Some.prepared) (sym c.keep_sent.ensures.host) sent)
          (record { stop = c.keep_sent.ensures.stop; opening = c.keep_sent.ensures.opening; local = c.keep_sent.ensures.local })
          (kept mid.host.agent.half sent.prepared (report_target mid.host c.report.new.host c.in-Some.prepared sent)) c.keep_sent.ensures.pushes)
          c.keep_sent.ensures.kept;
    }

pub recover-requires : goal.recover-requires
recover-requires c =
    let stops = rw c.in-Err-Stopped.field-0-is at c.in-Err-Stopped.ensures.stopped in
    record {
      stopped = (c.take_stop-mode.new.play.host, (Report ∷ []), 1, stops refl, (c.take_stop-mode.ensures.local ∙ c.requires.mirror.1.1.local ∙ ap (λ a. a.half.local) (sym c.take_stop-mode.ensures.agent)));
      opening = c.take_stop-mode.ensures.opening ∙ c.requires.mirror.1.1.opening;
    }

pub returns-in-Err-Stopped : goal.returns-in-Err-Stopped
returns-in-Err-Stopped c =
    let stops = (rw c.in-Err-Stopped.field-0-is at c.in-Err-Stopped.ensures.stopped) refl in
    let due = (rw c.in-Err-Stopped.field-0-is at c.in-Err-Stopped.ensures.due) refl in
    let mid = c.take_stop-mode.new.play in
    let halt = record mid { host = c.report.new.host } in
    record {
      played = if_recovered c.recover.result
          (λ written half hosted image generation text. stopped_send
          (stop_laws c.events_are_their_calls.ensures.reports c.events_are_their_calls.ensures.hears c.stages_join.ensures.none c.stages_join.ensures.done c.stages_join.ensures.crashed c.outcomes_tell_endings.ensures.done c.outcomes_tell_endings.ensures.crashed)
          c.runs_go_on.ensures.world c.runs_go_on.ensures.arrivals c.args.play.now mid halt c.recover.new.play c.take_stop-mode.result written
          (is_taken c.args.play.now c.take_stop-mode.new.play c.take_stop-mode.ensures.agent c.take_stop-mode.ensures.stage c.take_stop-mode.ensures.taken c.take_stop-mode.ensures.opening c.take_stop-mode.ensures.local c.take_stop-mode.ensures.sent c.take_stop-mode.ensures.pushes)
          c.take_stop-mode.ensures.mode due
          (is_recovered mid halt c.recover.new.play (Report ∷ []) 1 c.take_stop-mode.result written stops (omega arith)
          (half mid.host (Report ∷ []) 1 stops (c.take_stop-mode.ensures.local ∙ c.requires.mirror.1.1.local ∙ ap (λ a. a.half.local) (sym c.take_stop-mode.ensures.agent))) hosted image (generation mid.host (Report ∷ []) 1 stops)
          (record { stop = c.recover.ensures.stop; opening = c.recover.ensures.opening; local = c.recover.ensures.local }) c.recover.ensures.sent c.recover.ensures.pushes text))
          c.recover.ensures.half c.recover.ensures.hosted c.recover.ensures.image c.recover.ensures.generation c.recover.ensures.written;
    }
