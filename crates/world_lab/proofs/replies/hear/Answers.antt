use Rattle.std.specs.Prelude.{is_some}
use Rattle.std.proofs.Common.{◌≡◌, ◌∙◌, ◌+◌, ◌-◌, ◌<◌, ◌^◌, Bool, not, ◌&&◌, ◌||◌, cond, [], Some, None, length, ap, sym, subst, refl, inl, inr, arith}
use Rattle.agent_rules.specs.Events.{Hears, calls_in}
use Rattle.world_model.specs.World.{no_reactions}
use Rattle.world_lab.specs.Playing.{world_of}
use Rattle.world_lab.specs.Mirrors.{AreSent, kept_at}
use Rattle.world_lab.proofs.Sent.{kept_is_reply}
use Rattle.world_lab.proofs.Recovering.{if_recovered, is_recovered, is_taken, stop_laws}
use Rattle.world_lab.proofs.Stopping.{heard_plays, stopped_reply, unheard_plays}
use Rattle.world_lab.proofs.replies.hear.Goals as goal

pub returns-then-not-awaits : goal.returns-then-not-awaits
returns-then-not-awaits c = record {
  played = unheard_plays
      (stop_laws c.events_are_their_calls.ensures.reports c.events_are_their_calls.ensures.hears c.stages_join.ensures.none c.stages_join.ensures.done c.stages_join.ensures.crashed c.outcomes_tell_endings.ensures.done c.outcomes_tell_endings.ensures.crashed)
      c.runs_go_on.ensures.world c.runs_go_on.ensures.arrivals c.args.play.now c.take_stop-mode.new.play
      (is_taken c.args.play.now c.take_stop-mode.new.play c.take_stop-mode.ensures.agent c.take_stop-mode.ensures.stage c.take_stop-mode.ensures.taken c.take_stop-mode.ensures.opening c.take_stop-mode.ensures.local c.take_stop-mode.ensures.sent c.take_stop-mode.ensures.pushes)
      (c.take_stop-mode.ensures.hosted c.requires.mirror.1.1.hosted) (inr (sym c.if-not-awaits.ensures.awaits));
}

pub returns-in-None : goal.returns-in-None
returns-in-None c =
    let sent = c.take_stop-mode.new.play.sent.items in
    let kept : kept_at sent (length sent - 1) ≡ None = ap (λ rs. kept_at rs (length rs - 1)) (sym c.as_slice.ensures.value) ∙ sym c.in-None.ensures.last in
    record {
      played = unheard_plays
          (stop_laws c.events_are_their_calls.ensures.reports c.events_are_their_calls.ensures.hears c.stages_join.ensures.none c.stages_join.ensures.done c.stages_join.ensures.crashed c.outcomes_tell_endings.ensures.done c.outcomes_tell_endings.ensures.crashed)
          c.runs_go_on.ensures.world c.runs_go_on.ensures.arrivals c.args.play.now c.take_stop-mode.new.play
          (is_taken c.args.play.now c.take_stop-mode.new.play c.take_stop-mode.ensures.agent c.take_stop-mode.ensures.stage c.take_stop-mode.ensures.taken c.take_stop-mode.ensures.opening c.take_stop-mode.ensures.local c.take_stop-mode.ensures.sent c.take_stop-mode.ensures.pushes)
          (c.take_stop-mode.ensures.hosted c.requires.mirror.1.1.hosted) (inl kept);
    }

pub hear_reply-requires : goal.hear_reply-requires
hear_reply-requires c =
    let sent = c.take_stop-mode.new.play.sent.items in
    let m = c.requires.mirror.1.1 in
    let entries = (world_of c.requires.mirror.1.0).sent in
    let kept : kept_at sent (length sent - 1) ≡ Some c.in-Some.reply.now = ap (λ rs. kept_at rs (length rs - 1)) (sym c.as_slice.ensures.value) ∙ sym c.in-Some.ensures.last in
    record {
      hosted = c.take_stop-mode.ensures.hosted m.hosted;
      generations = subst (λ a. a.store.generation + 4 < 2 ^ 64) (sym c.take_stop-mode.ensures.agent) c.requires.generations;
      awaits = sym c.if-not-awaits.ensures.awaits;
      reply = kept_is_reply sent entries (length sent - 1) c.in-Some.reply.now (subst (λ rs. AreSent rs entries) (sym c.take_stop-mode.ensures.sent) m.world.sent_are) kept;
    }

pub returns-in-Ok : goal.returns-in-Ok
returns-in-Ok c =
    let sent = c.take_stop-mode.new.play.sent.items in
    let kept : kept_at sent (length sent - 1) ≡ Some c.in-Some.reply.now = ap (λ rs. kept_at rs (length rs - 1)) (sym c.as_slice.ensures.value) ∙ sym c.in-Some.ensures.last in
    record {
      played = heard_plays
          (stop_laws c.events_are_their_calls.ensures.reports c.events_are_their_calls.ensures.hears c.stages_join.ensures.none c.stages_join.ensures.done c.stages_join.ensures.crashed c.outcomes_tell_endings.ensures.done c.outcomes_tell_endings.ensures.crashed)
          c.runs_go_on.ensures.world c.runs_go_on.ensures.arrivals c.args.play.now c.take_stop-mode.new.play _ c.in-Some.reply.now c.in-Ok.written
          (is_taken c.args.play.now c.take_stop-mode.new.play c.take_stop-mode.ensures.agent c.take_stop-mode.ensures.stage c.take_stop-mode.ensures.taken c.take_stop-mode.ensures.opening c.take_stop-mode.ensures.local c.take_stop-mode.ensures.sent c.take_stop-mode.ensures.pushes)
          (sym c.if-not-awaits.ensures.awaits) kept c.in-Ok.ensures.goes (record { stop = refl; opening = refl; local = refl }) refl c.in-Ok.ensures.written
          (c.keep_pushes.ensures.kept ∙ ap (λ (t : Bool). cond (not c.hear_reply.new.host.agent.half.awaits && (t || is_some c.hear_reply.new.host.agent.half.trial)) [] c.take_stop-mode.new.play.pushes.items) c.trying-tried.ensures.trying);
    }

pub recover-requires : goal.recover-requires
recover-requires c =
    let mid = c.take_stop-mode.new.play in
    let stops = (rw c.in-Err-Stopped.field-0-is at c.in-Err-Stopped.ensures.stopped) refl in
    record {
      stopped = (mid.host, calls_in mid.host.agent.half (Hears c.in-Some.reply.now no_reactions), 4, stops, (c.take_stop-mode.ensures.local ∙ c.requires.mirror.1.1.local ∙ ap (λ a. a.half.local) (sym c.take_stop-mode.ensures.agent)));
      opening = c.take_stop-mode.ensures.opening ∙ c.requires.mirror.1.1.opening;
    }

pub returns-in-Err-Stopped : goal.returns-in-Err-Stopped
returns-in-Err-Stopped c =
    let mid = c.take_stop-mode.new.play in
    let sent = mid.sent.items in
    let kept : kept_at sent (length sent - 1) ≡ Some c.in-Some.reply.now = ap (λ rs. kept_at rs (length rs - 1)) (sym c.as_slice.ensures.value) ∙ sym c.in-Some.ensures.last in
    let halt = record mid { host = c.hear_reply.new.host } in
    let calls = calls_in mid.host.agent.half (Hears c.in-Some.reply.now no_reactions) in
    let stops = (rw c.in-Err-Stopped.field-0-is at c.in-Err-Stopped.ensures.stopped) refl in
    record {
      played = if_recovered c.recover.result
          (λ written half hosted image generation text. stopped_reply
          (stop_laws c.events_are_their_calls.ensures.reports c.events_are_their_calls.ensures.hears c.stages_join.ensures.none c.stages_join.ensures.done c.stages_join.ensures.crashed c.outcomes_tell_endings.ensures.done c.outcomes_tell_endings.ensures.crashed)
          c.runs_go_on.ensures.world c.runs_go_on.ensures.arrivals c.args.play.now mid halt c.recover.new.play c.in-Some.reply.now c.take_stop-mode.result written
          (is_taken c.args.play.now c.take_stop-mode.new.play c.take_stop-mode.ensures.agent c.take_stop-mode.ensures.stage c.take_stop-mode.ensures.taken c.take_stop-mode.ensures.opening c.take_stop-mode.ensures.local c.take_stop-mode.ensures.sent c.take_stop-mode.ensures.pushes)
          c.take_stop-mode.ensures.mode kept
          (is_recovered mid halt c.recover.new.play calls 4 c.take_stop-mode.result written stops (omega arith)
          (half mid.host calls 4 stops (c.take_stop-mode.ensures.local ∙ c.requires.mirror.1.1.local ∙ ap (λ a. a.half.local) (sym c.take_stop-mode.ensures.agent))) hosted image (generation mid.host calls 4 stops)
          (record { stop = c.recover.ensures.stop; opening = c.recover.ensures.opening; local = c.recover.ensures.local }) c.recover.ensures.sent c.recover.ensures.pushes text))
          c.recover.ensures.half c.recover.ensures.hosted c.recover.ensures.image c.recover.ensures.generation c.recover.ensures.written;
    }
