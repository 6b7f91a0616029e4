use Rattle.std.proofs.Common.{◌∙◌, refl}
use Rattle.world_lab.specs.declared.plays.TheConstants.{LAYOUT}
use Rattle.world_lab.proofs.Lines.{if_ok}
use Rattle.world_lab.proofs.Recovering.{stop_laws}
use Rattle.world_lab.proofs.Stopping.{start_plays}
use Rattle.world_lab.proofs.starting.restart.Goals as goal

pub restart_host-requires : goal.restart_host-requires
restart_host-requires c =
    let m = c.requires.mirror.1.1 in
    record { hosted = m.hosted; opening = m.opening; local = c.in_ok-local.ensures.copied ∙ m.local }

pub returns : goal.returns
returns c = record {
  played = if_ok c.shown.result
      (λ written text. start_plays
      (stop_laws c.events_are_their_calls.ensures.reports c.events_are_their_calls.ensures.hears c.stages_join.ensures.none c.stages_join.ensures.done c.stages_join.ensures.crashed c.outcomes_tell_endings.ensures.done c.outcomes_tell_endings.ensures.crashed)
      (λ mode stage. c.events_are_their_calls.ensures.restarts LAYOUT mode stage stage.half.local stage.half.asks_uid) c.runs_go_on.ensures.world c.runs_go_on.ensures.arrivals
      c.args.play.now _ c.in_ok-stopped.stopped written
      (record {
        half = c.in_ok-stopped.ensures.half;
        image = c.in_ok-stopped.ensures.image;
        hosted = c.in_ok-stopped.ensures.hosted;
        saves = c.in_ok-stopped.ensures.generation;
        stop = refl;
        opening = refl;
        local = refl;
        sent = refl;
        pushes = c.clear.ensures.items;
      })
      c.in_ok-stopped.ensures.stopped text)
      c.shown.ensures.line;
}
