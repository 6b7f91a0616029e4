use Rattle.std.proofs.Common.{List, ap, sym, subst}
use Rattle.server_core.specs.Served.{Served}
use Rattle.world_lab.specs.Playing.{first_progress, script_progress}
use Rattle.world_lab.specs.Mirrors.{Mirrors}
use Rattle.world_lab.specs.Storming.{storm_script}
use Rattle.world_lab.proofs.storming.storm.Goals as goal

pub play_counted-requires : goal.play_counted-requires
play_counted-requires c = record {
  opened = subst (λ (ss : List Served). Mirrors first_progress c.in-Ok.play ss) (sym (ap (λ s. s.servers) c.lab.view_is)) c.in-Ok.ensures.opened;
  few = c.requires.few;
}

pub returns-in-Err-clause-summary : goal.returns-in-Err-clause-summary
returns-in-Err-clause-summary c = tt

pub returns-in-Err-clause-played : goal.returns-in-Err-clause-played
returns-in-Err-clause-played c = tt

pub returns-in-Ok-play_counted-clause-summary : goal.returns-in-Ok-play_counted-clause-summary
returns-in-Ok-play_counted-clause-summary c = c.in-Ok-play_counted.ensures.summary

pub returns-in-Ok-play_counted-clause-played : goal.returns-in-Ok-play_counted-clause-played
returns-in-Ok-play_counted-clause-played c = c.end.ensures.left (script_progress (storm_script c.args.start c.args.count)) c.in-Ok-play_counted.ensures.mirrors

pub returns-in-Err-play_counted-clause-summary : goal.returns-in-Err-play_counted-clause-summary
returns-in-Err-play_counted-clause-summary c = tt

pub returns-in-Err-play_counted-clause-played : goal.returns-in-Err-play_counted-clause-played
returns-in-Err-play_counted-clause-played c = tt
