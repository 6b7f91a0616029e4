use Rattle.std.proofs.Common.{◌≡◌, ◌≤◌, ◌-◌, length}
use Rattle.world_lab.specs.Playing.{script_events, script_progress}
use Rattle.world_lab.specs.Transcripts.{lines_written}
use Rattle.world_lab.specs.Mirrors.{Mirrors}
use Rattle.world_lab.specs.Storming.{counts_of, storm_script}
use Rattle.world_lab.proofs.Storms.{state_after}
use Rattle.world_lab.proofs.storming.play_storm.Given as goal

abbrev pub invariant-loop-summary : goal.invariant-loop-summary
invariant-loop-summary l = record {
  mirrors : Mirrors (script_progress (storm_script l.start l.summary.events)) l.play l.servers;
  few : length (script_events (storm_script l.start l.summary.events)) ≤ l.summary.events;
  within : l.summary.events ≤ l.count;
  source : l.source ≡ state_after l.start l.summary.events;
  counts : l.summary ≡ counts_of (lines_written (storm_script l.start l.summary.events)) 0;
}

abbrev pub decreases-loop-summary : goal.decreases-loop-summary
decreases-loop-summary l = l.count - l.summary.events
