use Rattle.std.proofs.Common.{◌≡◌, ◌≤◌, false}
use Rattle.message_handlers.specs.Names.{IsOrdered, names_of}
use Rattle.message_values.specs.declared.custom.CustomCapabilities.{CustomCapabilities}
use Rattle.message_handlers.specs.Asking.{MayAnswer}
use Rattle.agent_rules.specs.Half.{kept_part}
use Rattle.agent_state.specs.View.{FitsDisk}
use Rattle.agent_rounds.specs.Moments.{held_view}
use Rattle.agent_rounds.proofs.RoundsLemmas.{Continues}
use Rattle.agent_rounds.proofs.rounds.run_rounds.Given as goal

abbrev pub invariant-loop-done : goal.invariant-loop-done
invariant-loop-done g l = record {
  idle : l.agent.half.awaits ≡ false;
  fits : FitsDisk (g.D.Disk.state l.disk) l.agent.store (kept_part l.agent.half);
  disk_count : (g.D.Disk.state l.initial.disk).faults ≤ (g.D.Disk.state l.disk).faults;
  folder_count : (g.F.Folder.state l.initial.folder).faults ≤ (g.F.Folder.state l.folder).faults;
  clock_count : (g.C.Clock.state l.initial.clock).faults ≤ (g.C.Clock.state l.clock).faults;
  so_far : Continues g.R.Rounds.asks g.R.Rounds.waits (MayAnswer (λ b. (goal.Handler-dyn g b).answers b.1) l.fn.handlers) (λ (names : CustomCapabilities). IsOrdered (names_of l.fn.handlers) names.capabilities) l.rounds l.done
      (record {
        agent = l.initial.agent;
        held = held_view g.G.Dialer.number l.initial.held;
        disk = g.D.Disk.state l.initial.disk;
        folder = g.F.Folder.state l.initial.folder;
        dialer = g.G.Dialer.state l.initial.dialer;
        clock = g.C.Clock.state l.initial.clock;
      })
      (record {
        agent = l.agent;
        held = held_view g.G.Dialer.number l.held;
        disk = g.D.Disk.state l.disk;
        folder = g.F.Folder.state l.folder;
        dialer = g.G.Dialer.state l.dialer;
        clock = g.C.Clock.state l.clock;
      });
}
