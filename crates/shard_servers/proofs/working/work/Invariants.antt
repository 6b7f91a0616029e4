use Rattle.std.specs.Prelude.{◌≤◌, take}
use Rattle.shard_servers.specs.Work.{HasWorked}
use Rattle.shard_servers.proofs.working.work.Given as goal

abbrev pub invariant-loop-at : goal.invariant-loop-at
invariant-loop-at g l = HasWorked (take l.at l.items) l.desks l.initial.desk l.desk × (l.call ≤ l.at)
