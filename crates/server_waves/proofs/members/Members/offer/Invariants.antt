use Rattle.std.proofs.Common.{◌≡◌, ◌-◌, ◌≤◌, take}
use Rattle.server_waves.specs.Waves.{offering, table_offering}
use Rattle.server_waves.proofs.members.Members.offer.Given as goal

-- so many offers were made
abbrev pub invariant-loop-left : goal.invariant-loop-left
invariant-loop-left l = record {
  within : l.left ≤ l.room;
  waves : l.self ≡ offering (l.room - l.left) l.fn.self;
  table : l.server.table ≡ table_offering l.config (take (l.room - l.left) l.fn.self.waiting) l.fn.server.table;
  profile : l.server.profile ≡ l.fn.server.profile;
}

abbrev pub decreases-loop-left : goal.decreases-loop-left
decreases-loop-left l = l.left
