-- What is kept of the agents of a rollout.
use Rattle.std.specs.Prelude.{◌≡◌, ℕ, ◌+◌, ◌≤◌, List, [], drop, length, take, vec_len, vec_capacity}
use Rattle.server_core.specs.History.{is_among}
use Rattle.server_waves.specs.Waves.{Waves}
use Rattle.server_waves.specs.declared.members.Members.TheInside.{Inside}

-- Of those that failed the first so many are excused.
abbrev pub waves_in : Inside → Waves
waves_in a = record {
  members = a.joined.items;
  waiting = a.waiting.items;
  offered = a.offered.items;
  applied = a.applied.items;
  failed = drop a.excused a.failed.items;
  excused = take a.excused a.failed.items;
  halted = a.halted;
}

-- Those that joined are known, no more are excused than failed, and there is room for what may become of those that were offered.
pub record IsKept (a : Inside) : Type 0 where
  pub known : (uid : List ℕ) → is_among a.known uid ≡ is_among a.joined.items uid
  pub excused : a.excused ≤ length a.failed.items
  pub spare : a.spare.items ≡ []
  pub room_to_stay : vec_len a.offered ≤ vec_capacity a.spare
  pub room_to_apply : vec_len a.applied + vec_len a.offered ≤ vec_capacity a.applied
  pub room_to_fail : vec_len a.failed + vec_len a.offered ≤ vec_capacity a.failed
