-- What contracts see of the fields of a store, and what the fields keep.
use Rattle.std.specs.Prelude.{◌+◌, ◌<◌, ◌≤◌, ◌^◌}
use Rattle.agent_store.specs.Rooms.{room_of}
use Rattle.agent_store.specs.Store.{StoreState, IsSound}
use Rattle.agent_store.specs.declared.store.Store.TheInside.{Inside}

abbrev pub state_of : Inside → StoreState
state_of s = record {
  layout = s.layout;
  target = s.target;
  target_open = s.target_open;
  kept = s.kept;
  generation = s.generation;
  tail = s.tail;
  part = s.former.bytes;
  broken = s.broken;
}

-- the store is sound, its layout is of 32 bits, and its buffers have room for every save
pub record IsKept (s : Inside) : Type 0 where
  pub sound : IsSound (state_of s)
  pub former : s.layout.room + 15 ≤ room_of s.former
  pub next : s.layout.room + 15 ≤ room_of s.next
  pub entry : s.layout.log ≤ room_of s.entry
  pub small_room : s.layout.room < 2 ^ 32
  pub small_log : s.layout.log < 2 ^ 32
