-- The table of connections.
use Rattle.std.specs.Prelude.{◌≡◌, ◌≢◌, ℕ, ◌+◌, ◌*◌, ◌%◌, ◌-◌, ◌^◌, min, Bool, false, ◌&&◌, ◌==◌, ◌⊎◌, ◌≤◌, ◌++◌, ◌∷◌, [], List, Option, None, Some, slice_get, vec_capacity, vec_len}
use Rattle.std.specs.declared.alloc.Global.{Global}
use Rattle.std.specs.declared.vec.Vec.{Vec}
use Rattle.edge_wire.specs.Stages.{after_end, is_known}
use Rattle.edge_wire.specs.Waiting.{GrowsBehind}
use Rattle.edge_wire.specs.declared.connection.Connection.{Connection}

-- the place that a number names
abbrev pub place_of : ℕ → ℕ
place_of conn = conn % 131072

-- the number of a connection at the place, as the one that was opened so many connections on
abbrev pub number_of : ℕ → ℕ → ℕ
number_of opened place = min (131072 * opened + place) (2 ^ 64 - 1)

-- whether the connection at a place has the number and is open
abbrev pub serves : ℕ → Option (Option Connection) → Bool
serves conn (Some (Some connection)) = is_known connection.stage && (connection.number == conn)
serves conn _ = false

-- whether the connection with the number is open
abbrev pub is_served : List (Option Connection) → ℕ → Bool
is_served slots conn = serves conn (slice_get slots (place_of conn))

-- Other places are as they were.
abbrev pub ChangesOnly : List (Option Connection) → List (Option Connection) → ℕ → Type 0
ChangesOnly old new place = (other : ℕ) → other ≢ place → slice_get new other ≡ slice_get old other

-- The places are as they were, or there is one more, which is free.
abbrev pub Grows : List (Option Connection) → List (Option Connection) → Type 0
Grows old new = (new ≡ old) ⊎ (new ≡ old ++ None ∷ [])

-- The place is free again, where there is memory to note it.
abbrev pub IsFreed : Vec ℕ Global → Vec ℕ Global → ℕ → Type 0
IsFreed old new place = (new.items ≡ old.items ++ place ∷ []) ⊎ (vec_capacity old ≤ vec_len old)

-- The connection at a place begins to end: what waits on it is still sent. Where there is none nothing changes.
abbrev pub Ends : ℕ → Option (Option Connection) → Option (Option Connection) → Type 0
Ends now (Some (Some old)) (Some (Some new)) =
    (new.number ≡ old.number) × (new.stage ≡ after_end old.stage now) × GrowsBehind old.unsent new.unsent
Ends now (Some (Some old)) slot = ⊥
Ends now old new = new ≡ old
