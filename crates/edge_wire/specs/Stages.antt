-- How a connection goes from its handshake to its end.
use Rattle.std.specs.Prelude.{ℕ, ◌+◌, ◌-◌, ◌^◌, min, nat_le, Bool, true, false}
use Rattle.edge_wire.specs.StageStates.{StageState}
use Rattle.edge_wire.specs.declared.stage.Phase.{Phase}
use Rattle.edge_wire.specs.declared.stage.Phase.TheVariants.{Draining, Ending, Greeting, Open}

-- a time in 64 bits that is 10 s later
abbrev pub ten_seconds_on : ℕ → ℕ
ten_seconds_on now = min (now + 10000) (2 ^ 64 - 1)

-- open from the start
abbrev pub first_stage : StageState
first_stage = record { phase = Open; until = 0; drained = 0 }

-- in its handshake, for 10 s at most
abbrev pub greeting_stage : ℕ → StageState
greeting_stage now = record { phase = Greeting; until = ten_seconds_on now; drained = 0 }

abbrev pub is_open : Phase → Bool
is_open Open = true
is_open _ = false

-- Events know the connection, and it takes what is sent.
abbrev pub is_known : StageState → Bool
is_known stage = is_open stage.phase

-- It was closed: it gives no event more, and takes nothing that is sent.
abbrev pub is_over_in : Phase → Bool
is_over_in Ending = true
is_over_in Draining = true
is_over_in _ = false

abbrev pub is_over : StageState → Bool
is_over stage = is_over_in stage.phase

-- Its time is up.
abbrev pub is_late_in : Phase → ℕ → ℕ → Bool
is_late_in Open until now = false
is_late_in _ until now = nat_le until now

abbrev pub is_late : StageState → ℕ → Bool
is_late stage now = is_late_in stage.phase stage.until now

abbrev pub greeted : Phase → Phase
greeted Greeting = Open
greeted phase = phase

-- its handshake is done
abbrev pub after_greeting : StageState → StageState
after_greeting stage = record { phase = greeted stage.phase; until = stage.until; drained = stage.drained }

-- whether it goes to its end by a close
abbrev pub is_ended_by_close : Phase → Bool
is_ended_by_close Greeting = true
is_ended_by_close Open = true
is_ended_by_close _ = false

abbrev pub end_of : Bool → StageState → ℕ → StageState
end_of true stage now = record { phase = Ending; until = ten_seconds_on now; drained = stage.drained }
end_of false stage now = stage

-- it ends, for 10 s at most
abbrev pub after_end : StageState → ℕ → StageState
after_end stage now = end_of (is_ended_by_close stage.phase) stage now

abbrev pub sent_phase : Phase → Phase
sent_phase Ending = Draining
sent_phase phase = phase

-- all that waited was sent: what the peer still sends is dropped
abbrev pub after_sent : StageState → StageState
after_sent stage = record { phase = sent_phase stage.phase; until = stage.until; drained = stage.drained }

-- so many more bytes were dropped
abbrev pub after_drop : StageState → ℕ → StageState
after_drop stage count = record { phase = stage.phase; until = stage.until; drained = min (stage.drained + count) (2 ^ 64 - 1) }
