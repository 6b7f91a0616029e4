-- The room of a row.
use Rattle.std.specs.Prelude.{ℕ, ◌+◌, length}
use Rattle.message_codec.specs.Row.{Row}

-- how many bytes a row is sure to hold: those that it has, and its spare
abbrev pub room_of : Row → ℕ
room_of row = length row.bytes + row.spare
