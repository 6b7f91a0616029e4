-- What contracts see of a stream in memory.
use Rattle.std.specs.Prelude.{ℕ, List, [], Option, None, Some, is_none, Bool, ◌&&◌, ◌==◌, if◌then◌else◌, ◌-◌, drop, length, min}
use Rattle.edge_websocket.specs.Frames.{frame_len}

-- The bytes of the peer that aren't read yet; how many bytes of the frame under way may still be read; and the bytes
-- that are to go to the peer.
pub record PipeState : Type 0 where
  pub waiting : List ℕ
  pub left : ℕ
  pub going : List ℕ

-- nothing came, and nothing is to go
abbrev pub empty_pipe : PipeState
empty_pipe = record { waiting = []; left = 0; going = [] }

-- the bytes that are to go to the peer, which a pipe tells as a writer
abbrev pub going_of : PipeState → Option (List ℕ)
going_of pipe = Some pipe.going

-- the bytes that may be read of it, which a pipe tells as a reader
abbrev pub waiting_of : PipeState → Option (List ℕ)
waiting_of pipe = Some pipe.waiting

-- how many bytes a read with so much room gives: those of the frame under way that came
abbrev pub read_count : PipeState → ℕ → ℕ
read_count pipe room = min room (min (length pipe.waiting) pipe.left)

-- behind a read of so many bytes
abbrev pub after_read : PipeState → ℕ → PipeState
after_read pipe count = record pipe { waiting = drop count pipe.waiting; left = pipe.left - count }

-- The length of the next frame, where the one before it was read and the bytes say it.
abbrev pub next_frame : PipeState → Option ℕ
next_frame pipe = if pipe.left == 0 then frame_len pipe.waiting else None

-- how many bytes of the frame under way came and aren't read yet
abbrev pub readable_count : PipeState → ℕ
readable_count pipe = min (length pipe.waiting) pipe.left

-- Nothing can be read until more bytes come: no byte of the frame under way is here, and no next frame can be opened.
abbrev pub is_drained : PipeState → Bool
is_drained pipe = (readable_count pipe == 0) && is_none (next_frame pipe)
