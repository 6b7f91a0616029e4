-- What `fleet` writes of journals: for each row the frame of its place, and then that of its reply.
use Rattle.std.specs.Prelude.{◌≤◌, ℕ, List, ◌∷◌, ◌++◌, length}
use Rattle.std.specs.Int.{w64, to_be_bytes}
use Rattle.std.specs.List.{AllByRecursion, enumerate_from, flat_map}
use Rattle.message_replies.specs.Canonical.{canonical_reply}
use Rattle.command_streams.specs.Framing.{frame_of}
use Rattle.shard_journals.specs.declared.rows.Row.{Row}

-- nine bytes: the shard, and the item in eight, most significant first
abbrev pub place_bytes : ℕ → ℕ → List ℕ
place_bytes shard item = shard ∷ to_be_bytes w64 item

abbrev pub row_frames : ℕ → Row → List ℕ
row_frames shard row = frame_of (place_bytes shard row.item) ++ frame_of (canonical_reply row.reply)

abbrev pub journal_frames : ℕ → List Row → List ℕ
journal_frames shard rows = flat_map (row_frames shard) rows

-- journal by journal, which are numbered from 0
abbrev pub fleet_frames : List (List Row) → List ℕ
fleet_frames journals = flat_map (λ p. journal_frames p.0 p.1) (enumerate_from 0 journals)

-- each reply is short enough for a frame
abbrev pub AreSendable : List Row → Type 0
AreSendable rows = AllByRecursion (λ r. length (canonical_reply r.reply) ≤ 4194304) rows
