-- What is seen of agents beside their records: when and how their last reports were taken.
use Rattle.std.specs.Prelude.{ℕ, ◌+◌, ◌==◌, min, List, [], length, map, filter, Bool, Option, is_some, nat_lt, if◌then◌else◌}
use Rattle.std.specs.BTreeMap.{insert_entry, is_at}
use Rattle.std.specs.Cmp.Lexicographic.{slice_cmp}
use Rattle.std.specs.List.{list_any}
use Rattle.std.specs.Map.{lookup}
use Rattle.std.specs.Ordering.{nat_cmp}
use Rattle.server_core.specs.declared.rows.Record.{Record}
use Rattle.server_core.specs.Table.{find_record}
use Rattle.server_lines.specs.declared.sights.Mark.{Mark}

-- The second of the event that goes on, the mark of the last report of each agent that was taken, in ascending order of
-- identifiers, and how many reports were taken.
pub record Seen : Type 0 where
  pub second : ℕ
  pub marks : List (List ℕ × Mark)
  pub reports : ℕ

abbrev pub nothing_seen : Seen
nothing_seen = record { second = 0; marks = []; reports = 0 }

-- the mark of an agent's last report
abbrev pub mark_at : Seen → List ℕ → Option Mark
mark_at seen uid = lookup (is_at (slice_cmp nat_cmp uid)) seen.marks

-- A report of this agent was taken, on a connection of this number, which is one of WebSocket or isn't. Reports are counted up
-- to 18,446,744,073,709,551,615.
unfoldable pub with_mark : List ℕ → ℕ → Bool → Seen → Seen
with_mark uid conn ws seen = record seen {
  marks = insert_entry (slice_cmp nat_cmp) seen.marks uid (record { second = seen.second; conn = conn; ws = ws });
  reports = min (seen.reports + 1) 18446744073709551615;
}

-- the marks of the agents of these records
abbrev pub held_marks : List Record → List (List ℕ × Mark) → List (List ℕ × Mark)
held_marks records marks = filter (λ e. is_some (find_record records e.0)) marks

-- where there are more marks than records, the marks of agents that aren't held go
unfoldable pub held_alone : List Record → Seen → Seen
held_alone records seen = if nat_lt (length records) (length seen.marks) then record seen { marks = held_marks records seen.marks } else seen

-- what a question is asked over beside the fleet: what is seen, and the numbers of the known connections
pub record Sight : Type 0 where
  pub seen : Seen
  pub known : List ℕ

abbrev pub sight_of : Seen → List ℕ → Sight
sight_of seen known = record { seen = seen; known = known }

-- the numbers of these connections
abbrev pub numbers_in : {V : Type 0} → List (ℕ × V) → List ℕ
numbers_in entries = map (λ e. e.0) entries

-- a connection of this number is known
abbrev pub is_known : List ℕ → ℕ → Bool
is_known known conn = list_any (λ c. c == conn) known
