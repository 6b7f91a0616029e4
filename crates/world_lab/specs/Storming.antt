-- The script of a storm, and the counts of what is written of it.
use Rattle.std.specs.Prelude.{ℕ, zero, suc, List, [], ◌∷◌, length, Bool, true, false, not, count_by, unwrap_or}
use Rattle.std.specs.Option.{option_map}
use Rattle.world_model.specs.World.{World, entry_held}
use Rattle.world_scripts.specs.Storms.{next_line, next_state}
use Rattle.world_scripts.specs.declared.lines.Line.{Line}
use Rattle.world_lab.specs.declared.storming.Summary.{Summary}
use Rattle.world_lab.specs.declared.written.Written.{Written}
use Rattle.world_lab.specs.declared.written.Written.TheVariants.{SentReport, Takes, Asks, Heard}
use Rattle.world_lab.specs.Playing.{Progress, endpoint_of, after_line, first_progress, script_world, world_of}
use Rattle.world_lab.specs.Transcripts.{lines_written}

-- so many lines, drawn from this state of the generator on, where a script is so far
abbrev pub storm_from : Progress → ℕ → ℕ → List Line
storm_from p state zero = []
storm_from p state (suc n) =
    next_line state (length (world_of p).sent) ∷ storm_from (after_line p (next_line state (length (world_of p).sent))) (next_state state) n

-- the script that is generated
abbrev pub storm_script : ℕ → ℕ → List Line
storm_script start count = storm_from first_progress start count

abbrev pub is_sent : Written → Bool
is_sent (SentReport report server number is_whole bytes) = true
is_sent line = false

abbrev pub is_delta : Written → Bool
is_delta (SentReport report server number is_whole bytes) = not is_whole
is_delta line = false

abbrev pub is_taken : Written → Bool
is_taken (Takes server number) = true
is_taken line = false

abbrev pub is_asked : Written → Bool
is_asked (Asks server) = true
is_asked line = false

abbrev pub is_plain : Written → Bool
is_plain (Heard full trial applied attempt) = not full
is_plain line = false

abbrev pub is_full : Written → Bool
is_full (Heard full trial applied attempt) = full
is_full line = false

-- the number of the agent's record at the first server, or 0
abbrev pub first_number : World → ℕ
first_number w = unwrap_or (option_map (λ e. e.number) (entry_held w (endpoint_of 0) w.agent.saved.uid)) 0

-- the counts of lines of a transcript, with this number
abbrev pub counts_of : List Written → ℕ → Summary
counts_of written number = record {
  events = length written;
  sent = count_by is_sent written;
  deltas = count_by is_delta written;
  takes = count_by is_taken written;
  asks = count_by is_asked written;
  plain = count_by is_plain written;
  full = count_by is_full written;
  number = number;
}

-- the summary of a script
abbrev pub summary_of : List Line → Summary
summary_of lines = counts_of (lines_written lines) (first_number (script_world lines))
