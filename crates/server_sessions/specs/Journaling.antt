-- The journal of a session: a line for each order that isn't a question, which is no part of what goes out on connections.
use Rattle.std.specs.Prelude.{◌≡◌, ℕ, ◌+◌, List, [], ◌∷◌, ◌++◌, Bool, MatchBool, codes}
use Rattle.std.specs.Fmt.{decimal}
use Rattle.edge_devices.specs.Streams.{SinkView}
use Rattle.edge_notes.specs.Noted.{IsNoted}
use Rattle.server_sessions.specs.declared.answers.stepped.Entry.{Entry}
use Rattle.server_sessions.specs.Sessions.{Following, Place, Site}

-- the line `order N C WORDS: ANSWER`, where N is the number of the event, from 1 on, and C that of the connection
abbrev pub entry_line : ℕ → Entry → List ℕ
entry_line number entry = codes "order " ++ (decimal number ++ (codes " " ++ (decimal entry.conn ++ (codes " " ++ (entry.words ++ (codes ": " ++ entry.answer))))))

-- The lines of an event's orders are noted, one after the other.
abbrev pub NotesEntries : ℕ → List Entry → SinkView → SinkView → Type 0
NotesEntries number [] old new = new ≡ old
NotesEntries number (entry ∷ entries) old new = (mid : SinkView) × IsNoted (entry_line number entry) old mid × NotesEntries number entries mid new

-- So it is where a journal is kept; else nothing is noted.
abbrev pub Journals : Bool → ℕ → List Entry → SinkView → SinkView → Type 0
Journals journal number entries old new = MatchBool journal (NotesEntries number entries old new) (new ≡ old)

-- what is kept for what follows the events, how many there were, and what the sink of notes took
pub record Journaled (K : Type 0) : Type 0 where
  pub kept : K
  pub count : ℕ
  pub notes : SinkView

abbrev pub journaled : {K : Type 0} → K → ℕ → SinkView → Journaled K
journaled kept count notes = record { kept = kept; count = count; notes = notes }

-- The lines of the event's orders are noted under its number, and then what follows it is done.
abbrev pub Journaling : {K : Type 0} → Bool → Following K → Following (Journaled K)
Journaling journal follows profile ended end old last new =
    follows profile ended end old.kept last new.kept × (new.count ≡ old.count + 1) × Journals journal new.count end.scene.sheet.entries old.notes new.notes

-- the same without the journal
abbrev pub site_behind : {K : Type 0} → Site (Journaled K) → Site K
site_behind site = record { wire = site.wire; desk = site.desk; kept = site.kept.kept }

abbrev pub place_behind : {K : Type 0} → Place (Journaled K) → Place K
place_behind place = record { standing = place.standing; seen = place.seen; kept = place.kept.kept }
