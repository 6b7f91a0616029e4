-- What a sink takes of notes.
use Rattle.std.specs.Prelude.{◌≡◌, ◌⊎◌, ℕ, List, ◌++◌, Option, None, Some}
use Rattle.std.specs.Io.KnownBytes.{Appends}
use Rattle.edge_devices.specs.Faults.{HasRisen}
use Rattle.edge_devices.specs.Streams.{SinkView}
use Rattle.edge_notes.specs.declared.notes.Note.{Note}
use Rattle.edge_notes.specs.Texts.{text_of}

abbrev pub IsFrontOf : List ℕ → List ℕ → Type 0
IsFrontOf front whole = (rest : List ℕ) × (front ++ rest ≡ whole)

-- The sink failed, and took a front of the text.
pub record IsCutOff (text : List ℕ) (old new : SinkView) : Type 0 where
  pub failed : HasRisen old.faults new.faults
  pub front : List ℕ
  pub of_text : IsFrontOf front text
  pub taken : Appends old.taken new.taken front

-- The sink took the text, or it failed and took a front of it.
abbrev pub IsNoted : List ℕ → SinkView → SinkView → Type 0
IsNoted text old new = Appends old.taken new.taken text ⊎ IsCutOff text old new

-- The sink took the note so, if there is one, and is else as it was.
abbrev pub NotedIf : Option Note → SinkView → SinkView → Type 0
NotedIf None old new = new ≡ old
NotedIf (Some note) old new = IsNoted (text_of note) old new
