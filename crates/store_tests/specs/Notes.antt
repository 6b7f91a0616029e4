-- The payload of the tests of the store alone: bytes of which the first isn't 0. They are their own canonical bytes, and a change is the next bytes as a whole.
use Rattle.std.specs.Prelude.{ℕ, Bool, false, not, List, [], ◌∷◌, Option, Some, None, ◌==◌, if◌then◌else◌}
use Rattle.agent_store.specs.Codecs.{Codec}

abbrev pub is_note : List ℕ → Bool
is_note [] = false
is_note (first ∷ rest) = not (first == 0)

abbrev pub note_meaning : List ℕ → Option (List ℕ)
note_meaning bytes = if is_note bytes then Some bytes else None

abbrev pub note_codec : Codec
note_codec = record {
  meaning = note_meaning;
  change = λ former next. next;
  changed = λ former change. note_meaning change;
}
