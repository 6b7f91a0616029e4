use Rattle.std.proofs.Common.{◌≡◌, ◌++◌, ◌∷◌, codes, map, take}
use Rattle.std.specs.List.{join_with_byte}
use Rattle.std.specs.String.{string_bytes}
use Rattle.world_lab.specs.Transcripts.{file_word}
use Rattle.world_lab.proofs.text.put_active.Given as goal

abbrev pub invariant-loop-file : goal.invariant-loop-file
invariant-loop-file l =
    string_bytes l.text ≡ string_bytes l.fn.text ++ join_with_byte 32 (codes "active" ∷ l.endpoint ∷ map file_word (take l.file-index l.files))
