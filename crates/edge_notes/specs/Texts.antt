-- The lines of the notes.
use Rattle.std.specs.Prelude.{ℕ, List, [], ◌∷◌, ◌++◌, codes}
use Rattle.edge_notes.specs.declared.notes.Note.{Note}
use Rattle.edge_notes.specs.declared.notes.Note.TheVariants.{InputRefused, InputTooLong, InputUnread, MessageTooLarge, NoMemory, NumbersSpent, OutputUnwritten, OutsideFault, ReportTooLarge, RolloutTooLarge, RoundsSpent, SocketsFault, StoreDamaged, StoreFault, TurnsSpent}

abbrev pub text_of : Note → List ℕ
text_of InputRefused = codes "input: refused" ++ 10 ∷ []
text_of InputUnread = codes "standard input: can't be read" ++ 10 ∷ []
text_of OutputUnwritten = codes "standard output: can't be written" ++ 10 ∷ []
text_of NoMemory = codes "memory: wanting" ++ 10 ∷ []
text_of StoreFault = codes "store: can't be read or written" ++ 10 ∷ []
text_of StoreDamaged = codes "store: damaged" ++ 10 ∷ []
text_of OutsideFault = codes "folder, clock or random bytes: failed" ++ 10 ∷ []
text_of SocketsFault = codes "sockets: failed" ++ 10 ∷ []
text_of InputTooLong = codes "input: too long" ++ 10 ∷ []
text_of TurnsSpent = codes "turns: all taken" ++ 10 ∷ []
text_of RoundsSpent = codes "rounds: all done" ++ 10 ∷ []
text_of NumbersSpent = codes "numbers: spent" ++ 10 ∷ []
text_of MessageTooLarge = codes "output: a message is too large" ++ 10 ∷ []
text_of ReportTooLarge = codes "report or store: too large" ++ 10 ∷ []
text_of RolloutTooLarge = codes "rollout: too large" ++ 10 ∷ []
